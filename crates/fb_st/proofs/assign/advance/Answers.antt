use Rattle.std.proofs.Common.{rules}
use Rattle.fb_st.proofs.lemmas.Runs.{written}
use Rattle.fb_st.proofs.assign.advance.Goals as goal

pub returns-in_ok-assign-in-Some-clause-within : goal.returns-in_ok-assign-in-Some-clause-within
returns-in_ok-assign-in-Some-clause-within c = λ went.
    let known_so = written c.args.variable.now _ _ _ c.in_ok-assign-in-Some.ensures.ok.1 in
    rw (known_so) (search rules)
