use Rattle.fb_st.proofs.lemmas.Common.{List, subst, RunsAll, declared_in, types_in, all_of, end_of, point}
use Rattle.fb_types.specs.declared.text.Stmt as read
use Rattle.fb_st.proofs.execution.exec.Goals as goal

pub returns-clause-run : goal.returns-clause-run
returns-clause-run c =
    subst
    (λ (l : List read.Stmt). RunsAll (types_in (declared_in c.args.frame.now)) (all_of l) (point c.args.frame.now c.args.meter.now) (end_of c.run_all.result) (point c.run_all.new.frame c.run_all.new.meter))
    c.as_slice.ensures c.run_all.ensures.run

pub returns-clause-declared : goal.returns-clause-declared
returns-clause-declared c = c.run_all.ensures.kept.declared

pub returns-clause-fewer : goal.returns-clause-fewer
returns-clause-fewer c = c.run_all.ensures.kept.fewer
