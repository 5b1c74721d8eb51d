use Rattle.std.proofs.Common.{rules}
use Rattle.fb_check.proofs.lemmas.networks.SearchLoops.{at_element}
use Rattle.fb_why.proofs.expression.condition_at.Goals as goal

pub returns-in-Some : goal.returns-in-Some
returns-in-Some c =
    let at = c.in-Some.ensures.lookup in
    (c.in-Some.choice.now, at_element c.args.choices.now c.args.index c.in-Some.choice.now at.3.0 at.1, first_of (search rules, cc))
