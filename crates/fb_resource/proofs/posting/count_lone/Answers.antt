use Rattle.fb_types.proofs.Common.{rules, refl, arith, common_steps}
use Rattle.fb_resource.proofs.posting.count_lone.Goals as goal

pub returns-clause-counted : goal.returns-clause-counted
returns-clause-counted c = refl

pub returns-clause-emptied : goal.returns-clause-emptied
returns-clause-emptied c = record { lines = refl; none = first_of (search rules, grind (arith, common_steps)); keeps = c.requires.keeps }
