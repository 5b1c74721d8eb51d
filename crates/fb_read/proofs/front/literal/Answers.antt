use Rattle.fb_types.proofs.Common.{arith, rules, common_steps}
use Rattle.fb_read.specs.Front.{literal}
use Rattle.fb_read.proofs.lemmas.tokens.FrontLaws.{len-within}
use Rattle.fb_read.proofs.front.literal.Goals as goal

pub returns-in-None-clause-within : goal.returns-in-None-clause-within
returns-in-None-clause-within c = len-within _ _ _ c.whole-in-None.ensures.same_len (grind (arith, common_steps)) (omega arith)

pub returns-in-None-clause-value : goal.returns-in-None-clause-value
unfolding literal
returns-in-None-clause-value c = first_of (grind (arith, common_steps), search rules)

pub returns-in-Some-clause-value : goal.returns-in-Some-clause-value
unfolding literal
returns-in-Some-clause-value c = first_of (grind (arith, common_steps), search rules)

pub returns-in-Some-clause-within : goal.returns-in-Some-clause-within
unfolding literal
returns-in-Some-clause-within c = first_of (grind (arith, common_steps), search rules)
