use Rattle.fb_read.proofs.lemmas.Common.{arith, rules, common_steps, time}
use Rattle.fb_read.proofs.front.time.Goals as goal

pub returns-in-Some-clause-within : goal.returns-in-Some-clause-within
unfolding time
returns-in-Some-clause-within c = grind (arith, common_steps)

pub overflow_add-result : goal.overflow_add-result
unfolding time
overflow_add-result c = grind (arith, common_steps)

pub returns-in-Some-clause-value : goal.returns-in-Some-clause-value
unfolding time
returns-in-Some-clause-value c = first_of (grind (arith, common_steps), search rules)

pub returns-clause-value : goal.returns-clause-value
unfolding time
returns-clause-value c = first_of (grind (arith, common_steps), search rules)

pub returns-in_err-text-clause-value : goal.returns-in_err-text-clause-value
unfolding time
returns-in_err-text-clause-value c = first_of (grind (arith, common_steps), search rules)
