use Rattle.fb_types.proofs.Common.{arith, rules, common_steps}
use Rattle.fb_read.proofs.time.digits_len.Goals as goal

pub loop-end-preserved : goal.loop-end-preserved
loop-end-preserved c = first_of (grind (arith, common_steps), search rules)

pub returns-clause-value : goal.returns-clause-value
returns-clause-value c = first_of (grind (arith, common_steps), search rules)

pub returns-clause-within : goal.returns-clause-within
returns-clause-within c = first_of (grind (arith, common_steps), search rules)

pub returns-then-is_ascii_alphabetic-clause-value : goal.returns-then-is_ascii_alphabetic-clause-value
returns-then-is_ascii_alphabetic-clause-value c = first_of (grind (arith, common_steps), search rules)

pub returns-then-is_ascii_alphabetic-clause-within : goal.returns-then-is_ascii_alphabetic-clause-within
returns-then-is_ascii_alphabetic-clause-within c = first_of (grind (arith, common_steps), search rules)
