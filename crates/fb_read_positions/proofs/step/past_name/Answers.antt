use Rattle.fb_read_positions.proofs.lemmas.PassedTokens.{name_passed, no_name_passed}
use Rattle.fb_read_positions.proofs.step.past_name.Goals as goal

pub returns-then-eat_name : goal.returns-then-eat_name
returns-then-eat_name c = name_passed _ _ _ c.eat_name.ensures.found c.if-eat_name.true c.eat_name.ensures.after

pub returns-else-eat_name : goal.returns-else-eat_name
returns-else-eat_name c = no_name_passed _ _ _ c.eat_name.ensures.found c.if-eat_name.false c.eat_name.ensures.after
