use Rattle.fb_inspect.proofs.lemmas.reactions.OneTaking.{row_one, taking_one}
use Rattle.fb_inspect.proofs.lemmas.reactions.SomeTaking.{taking_there}
use Rattle.fb_inspect.proofs.laws.takings_are_determined.Goals as goal

pub returns : goal.returns
returns c = record { taking = taking_one; some = taking_there; row = row_one }
