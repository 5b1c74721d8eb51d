use Rattle.fb_inspect.proofs.lemmas.runs.Reacted.{reacts_taking}
use Rattle.fb_inspect.proofs.laws.reactions_are_takings.Goals as goal

pub returns : goal.returns
returns c = reacts_taking
