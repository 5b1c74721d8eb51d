use Rattle.fb_laws.proofs.lemmas.typing.ReactionTypes.{reacts_typed}
use Rattle.fb_laws.proofs.typing.types_are_kept.Goals as goal

pub returns : goal.returns
returns c = reacts_typed
