use Rattle.fb_laws.proofs.lemmas.typing.Accepted.{accepted_typed}
use Rattle.fb_laws.proofs.typing.accepted_are_typed.Goals as goal

pub returns : goal.returns
returns c = accepted_typed
