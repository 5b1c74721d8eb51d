use Rattle.fb_laws.proofs.lemmas.typing.Accepted.{simulations_typed}
use Rattle.fb_laws.proofs.typing.simulations_are_typed.Goals as goal

pub returns : goal.returns
returns c = simulations_typed
