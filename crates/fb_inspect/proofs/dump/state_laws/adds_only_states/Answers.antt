use Rattle.fb_inspect.proofs.lemmas.dump.WithoutInside.{adds_only}
use Rattle.fb_inspect.proofs.dump.state_laws.adds_only_states.Goals as goal

pub returns : goal.returns
returns c = adds_only
