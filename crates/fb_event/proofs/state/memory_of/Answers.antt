use Rattle.std.proofs.Common.{ap}
use Rattle.fb_event.specs.State.{State}
use Rattle.fb_event.proofs.state.memory_of.Goals as goal

pub returns : goal.returns
returns c = ap (λ (s : State). s.memory) c.state.view_is
