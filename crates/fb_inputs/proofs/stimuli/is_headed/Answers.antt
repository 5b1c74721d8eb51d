use Rattle.std.proofs.Common.{sym, ap, ◌∙◌}
use Rattle.fb_inputs.specs.Readers.{heading_of}
use Rattle.fb_inputs.proofs.stimuli.is_headed.Goals as goal

pub returns-then-found : goal.returns-then-found
returns-then-found c = rw c.in-Ok.is (ap heading_of (sym c.if-found.true ∙ c.is_head-found.ensures))

pub returns-else-found : goal.returns-else-found
returns-else-found c = rw c.in-Ok.is (ap heading_of (sym c.if-found.false ∙ c.is_head-found.ensures))
