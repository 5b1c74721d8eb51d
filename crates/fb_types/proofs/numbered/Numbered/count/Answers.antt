use Rattle.std.proofs.Common.{◌∙◌, ap, length}
use Rattle.fb_types.proofs.numbered.Numbered.count.Goals as goal

pub returns-clause-value : goal.returns-clause-value
returns-clause-value g c = c.len.ensures ∙ ap length c.self.view_is
