use Rattle.std.proofs.Common.{◌∙◌}
use Rattle.fb_system.proofs.lemmas.inputs.TablesOfInputs.{count_seen}
use Rattle.fb_system.proofs.system.System.count.Goals as goal

pub returns : goal.returns
returns c = c.count.ensures ∙ count_seen _ _ _ c.deref.ensures c.self.view_is
