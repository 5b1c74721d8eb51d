use Rattle.std.proofs.Common.{◌∙◌}
use Rattle.fb_system.proofs.lemmas.inputs.TablesOfInputs.{library_seen}
use Rattle.fb_system.proofs.system.System.library.Goals as goal

pub returns : goal.returns
returns c = c.library.ensures ∙ library_seen _ _ _ c.deref.ensures c.self.view_is
