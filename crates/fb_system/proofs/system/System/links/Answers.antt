use Rattle.std.proofs.Common.{◌∙◌}
use Rattle.fb_system.proofs.lemmas.inputs.TablesOfInputs.{links_counted}
use Rattle.fb_system.proofs.system.System.links.Goals as goal

pub returns : goal.returns
returns c = c.len.ensures ∙ links_counted _ _ _ _ c.deref.ensures c.self.view_is c.plan.ensures.value
