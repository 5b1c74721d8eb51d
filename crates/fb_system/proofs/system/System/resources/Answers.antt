use Rattle.std.proofs.Common.{◌∙◌}
use Rattle.fb_system.proofs.lemmas.inputs.TablesOfInputs.{resources_counted}
use Rattle.fb_system.proofs.system.System.resources.Goals as goal

pub returns : goal.returns
returns c = c.len.ensures ∙ resources_counted _ _ _ _ c.deref.ensures c.self.view_is c.plan.ensures.value
