use Rattle.std.proofs.Common.{◌∙◌}
use Rattle.fb_system.proofs.lemmas.inputs.TablesOfInputs.{plan_seen}
use Rattle.fb_system.proofs.system.System.plan.Goals as goal

pub returns : goal.returns
returns c = c.plan.ensures.value ∙ plan_seen _ _ _ c.deref.ensures c.self.view_is
