use Rattle.fb_system.proofs.lemmas.inputs.TablesOfInputs.{latency_read}
use Rattle.fb_system.proofs.system.System.latency.Goals as goal

pub returns : goal.returns
returns c = λ sent. latency_read _ _ _ _ _ _ c.index-as_slice-link.result sent c.deref.ensures c.self.view_is c.plan.ensures.value c.as_slice.ensures c.requires
