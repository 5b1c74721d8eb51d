use Rattle.std.proofs.Common.{◌∙◌}
use Rattle.fb_system.proofs.lemmas.inputs.Views.{count_of}
use Rattle.fb_system.proofs.netlist.Netlist.count.Goals as goal

pub returns : goal.returns
returns c = c.len.ensures ∙ count_of _ _ c.self.invariant c.self.view_is
