use Rattle.fb_system.proofs.lemmas.networks.Wired.{row_read}
use Rattle.fb_system.proofs.tables.row_at.Goals as goal

pub returns : goal.returns
returns c = row_read _ _ _ _ _ _ _ c.requires.netlist c.requires.within c.as_slice.ensures c.index-as_slice-instance.is
