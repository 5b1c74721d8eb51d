use Rattle.fb_system.proofs.lemmas.networks.Wired.{top_found, inside_found}
use Rattle.fb_system.proofs.tables.wiring_in.Goals as goal

pub returns-in-None : goal.returns-in-None
returns-in-None c = top_found _ _ _ _ _ c.requires.netlist c.in-None.is

pub returns-in-Declared : goal.returns-in-Declared
returns-in-Declared c =
    inside_found _ _ _ _ _ _ _ _ _ _ _ c.requires.netlist c.row_at.ensures c.in-Declared.is c.in-Some.is c.as_slice.ensures
    c.index-as_slice-index.is c.as_ref.ensures.value
