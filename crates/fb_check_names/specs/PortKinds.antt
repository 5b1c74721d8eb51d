-- The kinds of ports, and their indexes among all names of a type (IEC 61499-1, 5.1; the order of the names is this
-- project's profile).
use Rattle.std.specs.Prelude.{ℕ, List, ◌++◌}
use Rattle.std.specs.Borrow.{Bor}
use Rattle.std.specs.BTreeMap.{BTreeMap}
use Rattle.fb_types.specs.Names.{Name}
use Rattle.fb_types.specs.Unknown.{event_ins, event_outs, data_ins, data_outs}
use Rattle.fb_types.specs.declared.library.Ports.{Ports}
use Rattle.fb_check_names.specs.Indexes.{IsIndex}
use Rattle.fb_check_names.specs.declared.ports.PortKind.{PortKind}
use Rattle.fb_check_names.specs.declared.ports.PortKind.TheVariants.{EventInput, EventOutput, Input, Output}

-- the names of the ports of a kind
abbrev pub names_of_kind : PortKind → Ports → List Name
names_of_kind EventInput = event_ins
names_of_kind EventOutput = event_outs
names_of_kind Input = data_ins
names_of_kind Output = data_outs

-- The map has the indexes of the ports, and of the internal variables after them, as one list.
pub record AreIndexesOf (p : Ports) (indexes : BTreeMap (Bor Name) ℕ) : Type 0 where
  pub internals : List Name
  pub index : IsIndex (event_ins p ++ (event_outs p ++ (data_ins p ++ (data_outs p ++ internals)))) indexes
