-- The interfaces of all event blocks, in a list (its order is this project's profile).
use Rattle.std.specs.Prelude.{◌≡◌, List, Some, slice_get}
pub use Rattle.fb_types.specs.Blocks.{kind_index}
use Rattle.fb_types.specs.Blocks.{ports_of_event_block}
use Rattle.fb_types.specs.declared.event_kind.EventKind.{EventKind}
use Rattle.fb_types.specs.declared.library.Ports.{Ports}

-- each event block's interface at the index of its kind
abbrev pub ArePortsOfKinds : List Ports → Type 0
ArePortsOfKinds all = (k : EventKind) → slice_get all (kind_index k) ≡ Some (ports_of_event_block k)
