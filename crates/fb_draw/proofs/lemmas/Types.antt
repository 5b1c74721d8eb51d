-- What the names of types represent.
use Rattle.fb_types.proofs.Common.{◌≡◌, Option, Some, None, refl, ap, option_map, Name, Kind, Event, named, event_blocks, event_block_named, kind_of, type_name}
use Rattle.fb_types.specs.declared.event_kind.EventKind.{EventKind}
use Rattle.fb_types.specs.declared.library.Library.{Library}
use Rattle.fb_types.specs.Flat as flat

abbrev pub type_from : Library → Name → Option (Name × EventKind) → Option Kind
type_from lib n o = elim o [ Some e ↦ Some (Event e.1) | None ↦ option_map kind_of (named type_name n lib.blocks) ]

-- the name of an event block represents it
pub event_type : (lib : Library) (n : Name) (k : EventKind) → event_block_named n ≡ Some k → flat.type_named lib n ≡ Some (Event k)
event_type lib n k h =
    elim (named (λ e. e.0) n event_blocks) as (λ o. option_map (λ e. e.1) o ≡ Some k → type_from lib n o ≡ Some (Event k)) [
      | None ↦ λ h. absurd (cc)
      | Some e ↦ λ h. ap (option_map Event) h
    ] h

-- any other represents a declared type
pub declared_type : (lib : Library) (n : Name) → event_block_named n ≡ None → flat.type_named lib n ≡ option_map kind_of (named type_name n lib.blocks)
declared_type lib n h =
    elim (named (λ e. e.0) n event_blocks) as (λ o. option_map (λ e. e.1) o ≡ None → type_from lib n o ≡ option_map kind_of (named type_name n lib.blocks)) [
      | None ↦ λ h. refl
      | Some e ↦ λ h. absurd (cc)
    ] h
