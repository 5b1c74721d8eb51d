-- The ports of the type that a name represents.
use Rattle.fb_types.proofs.Common.{◌≡◌, List, Some, None, Option, refl, sym, ◌∙◌, ap, slice_get, option_map, find, same_Some, Name, same_name, Event, Kind, named, event_blocks, event_block_named, ports_of, ports_of_event_block, ArePortsOfKinds, kind_index, kind_of, type_name, type_named}
use Rattle.fb_types.specs.declared.event_kind.EventKind.{EventKind}
use Rattle.fb_types.specs.declared.library.BlockType.{BlockType}
use Rattle.fb_types.specs.declared.library.Library.{Library}
use Rattle.fb_types.specs.declared.library.Ports.{Ports}
use Rattle.fb_types.proofs.lemmas.names.NameLaws.{find-named}
use Rattle.fb_check_names.specs.Types.{ports_of_block}

abbrev type_from : Library → Name → Option (Name × EventKind) → Option Kind
type_from lib n o = elim o [ Some e ↦ Some (Event e.1) | None ↦ option_map kind_of (named type_name n lib.blocks) ]

declared_type : (lib : Library) (n : Name) → event_block_named n ≡ None → type_named lib n ≡ option_map kind_of (named type_name n lib.blocks)
declared_type lib n h =
    elim (named (λ e. e.0) n event_blocks) as (λ o. option_map (λ e. e.1) o ≡ None → type_from lib n o ≡ option_map kind_of (named type_name n lib.blocks)) [
      | None ↦ λ h. refl
      | Some e ↦ λ h. absurd (cc)
    ] h

pub event_ports_are :
    (lib : Library) (all : List Ports) (n : Name) (k : EventKind) → ArePortsOfKinds all → event_block_named n ≡ Some k
    → slice_get all (kind_index k) ≡ option_map ports_of (type_named lib n)
event_ports_are lib all n k are h =
    elim (named (λ e. e.0) n event_blocks) as (λ o. option_map (λ e. e.1) o ≡ Some k → slice_get all (kind_index k) ≡ option_map ports_of (type_from lib n o)) [
      | None ↦ λ h. absurd (cc)
      | Some e ↦ λ h. are k ∙ ap (λ (k : EventKind). Some (ports_of_event_block k)) (sym (same_Some e.1 k h))
    ] h

ports_of_kind : (o : Option BlockType) → option_map ports_of_block o ≡ option_map ports_of (option_map kind_of o)
ports_of_kind None = refl
ports_of_kind (Some t) = refl

pub declared_ports_are :
    (lib : Library) (bs : List BlockType) (n : Name) (o : Option BlockType) → event_block_named n ≡ None → bs ≡ lib.blocks
    → o ≡ find (λ b. same_name (type_name b) n) bs → option_map ports_of_block o ≡ option_map ports_of (type_named lib n)
declared_ports_are lib bs n o h all found =
    let is : o ≡ named type_name n lib.blocks =
    found ∙ ap (find (λ (b : BlockType). same_name (type_name b) n)) all ∙ find-named type_name n lib.blocks in
    ap (option_map ports_of_block) is ∙ ports_of_kind (named type_name n lib.blocks) ∙ ap (option_map ports_of) (sym (declared_type lib n h))
