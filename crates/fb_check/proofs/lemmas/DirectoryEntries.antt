-- What the directory has for a type and for an instance of the application.
use Rattle.fb_types.proofs.Common.{◌≡◌, ℕ, map, Option, Some, None, refl, sym, ◌∙◌, ap, subst, option_map, option_and_then, position, slice_get, slice_get-map, Name, same_name, Kind, Event, named, event_blocks, event_block_named, ports_of, ports_of_event_block, kind_index, kind_of, type_name, type_named, kind_of_instance}
use Rattle.fb_types.specs.declared.event_kind.EventKind.{EventKind}
use Rattle.fb_types.specs.declared.library.Library.{Library}
use Rattle.fb_types.specs.declared.library.BlockType.{BlockType}
use Rattle.fb_types.specs.declared.library.Instance.{Instance}
use Rattle.fb_types.specs.declared.library.Ports.{Ports}
use Rattle.fb_types.proofs.lemmas.lists.Positions.{named-position}
use Rattle.fb_check.specs.Directory.{IsFound, IsDirectory, ports_at, ports_at_index}
use Rattle.fb_check.specs.declared.directory_making.TypeInputs.{TypeInputs}
use Rattle.fb_check.specs.declared.directory.Directory.{Directory}

-- ---- Types

abbrev pub ports_named : Library → Name → Option Ports
ports_named lib n = option_map ports_of (type_named lib n)

abbrev pub type_ports : BlockType → Ports
type_ports t = ports_of (kind_of t)

event_ports : (lib : Library) (n : Name) (k : EventKind) → event_block_named n ≡ Some k → ports_named lib n ≡ Some (ports_of_event_block k)
event_ports lib n k h =
    elim (named (λ e. e.0) n event_blocks) as (λ o. option_map (λ e. e.1) o ≡ Some k
    → option_map ports_of (elim o as (λ _. Option Kind) [ Some e ↦ Some (Event e.1) | None ↦ option_map kind_of (named type_name n lib.blocks) ]) ≡ Some (ports_of_event_block k)) [
      | None ↦ λ g. absurd (cc)
      | Some e ↦ λ g. let s : e.1 ≡ k = cc in ap (λ k. Some (ports_of_event_block k)) s
    ] h

declared_ports : (lib : Library) (n : Name) → event_block_named n ≡ None
    → ports_named lib n ≡ option_map type_ports (option_and_then (slice_get lib.blocks) (position (same_name n) (map type_name lib.blocks)))
declared_ports lib n h =
    elim (named (λ e. e.0) n event_blocks) as (λ o. option_map (λ e. e.1) o ≡ None
    → option_map ports_of (elim o as (λ _. Option Kind) [ Some e ↦ Some (Event e.1) | None ↦ option_map kind_of (named type_name n lib.blocks) ])
    ≡ option_map type_ports (option_and_then (slice_get lib.blocks) (position (same_name n) (map type_name lib.blocks)))) [
      | Some e ↦ λ g. absurd (cc)
      | None ↦ λ g.
          (elim (named type_name n lib.blocks) as (λ o. option_map ports_of (option_map kind_of o) ≡ option_map type_ports o) [ None ↦ refl | Some t ↦ refl ])
          ∙ ap (option_map type_ports) (named-position type_name n lib.blocks)
    ] h

pub found_event :
    (lib : Library) (d : Directory) (n : Name) (k : EventKind) → event_block_named n ≡ Some k → IsDirectory lib d
    → IsFound (ports_named lib n) (slice_get d.event_blocks (kind_index k))
found_event lib d n k h is =
    let P : Option Ports → Type 0 = λ o. IsFound o (slice_get d.event_blocks (kind_index k)) in
    subst P (sym (event_ports lib n k h)) (is.event_blocks k)

pub found_none : (lib : Library) (n : Name) → event_block_named n ≡ None → position (same_name n) (map type_name lib.blocks) ≡ None → IsFound (ports_named lib n) None
found_none lib n h none =
    let P : Option Ports → Type 0 = λ o. IsFound o None in
    subst P (sym (declared_ports lib n h ∙ ap (λ o. option_map type_ports (option_and_then (slice_get lib.blocks) o)) none)) tt

pub found_declared :
    (lib : Library) (d : Directory) (n : Name) (i : ℕ) → event_block_named n ≡ None → position (same_name n) (map type_name lib.blocks) ≡ Some i → IsDirectory lib d
    → IsFound (ports_named lib n) (slice_get d.declared i)
found_declared lib d n i h at is =
    let P : Option Ports → Type 0 = λ o. IsFound o (slice_get d.declared i) in
    subst P (sym (declared_ports lib n h ∙ ap (λ o. option_map type_ports (option_and_then (slice_get lib.blocks) o)) at ∙ sym (slice_get-map type_ports lib.blocks i))) (is.declared.each i)

-- ---- Instances

abbrev pub instance_name : Instance → Name
instance_name i = i.name

-- the interface of an instance is that at the index of its name
pub ports_placed :
    (lib : Library) (n : Name) (i : ℕ) → position (same_name n) (map instance_name lib.application.network.instances) ≡ Some i → ports_at lib n ≡ ports_at_index lib i
ports_placed lib n i at =
    let instances = lib.application.network.instances in
    ap (λ o. option_map ports_of (option_and_then (kind_of_instance lib) o)) (named-position instance_name n instances ∙ ap (option_and_then (slice_get instances)) at)

pub unknown_instance :
    (lib : Library) (n : Name) → position (same_name n) (map instance_name lib.application.network.instances) ≡ None → IsFound (ports_at lib n) None
unknown_instance lib n none =
    let P : Option Ports → Type 0 = λ o. IsFound o None in
    let instances = lib.application.network.instances in
    subst P
    (sym (ap (λ o. option_map ports_of (option_and_then (kind_of_instance lib) o)) (named-position instance_name n instances ∙ ap (option_and_then (slice_get instances)) none)))
    tt

abbrev ports_of_found : Library → Option Instance → Option Ports
ports_of_found lib o = option_map ports_of (option_and_then (kind_of_instance lib) o)

pub missing_instance : (lib : Library) (i : ℕ) → slice_get lib.application.network.instances i ≡ None → IsFound (ports_at_index lib i) None
missing_instance lib i none =
    let P : Option Instance → Type 0 = λ o. IsFound (ports_of_found lib o) None in subst P (sym none) tt

pub found_instance :
    (lib : Library) (i : ℕ) (x : Instance) (o : Option TypeInputs) → slice_get lib.application.network.instances i ≡ Some x → IsFound (ports_named lib x.block_type) o
    → IsFound (ports_at_index lib i) o
found_instance lib i x o there found =
    let P : Option Instance → Type 0 = λ p. IsFound (ports_of_found lib p) o in subst P (sym there) found
