use Rattle.fb_system.proofs.lemmas.Common.{◌≡◌, ◌<◌, ℕ, List, Some, length, refl, sym, ap, subst, ◌∙◌, option_map, slice_get, slice_get_read, slice_get_within, ports_of, ports_of_event_block, Ports, kind_of_number, TypeNumber}
use Rattle.fb_types.proofs.Common.{kind_index}
use Rattle.fb_system.proofs.types.ports_of_type.Goals as goal

pub bounds-as_slice-index : goal.bounds-as_slice-index
bounds-as_slice-index c =
    let k = c.in-Event.kind in
    let all = c.args.tables.now.event_blocks in
    let within : kind_index k < length all = slice_get_within all (kind_index k) (ports_of_event_block k) (c.requires.tables.event_blocks k) in
    subst (λ (l : List Ports). c.index.result < length l) (sym c.as_slice.ensures) (subst (λ (n : ℕ). n < length all) (sym c.index.ensures) within)

pub returns-in-Event : goal.returns-in-Event
returns-in-Event c =
    let k = c.in-Event.kind in
    let all = c.args.tables.now.event_blocks in
    let x = c.index-as_slice-index.result in
    let there : slice_get all (kind_index k) ≡ Some (ports_of_event_block k) = c.requires.tables.event_blocks k in
    let within : kind_index k < length all = slice_get_within all (kind_index k) (ports_of_event_block k) there in
    let read : slice_get all c.index.result ≡ Some x =
    slice_get_read all (length all) c.index.result x refl (subst (λ (n : ℕ). n < length all) (sym c.index.ensures) within) (rw c.as_slice.ensures at c.index-as_slice-index.is) in
    ap (λ (t : TypeNumber). option_map ports_of (kind_of_number c.args.tables.now.netlist t)) c.in-Event.is ∙ sym there ∙ ap (slice_get all) (sym c.index.ensures) ∙ read
