-- The row of a kind in the table of the event blocks.
use Rattle.fb_types.proofs.Common.{◌≡◌, ℕ, List, map, get_or, Option, None, Some, refl, sym, ◌∙◌, ap, slice_get, option_map, get_or_from_slice_get, same_Some, slice_get-map, kind_index, ports_of_event_block, ArePortsOfKinds, EventKind, Ports}
use Rattle.fb_types.specs.EventRows.{ports_of_row}
use Rattle.fb_types.specs.declared.event_kind.Row.{Row}

read : (rows : List Row) (i : ℕ) (d : Row) (p : Ports) (o : Option Row) → slice_get rows i ≡ o → option_map ports_of_row o ≡ Some p
    → ports_of_row (get_or rows i d) ≡ p
read rows i d p None here is = absurd (cc)
read rows i d p (Some r) here is = ap ports_of_row (get_or_from_slice_get rows i r d here) ∙ same_Some (ports_of_row r) p is

-- where the rows have the ports of the kinds, each at the index of its kind, the row at this index has those of the kind
pub row_stands :
    (rows : List Row) (k : EventKind) (i : ℕ) (d : Row) → ArePortsOfKinds (map ports_of_row rows) → i ≡ kind_index k
    → ports_of_row (get_or rows i d) ≡ ports_of_event_block k
row_stands rows k i d are is =
    read rows i d (ports_of_event_block k) (slice_get rows i) refl
    (sym (slice_get-map ports_of_row rows i) ∙ ap (slice_get (map ports_of_row rows)) is ∙ are k)
