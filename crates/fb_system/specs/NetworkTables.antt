-- Lists of ends by an end, and what the tables of a network's wiring contain (IEC 61499-1, 5.3).
use Rattle.std.specs.Prelude.{◌≡◌, ℕ, List, [], map, Option, Some, None, nat_lt, if◌then◌else◌, slice_index_or, unwrap_or}
use Rattle.std.specs.BTreeMap.{is_at}
use Rattle.std.specs.List.{filter}
use Rattle.std.specs.Map.{lookup}
use Rattle.std.specs.Ordering.{nat_cmp}
use Rattle.fb_check_names.specs.declared.numbers.ConnectionEnd.{ConnectionEnd}
use Rattle.fb_check_names.specs.declared.numbers.NetworkNumbers.{NetworkNumbers}
use Rattle.fb_system.specs.declared.connection_table.ConnectionTable.{ConnectionTable}
use Rattle.fb_system.specs.Wirings.{same_end, targets_in}

-- the ends at a port, of those at each of the first ports
abbrev pub ends_in : List (List ConnectionEnd) → ℕ → List ConnectionEnd
ends_in first port = slice_index_or first port []

-- the ends at a port, of those of the later ports that have any
abbrev pub further_ends : List (ℕ × List ConnectionEnd) → ℕ → List ConnectionEnd
further_ends further port = unwrap_or (lookup (is_at (nat_cmp port)) further) []

-- the ends at a port
abbrev pub ends_of : List (List ConnectionEnd) × List (ℕ × List ConnectionEnd) → ℕ → List ConnectionEnd
ends_of row port = if nat_lt port 16 then ends_in row.0 port else further_ends row.1 port

-- the ports of a component
abbrev pub row_of : List (List (List ConnectionEnd) × List (ℕ × List ConnectionEnd)) → ℕ → List (List ConnectionEnd) × List (ℕ × List ConnectionEnd)
row_of rows component = slice_index_or rows component ([], [])

abbrev pub row_at : ConnectionTable → Option ℕ → List (List ConnectionEnd) × List (ℕ × List ConnectionEnd)
row_at t None = t.boundary
row_at t (Some component) = row_of t.components.items component

-- the ends that are connected to an end
abbrev pub ends_at : ConnectionTable → ConnectionEnd → List ConnectionEnd
ends_at t e = ends_of (row_at t e.component) e.port

-- The tables have the targets of the event connections, and the sources of the data connections, of each end.
pub record AreTablesOf (x : NetworkNumbers) (targets sources : ConnectionTable) : Type 0 where
  pub targets_are : (e : ConnectionEnd) → ends_at targets e ≡ targets_in x e
  pub sources_are : (e : ConnectionEnd) → ends_at sources e ≡ map (λ w. w.from) (filter (λ w. same_end w.to e) x.data_wires)
