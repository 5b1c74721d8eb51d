-- Where the connections of a network lead, by the indexes of components and ports (IEC 61499-1, 5.3).
use Rattle.std.specs.Prelude.{ℕ, List, map, Bool, true, false, ◌&&◌, nat_eq, Option, Some, None}
use Rattle.std.specs.List.{filter}
use Rattle.fb_types.specs.Flat.{first_of}
use Rattle.fb_check_names.specs.declared.numbers.ConnectionEnd.{ConnectionEnd}
use Rattle.fb_check_names.specs.declared.numbers.NetworkNumbers.{NetworkNumbers}

abbrev pub same_component : Option ℕ → Option ℕ → Bool
same_component None None = true
same_component None (Some n) = false
same_component (Some m) None = false
same_component (Some m) (Some n) = nat_eq m n

-- whether two ends are the same
abbrev pub same_end : ConnectionEnd → ConnectionEnd → Bool
same_end a b = same_component a.component b.component && nat_eq a.port b.port

-- where the event connections from an end lead, in the order of the text
abbrev pub targets_in : NetworkNumbers → ConnectionEnd → List ConnectionEnd
targets_in x e = map (λ w. w.to) (filter (λ w. same_end w.from e) x.event_wires)

-- the end that the first data connection to an end comes from
abbrev pub source_in : NetworkNumbers → ConnectionEnd → Option ConnectionEnd
source_in x e = first_of (map (λ w. w.from) (filter (λ w. same_end w.to e) x.data_wires))
