-- Where two data connections lead to one port (E24; IEC 61499-1, 5.3).
use Rattle.std.specs.Prelude.{◌≡◌, ℕ, List, [], map, Some}
use Rattle.fb_types.specs.Names.{Port, same_port}
use Rattle.fb_types.specs.Flat.{port_in}
use Rattle.fb_types.specs.Repeated.{OwnedNetwork}
use Rattle.fb_types.specs.declared.library.Connection.{Connection}
use Rattle.fb_types.specs.declared.library.Library.{Library}
use Rattle.fb_check_names.specs.Repeats.{IsPair, repeats}
use Rattle.fb_check_names.specs.Sites.{in_networks, network_at}
use Rattle.fb_check_names.specs.declared.location.TwoSourcesAt.{TwoSourcesAt}
use Rattle.fb_check_names.specs.declared.location.Site.{Site}

-- the port to which a connection leads
abbrev pub target : Connection → Port
target c = port_in [] c.to

abbrev pub targets : List Connection → List Port
targets cs = map target cs

-- The two data connections of the network lead to one port.
abbrev pub IsTwoSourcesAt : Library → TwoSourcesAt → Type 0
IsTwoSourcesAt lib j = (n : OwnedNetwork) × (network_at lib j.site ≡ Some n) × IsPair (targets n.1.data_connections) j.connections

-- ---- All, in the order of the declaration

abbrev pub two_sources_at : Site → ℕ × ℕ → TwoSourcesAt
two_sources_at s r = record { site = s; connections = r }

-- the data connections that lead to the port of one before
abbrev pub two_sources_among : Site → List Connection → List TwoSourcesAt
two_sources_among s cs = map (two_sources_at s) (repeats same_port (targets cs))

abbrev pub two_sources_in : Site → OwnedNetwork → List TwoSourcesAt
two_sources_in s n = two_sources_among s n.1.data_connections

abbrev pub two_sources_all : Library → List TwoSourcesAt
two_sources_all lib = in_networks two_sources_in lib
