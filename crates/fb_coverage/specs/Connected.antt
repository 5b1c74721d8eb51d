-- Which event ports of event blocks and composites count, and which have no connection (this project's own).
use Rattle.std.specs.Prelude.{ℕ, List, [], Bool, true, false, not, ◌&&◌, ◌||◌, nat_lt, Option, Some, None}
use Rattle.std.specs.List.{list_any}
use Rattle.fb_types.specs.Blocks.{Kind, Event}
use Rattle.fb_types.specs.Flat.{first_of, network_at, parent}
use Rattle.fb_types.specs.Names.{Name, Path, same_name}
use Rattle.fb_types.specs.Systems.{System}
use Rattle.fb_types.specs.declared.event_kind.EventKind.TheVariants.{Restart}
use Rattle.fb_types.specs.declared.library.Connection.{Connection}
use Rattle.fb_types.specs.declared.library.EventPort.{EventPort}
use Rattle.fb_types.specs.declared.library.Library.{Library}
use Rattle.fb_types.specs.declared.library.Network.{Network}
use Rattle.fb_types.specs.declared.library.PortName.{PortName}
use Rattle.fb_coverage.specs.declared.group.Group.{Group}
use Rattle.fb_coverage.specs.declared.group.Group.TheVariants.{Connected, Unconnected}

-- ---- Connections

-- whether an end is at this component, or at the boundary of its network where there is none
abbrev pub is_there : (component own : Option Name) → Bool
is_there None None = true
is_there None (Some n) = false
is_there (Some c) None = false
is_there (Some c) (Some n) = same_name c n

abbrev pub is_end : Option Name → (port : Name) → PortName → Bool
is_end own n end = is_there end.component own && same_name end.port n

-- the connection begins or ends at the port
abbrev pub is_at : Option Name → (port : Name) → Connection → Bool
is_at own n c = is_end own n c.from || is_end own n c.to

abbrev pub connections_of : Option Network → List Connection
connections_of None = []
connections_of (Some net) = net.event_connections

-- An event connection begins or ends at an event port of the instance at a path: in the network in which it is, under its
-- own name, or as a boundary port in the network inside it.
abbrev pub is_connected : Library → Path → (event : Name) → Bool
is_connected lib p n =
    list_any (is_at (first_of p) n) (connections_of (network_at lib (parent p))) || list_any (is_at None n) (connections_of (network_at lib p))

-- ---- Groups

-- The event ports of E_RESTART are its outputs COLD, WARM and STOP. Only COLD is ever emitted.
abbrev pub never_comes : Option Kind → (index : ℕ) → Bool
never_comes (Some (Event Restart)) k = nat_lt 0 k
never_comes _ k = false

abbrev pub is_of : Group → (is_connected : Bool) → Bool
is_of Connected b = b
is_of Unconnected b = not b

-- the event port with this index on its side is in the group
abbrev pub is_in : Group → Library → System → Path → (index : ℕ) → EventPort → Bool
is_in g lib sys p k e = not (never_comes (sys.kind p) k) && is_of g (is_connected lib p e.name)
