-- Unknown names that do not follow from an unknown type (this project's own).
use Rattle.std.specs.Prelude.{ℕ, Bool, false, List, [], ◌∷◌, Option, Some, None, not, option_and_then, is_none, slice_get}
use Rattle.std.specs.List.{filter, find}
use Rattle.fb_types.specs.Flat.{type_named}
use Rattle.fb_types.specs.Names.{same_name}
use Rattle.fb_types.specs.declared.library.Connection.{Connection}
use Rattle.fb_types.specs.declared.library.Instance.{Instance}
use Rattle.fb_types.specs.declared.library.Library.{Library}
use Rattle.fb_types.specs.declared.library.Network.{Network}
use Rattle.fb_types.specs.declared.library.PortName.{PortName}
use Rattle.fb_check_names.specs.Sites.{connections_of}
use Rattle.fb_check_names.specs.declared.location.FlowKind.{FlowKind}
use Rattle.fb_check_names.specs.declared.location.Side.{Side}
use Rattle.fb_check_names.specs.declared.location.Side.TheVariants as side
use Rattle.fb_check_names.specs.declared.location.UnknownName.{UnknownName}
use Rattle.fb_check_names.specs.declared.location.UnknownName.TheVariants as unknown
use Rattle.fb_check.specs.declared.fault.Fault.{Fault}
use Rattle.fb_check.specs.declared.fault.Fault.TheVariants as fault
use Rattle.fb_check.specs.declared.location.Location.{Location}
use Rattle.fb_check.specs.declared.location.Location.TheVariants as at
use Rattle.fb_read_positions.specs.FindingPositions.{network_at}

-- the port at an end of a connection
abbrev pub port_at : Side → Connection → PortName
port_at side.From c = c.from
port_at side.To c = c.to

abbrev pub connection_at : Network → FlowKind → ℕ → Option Connection
connection_at net flow k = slice_get (connections_of flow net) k

-- the instance that has the port
abbrev pub instance_of_port : Network → PortName → Option Instance
instance_of_port net port = option_and_then (λ name. find (λ i. same_name i.name name) net.instances) port.component

abbrev pub instance_at_end : Network → FlowKind → ℕ → Side → Option Instance
instance_at_end net flow k s = option_and_then (λ c. instance_of_port net (port_at s c)) (connection_at net flow k)

-- the instance whose port or parameter the unknown name is
abbrev pub instance_of : Library → UnknownName → Option Instance
instance_of lib (unknown.Parameter s i p) = option_and_then (λ net. slice_get net.instances i) (network_at lib s)
instance_of lib (unknown.End s flow k side) = option_and_then (λ net. instance_at_end net flow k side) (network_at lib s)
instance_of lib name = None

-- There is no block type of the name that the instance has for it.
abbrev pub has_no_type : Library → Instance → Bool
has_no_type lib i = is_none (type_named lib i.block_type)

abbrev pub lacks_type : Library → Option Instance → Bool
lacks_type lib None = false
lacks_type lib (Some i) = has_no_type lib i

-- The location follows from an unknown type.
abbrev pub follows : Library → Location → Bool
follows lib (at.NameUnknown name) = lacks_type lib (instance_of lib name)
follows lib location = false

abbrev pub without_following : Library → List Location → List Location
without_following lib ls = filter (λ l. not (follows lib l)) ls

abbrev pub or_all : {X : Type 0} → (kept all : List X) → List X
or_all [] all = all
or_all (x ∷ xs) all = x ∷ xs

-- the locations that do not follow from an unknown type, or all if each does
abbrev pub roots_of : Library → List Location → List Location
roots_of lib ls = or_all (without_following lib ls) ls

-- the locations of a fault that are reported
abbrev pub reported : Fault → Library → List Location → List Location
reported fault.NameUnknown lib ls = roots_of lib ls
reported flaw lib ls = ls
