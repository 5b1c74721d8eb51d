-- The parts of a library, made of their parts.
use Rattle.std.specs.Prelude.{List, Option}
use Rattle.fb_types.specs.Names.{Name}
use Rattle.fb_types.specs.declared.value.Value.{Value}
use Rattle.fb_types.specs.declared.value.Ty.{Ty}
use Rattle.fb_types.specs.declared.library.EventPort.{EventPort}
use Rattle.fb_types.specs.declared.library.Variable.{Variable}
use Rattle.fb_types.specs.declared.library.Ports.{Ports}
use Rattle.fb_types.specs.declared.text.Expr.{Expr}
use Rattle.fb_types.specs.declared.text.Body.{Body}
use Rattle.fb_types.specs.declared.library.Action.{Action}
use Rattle.fb_types.specs.declared.library.State.{State}
use Rattle.fb_types.specs.declared.library.Condition.{Condition}
use Rattle.fb_types.specs.declared.library.Transition.{Transition}
use Rattle.fb_types.specs.declared.library.Algorithm.{Algorithm}
use Rattle.fb_types.specs.declared.library.BasicType.{BasicType}
use Rattle.fb_types.specs.declared.library.CompositeType.{CompositeType}
use Rattle.fb_types.specs.declared.library.PortName.{PortName}
use Rattle.fb_types.specs.declared.library.Connection.{Connection}
use Rattle.fb_types.specs.declared.library.Parameter.{Parameter}
use Rattle.fb_types.specs.declared.library.Instance.{Instance}
use Rattle.fb_types.specs.declared.library.Network.{Network}
use Rattle.fb_types.specs.declared.library.BlockType.{BlockType}
use Rattle.fb_types.specs.declared.library.Application.{Application}
use Rattle.fb_types.specs.declared.library.Library.{Library}
use Rattle.fb_read.specs.declared.ports.Declaration.{Declaration}

abbrev pub event_of : Name → List Name → EventPort
event_of name with_names = record { name = name; with = with_names }

abbrev pub declaration_of : List Name → Ty → Option Value → Declaration
declaration_of names ty initial = record { names = names; ty = ty; initial = initial }

abbrev pub variable_of : Name → Ty → Option Value → Variable
variable_of name ty initial = record { name = name; ty = ty; initial = initial }

abbrev pub ports_of : List EventPort → List EventPort → List Variable → List Variable → Ports
ports_of event_inputs event_outputs inputs outputs = record { event_inputs = event_inputs; event_outputs = event_outputs; inputs = inputs; outputs = outputs }

abbrev pub port_of : Option Name → Name → PortName
port_of component port = record { component = component; port = port }

abbrev pub connection_of : PortName → PortName → Connection
connection_of from to = record { from = from; to = to }

abbrev pub parameter_of : Name → Value → Parameter
parameter_of name value = record { name = name; value = value }

abbrev pub instance_of : Name → Name → List Parameter → Instance
instance_of name block_type parameters = record { name = name; block_type = block_type; parameters = parameters }

abbrev pub network_of : List Instance → List Connection → List Connection → Network
network_of instances events values = record { instances = instances; event_connections = events; data_connections = values }

abbrev pub action_of : Option Name → Option Name → Action
action_of algorithm output = record { algorithm = algorithm; output = output }

abbrev pub state_of : Name → List Action → State
state_of name actions = record { name = name; actions = actions }

abbrev pub condition_of : Option Name → Option Expr → Condition
condition_of event guard = record { event = event; guard = guard }

abbrev pub transition_of : Name → Name → Condition → Transition
transition_of from to condition = record { from = from; to = to; condition = condition }

abbrev pub algorithm_of : Name → Body → Algorithm
algorithm_of name body = record { name = name; body = body }

abbrev pub basic_of : Name → Ports → List Variable → List State → List Transition → List Algorithm → BasicType
basic_of name ports internals states transitions algorithms =
    record { name = name; ports = ports; internals = internals; states = states; transitions = transitions; algorithms = algorithms }

abbrev pub composite_of : Name → Ports → Network → CompositeType
composite_of name ports network = record { name = name; ports = ports; network = network }

abbrev pub application_of : Name → Network → Application
application_of name network = record { name = name; network = network }

abbrev pub library_of : List BlockType → Application → Library
library_of blocks application = record { blocks = blocks; application = application }
