-- The position of the declaration at which a finding of a check is shown: the name, the connection or the statement that is
-- meant, and of what is given twice the later one (this project's own).
use Rattle.std.specs.Prelude.{◌-◌, ℕ, Bool, nat_lt, if◌then◌else◌, List, [], length, Option, Some, None, slice_get, is_some, option_map, option_and_then}
use Rattle.std.specs.List.{find}
use Rattle.fb_types.specs.Blocks.{ports_of}
use Rattle.fb_types.specs.Flat.{kind_of}
use Rattle.fb_types.specs.Names.{Name, same_name}
use Rattle.fb_types.specs.declared.library.Action.{Action}
use Rattle.fb_types.specs.declared.library.BlockType.{BlockType}
use Rattle.fb_types.specs.declared.library.BlockType.TheVariants as block_type
use Rattle.fb_types.specs.declared.library.Connection.{Connection}
use Rattle.fb_types.specs.declared.library.Instance.{Instance}
use Rattle.fb_types.specs.declared.library.Library.{Library}
use Rattle.fb_types.specs.declared.library.Network.{Network}
use Rattle.fb_types.specs.declared.library.PortName.{PortName}
use Rattle.fb_types.specs.declared.library.Ports.{Ports}
use Rattle.fb_types.specs.declared.library.State.{State}
use Rattle.fb_read_positions.specs.Spans.{action_at, network_inside}
use Rattle.fb_read_positions.specs.declared.position.BasicPart.{BasicPart}
use Rattle.fb_read_positions.specs.declared.position.BasicPart.TheVariants as basic_part
use Rattle.fb_read_positions.specs.declared.position.ConnectionPart.{ConnectionPart}
use Rattle.fb_read_positions.specs.declared.position.ConnectionPart.TheVariants as connection_part
use Rattle.fb_read_positions.specs.declared.position.NetworkPart.{NetworkPart}
use Rattle.fb_read_positions.specs.declared.position.NetworkPart.TheVariants as network_part
use Rattle.fb_read_positions.specs.declared.position.PortPart.{PortPart}
use Rattle.fb_read_positions.specs.declared.position.PortPart.TheVariants as port_part
use Rattle.fb_read_positions.specs.declared.position.Position.{Position}
use Rattle.fb_read_positions.specs.declared.position.Position.TheVariants as position
use Rattle.fb_read_positions.specs.declared.position.TransitionPart.{TransitionPart}
use Rattle.fb_read_positions.specs.declared.position.TransitionPart.TheVariants as transition_part
use Rattle.fb_check_names.specs.declared.location.ActionPart.{ActionPart}
use Rattle.fb_check_names.specs.declared.location.ActionPart.TheVariants as action_name
use Rattle.fb_check_names.specs.declared.location.Direction.{Direction}
use Rattle.fb_check_names.specs.declared.location.Direction.TheVariants as direction
use Rattle.fb_check_names.specs.declared.location.FlowKind.{FlowKind}
use Rattle.fb_check_names.specs.declared.location.FlowKind.TheVariants as flow
use Rattle.fb_check_names.specs.declared.location.KindWrongAt.{KindWrongAt}
use Rattle.fb_check_names.specs.declared.location.KindWrongAt.TheVariants as kind_wrong
use Rattle.fb_check_names.specs.declared.location.Side.{Side}
use Rattle.fb_check_names.specs.declared.location.Side.TheVariants as side
use Rattle.fb_check_names.specs.declared.location.Site.{Site}
use Rattle.fb_check_names.specs.declared.location.Site.TheVariants as site
use Rattle.fb_check_names.specs.declared.location.StatementPart.{StatementPart}
use Rattle.fb_check_names.specs.declared.location.StatementPart.TheVariants as part
use Rattle.fb_check_names.specs.declared.location.TransitionPart.{TransitionPart as NamedPart}
use Rattle.fb_check_names.specs.declared.location.TransitionPart.TheVariants as transition_name
use Rattle.fb_check_names.specs.declared.location.UnknownName.{UnknownName}
use Rattle.fb_check_names.specs.declared.location.UnknownName.TheVariants as unknown
use Rattle.fb_check_names.specs.declared.location.Variables.{Variables}
use Rattle.fb_check_names.specs.declared.location.Variables.TheVariants as variables
use Rattle.fb_check_names.specs.declared.location.TooHighAt.{TooHighAt}
use Rattle.fb_check_names.specs.declared.location.TooHighAt.TheVariants as too_high
use Rattle.fb_check_names.specs.declared.twice.GivenTwice.{GivenTwice}
use Rattle.fb_check_names.specs.declared.twice.GivenTwice.TheVariants as given
use Rattle.fb_check_names.specs.declared.twice.InBlock.{InBlock}
use Rattle.fb_check_names.specs.declared.twice.InBlock.TheVariants as in_block
use Rattle.fb_check_names.specs.declared.twice.InNetwork.{InNetwork}
use Rattle.fb_check_names.specs.declared.twice.InNetwork.TheVariants as in_network
use Rattle.fb_check_names.specs.declared.location.NoLinkAt.{NoLinkAt}
use Rattle.fb_check_names.specs.declared.location.NotMappedAt.{NotMappedAt}
use Rattle.fb_check_names.specs.declared.location.NotMappedAt.TheVariants as not_mapped

-- a part of the network of a site
abbrev pub in_site : Site → NetworkPart → Position
in_site site.Application part = position.InApplication part
in_site (site.Inside block) part = position.InComposite block part

-- the beginning of a data connection
abbrev pub data_position : Site → ℕ → Position
data_position s connection = in_site s (network_part.DataConnection connection connection_part.From)

-- ---- What is given twice

abbrev pub twice_in_network : InNetwork → NetworkPart
twice_in_network (in_network.Instance pair) = network_part.Instance pair.1
twice_in_network (in_network.Parameter instance pair) = network_part.Parameter instance pair.1
twice_in_network (in_network.Connection pair) = network_part.EventConnection pair.1 connection_part.From

-- The name at an index in the list of the event inputs, event outputs, inputs, outputs and internal variables. It is the
-- name in the first of these lists if that is long enough, else in the list after it.
abbrev pub port_or : (n : ℕ) → (here : ℕ → Position) → ℕ → (later : ℕ → Position) → Position
port_or n here index later = if nat_lt index n then here index else later (index - n)

abbrev pub port_at : ℕ → Ports → ℕ → Position
port_at block p index =
    port_or (length p.event_inputs) (λ k. position.InPorts block (port_part.EventInput k)) index (λ i.
    port_or (length p.event_outputs) (λ k. position.InPorts block (port_part.EventOutput k)) i (λ j.
    port_or (length p.inputs) (λ k. position.InPorts block (port_part.Input k)) j (λ l.
    port_or (length p.outputs) (λ k. position.InPorts block (port_part.Output k)) l (λ k.
    position.InBasic block (basic_part.Internal k)))))

abbrev pub twice_in_block : Library → ℕ → InBlock → Option Position
twice_in_block lib block (in_block.Port pair) = option_map (λ t. port_at block (ports_of (kind_of t)) pair.1) (slice_get lib.blocks block)
twice_in_block lib block (in_block.WithInput event pair) = Some (position.InPorts block (port_part.WithInput event pair.1))
twice_in_block lib block (in_block.WithOutput event pair) = Some (position.InPorts block (port_part.WithOutput event pair.1))
twice_in_block lib block (in_block.State pair) = Some (position.InBasic block (basic_part.State pair.1))
twice_in_block lib block (in_block.Algorithm pair) = Some (position.InBasic block (basic_part.Algorithm pair.1))
twice_in_block lib block (in_block.Inside n) = Some (position.InComposite block (twice_in_network n))

abbrev pub twice_position : Library → GivenTwice → Option Position
twice_position lib (given.EventBlock block) = Some (position.Block block)
twice_position lib (given.Type pair) = Some (position.Block pair.1)
twice_position lib (given.Block block b) = twice_in_block lib block b
twice_position lib (given.Application n) = Some (position.InApplication (twice_in_network n))
twice_position lib (given.Resource pair) = None
twice_position lib (given.Link pair) = None

-- ---- Unknown names

-- whether an instance has the name
abbrev pub is_instance : List Instance → Name → Bool
is_instance instances component = is_some (find (λ i. same_name i.name component) instances)

abbrev pub name_after : List Instance → Option Name → (first second : ConnectionPart) → ConnectionPart
name_after instances (Some component) first second = if is_instance instances component then second else first
name_after instances None first second = first

-- the name of a port that is unknown: the one after the dot, if the instance before it is known
abbrev pub name_of_port : List Instance → PortName → (first second : ConnectionPart) → ConnectionPart
name_of_port instances p first second = name_after instances p.component first second

abbrev pub end_part : Network → Connection → Side → ConnectionPart
end_part net c side.From = name_of_port net.instances c.from connection_part.From connection_part.FromPort
end_part net c side.To = name_of_port net.instances c.to connection_part.To connection_part.ToPort

abbrev pub end_of : Network → FlowKind → ℕ → Side → Option NetworkPart
end_of net flow.Events k s = option_map (λ c. network_part.EventConnection k (end_part net c s)) (slice_get net.event_connections k)
end_of net flow.Data k s = option_map (λ c. network_part.DataConnection k (end_part net c s)) (slice_get net.data_connections k)

abbrev pub network_at : Library → Site → Option Network
network_at lib site.Application = Some lib.application.network
network_at lib (site.Inside block) = option_and_then network_inside (slice_get lib.blocks block)

abbrev pub with_part : Direction → (event variable : ℕ) → PortPart
with_part direction.Input event variable = port_part.WithInput event variable
with_part direction.Output event variable = port_part.WithOutput event variable

abbrev pub transition_part_of : NamedPart → TransitionPart
transition_part_of transition_name.From = transition_part.From
transition_part_of transition_name.To = transition_part.To
transition_part_of transition_name.Event = transition_part.Condition

abbrev pub states_of : Option BlockType → List State
states_of (Some (block_type.Basic t)) = t.states
states_of (Some (block_type.Composite t)) = []
states_of None = []

abbrev pub states_at : Library → ℕ → List State
states_at lib block = states_of (slice_get lib.blocks block)

abbrev pub output_part : Option Name → (state action : ℕ) → BasicPart
output_part (Some algorithm) state action = basic_part.OutputAfter state action
output_part None state action = basic_part.OutputAlone state action

abbrev pub name_of_action : Action → ActionPart → (state action : ℕ) → BasicPart
name_of_action a action_name.Algorithm state action = basic_part.Action state action
name_of_action a action_name.Output state action = output_part a.algorithm state action

abbrev pub action_part : List State → (state action : ℕ) → ActionPart → Option BasicPart
action_part states state action part =
    option_map (λ a. name_of_action a part state action) (action_at states state action)

abbrev pub unknown_position : Library → UnknownName → Option Position
unknown_position lib (unknown.InstanceType s instance) = Some (in_site s (network_part.InstanceType instance))
unknown_position lib (unknown.Parameter s instance parameter) = Some (in_site s (network_part.Parameter instance parameter))
unknown_position lib (unknown.End s f k end) = option_and_then (λ net. option_map (in_site s) (end_of net f k end)) (network_at lib s)
unknown_position lib (unknown.With block d event variable) = Some (position.InPorts block (with_part d event variable))
unknown_position lib (unknown.Transition block k part) = Some (position.InBasic block (basic_part.Transition k (transition_part_of part)))
unknown_position lib (unknown.Action block state action part) = option_map (position.InBasic block) (action_part (states_at lib block) state action part)
unknown_position lib (unknown.Guard block k mention) = Some (position.InBasic block (basic_part.Transition k (transition_part.Mention mention)))
unknown_position lib (unknown.Body block algorithm mention) = Some (position.InBasic block (basic_part.Mention algorithm mention))
unknown_position lib (unknown.Mapped resource instance) = None
unknown_position lib (unknown.LinkEnd link end) = None

-- ---- Wrong kinds

abbrev pub variable_position : ℕ → Variables → ℕ → Position
variable_position block variables.Inputs k = position.InPorts block (port_part.Input k)
variable_position block variables.Outputs k = position.InPorts block (port_part.Output k)
variable_position block variables.Internals k = position.InBasic block (basic_part.Internal k)

-- a condition of an IF at its IF or ELSIF, that of a REPEAT at UNTIL, and anything else where the statement begins
abbrev pub statement_part : (algorithm statement : ℕ) → StatementPart → BasicPart
statement_part algorithm statement (part.Choice k) = basic_part.Clause algorithm statement k
statement_part algorithm statement part.Until = basic_part.Clause algorithm statement 1
statement_part algorithm statement _ = basic_part.Statement algorithm statement

abbrev pub kind_wrong_position : KindWrongAt → Position
kind_wrong_position (kind_wrong.Initial block list k) = variable_position block list k
kind_wrong_position (kind_wrong.Parameter s instance parameter) = in_site s (network_part.Parameter instance parameter)
kind_wrong_position (kind_wrong.Guard block k) = position.InBasic block (basic_part.Transition k transition_part.Guard)
kind_wrong_position (kind_wrong.Statement block algorithm statement which) = position.InBasic block (statement_part algorithm statement which)

-- ---- Networks and their mapping

abbrev pub too_high_position : TooHighAt → Position
too_high_position (too_high.Circle block instance) = position.InComposite block (network_part.Instance instance)
too_high_position (too_high.Height block instance) = position.InComposite block (network_part.Instance instance)

abbrev pub not_mapped_position : NotMappedAt → Option Position
not_mapped_position (not_mapped.Unlisted instance) = Some (position.InApplication (network_part.Instance instance))
not_mapped_position (not_mapped.Again pair) = None

abbrev pub event_or_data : FlowKind → ℕ → Position
event_or_data flow.Events k = position.InApplication (network_part.EventConnection k connection_part.From)
event_or_data flow.Data k = data_position site.Application k

abbrev pub no_link_position : NoLinkAt → Position
no_link_position u = event_or_data u.flow u.connection
