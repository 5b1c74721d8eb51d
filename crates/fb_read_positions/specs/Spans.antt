-- Where the positions of a declaration are in its text, and the names there (this project's own).
use Rattle.std.specs.Prelude.{◌≡◌, ◌-◌, ℕ, List, length, drop, Option, Some, None, Ok, IfSome, slice_get, option_map, option_and_then}
use Rattle.fb_types.specs.Blocks.{ports_of}
use Rattle.fb_types.specs.Flat.{kind_of, type_name}
use Rattle.fb_types.specs.Names.{Name}
use Rattle.fb_types.specs.declared.library.Action.{Action}
use Rattle.fb_types.specs.declared.library.BasicType.{BasicType}
use Rattle.fb_types.specs.declared.library.BlockType.{BlockType}
use Rattle.fb_types.specs.declared.library.BlockType.TheVariants as block_type
use Rattle.fb_types.specs.declared.library.Connection.{Connection}
use Rattle.fb_types.specs.declared.library.EventPort.{EventPort}
use Rattle.fb_types.specs.declared.library.Instance.{Instance}
use Rattle.fb_types.specs.declared.library.Library.{Library}
use Rattle.fb_types.specs.declared.library.Network.{Network}
use Rattle.fb_types.specs.declared.library.PortName.{PortName}
use Rattle.fb_types.specs.declared.library.Ports.{Ports}
use Rattle.fb_types.specs.declared.library.State.{State}
use Rattle.fb_types.specs.declared.library.Transition.{Transition}
use Rattle.fb_read.specs.declared.token.Located.{Located}
use Rattle.fb_read.specs.declared.token.Span.{Span}
use Rattle.fb_read.specs.declared.token.Token.TheVariants as token
use Rattle.fb_read.specs.Blank.{Text}
use Rattle.fb_read.specs.Front.{front}
use Rattle.fb_read.specs.Located.{AreLocated}
use Rattle.fb_read.specs.Refusals.{IsNext}
use Rattle.fb_read.specs.Tokens.{Tokens, tokens_of, after_mark}
use Rattle.fb_read.specs.Whole.{IsLibraryText}
use Rattle.fb_read_positions.specs.declared.position.BasicPart.{BasicPart}
use Rattle.fb_read_positions.specs.declared.position.BasicPart.TheVariants as basic_part
use Rattle.fb_read_positions.specs.declared.position.ConnectionPart.{ConnectionPart}
use Rattle.fb_read_positions.specs.declared.position.ConnectionPart.TheVariants as connection_part
use Rattle.fb_read_positions.specs.declared.position.NetworkPart.{NetworkPart}
use Rattle.fb_read_positions.specs.declared.position.NetworkPart.TheVariants as network_part
use Rattle.fb_read_positions.specs.declared.position.PortPart.{PortPart}
use Rattle.fb_read_positions.specs.declared.position.PortPart.TheVariants as port_part
use Rattle.fb_read_positions.specs.declared.position.Position.{Position}
use Rattle.fb_read_positions.specs.declared.position.Position.TheVariants as position
use Rattle.fb_read_positions.specs.declared.position.TransitionPart.{TransitionPart}
use Rattle.fb_read_positions.specs.declared.position.TransitionPart.TheVariants as transition_part
use Rattle.fb_read_positions.specs.Walks.{to_position}

-- ---- Names

abbrev pub first_of : Option Name → Name → Name
first_of (Some component) port = component
first_of None port = port

abbrev pub first_name : PortName → Name
first_name p = first_of p.component p.port

abbrev pub name_of_connection : ConnectionPart → Connection → Name
name_of_connection connection_part.From c = first_name c.from
name_of_connection connection_part.FromPort c = c.from.port
name_of_connection connection_part.To c = first_name c.to
name_of_connection connection_part.ToPort c = c.to.port

abbrev pub parameter_name : List Instance → ℕ → ℕ → Option Name
parameter_name instances k n = option_and_then (λ i. option_map (λ p. p.name) (slice_get i.parameters n)) (slice_get instances k)

abbrev pub name_in_network : NetworkPart → Network → Option Name
name_in_network (network_part.Instance k) net = option_map (λ i. i.name) (slice_get net.instances k)
name_in_network (network_part.InstanceType k) net = option_map (λ i. i.block_type) (slice_get net.instances k)
name_in_network (network_part.Parameter k n) net = parameter_name net.instances k n
name_in_network (network_part.EventConnection k part) net = option_map (name_of_connection part) (slice_get net.event_connections k)
name_in_network (network_part.DataConnection k part) net = option_map (name_of_connection part) (slice_get net.data_connections k)

abbrev pub with_name : List EventPort → ℕ → ℕ → Option Name
with_name events n k = option_and_then (λ e. slice_get e.with k) (slice_get events n)

abbrev pub name_in_ports : PortPart → Ports → Option Name
name_in_ports (port_part.EventInput n) p = option_map (λ e. e.name) (slice_get p.event_inputs n)
name_in_ports (port_part.WithInput n k) p = with_name p.event_inputs n k
name_in_ports (port_part.EventOutput n) p = option_map (λ e. e.name) (slice_get p.event_outputs n)
name_in_ports (port_part.WithOutput n k) p = with_name p.event_outputs n k
name_in_ports (port_part.Input n) p = option_map (λ v. v.name) (slice_get p.inputs n)
name_in_ports (port_part.Output n) p = option_map (λ v. v.name) (slice_get p.outputs n)

abbrev pub name_of_transition : TransitionPart → Transition → Option Name
name_of_transition transition_part.From t = Some t.from
name_of_transition transition_part.To t = Some t.to
name_of_transition transition_part.Condition t = t.condition.event
name_of_transition transition_part.Guard t = None
name_of_transition (transition_part.Mention n) t = None

abbrev pub action_at : List State → ℕ → ℕ → Option Action
action_at states n k = option_and_then (λ s. slice_get s.actions k) (slice_get states n)

abbrev pub algorithm_name : List State → ℕ → ℕ → Option Name
algorithm_name states n k = option_and_then (λ a. a.algorithm) (action_at states n k)

abbrev pub output_name : List State → ℕ → ℕ → Option Name
output_name states n k = option_and_then (λ a. a.output) (action_at states n k)

abbrev pub name_in_basic : BasicPart → BasicType → Option Name
name_in_basic (basic_part.Internal n) t = option_map (λ v. v.name) (slice_get t.internals n)
name_in_basic (basic_part.State n) t = option_map (λ s. s.name) (slice_get t.states n)
name_in_basic (basic_part.Action n k) t = algorithm_name t.states n k
name_in_basic (basic_part.OutputAlone n k) t = output_name t.states n k
name_in_basic (basic_part.OutputAfter n k) t = output_name t.states n k
name_in_basic (basic_part.Transition n part) t = option_and_then (name_of_transition part) (slice_get t.transitions n)
name_in_basic (basic_part.Algorithm n) t = option_map (λ a. a.name) (slice_get t.algorithms n)
name_in_basic (basic_part.Statement n k) t = None
name_in_basic (basic_part.Clause n k j) t = None
name_in_basic (basic_part.Mention n k) t = None

abbrev pub network_inside : BlockType → Option Network
network_inside (block_type.Basic t) = None
network_inside (block_type.Composite t) = Some t.network

abbrev pub name_in_ports_of : PortPart → BlockType → Option Name
name_in_ports_of part t = name_in_ports part (ports_of (kind_of t))

abbrev pub name_inside_basic : BasicPart → BlockType → Option Name
name_inside_basic part (block_type.Basic t) = name_in_basic part t
name_inside_basic part (block_type.Composite t) = None

abbrev pub name_inside_composite : NetworkPart → BlockType → Option Name
name_inside_composite part (block_type.Basic t) = None
name_inside_composite part (block_type.Composite t) = name_in_network part t.network

-- the name that a library has at a position, if it is one of a name
abbrev pub name_at : Position → Library → Option Name
name_at position.Application lib = Some lib.application.name
name_at (position.InApplication part) lib = name_in_network part lib.application.network
name_at (position.Block k) lib = option_map type_name (slice_get lib.blocks k)
name_at (position.InPorts k part) lib = option_and_then (name_in_ports_of part) (slice_get lib.blocks k)
name_at (position.InBasic k part) lib = option_and_then (name_inside_basic part) (slice_get lib.blocks k)
name_at (position.InComposite k part) lib = option_and_then (name_inside_composite part) (slice_get lib.blocks k)

-- ---- Bytes

-- the first token of these bytes is this name, of this length
abbrev pub IsNameOf : Text → Name → ℕ → Type 0
IsNameOf here n len = front here ≡ Ok (token.Name n, len)

-- the bytes there are the name, if one is asked for
abbrev pub IsNamed : Text → Option Name → Span → Type 0
IsNamed text name span = IfSome name (λ n. IsNameOf (drop span.start text) n (span.end - span.start))

-- The token at these bytes is at the position: the parser reads the tokens before it up to the position. If the library
-- has a name at this position, the token is this name.
pub record IsAt (text : Text) (library : Library) (position : Position) (span : Span) : Type 0 where
  pub placed : List Located
  pub located : AreLocated text placed (after_mark text)
  pub here : Tokens
  pub reached : to_position position (tokens_of placed) ≡ Ok (tt, here)
  pub next : IsNext (drop (length placed - length here) placed) text span.start span.end
  pub named : IsNamed text (name_at position library) span

-- the text declares no library
abbrev pub DeclaresNothing : Text → Type 0
DeclaresNothing text = (library : Library) → IsLibraryText text library → ⊥

-- If the text declares the library, nothing in it is at the position.
abbrev pub IsNowhere : Text → Library → Position → Type 0
IsNowhere text library position = IsLibraryText text library → (span : Span) → IsAt text library position span → ⊥
