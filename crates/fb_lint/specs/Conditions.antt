-- What each warning says of a declaration, a deployment and stimuli, at its position.
use Rattle.std.specs.Prelude.{◌≡◌, ℕ, ◌<◌, List, [], Bool, true, false, ◌||◌, Option, Some, None, Contains, slice_get, option_map}
use Rattle.std.specs.List.{filter, list_any}
use Rattle.fb_types.specs.Names.{Name, same_name}
use Rattle.fb_types.specs.Blocks.{ports_of}
use Rattle.fb_types.specs.Flat.{first_of, kind_of, type_name, type_named}
use Rattle.fb_types.specs.Repeated.{OwnedNetwork}
use Rattle.fb_types.specs.Syntax.{Stmt, body_of}
use Rattle.fb_types.specs.Unknown.{mentions_body}
use Rattle.fb_types.specs.declared.deploy.Link.{Link}
use Rattle.fb_types.specs.declared.deploy.Plan.{Plan}
use Rattle.fb_types.specs.declared.deploy.Stimulus.{Stimulus}
use Rattle.fb_types.specs.declared.library.Algorithm.{Algorithm}
use Rattle.fb_types.specs.declared.library.BasicType.{BasicType}
use Rattle.fb_types.specs.declared.library.BlockType.{BlockType}
use Rattle.fb_types.specs.declared.library.BlockType.TheVariants as block
use Rattle.fb_types.specs.declared.library.CompositeType.{CompositeType}
use Rattle.fb_types.specs.declared.library.Connection.{Connection}
use Rattle.fb_types.specs.declared.library.EventPort.{EventPort}
use Rattle.fb_types.specs.declared.library.Instance.{Instance}
use Rattle.fb_types.specs.declared.library.Library.{Library}
use Rattle.fb_types.specs.declared.library.Ports.{Ports}
use Rattle.fb_types.specs.declared.library.State.{State}
use Rattle.fb_types.specs.declared.library.Transition.{Transition}
use Rattle.fb_types.specs.declared.library.Variable.{Variable}
use Rattle.fb_check_names.specs.PortKinds.{names_of_kind}
use Rattle.fb_check_names.specs.declared.ports.PortKind.{PortKind}
use Rattle.fb_check_names.specs.declared.ports.PortKind.TheVariants as kind
use Rattle.fb_check.specs.types.Checks.{guard_mentions}
use Rattle.fb_check.specs.types.Statements.{each_in_body}
use Rattle.fb_check_names.specs.Sites.{network_at}
use Rattle.fb_check_names.specs.declared.location.Site.{Site}
use Rattle.fb_check_names.specs.declared.location.Site.TheVariants.{Application, Inside}
use Rattle.fb_lint.specs.Charts.{leaves, shadows, runs_in, emits_in}
use Rattle.fb_lint.specs.Circles.{certain_edges}
use Rattle.fb_lint.specs.Constants.{assigns_too_large, divides_in, guard_divides}
use Rattle.fb_lint.specs.Events.{names_event, is_own}
use Rattle.fb_lint.specs.Instances.{has_events, is_early, is_event_reached, is_optional, is_preset, is_reached, is_silent}
use Rattle.fb_lint.specs.Interfaces.{has_with, is_event_used, joins}
use Rattle.fb_lint.specs.Networks.{inputs_of, is_fed, is_used_type, is_crossed, may_stay}
use Rattle.fb_lint.specs.Outputs.{is_read, is_written}
use Rattle.fb_lint.specs.Parameters.{is_given}
use Rattle.fb_lint.specs.Reached.{Edge, Reached, leads}
use Rattle.fb_lint.specs.Reads.{is_variable, is_unsampled, passes_by, runs_at, mentions_of, assigned, is_unassigned}
use Rattle.fb_lint.specs.Statements.{is_repeating, reads_of}
use Rattle.fb_lint.specs.Warnings.{warnings}
use Rattle.fb_lint.specs.declared.warning.Warning.{Warning}
use Rattle.fb_lint.specs.declared.warning.Warning.TheVariants.{UnsampledInput, UnfedInput, UnsampledInGuard, UnsampledInAlgorithm, UnreachedState, FinalState, ShadowedTransition, UnnamedEvent, UnusedAlgorithm, UnusedType, UnusedPort, UnassignedEvent, UnusedLink, UnsentOutput, UnreachedInstance, UnreachedEvent, UnheldConstant, ZeroDivisor, ZeroDivisorInGuard, EndlessState, SilentSource, RepeatedLabel, UnreadInternal, EarlyStimulus}

-- an element of a list by its index
abbrev pub IsAt : {A : Type 0} → List A → ℕ → A → Type 0
IsAt xs k x = slice_get xs k ≡ Some x

-- a basic type by its index
abbrev pub IsBasic : Library → (block : ℕ) → BasicType → Type 0
IsBasic lib b t = IsAt lib.blocks b (block.Basic t)

-- L01: none of the event inputs has the data input WITH it, and not each instance of the type gives it a parameter.
pub record IsUnsampled (lib : Library) (b k : ℕ) : Type 0 where
  pub type : BlockType
  pub found : IsAt lib.blocks b type
  pub input : Variable
  pub at : IsAt (ports_of (kind_of type)).inputs k input
  pub none : list_any (has_with input.name) (ports_of (kind_of type)).event_inputs ≡ false
  pub not_given : is_given lib (type_name type) input.name ≡ false

-- the stimuli of a network: those of the application set its instances
abbrev pub stimuli_at : Site → List Stimulus → List Stimulus
stimuli_at Application ss = ss
stimuli_at (Inside b) ss = []

-- L02: the data input of the instance has no source, no parameter and no stimulus, and may not stay as it begins.
pub record IsUnfed (lib : Library) (ss : List Stimulus) (s : Site) (i k : ℕ) : Type 0 where
  pub network : OwnedNetwork
  pub there : network_at lib s ≡ Some network
  pub instance : Instance
  pub found : IsAt network.1.instances i instance
  pub input : Variable
  pub at : IsAt (inputs_of (option_map ports_of (type_named lib instance.block_type))) k input
  pub none : is_fed network.1.data_connections (stimuli_at s ss) instance input.name ≡ false
  pub needed : may_stay network.1.data_connections instance input ≡ false

-- L03: the guard of the transition names the data input, and its event does not sample it.
pub record IsGuardUnsampled (lib : Library) (b x k : ℕ) : Type 0 where
  pub type : BasicType
  pub found : IsBasic lib b type
  pub transition : Transition
  pub at : IsAt type.transitions x transition
  pub input : Variable
  pub input_at : IsAt type.ports.inputs k input
  pub named : list_any (is_variable input.name) (guard_mentions transition) ≡ true
  pub unsampled : is_unsampled type.ports.event_inputs transition.condition.event input.name ≡ true
  pub not_given : is_given lib type.name input.name ≡ false

-- L04: the algorithm names the data input, an event that does not sample it leads by a transition to a state that runs it, and
-- transitions without an event that samples it lead from the first state to this transition.
pub record IsAlgorithmUnsampled (lib : Library) (b a k : ℕ) : Type 0 where
  pub type : BasicType
  pub found : IsBasic lib b type
  pub algorithm : Algorithm
  pub at : IsAt type.algorithms a algorithm
  pub input : Variable
  pub input_at : IsAt type.ports.inputs k input
  pub named : list_any (is_variable input.name) (mentions_body (body_of algorithm.body)) ≡ true
  pub transition : Transition
  pub is_one : Contains type.transitions transition
  pub unsampled : is_unsampled type.ports.event_inputs transition.condition.event input.name ≡ true
  pub runs : list_any (runs_at algorithm.name transition.to) type.states ≡ true
  pub initial : State
  pub first : first_of type.states ≡ Some initial
  pub reached : Reached (filter (passes_by type.ports.event_inputs input.name) type.transitions) initial.name transition.from
  pub not_given : is_given lib type.name input.name ≡ false

-- L05: the state is not reached from the first one.
pub record IsUnreached (lib : Library) (b k : ℕ) : Type 0 where
  pub type : BasicType
  pub found : IsBasic lib b type
  pub initial : State
  pub first : first_of type.states ≡ Some initial
  pub state : State
  pub at : IsAt type.states k state
  pub none : ¬ (Reached type.transitions initial.name state.name)

-- L06: no transition leaves the state.
pub record IsFinal (lib : Library) (b k : ℕ) : Type 0 where
  pub type : BasicType
  pub found : IsBasic lib b type
  pub state : State
  pub at : IsAt type.states k state
  pub none : list_any (leaves state.name) type.transitions ≡ false

-- L07: an earlier transition shadows it.
pub record IsShadowed (lib : Library) (b k : ℕ) : Type 0 where
  pub type : BasicType
  pub found : IsBasic lib b type
  pub transition : Transition
  pub at : IsAt type.transitions k transition
  pub index : ℕ
  pub before : index < k
  pub earlier : Transition
  pub earlier_at : IsAt type.transitions index earlier
  pub shadowed : shadows transition earlier ≡ true

-- L08: no transition names the event, and it does not alone sample a variable that an algorithm or a guard names.
pub record IsUnnamed (lib : Library) (b k : ℕ) : Type 0 where
  pub type : BasicType
  pub found : IsBasic lib b type
  pub event : EventPort
  pub at : IsAt type.ports.event_inputs k event
  pub none : list_any (names_event event.name) type.transitions ≡ false
  pub samples_none : list_any (is_own type.ports.event_inputs (mentions_of type.algorithms type.transitions) event.name) event.with ≡ false

-- L09: no state runs the algorithm.
pub record IsUnusedAlgorithm (lib : Library) (b k : ℕ) : Type 0 where
  pub type : BasicType
  pub found : IsBasic lib b type
  pub algorithm : Algorithm
  pub at : IsAt type.algorithms k algorithm
  pub none : list_any (runs_in algorithm.name) type.states ≡ false

-- L10: no network has an instance of the type.
pub record IsUnusedType (lib : Library) (b : ℕ) : Type 0 where
  pub type : BlockType
  pub found : IsAt lib.blocks b type
  pub none : is_used_type lib (type_name type) ≡ false

-- the event input, if there is one, is used inside a composite type
abbrev pub is_used_event : CompositeType → Option EventPort → Bool
is_used_event t None = true
is_used_event t (Some e) = is_event_used t.network.event_connections t.network.data_connections e

-- the port with this index and this name is used in a block type
abbrev pub is_used_in : BlockType → PortKind → ℕ → Name → Bool
is_used_in (block.Composite t) kind.EventInput k n = is_used_event t (slice_get t.ports.event_inputs k)
is_used_in (block.Composite t) kind.EventOutput k n = list_any (joins kind.EventOutput n) t.network.event_connections
is_used_in (block.Composite t) kind.Input k n = list_any (joins kind.Input n) t.network.data_connections
is_used_in (block.Composite t) kind.Output k n = list_any (joins kind.Output n) t.network.data_connections
is_used_in (block.Basic t) kind.EventInput k n = true
is_used_in (block.Basic t) kind.EventOutput k n = list_any (emits_in n) t.states
is_used_in (block.Basic t) kind.Input k n = list_any (is_variable n) (mentions_of t.algorithms t.transitions)
is_used_in (block.Basic t) kind.Output k n = list_any (is_variable n) (mentions_of t.algorithms t.transitions)

abbrev pub names_of_ports : BlockType → PortKind → List Name
names_of_ports t k = names_of_kind k (ports_of (kind_of t))

-- L11: nothing inside the block type uses the port.
pub record IsUnusedPort (lib : Library) (b : ℕ) (p : PortKind) (k : ℕ) : Type 0 where
  pub type : BlockType
  pub found : IsAt lib.blocks b type
  pub port : Name
  pub at : IsAt (names_of_ports type p) k port
  pub none : is_used_in type p k port ≡ false

-- L12: the output event has data outputs WITH it, and no algorithm assigns one of them.
pub record IsUnassigned (lib : Library) (b k : ℕ) : Type 0 where
  pub type : BasicType
  pub found : IsBasic lib b type
  pub event : EventPort
  pub at : IsAt type.ports.event_outputs k event
  pub none : is_unassigned (assigned type.algorithms) event.with ≡ true

-- L13: no connection of the application crosses the link.
pub record IsUnusedLink (lib : Library) (plan : Plan) (k : ℕ) : Type 0 where
  pub link : Link
  pub at : IsAt plan.links k link
  pub none : is_crossed plan.resources lib.application.network.event_connections lib.application.network.data_connections link ≡ false

-- L14: the data output is used, and none of the event outputs has it WITH it.
pub record IsUnsent (lib : Library) (b k : ℕ) : Type 0 where
  pub type : BlockType
  pub found : IsAt lib.blocks b type
  pub output : Variable
  pub at : IsAt (ports_of (kind_of type)).outputs k output
  pub none : list_any (has_with output.name) (ports_of (kind_of type)).event_outputs ≡ false
  pub used : (is_read lib (type_name type) output.name || is_written type output.name) ≡ true

-- an instance of a network, by its index, and the ports of its type
pub record IsInstance (lib : Library) (s : Site) (i : ℕ) (network : OwnedNetwork) (instance : Instance) (ports : Ports) : Type 0 where
  pub there : network_at lib s ≡ Some network
  pub found : IsAt network.1.instances i instance
  pub type : option_map ports_of (type_named lib instance.block_type) ≡ Some ports

-- L15: the instance has event inputs, and no event connection and no stimulus leads to it.
pub record IsUnreachedInstance (lib : Library) (ss : List Stimulus) (s : Site) (i : ℕ) : Type 0 where
  pub network : OwnedNetwork
  pub instance : Instance
  pub ports : Ports
  pub is : IsInstance lib s i network instance ports
  pub some : has_events ports.event_inputs ≡ true
  pub none : is_reached network.1.event_connections (stimuli_at s ss) instance.name ≡ false

-- L16: nothing leads to the event input of the instance, which needs it, and something leads to the instance.
pub record IsUnreachedEvent (lib : Library) (ss : List Stimulus) (s : Site) (i k : ℕ) : Type 0 where
  pub network : OwnedNetwork
  pub instance : Instance
  pub ports : Ports
  pub is : IsInstance lib s i network instance ports
  pub event : EventPort
  pub at : IsAt ports.event_inputs k event
  pub reached : is_reached network.1.event_connections (stimuli_at s ss) instance.name ≡ true
  pub none : is_event_reached network.1.event_connections (stimuli_at s ss) instance.name event.name ≡ false
  pub needed : is_optional instance.block_type event.name ≡ false
  pub not_preset : is_preset ports.inputs event ≡ false

-- a statement of an algorithm, counted as statements begin in the text
pub record IsStatement (lib : Library) (b a k : ℕ) (type : BasicType) (statement : Stmt) : Type 0 where
  pub found : IsBasic lib b type
  pub algorithm : Algorithm
  pub at : IsAt type.algorithms a algorithm
  pub in_loop : Bool
  pub statement_at : IsAt (each_in_body false (body_of algorithm.body)) k (in_loop, statement)

-- L17: the statement assigns a constant, and the variable's type does not contain it.
pub record IsUnheld (lib : Library) (b a k : ℕ) : Type 0 where
  pub type : BasicType
  pub statement : Stmt
  pub is : IsStatement lib b a k type statement
  pub too_large : assigns_too_large type statement ≡ true

-- L18: the statement by itself has a division by the constant 0.
pub record IsZeroDivision (lib : Library) (b a k : ℕ) : Type 0 where
  pub type : BasicType
  pub statement : Stmt
  pub is : IsStatement lib b a k type statement
  pub divides : divides_in statement ≡ true

-- L18: the guard has one.
pub record IsZeroGuard (lib : Library) (b x : ℕ) : Type 0 where
  pub type : BasicType
  pub found : IsBasic lib b type
  pub transition : Transition
  pub at : IsAt type.transitions x transition
  pub divides : guard_divides transition ≡ true

-- L19: an edge that always clears leaves the state, and such edges lead back from its end.
pub record IsEndless (lib : Library) (b k : ℕ) : Type 0 where
  pub type : BasicType
  pub found : IsBasic lib b type
  pub state : State
  pub at : IsAt type.states k state
  pub edge : Edge
  pub is_certain : Contains (certain_edges type.transitions) edge
  pub leaves : same_name state.name edge.0 ≡ true
  pub back : leads (certain_edges type.transitions) edge.1 state.name ≡ true

-- L20: the event connection comes from WARM or STOP of an E_RESTART.
pub record IsSilentSource (lib : Library) (s : Site) (k : ℕ) : Type 0 where
  pub network : OwnedNetwork
  pub there : network_at lib s ≡ Some network
  pub connection : Connection
  pub at : IsAt network.1.event_connections k connection
  pub silent : is_silent network.1.instances connection.from ≡ true

-- L21: two labels of the CASE have a value in common.
pub record IsRepeated (lib : Library) (b a k : ℕ) : Type 0 where
  pub type : BasicType
  pub statement : Stmt
  pub is : IsStatement lib b a k type statement
  pub repeated : is_repeating statement ≡ true

-- L22: no guard and no algorithm reads the internal variable.
pub record IsUnread (lib : Library) (b k : ℕ) : Type 0 where
  pub type : BasicType
  pub found : IsBasic lib b type
  pub internal : Variable
  pub at : IsAt type.internals k internal
  pub none : list_any (is_variable internal.name) (reads_of type.algorithms type.transitions) ≡ false

-- L23: the stimulus comes at tick 0 to an instance to which an event from COLD leads.
pub record IsEarly (lib : Library) (ss : List Stimulus) (k : ℕ) : Type 0 where
  pub stimulus : Stimulus
  pub at : IsAt ss k stimulus
  pub first : is_early lib.application.network.instances lib.application.network.event_connections stimulus ≡ true

-- What a warning says.
abbrev pub Holds : Library → Plan → List Stimulus → Warning → Type 0
Holds lib plan ss (UnsampledInput b k) = IsUnsampled lib b k
Holds lib plan ss (UnfedInput s i k) = IsUnfed lib ss s i k
Holds lib plan ss (UnsampledInGuard b x k) = IsGuardUnsampled lib b x k
Holds lib plan ss (UnsampledInAlgorithm b a k) = IsAlgorithmUnsampled lib b a k
Holds lib plan ss (UnreachedState b k) = IsUnreached lib b k
Holds lib plan ss (FinalState b k) = IsFinal lib b k
Holds lib plan ss (ShadowedTransition b k) = IsShadowed lib b k
Holds lib plan ss (UnnamedEvent b k) = IsUnnamed lib b k
Holds lib plan ss (UnusedAlgorithm b k) = IsUnusedAlgorithm lib b k
Holds lib plan ss (UnusedType b) = IsUnusedType lib b
Holds lib plan ss (UnusedPort b p k) = IsUnusedPort lib b p k
Holds lib plan ss (UnassignedEvent b k) = IsUnassigned lib b k
Holds lib plan ss (UnusedLink k) = IsUnusedLink lib plan k
Holds lib plan ss (UnsentOutput b k) = IsUnsent lib b k
Holds lib plan ss (UnreachedInstance s i) = IsUnreachedInstance lib ss s i
Holds lib plan ss (UnreachedEvent s i k) = IsUnreachedEvent lib ss s i k
Holds lib plan ss (UnheldConstant b a k) = IsUnheld lib b a k
Holds lib plan ss (ZeroDivisor b a k) = IsZeroDivision lib b a k
Holds lib plan ss (ZeroDivisorInGuard b x) = IsZeroGuard lib b x
Holds lib plan ss (EndlessState b k) = IsEndless lib b k
Holds lib plan ss (SilentSource s k) = IsSilentSource lib s k
Holds lib plan ss (RepeatedLabel b a k) = IsRepeated lib b a k
Holds lib plan ss (UnreadInternal b k) = IsUnread lib b k
Holds lib plan ss (EarlyStimulus k) = IsEarly lib ss k

-- Each warning holds.
abbrev pub WarningsHold : Type 0
WarningsHold = (lib : Library) (plan : Plan) (ss : List Stimulus) (w : Warning) → Contains (warnings lib plan ss) w → Holds lib plan ss w

-- Each warning that holds is in the list.
abbrev pub WarningsListed : Type 0
WarningsListed = (lib : Library) (plan : Plan) (ss : List Stimulus) (w : Warning) → Holds lib plan ss w → Contains (warnings lib plan ss) w
