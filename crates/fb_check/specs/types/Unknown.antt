-- Where nothing of the required kind has a name (E21): the location, and what is required there (IEC 61499-1, 5 to
-- 7).
use Rattle.std.specs.Prelude.{◌≡◌, ℕ, List, Bool, true, false, ◌&&◌, Option, Some, Contains, slice_get, option_map, option_and_then}
use Rattle.std.specs.List.{list_all, list_any}
use Rattle.fb_types.specs.Names.{Name, same_name}
use Rattle.fb_types.specs.Flat.{resource_names_of}
use Rattle.fb_types.specs.Repeated.{OwnedNetwork, block_type_names, instance_names, algorithm_names, state_names}
use Rattle.fb_types.specs.Unknown.{Required, required_parameters, is_end, event_ins, event_outs, data_ins, data_outs, Mention, mentions_body, is_known}
use Rattle.fb_types.specs.Syntax.{body_of}
use Rattle.fb_types.specs.declared.library.Action.{Action}
use Rattle.fb_types.specs.declared.library.BasicType.{BasicType}
use Rattle.fb_types.specs.declared.library.BlockType.{BlockType}
use Rattle.fb_types.specs.declared.library.Connection.{Connection}
use Rattle.fb_types.specs.declared.library.EventPort.{EventPort}
use Rattle.fb_types.specs.declared.library.Instance.{Instance}
use Rattle.fb_types.specs.declared.library.Library.{Library}
use Rattle.fb_types.specs.declared.library.Ports.{Ports}
use Rattle.fb_types.specs.declared.library.Transition.{Transition}
use Rattle.fb_types.specs.declared.deploy.Link.{Link}
use Rattle.fb_types.specs.declared.deploy.Plan.{Plan}
use Rattle.fb_types.specs.declared.deploy.ResourceEntry.{ResourceEntry}
use Rattle.fb_check.specs.types.Checks.{is_met, all_met, guard_mentions, is_known_block}
use Rattle.fb_check_names.specs.Unknown.{NetworkUnknown}
use Rattle.fb_check_names.specs.Types.{ports_of_block}
use Rattle.fb_check_names.specs.declared.location.FlowKind.{FlowKind}
use Rattle.fb_check_names.specs.declared.location.FlowKind.TheVariants.{Events, Data}
use Rattle.fb_check_names.specs.declared.location.UnknownName.{UnknownName}
use Rattle.fb_check_names.specs.declared.location.UnknownName.TheVariants.{InstanceType, Parameter, End, With, Guard, Mapped, LinkEnd}
use Rattle.fb_check_names.specs.declared.location.UnknownName.TheVariants as location
use Rattle.fb_check_names.specs.declared.location.ActionPart.{ActionPart}
use Rattle.fb_check_names.specs.declared.location.ActionPart.TheVariants.{Algorithm}
use Rattle.fb_check_names.specs.declared.location.ActionPart.TheVariants as actions
use Rattle.fb_check_names.specs.declared.location.Direction.{Direction}
use Rattle.fb_check_names.specs.declared.location.Direction.TheVariants.{Input, Output}
use Rattle.fb_check_names.specs.declared.location.TransitionPart.{TransitionPart}
use Rattle.fb_check_names.specs.declared.location.TransitionPart.TheVariants as part
use Rattle.fb_check_names.specs.declared.location.Side.{Side}
use Rattle.fb_check_names.specs.declared.location.Side.TheVariants.{From, To}
use Rattle.fb_check_names.specs.declared.location.Site.{Site}
use Rattle.fb_check_names.specs.Sites.{basic_at, network_at, network_inside, instance_at, connections_of}

-- ---- Names that are required

abbrev pub type_required : Library → Instance → Required
type_required lib i = (i.block_type, block_type_names lib)

abbrev pub is_type_met : Library → Instance → Bool
is_type_met lib i = is_met (type_required lib i)

-- a parameter, with the data inputs of the instance's type
abbrev pub parameter_required : Library → Instance → ℕ → Option Required
parameter_required lib i p = slice_get (required_parameters lib i) p

abbrev pub are_parameters_met : Library → Instance → Bool
are_parameters_met lib i = all_met (required_parameters lib i)

-- A name is there that is not among those of its kind.
abbrev pub Unmet : Option Required → Type 0
Unmet o = (w : Required) × (o ≡ Some w) × ¬ (Contains w.1 w.0)

abbrev pub UnmetParameter : Library → Instance → ℕ → Type 0
UnmetParameter lib i p = Unmet (parameter_required lib i p)

-- ---- Ends of connections

-- at components, a connection leads from ports of the one kind to ports of the other; at the boundary it is the other way
-- round
abbrev pub outputs_of : FlowKind → Ports → List Name
outputs_of Events = event_outs
outputs_of Data = data_outs

abbrev pub inputs_of : FlowKind → Ports → List Name
inputs_of Events = event_ins
inputs_of Data = data_ins

abbrev pub is_side_known : Library → OwnedNetwork → FlowKind → Side → Connection → Bool
is_side_known lib n f From c = is_end lib n (outputs_of f) (inputs_of f) c.from
is_side_known lib n f To c = is_end lib n (inputs_of f) (outputs_of f) c.to

abbrev pub are_ends_known : Library → OwnedNetwork → FlowKind → Connection → Bool
are_ends_known lib n f c = is_side_known lib n f From c && is_side_known lib n f To c

-- The connection is there, and its end represents no port of the right direction.
pub record IsUnknownEnd (lib : Library) (s : Site) (f : FlowKind) (k : ℕ) (side : Side) : Type 0 where
  pub network : OwnedNetwork
  pub at_index : Connection
  pub at : network_at lib s ≡ Some network
  pub found : slice_get (connections_of f network.1) k ≡ Some at_index
  pub unknown : is_side_known lib network f side at_index ≡ false

-- ---- WITH lists and charts

abbrev pub events_of : Direction → Ports → List EventPort
events_of Input p = p.event_inputs
events_of Output p = p.event_outputs

abbrev pub variables_for : Direction → Ports → List Name
variables_for Input = data_ins
variables_for Output = data_outs

abbrev pub with_required : Ports → Direction → (event variable : ℕ) → Option Required
with_required p d e v = option_and_then (λ x. option_map (λ n. (n, variables_for d p)) (slice_get x.with v)) (slice_get (events_of d p) e)

abbrev pub required_transition : BasicType → Transition → TransitionPart → Option Required
required_transition t x part.From = Some (x.from, state_names t)
required_transition t x part.To = Some (x.to, state_names t)
required_transition t x part.Event = option_map (λ n. (n, event_ins t.ports)) x.condition.event

abbrev pub required_action : BasicType → Action → ActionPart → Option Required
required_action t a Algorithm = option_map (λ n. (n, algorithm_names t)) a.algorithm
required_action t a actions.Output = option_map (λ n. (n, event_outs t.ports)) a.output

-- ---- Expressions and statements

-- The mention with this index among what the type names there is an unknown variable or function.
pub record IsUnknownMention (lib : Library) (b : ℕ) (all : BasicType → Option (List Mention)) (k : ℕ) : Type 0 where
  pub in_type : BasicType
  pub among : List Mention
  pub at_index : Mention
  pub at : basic_at lib b ≡ Some in_type
  pub there : all in_type ≡ Some among
  pub found : slice_get among k ≡ Some at_index
  pub unknown : is_known in_type at_index ≡ false

-- the same for a list of mentions by itself
abbrev pub UnknownAmong : BasicType → List Mention → ℕ → Type 0
UnknownAmong t ms k = (m : Mention) × (slice_get ms k ≡ Some m) × (is_known t m ≡ false)

abbrev pub guard_at : ℕ → BasicType → Option (List Mention)
guard_at x t = option_map guard_mentions (slice_get t.transitions x)

abbrev pub body_at : ℕ → BasicType → Option (List Mention)
body_at a t = option_map (λ a. mentions_body (body_of a.body)) (slice_get t.algorithms a)

-- ---- Locations in a declaration

-- Something is unknown at this location of the declaration.
abbrev pub IsUnknownIn : Library → UnknownName → Type 0
IsUnknownIn lib (InstanceType s i) = Unmet (option_map (type_required lib) (instance_at lib s i))
IsUnknownIn lib (Parameter s i p) = Unmet (option_and_then (λ x. parameter_required lib x p) (instance_at lib s i))
IsUnknownIn lib (End s f k side) = IsUnknownEnd lib s f k side
IsUnknownIn lib (With b d e v) = Unmet (option_and_then (λ t. with_required (ports_of_block t) d e v) (slice_get lib.blocks b))
IsUnknownIn lib (location.Transition b x part) =
    Unmet (option_and_then (λ t. option_and_then (λ y. required_transition t y part) (slice_get t.transitions x)) (basic_at lib b))
IsUnknownIn lib (location.Action b s a part) =
    Unmet (option_and_then (λ t. option_and_then (λ y. option_and_then (λ z. required_action t z part) (slice_get y.actions a)) (slice_get t.states s)) (basic_at lib b))
IsUnknownIn lib (Guard b x m) = IsUnknownMention lib b (guard_at x) m
IsUnknownIn lib (location.Body b a m) = IsUnknownMention lib b (body_at a) m
IsUnknownIn lib _ = ⊥

-- Nothing is unknown in a block type.
pub record IsBlockKnown (lib : Library) (t : BlockType) : Type 0 where
  pub names : is_known_block t ≡ true
  pub network : (n : OwnedNetwork) → network_inside t ≡ Some n → ¬ (NetworkUnknown lib n)

-- ---- Locations in a deployment

-- an instance that a resource lists
abbrev pub mapped_required : Library → Plan → (resource instance : ℕ) → Option Required
mapped_required lib plan r i =
    option_and_then (λ x. option_map (λ n. (n, instance_names lib.application.network)) (slice_get x.instances i)) (slice_get plan.resources r)

abbrev pub side_of : Side → Link → Name
side_of From l = l.from
side_of To l = l.to

abbrev pub link_required : Plan → ℕ → Side → Option Required
link_required plan k side = option_map (λ l. (side_of side l, resource_names_of plan)) (slice_get plan.links k)

-- a name is one of these instances, or of these resources
abbrev pub is_instance : List Instance → Name → Bool
is_instance is n = list_any (λ i. same_name n i.name) is

abbrev pub are_mapped : List Instance → ResourceEntry → Bool
are_mapped is r = list_all (is_instance is) r.instances

abbrev pub is_resource : List ResourceEntry → Name → Bool
is_resource rs n = list_any (λ r. same_name n r.name) rs

abbrev pub are_sides_met : List ResourceEntry → Link → Bool
are_sides_met rs l = is_resource rs l.from && is_resource rs l.to

-- Something is unknown at this location.
abbrev pub IsUnknownAt : Library → Plan → UnknownName → Type 0
IsUnknownAt lib plan (Mapped r i) = Unmet (mapped_required lib plan r i)
IsUnknownAt lib plan (LinkEnd k side) = Unmet (link_required plan k side)
IsUnknownAt lib plan p = IsUnknownIn lib p
