-- E21: nothing of the required kind has the name (IEC 61499-1, 5 to 7).
use Rattle.std.specs.Prelude.{◌≡◌, ◌⊎◌, List, [], ◌∷◌, ◌++◌, map, flat_map, Bool, false, ◌&&◌, Option, Some, None, Contains, is_some, option_and_then}
use Rattle.std.specs.List.{list_all}
use Rattle.fb_types.specs.Names.{Name}
use Rattle.fb_types.specs.Syntax.{Expr, Whole, Truth, Variable, Unary, Binary, Call, Exprs, no_expr, then_exprs, Stmt, Empty, Exit, Return, Assign, If, Case, For, While, Repeat, Stmts, no_stmt, then_stmts, Choices, no_choice, then_choices, Branches, no_branch, then_branches, expr_of, body_of}
use Rattle.fb_types.specs.Values.{function_named}
use Rattle.fb_types.specs.Blocks.{ports_of, event_names, variable_names, variables_of, among}
use Rattle.fb_types.specs.Flat.{instance_in, kind_of_instance, resource_names_of}
use Rattle.fb_types.specs.Repeated.{OwnedNetwork, networks, basics, interfaces, block_type_names, algorithm_names, state_names, instance_names}
use Rattle.fb_types.specs.declared.library.Library.{Library}
use Rattle.fb_types.specs.declared.library.BasicType.{BasicType}
use Rattle.fb_types.specs.declared.library.Network.{Network}
use Rattle.fb_types.specs.declared.library.Instance.{Instance}
use Rattle.fb_types.specs.declared.library.Ports.{Ports}
use Rattle.fb_types.specs.declared.library.State.{State}
use Rattle.fb_types.specs.declared.library.Transition.{Transition}
use Rattle.fb_types.specs.declared.library.PortName.{PortName}
use Rattle.fb_types.specs.declared.deploy.Plan.{Plan}

-- A name, with all names of the kind that is required there.
abbrev pub Required : Type 0
Required = Name × List Name

abbrev pub all_of : List Name → List Name → List Required
all_of ns allowed = map (λ n. (n, allowed)) ns

abbrev pub optional : Option Name → List Name
optional None = []
optional (Some n) = n ∷ []

-- ---- Types, WITH lists and parameters

abbrev pub required_types : Library → Network → List Required
required_types lib net = all_of (map (λ i. i.block_type) net.instances) (block_type_names lib)

abbrev pub required_withs : Ports → List Required
required_withs p =
    flat_map (λ e. all_of e.with (variable_names p.inputs)) p.event_inputs
    ++ flat_map (λ e. all_of e.with (variable_names p.outputs)) p.event_outputs

-- a parameter sets a data input
abbrev pub required_parameters : Library → Instance → List Required
required_parameters lib i =
    elim (kind_of_instance lib i) [
      | None ↦ []
      | Some k ↦ all_of (map (λ x. x.name) i.parameters) (variable_names (ports_of k).inputs)
    ]

-- ---- Charts

abbrev pub required_transition : BasicType → Transition → List Required
required_transition t x =
    (x.from, state_names t) ∷ (x.to, state_names t) ∷ all_of (optional x.condition.event) (event_names t.ports.event_inputs)

abbrev pub required_actions : BasicType → State → List Required
required_actions t s =
    flat_map (λ a. all_of (optional a.algorithm) (algorithm_names t) ++ all_of (optional a.output) (event_names t.ports.event_outputs)) s.actions

abbrev pub required_chart : BasicType → List Required
required_chart t = flat_map (required_transition t) t.transitions ++ flat_map (required_actions t) t.states

-- ---- Deployments

-- mapped instances, and the ends of links
abbrev pub required_deployment : Library → Plan → List Required
required_deployment lib plan =
    flat_map (λ r. all_of r.instances (instance_names lib.application.network)) plan.resources
    ++ flat_map (λ l. all_of (l.from ∷ l.to ∷ []) (resource_names_of plan)) plan.links

abbrev pub required : Library → Plan → List Required
required lib plan =
    flat_map (λ n. required_types lib n.1) (networks lib) ++ flat_map required_withs (interfaces lib)
    ++ flat_map required_chart (basics lib) ++ flat_map (λ n. flat_map (required_parameters lib) n.1.instances) (networks lib)
    ++ required_deployment lib plan

-- ---- Expressions and statements

-- what they name
pub data Mention : Type 0 where
  OfVariable : Name → Mention
  OfFunction : Name → Mention

abbrev mutual
  pub mentions : Expr → List Mention
  mentions (Whole z) = []
  mentions (Truth b) = []
  mentions (Variable n) = OfVariable n ∷ []
  mentions (Unary o e) = mentions e
  mentions (Binary o e f) = mentions e ++ mentions f
  mentions (Call f args) = OfFunction f ∷ mentions_all args

  pub mentions_all : Exprs → List Mention
  mentions_all no_expr = []
  mentions_all (then_exprs e rest) = mentions e ++ mentions_all rest

abbrev mutual
  pub mentions_in : Stmt → List Mention
  mentions_in Empty = []
  mentions_in Exit = []
  mentions_in Return = []
  mentions_in (Assign n e) = OfVariable n ∷ mentions e
  mentions_in (If cs others) = mentions_choices cs ++ mentions_body others
  mentions_in (Case e bs others) = mentions e ++ mentions_branches bs ++ mentions_body others
  mentions_in (For n a b c body) = OfVariable n ∷ mentions a ++ mentions b ++ mentions c ++ mentions_body body
  mentions_in (While c body) = mentions c ++ mentions_body body
  mentions_in (Repeat body c) = mentions_body body ++ mentions c

  pub mentions_body : Stmts → List Mention
  mentions_body no_stmt = []
  mentions_body (then_stmts s rest) = mentions_in s ++ mentions_body rest

  pub mentions_choices : Choices → List Mention
  mentions_choices no_choice = []
  mentions_choices (then_choices c body rest) = mentions c ++ mentions_body body ++ mentions_choices rest

  pub mentions_branches : Branches → List Mention
  mentions_branches no_branch = []
  mentions_branches (then_branches ls body rest) = mentions_body body ++ mentions_branches rest

abbrev pub guards_of : BasicType → List Expr
guards_of t = flat_map (λ x. elim x.condition.guard [ None ↦ [] | Some g ↦ expr_of g ∷ [] ]) t.transitions

abbrev pub mentioned : BasicType → List Mention
mentioned t = flat_map (λ a. mentions_body (body_of a.body)) t.algorithms ++ flat_map mentions (guards_of t)

abbrev pub is_known : BasicType → Mention → Bool
is_known t (OfVariable n) = among (variable_names (variables_of t)) n
is_known t (OfFunction n) = is_some (function_named n)

-- ---- Connections

-- whether the end of a connection is among the ports of the one kind at a component, or of the other at the boundary
abbrev pub is_end : Library → OwnedNetwork → (component boundary : Ports → List Name) → PortName → Bool
is_end lib n component boundary e =
    elim e.component [
      | None ↦ elim n.0 [ None ↦ false | Some t ↦ among (boundary t.ports) e.port ]
      | Some c ↦ elim (option_and_then (kind_of_instance lib) (instance_in n.1 c)) [ None ↦ false | Some k ↦ among (component (ports_of k)) e.port ]
    ]

abbrev pub event_ins : Ports → List Name
event_ins p = event_names p.event_inputs

abbrev pub event_outs : Ports → List Name
event_outs p = event_names p.event_outputs

abbrev pub data_ins : Ports → List Name
data_ins p = variable_names p.inputs

abbrev pub data_outs : Ports → List Name
data_outs p = variable_names p.outputs

-- A connection goes from an output of a component, or an input of the boundary, to an input of a component, or an output of the boundary.
abbrev pub ends_known : Library → OwnedNetwork → Bool
ends_known lib n =
    list_all (λ c. is_end lib n event_outs event_ins c.from && is_end lib n event_ins event_outs c.to) n.1.event_connections
    && list_all (λ c. is_end lib n data_outs data_ins c.from && is_end lib n data_ins data_outs c.to) n.1.data_connections

-- ---- The refusal

abbrev pub NameUnknown : Library → Plan → Type 0
NameUnknown lib plan =
    ((w : Required) × Contains (required lib plan) w × ¬ (Contains w.1 w.0))
    ⊎ ((t : BasicType) × (m : Mention) × Contains (basics lib) t × Contains (mentioned t) m × (is_known t m ≡ false))
    ⊎ ((n : OwnedNetwork) × Contains (networks lib) n × (ends_known lib n ≡ false))
