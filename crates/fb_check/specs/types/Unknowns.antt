-- All locations at which nothing of the required kind has a name (E21), in the order of the declaration: the positions of
-- names, without those at which a name is known.
use Rattle.std.specs.Prelude.{ℕ, Bool, true, List, [], ◌++◌, Option, Some, None}
use Rattle.fb_types.specs.Repeated.{OwnedNetwork}
use Rattle.fb_types.specs.Syntax.{body_of}
use Rattle.fb_types.specs.Unknown.{Required, Mention, is_known, mentions_body, required_parameters}
use Rattle.fb_types.specs.Blocks.{among}
use Rattle.fb_types.specs.Names.{Name}
use Rattle.fb_types.specs.declared.library.Action.{Action}
use Rattle.fb_types.specs.declared.library.Algorithm.{Algorithm}
use Rattle.fb_types.specs.declared.library.BasicType.{BasicType}
use Rattle.fb_types.specs.declared.library.BlockType.{BlockType}
use Rattle.fb_types.specs.declared.library.BlockType.TheVariants as block
use Rattle.fb_types.specs.declared.library.Connection.{Connection}
use Rattle.fb_types.specs.declared.library.EventPort.{EventPort}
use Rattle.fb_types.specs.declared.library.Instance.{Instance}
use Rattle.fb_types.specs.declared.library.Library.{Library}
use Rattle.fb_types.specs.declared.library.Ports.{Ports}
use Rattle.fb_types.specs.declared.library.State.{State}
use Rattle.fb_types.specs.declared.library.Transition.{Transition}
use Rattle.fb_types.specs.declared.deploy.Link.{Link}
use Rattle.fb_types.specs.declared.deploy.Plan.{Plan}
use Rattle.fb_types.specs.declared.deploy.ResourceEntry.{ResourceEntry}
use Rattle.fb_check.specs.types.Checks.{guard_mentions, is_met}
use Rattle.fb_check_names.specs.Types.{ports_of_block}
use Rattle.fb_check.specs.declared.types.basics.Naming.{Naming}
use Rattle.fb_check.specs.declared.types.basics.Naming.TheVariants as naming
use Rattle.fb_check_names.specs.declared.location.ActionPart.TheVariants as actions
use Rattle.fb_check_names.specs.declared.location.Direction.{Direction}
use Rattle.fb_check_names.specs.declared.location.Direction.TheVariants.{Input, Output}
use Rattle.fb_check_names.specs.declared.location.FlowKind.{FlowKind}
use Rattle.fb_check_names.specs.declared.location.FlowKind.TheVariants.{Events, Data}
use Rattle.fb_check_names.specs.declared.location.Side.TheVariants.{From, To}
use Rattle.fb_check_names.specs.declared.location.Site.{Site}
use Rattle.fb_check_names.specs.declared.location.Site.TheVariants.{Application, Inside}
use Rattle.fb_check_names.specs.declared.location.TransitionPart.TheVariants as part
use Rattle.fb_check_names.specs.declared.location.UnknownName.{UnknownName}
use Rattle.fb_check_names.specs.declared.location.UnknownName.TheVariants as location
use Rattle.fb_check_names.specs.Listed.{each_at, unless}
use Rattle.fb_check.specs.types.Unknown.{events_of, is_instance, is_resource, is_side_known, is_type_met, required_action, required_transition, variables_for}

-- a name that may be required
abbrev pub is_optional_met : Option Required → Bool
is_optional_met None = true
is_optional_met (Some w) = is_met w

-- a location at which a name may be required
abbrev pub unmet_at : Option Required → UnknownName → List UnknownName
unmet_at None p = []
unmet_at (Some w) p = unless (is_met w) p

-- ---- Networks

abbrev pub unknown_parameters : Library → Site → ℕ → Instance → List UnknownName
unknown_parameters lib s k i = each_at (λ p w. unless (is_met w) (location.Parameter s k p)) (required_parameters lib i)

-- the type of an instance, and its parameters
abbrev pub unknown_in_instance : Library → Site → ℕ → Instance → List UnknownName
unknown_in_instance lib s k i = unless (is_type_met lib i) (location.InstanceType s k) ++ unknown_parameters lib s k i

-- both ends of a connection
abbrev pub unknown_ends : Library → Site → OwnedNetwork → FlowKind → ℕ → Connection → List UnknownName
unknown_ends lib s n f k c = unless (is_side_known lib n f From c) (location.End s f k From) ++ unless (is_side_known lib n f To c) (location.End s f k To)

abbrev pub unknown_in_network : Library → Site → OwnedNetwork → List UnknownName
unknown_in_network lib s n =
    each_at (unknown_in_instance lib s) n.1.instances
    ++ (each_at (unknown_ends lib s n Events) n.1.event_connections ++ each_at (unknown_ends lib s n Data) n.1.data_connections)

-- ---- Block types

abbrev pub unknown_variables : List Name → ℕ → Direction → ℕ → EventPort → List UnknownName
unknown_variables known b d e x = each_at (λ v n. unless (among known n) (location.With b d e v)) x.with

-- the WITH lists of the event inputs or of the event outputs
abbrev pub unknown_withs : ℕ → Direction → Ports → List UnknownName
unknown_withs b d p = each_at (unknown_variables (variables_for d p) b d) (events_of d p)

-- a guard or an algorithm
abbrev pub mention_in : Naming → ℕ → UnknownName
mention_in (naming.Guard b x) m = location.Guard b x m
mention_in (naming.Body b a) m = location.Body b a m

abbrev pub unknown_mentions : BasicType → Naming → List Mention → List UnknownName
unknown_mentions t text ms = each_at (λ m x. unless (is_known t x) (mention_in text m)) ms

abbrev pub unknown_names : BasicType → ℕ → ℕ → Transition → List UnknownName
unknown_names t b k x =
    unmet_at (required_transition t x part.From) (location.Transition b k part.From)
    ++ (unmet_at (required_transition t x part.To) (location.Transition b k part.To)
    ++ unmet_at (required_transition t x part.Event) (location.Transition b k part.Event))

-- the names of a transition, and what its guard names
abbrev pub unknown_in_transition : BasicType → ℕ → ℕ → Transition → List UnknownName
unknown_in_transition t b k x = unknown_names t b k x ++ unknown_mentions t (naming.Guard b k) (guard_mentions x)

abbrev pub unknown_in_action : BasicType → ℕ → ℕ → ℕ → Action → List UnknownName
unknown_in_action t b s k a =
    unmet_at (required_action t a actions.Algorithm) (location.Action b s k actions.Algorithm)
    ++ unmet_at (required_action t a actions.Output) (location.Action b s k actions.Output)

abbrev pub unknown_in_state : BasicType → ℕ → ℕ → State → List UnknownName
unknown_in_state t b k s = each_at (unknown_in_action t b k) s.actions

abbrev pub unknown_in_body : BasicType → ℕ → ℕ → Algorithm → List UnknownName
unknown_in_body t b k a = unknown_mentions t (naming.Body b k) (mentions_body (body_of a.body))

abbrev pub unknown_in_chart : BasicType → ℕ → List UnknownName
unknown_in_chart t b =
    each_at (unknown_in_state t b) t.states ++ (each_at (unknown_in_transition t b) t.transitions ++ each_at (unknown_in_body t b) t.algorithms)

-- the chart and the algorithms of a basic type, or the network of a composite type
abbrev pub unknown_inside : Library → ℕ → BlockType → List UnknownName
unknown_inside lib b (block.Basic t) = unknown_in_chart t b
unknown_inside lib b (block.Composite t) = unknown_in_network lib (Inside b) (Some t, t.network)

abbrev pub unknown_in_block : Library → ℕ → BlockType → List UnknownName
unknown_in_block lib b t = unknown_withs b Input (ports_of_block t) ++ (unknown_withs b Output (ports_of_block t) ++ unknown_inside lib b t)

-- ---- Deployments

abbrev pub unknown_mapped : List Instance → ℕ → ResourceEntry → List UnknownName
unknown_mapped is r x = each_at (λ k n. unless (is_instance is n) (location.Mapped r k)) x.instances

abbrev pub unknown_sides : List ResourceEntry → ℕ → Link → List UnknownName
unknown_sides rs k l = unless (is_resource rs l.from) (location.LinkEnd k From) ++ unless (is_resource rs l.to) (location.LinkEnd k To)

abbrev pub unknown_in_deployment : Library → Plan → List UnknownName
unknown_in_deployment lib plan =
    each_at (unknown_mapped lib.application.network.instances) plan.resources ++ each_at (unknown_sides plan.resources) plan.links

-- ---- All

-- the block types, the application, and the deployment
abbrev pub unknown_all : Library → Plan → List UnknownName
unknown_all lib plan =
    each_at (unknown_in_block lib) lib.blocks
    ++ (unknown_in_network lib Application (None, lib.application.network) ++ unknown_in_deployment lib plan)
