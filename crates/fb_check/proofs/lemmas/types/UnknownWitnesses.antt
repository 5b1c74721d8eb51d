-- The list of all unknown names has exactly the locations at which a name is unknown.
use Rattle.fb_check.proofs.lemmas.Common.{◌≡◌, ◌&&◌, ℕ, true, List, [], ◌++◌, Option, Some, None, refl, ◌∙◌, ap, subst, All, slice_get, option_map, option_and_then, list_all, All-append, list_all-append, same_Some, among, Name, OwnedNetwork, algorithm_names, state_names, Mention, NameUnknown, Required, data_ins, data_outs, event_ins, is_known, mentions_body, required_chart, required_parameters, required_withs, body_of, Action, Algorithm, BasicType, BlockType, Connection, EventPort, Instance, Library, Transition, Plan, State, actions_met, all_met, guard_mentions, is_met, transition_met, with_inputs, with_outputs, ports_of_block, Naming, Direction, Input, Output, FlowKind, Events, Data, From, To, Site, Application, Inside, UnknownName, each_at, unless, basic_at, connections_of, network_at, IsUnknownAt, Unmet, events_of, is_instance, is_resource, is_side_known, is_type_met, required_action, required_transition, variables_for, mention_in, unknown_all, unknown_ends, unknown_in_action, unknown_in_block, unknown_in_body, unknown_in_instance, unknown_in_network, unknown_in_state, unknown_in_transition, unknown_mentions, unknown_parameters, unknown_variables, unknown_withs}
use Rattle.fb_types.proofs.Common.{All-weaker, all_of, event_outs, mentioned}
use Rattle.fb_types.specs.Unknown.{optional}
use Rattle.fb_types.specs.declared.library.BlockType.TheVariants as block
use Rattle.fb_check.specs.types.Checks.{action_met, all_known, body_known, guard_known, is_known_chart}
use Rattle.fb_check.proofs.lemmas.types.Checks.{mentions_met}
use Rattle.fb_check_names.specs.Unknown.{DeploymentUnknown, NetworkUnknown}
use Rattle.fb_check.specs.declared.types.basics.Naming.TheVariants as naming
use Rattle.fb_check_names.specs.declared.location.ActionPart.TheVariants as actions
use Rattle.fb_check_names.specs.declared.location.TransitionPart.TheVariants as part
use Rattle.fb_check_names.specs.declared.location.UnknownName.TheVariants as location
use Rattle.fb_check_names.specs.Sites.{basic_inside, network_inside}
use Rattle.fb_check.specs.types.Unknown.{IsBlockKnown, IsUnknownIn, UnknownAmong, are_ends_known, are_mapped, are_parameters_met, are_sides_met, body_at, guard_at}
use Rattle.fb_check.specs.types.Unknowns.{unknown_in_chart, unknown_in_deployment, unknown_inside, unknown_mapped, unknown_names, unknown_sides, unmet_at}
use Rattle.fb_check.proofs.lemmas.types.AllLocations.{in_declaration, name_known}
use Rattle.fb_check.proofs.lemmas.types.BlockLocations.{action_location, chart_known, mention_location, transition_location, with_location, withs_known}
use Rattle.fb_check.proofs.lemmas.types.DeploymentLocations.{deployment_known, link_location, mapped_location}
use Rattle.fb_check_names.proofs.lemmas.Listing.{all_each, all_unless, none_each, none_each_of, none_left, none_right, none_unless}
use Rattle.fb_check.proofs.lemmas.types.NetworkLocations.{end_location, network_known, parameter_location, type_location, unmet_is}

-- ---- One location

unmet_of : (P : UnknownName → Type 0) (o : Option Required) (p : UnknownName) → (Unmet o → P p) → All P (unmet_at o p)
unmet_of P None p h = all_unless P true p (λ e. absurd (cc))
unmet_of P (Some w) p h = all_unless P (is_met w) p (λ e. h (w, refl, unmet_is w e))

-- ---- Each is a witness

each_in_network : (lib : Library) (s : Site) (n : OwnedNetwork) → network_at lib s ≡ Some n → All (IsUnknownIn lib) (unknown_in_network lib s n)
each_in_network lib s n at =
    let P : UnknownName → Type 0 = IsUnknownIn lib in
    let ends : (f : FlowKind) → All P (each_at (unknown_ends lib s n f) (connections_of f n.1)) =
    λ f. all_each P (unknown_ends lib s n f) (connections_of f n.1)
    (λ k c found.
    All-append P (unless (is_side_known lib n f From c) (location.End s f k From)) (unless (is_side_known lib n f To c) (location.End s f k To))
    (all_unless P (is_side_known lib n f From c) (location.End s f k From) (end_location lib s n f k From c at found))
    (all_unless P (is_side_known lib n f To c) (location.End s f k To) (end_location lib s n f k To c at found))) in
    All-append P (each_at (unknown_in_instance lib s) n.1.instances) (each_at (unknown_ends lib s n Events) n.1.event_connections ++ each_at (unknown_ends lib s n Data) n.1.data_connections)
    (all_each P (unknown_in_instance lib s) n.1.instances
    (λ k i found.
    All-append P (unless (is_type_met lib i) (location.InstanceType s k)) (unknown_parameters lib s k i)
    (all_unless P (is_type_met lib i) (location.InstanceType s k) (type_location lib s n k i at found))
    (all_each P (λ p w. unless (is_met w) (location.Parameter s k p)) (required_parameters lib i)
    (λ p w required. all_unless P (is_met w) (location.Parameter s k p) (λ e. parameter_location lib s n k p i at found (w, required, unmet_is w e))))))
    (All-append P (each_at (unknown_ends lib s n Events) n.1.event_connections) (each_at (unknown_ends lib s n Data) n.1.data_connections) (ends Events) (ends Data))

each_in_withs : (lib : Library) (b : ℕ) (t : BlockType) (d : Direction) → slice_get lib.blocks b ≡ Some t → All (IsUnknownIn lib) (unknown_withs b d (ports_of_block t))
each_in_withs lib b t d at =
    let P : UnknownName → Type 0 = IsUnknownIn lib in
    let p = ports_of_block t in
    all_each P (unknown_variables (variables_for d p) b d) (events_of d p)
    (λ e x found. all_each P (λ v n. unless (among (variables_for d p) n) (location.With b d e v)) x.with
    (λ v n there. all_unless P (among (variables_for d p) n) (location.With b d e v)
    (λ fails. with_location lib b t d p (events_of d p) (e, v) at refl refl (x, found, (n, there, fails)))))

each_mention :
    (lib : Library) (b : ℕ) (t : BasicType) (text : Naming) (ms : List Mention) → ((m : ℕ) → UnknownAmong t ms m → IsUnknownIn lib (mention_in text m))
    → All (IsUnknownIn lib) (unknown_mentions t text ms)
each_mention lib b t text ms h =
    let P : UnknownName → Type 0 = IsUnknownIn lib in
    all_each P (λ m x. unless (is_known t x) (mention_in text m)) ms (λ m x found. all_unless P (is_known t x) (mention_in text m) (λ e. h m (x, found, e)))

each_in_chart : (lib : Library) (b : ℕ) (t : BasicType) → basic_at lib b ≡ Some t → All (IsUnknownIn lib) (unknown_in_chart t b)
each_in_chart lib b t at =
    let P : UnknownName → Type 0 = IsUnknownIn lib in
    All-append P (each_at (unknown_in_state t b) t.states) (each_at (unknown_in_transition t b) t.transitions ++ each_at (unknown_in_body t b) t.algorithms)
    (all_each P (unknown_in_state t b) t.states
    (λ k s found. all_each P (unknown_in_action t b k) s.actions
    (λ j a there.
    All-append P (unmet_at (required_action t a actions.Algorithm) (location.Action b k j actions.Algorithm)) (unmet_at (required_action t a actions.Output) (location.Action b k j actions.Output))
    (unmet_of P (required_action t a actions.Algorithm) (location.Action b k j actions.Algorithm)
    (λ u. action_location lib b t t.states (k, (j, actions.Algorithm)) at refl (s, found, (a, there, u))))
    (unmet_of P (required_action t a actions.Output) (location.Action b k j actions.Output)
    (λ u. action_location lib b t t.states (k, (j, actions.Output)) at refl (s, found, (a, there, u)))))))
    (All-append P (each_at (unknown_in_transition t b) t.transitions) (each_at (unknown_in_body t b) t.algorithms)
    (all_each P (unknown_in_transition t b) t.transitions
    (λ k x found.
    All-append P (unknown_names t b k x) (unknown_mentions t (naming.Guard b k) (guard_mentions x))
    (All-append P (unmet_at (required_transition t x part.From) (location.Transition b k part.From))
    (unmet_at (required_transition t x part.To) (location.Transition b k part.To) ++ unmet_at (required_transition t x part.Event) (location.Transition b k part.Event))
    (unmet_of P (required_transition t x part.From) (location.Transition b k part.From) (λ u. transition_location lib b t t.transitions (k, part.From) at refl (x, found, u)))
    (All-append P (unmet_at (required_transition t x part.To) (location.Transition b k part.To)) (unmet_at (required_transition t x part.Event) (location.Transition b k part.Event))
    (unmet_of P (required_transition t x part.To) (location.Transition b k part.To) (λ u. transition_location lib b t t.transitions (k, part.To) at refl (x, found, u)))
    (unmet_of P (required_transition t x part.Event) (location.Transition b k part.Event) (λ u. transition_location lib b t t.transitions (k, part.Event) at refl (x, found, u)))))
    (each_mention lib b t (naming.Guard b k) (guard_mentions x)
    (λ m h. mention_location lib b t (guard_at k) (guard_mentions x) m at (ap (option_map guard_mentions) found) h))))
    (all_each P (unknown_in_body t b) t.algorithms
    (λ k a found. each_mention lib b t (naming.Body b k) (mentions_body (body_of a.body))
    (λ m h. mention_location lib b t (body_at k) (mentions_body (body_of a.body)) m at (ap (option_map (λ (a : Algorithm). mentions_body (body_of a.body))) found) h))))

pub basic_there : (lib : Library) (b : ℕ) (t : BasicType) → slice_get lib.blocks b ≡ Some (block.Basic t) → basic_at lib b ≡ Some t
basic_there lib b t at = ap (option_and_then basic_inside) at

pub network_there : (lib : Library) (b : ℕ) (t : BlockType) (n : OwnedNetwork) → slice_get lib.blocks b ≡ Some t → network_inside t ≡ Some n → network_at lib (Inside b) ≡ Some n
network_there lib b t n at inside = ap (option_and_then network_inside) at ∙ inside

each_inside : (lib : Library) (b : ℕ) (t : BlockType) → slice_get lib.blocks b ≡ Some t → All (IsUnknownIn lib) (unknown_inside lib b t)
each_inside lib b (block.Basic t) at = each_in_chart lib b t (basic_there lib b t at)
each_inside lib b (block.Composite t) at = each_in_network lib (Inside b) (Some t, t.network) (network_there lib b (block.Composite t) (Some t, t.network) at refl)

each_in_block : (lib : Library) (b : ℕ) (t : BlockType) → slice_get lib.blocks b ≡ Some t → All (IsUnknownIn lib) (unknown_in_block lib b t)
each_in_block lib b t at =
    let P : UnknownName → Type 0 = IsUnknownIn lib in
    let p = ports_of_block t in
    All-append P (unknown_withs b Input p) (unknown_withs b Output p ++ unknown_inside lib b t) (each_in_withs lib b t Input at)
    (All-append P (unknown_withs b Output p) (unknown_inside lib b t) (each_in_withs lib b t Output at) (each_inside lib b t at))

each_in_deployment : (lib : Library) (plan : Plan) → All (IsUnknownAt lib plan) (unknown_in_deployment lib plan)
each_in_deployment lib plan =
    let P : UnknownName → Type 0 = IsUnknownAt lib plan in
    let is = lib.application.network.instances in
    let rs = plan.resources in
    All-append P (each_at (unknown_mapped is) rs) (each_at (unknown_sides rs) plan.links)
    (all_each P (unknown_mapped is) rs
    (λ r x found. all_each P (λ k n. unless (is_instance is n) (location.Mapped r k)) x.instances
    (λ k n there. all_unless P (is_instance is n) (location.Mapped r k) (λ e. mapped_location lib plan is rs (r, k) refl refl (x, found, (n, there, e))))))
    (all_each P (unknown_sides rs) plan.links
    (λ k l found.
    All-append P (unless (is_resource rs l.from) (location.LinkEnd k From)) (unless (is_resource rs l.to) (location.LinkEnd k To))
    (all_unless P (is_resource rs l.from) (location.LinkEnd k From) (λ e. link_location plan rs plan.links (k, From) refl refl (l, found, e)))
    (all_unless P (is_resource rs l.to) (location.LinkEnd k To) (λ e. link_location plan rs plan.links (k, To) refl refl (l, found, e)))))

pub each_unknown : (lib : Library) (plan : Plan) → All (IsUnknownAt lib plan) (unknown_all lib plan)
each_unknown lib plan =
    let P : UnknownName → Type 0 = IsUnknownAt lib plan in
    let of_application : OwnedNetwork = (None, lib.application.network) in
    All-append P (each_at (unknown_in_block lib) lib.blocks) (unknown_in_network lib Application of_application ++ unknown_in_deployment lib plan)
    (all_each P (unknown_in_block lib) lib.blocks (λ b t at. All-weaker (IsUnknownIn lib) P (in_declaration lib plan) (unknown_in_block lib b t) (each_in_block lib b t at)))
    (All-append P (unknown_in_network lib Application of_application) (unknown_in_deployment lib plan)
    (All-weaker (IsUnknownIn lib) P (in_declaration lib plan) (unknown_in_network lib Application of_application) (each_in_network lib Application of_application refl))
    (each_in_deployment lib plan))

-- ---- If there is none, each name is known

pub none_in_instance : (lib : Library) (s : Site) (k : ℕ) (i : Instance) → unknown_in_instance lib s k i ≡ [] → is_type_met lib i ≡ true
none_in_instance lib s k i h = none_unless (is_type_met lib i) (location.InstanceType s k) (none_left (unless (is_type_met lib i) (location.InstanceType s k)) (unknown_parameters lib s k i) h)

pub none_in_parameters : (lib : Library) (s : Site) (k : ℕ) (i : Instance) → unknown_in_instance lib s k i ≡ [] → are_parameters_met lib i ≡ true
none_in_parameters lib s k i h =
    none_each (λ p w. unless (is_met w) (location.Parameter s k p)) is_met (required_parameters lib i) (λ p w e. none_unless (is_met w) (location.Parameter s k p) e)
    (none_right (unless (is_type_met lib i) (location.InstanceType s k)) (unknown_parameters lib s k i) h)

pub none_in_ends : (lib : Library) (s : Site) (n : OwnedNetwork) (f : FlowKind) (k : ℕ) (c : Connection) → unknown_ends lib s n f k c ≡ [] → are_ends_known lib n f c ≡ true
none_in_ends lib s n f k c h =
    let from = unless (is_side_known lib n f From c) (location.End s f k From) in
    let to = unless (is_side_known lib n f To c) (location.End s f k To) in
    let a : is_side_known lib n f From c ≡ true = none_unless (is_side_known lib n f From c) (location.End s f k From) (none_left from to h) in
    let b : is_side_known lib n f To c ≡ true = none_unless (is_side_known lib n f To c) (location.End s f k To) (none_right from to h) in
    λ i. a i && b i

none_in_network : (lib : Library) (s : Site) (n : OwnedNetwork) → unknown_in_network lib s n ≡ [] → ¬ (NetworkUnknown lib n)
none_in_network lib s n h =
    let instances = each_at (unknown_in_instance lib s) n.1.instances in
    let events = each_at (unknown_ends lib s n Events) n.1.event_connections in
    let values = each_at (unknown_ends lib s n Data) n.1.data_connections in
    let first : instances ≡ [] = none_left instances (events ++ values) h in
    let rest : events ++ values ≡ [] = none_right instances (events ++ values) h in
    network_known lib n
    (none_each (unknown_in_instance lib s) (is_type_met lib) n.1.instances (none_in_instance lib s) first)
    (none_each (unknown_in_instance lib s) (are_parameters_met lib) n.1.instances (none_in_parameters lib s) first)
    (none_each (unknown_ends lib s n Events) (are_ends_known lib n Events) n.1.event_connections (none_in_ends lib s n Events) (none_left events values rest))
    (none_each (unknown_ends lib s n Data) (are_ends_known lib n Data) n.1.data_connections (none_in_ends lib s n Data) (none_right events values rest))

none_in_variables : (known : List Name) (b : ℕ) (d : Direction) (e : ℕ) (x : EventPort) → unknown_variables known b d e x ≡ [] → list_all (among known) x.with ≡ true
none_in_variables known b d e x h =
    none_each (λ v n. unless (among known n) (location.With b d e v)) (among known) x.with (λ v n fails. none_unless (among known n) (location.With b d e v) fails) h

none_mention : (t : BasicType) (text : Naming) (ms : List Mention) → unknown_mentions t text ms ≡ [] → list_all (is_known t) ms ≡ true
none_mention t text ms h = none_each (λ m x. unless (is_known t x) (mention_in text m)) (is_known t) ms (λ m x e. none_unless (is_known t x) (mention_in text m) e) h

optional_met : (o : Option Name) (ns : List Name) (p : UnknownName) → unmet_at (option_map (λ n. (n, ns)) o) p ≡ [] → all_met (all_of (optional o) ns) ≡ true
optional_met None ns p h = refl
optional_met (Some n) ns p h = (λ i. none_unless (among ns n) p h i && true)

none_in_transition : (t : BasicType) (b k : ℕ) (x : Transition) → unknown_in_transition t b k x ≡ [] → transition_met t x ≡ true
none_in_transition t b k x h =
    let names = unknown_names t b k x in
    let from = unmet_at (required_transition t x part.From) (location.Transition b k part.From) in
    let to = unmet_at (required_transition t x part.To) (location.Transition b k part.To) in
    let event = unmet_at (required_transition t x part.Event) (location.Transition b k part.Event) in
    let all : names ≡ [] = none_left names (unknown_mentions t (naming.Guard b k) (guard_mentions x)) h in
    let rest : to ++ event ≡ [] = none_right from (to ++ event) all in
    λ i. none_unless (among (state_names t) x.from) (location.Transition b k part.From) (none_left from (to ++ event) all) i
    && (none_unless (among (state_names t) x.to) (location.Transition b k part.To) (none_left to event rest) i
    && optional_met x.condition.event (event_ins t.ports) (location.Transition b k part.Event) (none_right to event rest) i)

none_in_guard : (t : BasicType) (b k : ℕ) (x : Transition) → unknown_in_transition t b k x ≡ [] → guard_known t x ≡ true
none_in_guard t b k x h =
    none_mention t (naming.Guard b k) (guard_mentions x) (none_right (unknown_names t b k x) (unknown_mentions t (naming.Guard b k) (guard_mentions x)) h)

none_in_action : (t : BasicType) (b s k : ℕ) (a : Action) → unknown_in_action t b s k a ≡ [] → action_met t a ≡ true
none_in_action t b s k a h =
    let first = unmet_at (required_action t a actions.Algorithm) (location.Action b s k actions.Algorithm) in
    let last = unmet_at (required_action t a actions.Output) (location.Action b s k actions.Output) in
    list_all-append is_met (all_of (optional a.algorithm) (algorithm_names t)) (all_of (optional a.output) (event_outs t.ports))
    ∙ (λ i. optional_met a.algorithm (algorithm_names t) (location.Action b s k actions.Algorithm) (none_left first last h) i
    && optional_met a.output (event_outs t.ports) (location.Action b s k actions.Output) (none_right first last h) i)

none_in_state : (t : BasicType) (b k : ℕ) (s : State) → unknown_in_state t b k s ≡ [] → actions_met t s ≡ true
none_in_state t b k s h = none_each (unknown_in_action t b k) (action_met t) s.actions (none_in_action t b k) h

none_in_chart : (t : BasicType) (b : ℕ) → unknown_in_chart t b ≡ [] → (all_met (required_chart t) && all_known t (mentioned t)) ≡ true
none_in_chart t b h =
    let states = each_at (unknown_in_state t b) t.states in
    let transitions = each_at (unknown_in_transition t b) t.transitions in
    let bodies = each_at (unknown_in_body t b) t.algorithms in
    let rest : transitions ++ bodies ≡ [] = none_right states (transitions ++ bodies) h in
    let met : all_met (required_chart t) ≡ true =
    chart_known t (none_each (unknown_in_transition t b) (transition_met t) t.transitions (none_in_transition t b) (none_left transitions bodies rest))
    (none_each (unknown_in_state t b) (actions_met t) t.states (none_in_state t b) (none_left states (transitions ++ bodies) h)) in
    let of_bodies : list_all (body_known t) t.algorithms ≡ true =
    none_each (unknown_in_body t b) (body_known t) t.algorithms (λ k a e. none_mention t (naming.Body b k) (mentions_body (body_of a.body)) e) (none_right transitions bodies rest) in
    let of_guards : list_all (guard_known t) t.transitions ≡ true =
    none_each (unknown_in_transition t b) (guard_known t) t.transitions (none_in_guard t b) (none_left transitions bodies rest) in
    let known : all_known t (mentioned t) ≡ true = mentions_met t ∙ (λ i. of_bodies i && of_guards i) in
    λ i. met i && known i

none_inside : (lib : Library) (b : ℕ) (t : BlockType) → unknown_inside lib b t ≡ [] → is_known_chart t ≡ true
none_inside lib b (block.Basic t) h = none_in_chart t b h
none_inside lib b (block.Composite t) h = refl

none_around : (lib : Library) (b : ℕ) (t : BlockType) → unknown_inside lib b t ≡ [] → (n : OwnedNetwork) → network_inside t ≡ Some n → ¬ (NetworkUnknown lib n)
none_around lib b (block.Basic t) h n e = absurd (cc)
none_around lib b (block.Composite t) h n e =
    subst (λ (n : OwnedNetwork). ¬ (NetworkUnknown lib n)) (same_Some (Some t, t.network) n e) (none_in_network lib (Inside b) (Some t, t.network) h)

none_in_block : (lib : Library) (b : ℕ) (t : BlockType) → unknown_in_block lib b t ≡ [] → IsBlockKnown lib t
none_in_block lib b t h =
    let p = ports_of_block t in
    let ins = unknown_withs b Input p in
    let outs = unknown_withs b Output p in
    let inside = unknown_inside lib b t in
    let rest : outs ++ inside ≡ [] = none_right ins (outs ++ inside) h in
    let withs : all_met (required_withs p) ≡ true =
    withs_known p (none_each (unknown_variables (data_ins p) b Input) (with_inputs p) p.event_inputs (none_in_variables (data_ins p) b Input) (none_left ins (outs ++ inside) h))
    (none_each (unknown_variables (data_outs p) b Output) (with_outputs p) p.event_outputs (none_in_variables (data_outs p) b Output) (none_left outs inside rest)) in
    let chart : is_known_chart t ≡ true = none_inside lib b t (none_right outs inside rest) in
    record { names = λ i. withs i && chart i; network = none_around lib b t (none_right outs inside rest) }

none_in_deployment : (lib : Library) (plan : Plan) → unknown_in_deployment lib plan ≡ [] → ¬ (DeploymentUnknown lib plan)
none_in_deployment lib plan h =
    let is = lib.application.network.instances in
    let rs = plan.resources in
    let lists = each_at (unknown_mapped is) rs in
    let ends = each_at (unknown_sides rs) plan.links in
    deployment_known lib plan is rs plan.links refl refl refl
    (none_each (unknown_mapped is) (are_mapped is) rs
    (λ r x e. none_each (λ k n. unless (is_instance is n) (location.Mapped r k)) (is_instance is) x.instances (λ k n f. none_unless (is_instance is n) (location.Mapped r k) f) e)
    (none_left lists ends h))
    (none_each (unknown_sides rs) (are_sides_met rs) plan.links
    (λ k l e.
    let from = unless (is_resource rs l.from) (location.LinkEnd k From) in
    let to = unless (is_resource rs l.to) (location.LinkEnd k To) in
    let a : is_resource rs l.from ≡ true = none_unless (is_resource rs l.from) (location.LinkEnd k From) (none_left from to e) in
    let b : is_resource rs l.to ≡ true = none_unless (is_resource rs l.to) (location.LinkEnd k To) (none_right from to e) in
    λ i. a i && b i)
    (none_right lists ends h))

pub none_unknown : (lib : Library) (plan : Plan) → unknown_all lib plan ≡ [] → ¬ (NameUnknown lib plan)
none_unknown lib plan h =
    let of_application : OwnedNetwork = (None, lib.application.network) in
    let blocks = each_at (unknown_in_block lib) lib.blocks in
    let network = unknown_in_network lib Application of_application in
    let deployment = unknown_in_deployment lib plan in
    let rest : network ++ deployment ≡ [] = none_right blocks (network ++ deployment) h in
    name_known lib plan (none_in_network lib Application of_application (none_left network deployment rest))
    (none_each_of (IsBlockKnown lib) (unknown_in_block lib) lib.blocks 0 (none_in_block lib) (none_left blocks (network ++ deployment) h))
    (none_in_deployment lib plan (none_right network deployment rest))
