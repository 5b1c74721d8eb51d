-- Where a name is unknown, the number applies (E21).
use Rattle.fb_check.proofs.lemmas.Common.{◌≡◌, ◌&&◌, ℕ, Bool, true, false, List, [], ◌∷◌, ◌++◌, map, Option, Some, None, Contains, refl, sym, ◌∙◌, ap, subst, inl, inr, flat_map, slice_get, option_map, option_and_then, list_all, true≢false, Contains-append_left, Contains-append_right, list_all-append, same_Some, among, event_names, resource_names_of, Name, OwnedNetwork, algorithm_names, basics, block_type_names, instance_names, interfaces, networks, state_names, body_of, Mention, NameUnknown, Required, event_ins, is_known, mentions_body, required_chart, required_parameters, required_withs, Link, Plan, ResourceEntry, Action, Algorithm, BasicType, BlockType, Connection, EventPort, Instance, Library, Ports, Transition, State, ports_of_block, basic_at, network_at, Direction, Input, Output, FlowKind, Events, Data, Side, From, To, Site, UnknownName, actions_met, all_met, guard_mentions, is_met, transition_met, with_inputs, with_outputs, IsUnknownAt, Unmet, events_of, is_side_known, required_action, required_transition, variables_for}
use Rattle.fb_types.proofs.Common.{⊎_elim, and_right, Contains-append_cases, all_of, mentioned, required, required_deployment, required_types}
use Rattle.std.proofs.lemmas.Bool.{and_left}
use Rattle.fb_types.specs.Unknown.{optional}
use Rattle.fb_types.specs.declared.library.BlockType.TheVariants as block
use Rattle.fb_types.proofs.lemmas.lists.ByIndex.{element_of_index}
use Rattle.fb_types.proofs.lemmas.lists.Elements.{Contains-flat_map, Contains-here, Contains-map, Contains-there}
use Rattle.fb_types.proofs.lemmas.lists.ListTests.{fails_at, fails_from, passes_at}
use Rattle.fb_types.proofs.lemmas.names.NameLaws.{any_from_contains, contains_from_any}
use Rattle.fb_types.proofs.lemmas.lists.Options.{map_parts}
use Rattle.fb_check_names.specs.Parts.{ArePartsKnown, required_parts}
use Rattle.fb_check_names.proofs.lemmas.unknown.Resolving.{of_deployment, of_network}
use Rattle.fb_check_names.specs.Sites.{basic_inside, instance_at}
use Rattle.fb_check_names.specs.declared.location.ActionPart.{ActionPart}
use Rattle.fb_check_names.specs.declared.location.ActionPart.TheVariants as actions
use Rattle.fb_check_names.specs.declared.location.TransitionPart.{TransitionPart}
use Rattle.fb_check_names.specs.declared.location.TransitionPart.TheVariants as part
use Rattle.fb_check_names.specs.declared.location.UnknownName.TheVariants as location
use Rattle.fb_check_names.proofs.lemmas.unknown.InNetworks.{site_network}
use Rattle.fb_check.specs.types.Checks.{action_met, all_known, body_known, guard_known, is_known_block, is_known_chart}
use Rattle.fb_check.specs.types.Unknown.{IsUnknownEnd, IsUnknownMention, are_ends_known, body_at, guard_at, link_required, mapped_required, parameter_required, side_of, type_required, with_required}
use Rattle.fb_check.proofs.lemmas.types.AllUnknown.{not_met, not_met_of, then_some}
use Rattle.fb_check.proofs.lemmas.types.Checks.{chart_met, known_answer, mentions_met, withs_met}

-- ---- A part of a block type is unknown

abbrev is_there : Required → Bool
is_there w = among w.1 w.0

abbrev are_mentions_known : BasicType → Bool
are_mentions_known t = list_all (is_known t) (mentioned t)

-- the required names of parts are among all
part_required : (lib : Library) (plan : Plan) (w : Required) → Contains (required_parts lib) w → Contains (required lib plan) w
part_required lib plan w c =
    let types = flat_map (λ n. required_types lib n.1) (networks lib) in
    let withs = flat_map required_withs (interfaces lib) in
    let charts = flat_map required_chart (basics lib) in
    let parameters = flat_map (λ n. flat_map (required_parameters lib) n.1.instances) (networks lib) in
    let front = types ++ withs in
    ⊎_elim
    (λ d. Contains-append_left (front ++ charts ++ parameters) (required_deployment lib plan) w
    (Contains-append_left (front ++ charts) parameters w (Contains-append_left front charts w (Contains-append_right types withs w d))))
    (λ d. Contains-append_left (front ++ charts ++ parameters) (required_deployment lib plan) w
    (Contains-append_left (front ++ charts) parameters w (Contains-append_right front charts w d)))
    (Contains-append_cases withs charts w c)

unknown_part : (lib : Library) (plan : Plan) → ¬ (ArePartsKnown lib) → NameUnknown lib plan
unknown_part lib plan unknown = names (list_all is_there (required_parts lib)) (list_all are_mentions_known (basics lib)) refl refl
  where
    names : (a b : Bool) → list_all is_there (required_parts lib) ≡ a → list_all are_mentions_known (basics lib) ≡ b → NameUnknown lib plan
    names false b e f =
        let w = fails_at is_there (required_parts lib) e in
        inl (w.0, part_required lib plan w.0 w.1, λ c. true≢false (sym (any_from_contains w.0.0 w.0.1 c) ∙ w.2))
    names true false e f =
        let t = fails_at are_mentions_known (basics lib) f in
        let m = fails_at (is_known t.0) (mentioned t.0) t.2 in
        inr (inl (t.0, m.0, t.1, m.1, m.2))
    names true true e f = absurd (unknown (record {
      names = λ w c. contains_from_any w.0 w.1 (passes_at is_there (required_parts lib) w e c);
      mentions = λ t m c d. passes_at (is_known t) (mentioned t) m (passes_at are_mentions_known (basics lib) t f c) d;
    }))

basic_block : (t : BlockType) (b : BasicType) → basic_inside t ≡ Some b → t ≡ block.Basic b
basic_block (block.Basic t) b h = ap block.Basic (same_Some t b h)
basic_block (block.Composite t) b h = absurd (cc)

pub basic_among : (lib : Library) (k : ℕ) (b : BasicType) → basic_at lib k ≡ Some b → Contains lib.blocks (block.Basic b)
basic_among lib k b h =
    elim (slice_get lib.blocks k) as (λ o. slice_get lib.blocks k ≡ o → option_and_then basic_inside o ≡ Some b → Contains lib.blocks (block.Basic b)) [
      | None ↦ λ e h. absurd (cc)
      | Some t ↦ λ e h. element_of_index lib.blocks k (block.Basic b) (e ∙ ap (λ (t : BlockType). Some t) (basic_block t b h))
    ] refl h

block_unknown : (lib : Library) (plan : Plan) (t : BlockType) → Contains lib.blocks t → is_known_block t ≡ false → NameUnknown lib plan
block_unknown lib plan t c h =
    let all : list_all is_known_block lib.blocks ≡ false = fails_from is_known_block lib.blocks t c h in
    unknown_part lib plan (λ known. true≢false (sym ((known_answer lib (list_all is_known_block lib.blocks) refl).1 known) ∙ all))

chart_unknown : (lib : Library) (plan : Plan) (k : ℕ) (t : BasicType) → basic_at lib k ≡ Some t → is_known_chart (block.Basic t) ≡ false → NameUnknown lib plan
chart_unknown lib plan k t at h =
    block_unknown lib plan (block.Basic t) (basic_among lib k t at) (and_right (all_met (required_withs t.ports)) (is_known_chart (block.Basic t)) h)

-- ---- WITH lists

withs_unmet : (p : Ports) (d : Direction) (x : EventPort) → Contains (events_of d p) x → list_all (among (variables_for d p)) x.with ≡ false → all_met (required_withs p) ≡ false
withs_unmet p Input x c h =
    withs_met p ∙ and_left (list_all (with_inputs p) p.event_inputs) (list_all (with_outputs p) p.event_outputs) (fails_from (with_inputs p) p.event_inputs x c h)
withs_unmet p Output x c h =
    withs_met p ∙ and_right (list_all (with_inputs p) p.event_inputs) (list_all (with_outputs p) p.event_outputs) (fails_from (with_outputs p) p.event_outputs x c h)

with_applies : (lib : Library) (plan : Plan) (b : ℕ) (d : Direction) (e v : ℕ) → IsUnknownAt lib plan (location.With b d e v) → NameUnknown lib plan
with_applies lib plan b d e v u =
    let t = then_some (λ (t : BlockType). with_required (ports_of_block t) d e v) (slice_get lib.blocks b) u.0 u.1 in
    let p = ports_of_block t.0 in
    let x = then_some (λ (x : EventPort). option_map (λ (n : Name). (n, variables_for d p)) (slice_get x.with v)) (slice_get (events_of d p) e) u.0 t.2 in
    let n = map_parts (λ (n : Name). (n, variables_for d p)) (slice_get x.0.with v) u.0 x.2 in
    let names = fails_from (among (variables_for d p)) x.0.with n.0 (element_of_index x.0.with v n.0 n.1) (not_met_of (n.0, variables_for d p) u.0 n.2 u.2) in
    block_unknown lib plan t.0 (element_of_index lib.blocks b t.0 t.1)
    (and_left (all_met (required_withs p)) (is_known_chart t.0) (withs_unmet p d x.0 (element_of_index (events_of d p) e x.0 x.1) names))

-- ---- Charts

optional_unmet : (o : Option Name) (ns : List Name) (w : Required) → option_map (λ n. (n, ns)) o ≡ Some w → is_met w ≡ false → all_met (all_of (optional o) ns) ≡ false
optional_unmet None ns w e h = absurd (cc)
optional_unmet (Some n) ns w e h = ap (λ b. b && true) (ap is_met (same_Some (n, ns) w e) ∙ h)

transition_unmet : (t : BasicType) (x : Transition) (which : TransitionPart) (w : Required) → required_transition t x which ≡ Some w → is_met w ≡ false → transition_met t x ≡ false
transition_unmet t x part.From w e h =
    let event = all_met (all_of (optional x.condition.event) (event_names t.ports.event_inputs)) in
    ap (λ b. b && (is_met (x.to, state_names t) && event)) (ap is_met (same_Some (x.from, state_names t) w e) ∙ h)
transition_unmet t x part.To w e h =
    let event = all_met (all_of (optional x.condition.event) (event_names t.ports.event_inputs)) in
    and_right (is_met (x.from, state_names t)) (is_met (x.to, state_names t) && event)
    (and_left (is_met (x.to, state_names t)) event (ap is_met (same_Some (x.to, state_names t) w e) ∙ h))
transition_unmet t x part.Event w e h =
    let event = all_met (all_of (optional x.condition.event) (event_names t.ports.event_inputs)) in
    and_right (is_met (x.from, state_names t)) (is_met (x.to, state_names t) && event)
    (and_right (is_met (x.to, state_names t)) event (optional_unmet x.condition.event (event_ins t.ports) w e h))

action_unmet : (t : BasicType) (a : Action) (which : ActionPart) (w : Required) → required_action t a which ≡ Some w → is_met w ≡ false → action_met t a ≡ false
action_unmet t a actions.Algorithm w e h =
    let algorithms = all_of (optional a.algorithm) (algorithm_names t) in
    let outputs = all_of (optional a.output) (event_names t.ports.event_outputs) in
    list_all-append is_met algorithms outputs ∙ and_left (all_met algorithms) (all_met outputs) (optional_unmet a.algorithm (algorithm_names t) w e h)
action_unmet t a actions.Output w e h =
    let algorithms = all_of (optional a.algorithm) (algorithm_names t) in
    let outputs = all_of (optional a.output) (event_names t.ports.event_outputs) in
    list_all-append is_met algorithms outputs ∙ and_right (all_met algorithms) (all_met outputs) (optional_unmet a.output (event_names t.ports.event_outputs) w e h)

chart_unmet : (t : BasicType) → (list_all (transition_met t) t.transitions && list_all (actions_met t) t.states) ≡ false → is_known_chart (block.Basic t) ≡ false
chart_unmet t h = and_left (all_met (required_chart t)) (all_known t (mentioned t)) (chart_met t ∙ h)

transition_applies :
    (lib : Library) (plan : Plan) (b k : ℕ) (which : TransitionPart) → IsUnknownAt lib plan (location.Transition b k which) → NameUnknown lib plan
transition_applies lib plan b k which u =
    let t = then_some (λ (t : BasicType). option_and_then (λ (y : Transition). required_transition t y which) (slice_get t.transitions k)) (basic_at lib b) u.0 u.1 in
    let x = then_some (λ (y : Transition). required_transition t.0 y which) (slice_get t.0.transitions k) u.0 t.2 in
    let fails = fails_from (transition_met t.0) t.0.transitions x.0 (element_of_index t.0.transitions k x.0 x.1) (transition_unmet t.0 x.0 which u.0 x.2 (not_met u.0 u.2)) in
    chart_unknown lib plan b t.0 t.1 (chart_unmet t.0 (and_left (list_all (transition_met t.0) t.0.transitions) (list_all (actions_met t.0) t.0.states) fails))

action_applies :
    (lib : Library) (plan : Plan) (b s k : ℕ) (which : ActionPart) → IsUnknownAt lib plan (location.Action b s k which) → NameUnknown lib plan
action_applies lib plan b s k which u =
    let t = then_some (λ (t : BasicType). option_and_then (λ (y : State). option_and_then (λ (z : Action). required_action t z which) (slice_get y.actions k)) (slice_get t.states s)) (basic_at lib b) u.0 u.1 in
    let y = then_some (λ (y : State). option_and_then (λ (z : Action). required_action t.0 z which) (slice_get y.actions k)) (slice_get t.0.states s) u.0 t.2 in
    let z = then_some (λ (z : Action). required_action t.0 z which) (slice_get y.0.actions k) u.0 y.2 in
    let inside = fails_from (action_met t.0) y.0.actions z.0 (element_of_index y.0.actions k z.0 z.1) (action_unmet t.0 z.0 which u.0 z.2 (not_met u.0 u.2)) in
    let fails = fails_from (actions_met t.0) t.0.states y.0 (element_of_index t.0.states s y.0 y.1) inside in
    chart_unknown lib plan b t.0 t.1 (chart_unmet t.0 (and_right (list_all (transition_met t.0) t.0.transitions) (list_all (actions_met t.0) t.0.states) fails))

-- ---- Guards and algorithms

mention_unknown : (t : BasicType) → (list_all (body_known t) t.algorithms && list_all (guard_known t) t.transitions) ≡ false → is_known_chart (block.Basic t) ≡ false
mention_unknown t h = and_right (all_met (required_chart t)) (all_known t (mentioned t)) (mentions_met t ∙ h)

guard_applies : (lib : Library) (plan : Plan) (b k m : ℕ) → IsUnknownMention lib b (guard_at k) m → NameUnknown lib plan
guard_applies lib plan b k m u =
    let t = u.in_type in
    let x = map_parts guard_mentions (slice_get t.transitions k) u.among u.there in
    let known : guard_known t x.0 ≡ false =
    fails_from (is_known t) (guard_mentions x.0) u.at_index (element_of_index (guard_mentions x.0) m u.at_index (ap (λ (ms : List Mention). slice_get ms m) x.2 ∙ u.found)) u.unknown in
    chart_unknown lib plan b t u.at
    (mention_unknown t (and_right (list_all (body_known t) t.algorithms) (list_all (guard_known t) t.transitions)
    (fails_from (guard_known t) t.transitions x.0 (element_of_index t.transitions k x.0 x.1) known)))

body_applies : (lib : Library) (plan : Plan) (b k m : ℕ) → IsUnknownMention lib b (body_at k) m → NameUnknown lib plan
body_applies lib plan b k m u =
    let t = u.in_type in
    let a = map_parts (λ (a : Algorithm). mentions_body (body_of a.body)) (slice_get t.algorithms k) u.among u.there in
    let ms = mentions_body (body_of a.0.body) in
    let known : body_known t a.0 ≡ false =
    fails_from (is_known t) ms u.at_index (element_of_index ms m u.at_index (ap (λ (ms : List Mention). slice_get ms m) a.2 ∙ u.found)) u.unknown in
    chart_unknown lib plan b t u.at
    (mention_unknown t (and_left (list_all (body_known t) t.algorithms) (list_all (guard_known t) t.transitions)
    (fails_from (body_known t) t.algorithms a.0 (element_of_index t.algorithms k a.0 a.1) known)))

-- ---- Networks

in_all_of : (ns allowed : List Name) (n : Name) → Contains ns n → Contains (all_of ns allowed) (n, allowed)
in_all_of ns allowed n c = Contains-map (λ (n : Name). (n, allowed)) ns n c

out_of : (v w : Required) → v ≡ w → ¬ (Contains w.1 w.0) → ¬ (Contains v.1 v.0)
out_of v w e h = subst (λ (x : Required). ¬ (Contains x.1 x.0)) (sym e) h

type_applies : (lib : Library) (plan : Plan) (s : Site) (k : ℕ) → IsUnknownAt lib plan (location.InstanceType s k) → NameUnknown lib plan
type_applies lib plan s k u =
    let i = map_parts (type_required lib) (instance_at lib s k) u.0 u.1 in
    let n = then_some (λ (n : OwnedNetwork). slice_get n.1.instances k) (network_at lib s) i.0 i.1 in
    let net : OwnedNetwork = n.0 in
    let w = type_required lib i.0 in
    of_network lib plan net (site_network lib s net n.1) (inl (
      w,
      Contains-append_left (required_types lib net.1) (flat_map (required_parameters lib) net.1.instances) w
          (in_all_of (map (λ (i : Instance). i.block_type) net.1.instances) (block_type_names lib) i.0.block_type
          (Contains-map (λ (i : Instance). i.block_type) net.1.instances i.0 (element_of_index net.1.instances k i.0 n.2))),
      out_of w u.0 i.2 u.2,
    ))

parameter_applies : (lib : Library) (plan : Plan) (s : Site) (k j : ℕ) → IsUnknownAt lib plan (location.Parameter s k j) → NameUnknown lib plan
parameter_applies lib plan s k j u =
    let i = then_some (λ (x : Instance). parameter_required lib x j) (instance_at lib s k) u.0 u.1 in
    let n = then_some (λ (n : OwnedNetwork). slice_get n.1.instances k) (network_at lib s) i.0 i.1 in
    let net : OwnedNetwork = n.0 in
    of_network lib plan net (site_network lib s net n.1) (inl (
      u.0,
      Contains-append_right (required_types lib net.1) (flat_map (required_parameters lib) net.1.instances) u.0
          (Contains-flat_map (required_parameters lib) net.1.instances i.0 u.0 (element_of_index net.1.instances k i.0 n.2) (element_of_index (required_parameters lib i.0) j u.0 i.2)),
      u.2,
    ))

ends_unknown : (lib : Library) (n : OwnedNetwork) (f : FlowKind) (side : Side) (c : Connection) → is_side_known lib n f side c ≡ false → are_ends_known lib n f c ≡ false
ends_unknown lib n f From c h = and_left (is_side_known lib n f From c) (is_side_known lib n f To c) h
ends_unknown lib n f To c h = and_right (is_side_known lib n f From c) (is_side_known lib n f To c) h

end_applies : (lib : Library) (plan : Plan) (s : Site) (f : FlowKind) (k : ℕ) (side : Side) → IsUnknownEnd lib s f k side → NameUnknown lib plan
end_applies lib plan s Events k side u =
    let n = u.network in
    of_network lib plan n (site_network lib s n u.at) (inr (and_left (list_all (are_ends_known lib n Events) n.1.event_connections) (list_all (are_ends_known lib n Data) n.1.data_connections)
    (fails_from (are_ends_known lib n Events) n.1.event_connections u.at_index (element_of_index n.1.event_connections k u.at_index u.found) (ends_unknown lib n Events side u.at_index u.unknown))))
end_applies lib plan s Data k side u =
    let n = u.network in
    of_network lib plan n (site_network lib s n u.at) (inr (and_right (list_all (are_ends_known lib n Events) n.1.event_connections) (list_all (are_ends_known lib n Data) n.1.data_connections)
    (fails_from (are_ends_known lib n Data) n.1.data_connections u.at_index (element_of_index n.1.data_connections k u.at_index u.found) (ends_unknown lib n Data side u.at_index u.unknown))))

-- ---- Deployments

mapped_applies : (lib : Library) (plan : Plan) (r k : ℕ) → Unmet (mapped_required lib plan r k) → NameUnknown lib plan
mapped_applies lib plan r k u =
    let ns : List Name = instance_names lib.application.network in
    let x = then_some (λ (x : ResourceEntry). option_map (λ (n : Name). (n, ns)) (slice_get x.instances k)) (slice_get plan.resources r) u.0 u.1 in
    let n = map_parts (λ (n : Name). (n, ns)) (slice_get x.0.instances k) u.0 x.2 in
    let lists : ResourceEntry → List Required = λ r. all_of r.instances ns in
    of_deployment lib plan (
      (n.0, ns),
      Contains-append_left (flat_map lists plan.resources) (flat_map (λ l. all_of (l.from ∷ l.to ∷ []) (resource_names_of plan)) plan.links) (n.0, ns)
          (Contains-flat_map lists plan.resources x.0 (n.0, ns) (element_of_index plan.resources r x.0 x.1) (in_all_of x.0.instances ns n.0 (element_of_index x.0.instances k n.0 n.1))),
      out_of (n.0, ns) u.0 n.2 u.2,
    )

side_among : (side : Side) (l : Link) → Contains (l.from ∷ l.to ∷ []) (side_of side l)
side_among From l = Contains-here l.from (l.to ∷ [])
side_among To l = Contains-there l.from (l.to ∷ []) l.to (Contains-here l.to [])

link_applies : (lib : Library) (plan : Plan) (k : ℕ) (side : Side) → Unmet (link_required plan k side) → NameUnknown lib plan
link_applies lib plan k side u =
    let ns : List Name = resource_names_of plan in
    let l = map_parts (λ (l : Link). (side_of side l, ns)) (slice_get plan.links k) u.0 u.1 in
    let w : Required = (side_of side l.0, ns) in
    let ends : Link → List Required = λ l. all_of (l.from ∷ l.to ∷ []) ns in
    of_deployment lib plan (
      w,
      Contains-append_right (flat_map (λ r. all_of r.instances (instance_names lib.application.network)) plan.resources) (flat_map ends plan.links) w
          (Contains-flat_map ends plan.links l.0 w (element_of_index plan.links k l.0 l.1) (in_all_of (l.0.from ∷ l.0.to ∷ []) ns (side_of side l.0) (side_among side l.0))),
      out_of w u.0 l.2 u.2,
    )

-- ---- All

pub unknown_applies : (lib : Library) (plan : Plan) (p : UnknownName) → IsUnknownAt lib plan p → NameUnknown lib plan
unknown_applies lib plan (location.InstanceType s k) u = type_applies lib plan s k u
unknown_applies lib plan (location.Parameter s k j) u = parameter_applies lib plan s k j u
unknown_applies lib plan (location.End s f k side) u = end_applies lib plan s f k side u
unknown_applies lib plan (location.With b d e v) u = with_applies lib plan b d e v u
unknown_applies lib plan (location.Transition b k which) u = transition_applies lib plan b k which u
unknown_applies lib plan (location.Action b s k which) u = action_applies lib plan b s k which u
unknown_applies lib plan (location.Guard b k m) u = guard_applies lib plan b k m u
unknown_applies lib plan (location.Body b k m) u = body_applies lib plan b k m u
unknown_applies lib plan (location.Mapped r k) u = mapped_applies lib plan r k u
unknown_applies lib plan (location.LinkEnd k side) u = link_applies lib plan k side u
