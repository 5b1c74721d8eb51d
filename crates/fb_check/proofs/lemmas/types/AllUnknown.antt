-- No location at which a name is unknown is left out of the list of all.
use Rattle.fb_check.proofs.lemmas.Common.{◌≡◌, ℕ, true, false, List, ◌++◌, Option, Some, None, Contains, refl, sym, ◌∙◌, ap, subst, slice_get, option_map, option_and_then, Contains-append_left, Contains-append_right, same_Some, among, resource_names_of, Name, OwnedNetwork, instance_names, body_of, Mention, Required, is_known, mentions_body, required_parameters, Action, Algorithm, BasicType, BlockType, EventPort, Instance, Library, Transition, Link, Plan, ResourceEntry, State, guard_mentions, is_met, ports_of_block, Naming, Direction, Input, Output, FlowKind, Events, Data, Side, From, To, Site, Application, Inside, UnknownName, each_at, unless, basic_at, connections_of, network_at, IsUnknownAt, Unmet, events_of, is_instance, is_resource, is_side_known, is_type_met, required_action, required_transition, variables_for, mention_in, unknown_all, unknown_ends, unknown_in_action, unknown_in_block, unknown_in_body, unknown_in_instance, unknown_in_network, unknown_in_state, unknown_in_transition, unknown_mentions, unknown_parameters, unknown_variables, unknown_withs}
use Rattle.fb_types.specs.declared.library.BlockType.TheVariants as block
use Rattle.fb_types.proofs.lemmas.names.NameLaws.{contains_from_any}
use Rattle.fb_types.proofs.lemmas.lists.Options.{map_parts}
use Rattle.fb_check.specs.declared.types.basics.Naming.TheVariants as naming
use Rattle.fb_check_names.specs.declared.location.ActionPart.{ActionPart}
use Rattle.fb_check_names.specs.declared.location.ActionPart.TheVariants as actions
use Rattle.fb_check_names.specs.declared.location.TransitionPart.{TransitionPart}
use Rattle.fb_check_names.specs.declared.location.TransitionPart.TheVariants as part
use Rattle.fb_check_names.specs.declared.location.UnknownName.TheVariants as location
use Rattle.fb_check_names.specs.Sites.{basic_inside, instance_at, network_inside}
use Rattle.fb_check.specs.types.Unknown.{IsUnknownEnd, IsUnknownMention, body_at, guard_at, link_required, mapped_required, parameter_required, side_of, type_required, with_required}
use Rattle.fb_check.specs.types.Unknowns.{unknown_in_chart, unknown_in_deployment, unknown_inside, unknown_mapped, unknown_names, unknown_sides, unmet_at}
use Rattle.fb_check_names.proofs.lemmas.Listing.{there_each, there_unless}
use Rattle.fb_check.proofs.lemmas.types.NetworkLocations.{any_map}

-- ---- One location

pub then_some : {A B : Type 0} (f : A → Option B) (o : Option A) (y : B) → option_and_then f o ≡ Some y → (x : A) × (o ≡ Some x) × (f x ≡ Some y)
then_some f None y h = absurd (cc)
then_some f (Some x) y h = (x, refl, h)

pub not_met : (w : Required) → ¬ (Contains w.1 w.0) → is_met w ≡ false
not_met w h = elim (is_met w) as (λ b. is_met w ≡ b → b ≡ false) [ true ↦ λ e. absurd (h (contains_from_any w.0 w.1 e)) | false ↦ λ e. refl ] refl

pub not_met_of : (v w : Required) → v ≡ w → ¬ (Contains w.1 w.0) → is_met v ≡ false
not_met_of v w e h = ap is_met e ∙ not_met w h

there_unmet : (o : Option Required) (p : UnknownName) → Unmet o → Contains (unmet_at o p) p
there_unmet None p u = let none : None ≡ Some u.0 = u.1 in absurd (cc)
there_unmet (Some v) p u = there_unless (is_met v) p (not_met_of v u.0 (same_Some v u.0 u.1) u.2)

-- ---- From a part of the declaration to all of it

from_block :
    (lib : Library) (plan : Plan) (b : ℕ) (t : BlockType) (p : UnknownName) → slice_get lib.blocks b ≡ Some t → Contains (unknown_in_block lib b t) p
    → Contains (unknown_all lib plan) p
from_block lib plan b t p at h =
    Contains-append_left (each_at (unknown_in_block lib) lib.blocks) (unknown_in_network lib Application (None, lib.application.network) ++ unknown_in_deployment lib plan) p
    (there_each (unknown_in_block lib) lib.blocks b t p at h)

from_inside :
    (lib : Library) (plan : Plan) (b : ℕ) (t : BlockType) (p : UnknownName) → slice_get lib.blocks b ≡ Some t → Contains (unknown_inside lib b t) p
    → Contains (unknown_all lib plan) p
from_inside lib plan b t p at h =
    let ins = unknown_withs b Input (ports_of_block t) in
    let outs = unknown_withs b Output (ports_of_block t) in
    from_block lib plan b t p at
    (Contains-append_right ins (outs ++ unknown_inside lib b t) p (Contains-append_right outs (unknown_inside lib b t) p h))

from_chart :
    (lib : Library) (plan : Plan) (b : ℕ) (t : BasicType) (p : UnknownName) → basic_at lib b ≡ Some t → Contains (unknown_in_chart t b) p
    → Contains (unknown_all lib plan) p
from_chart lib plan b t p at h =
    let u = then_some basic_inside (slice_get lib.blocks b) t at in
    from_inside lib plan b u.0 p u.1
    (elim u.0 as (λ (v : BlockType). basic_inside v ≡ Some t → Contains (unknown_inside lib b v) p) [
      | block.Basic s ↦ λ e. subst (λ (s : BasicType). Contains (unknown_in_chart s b) p) (sym (same_Some s t e)) h
      | block.Composite c ↦ λ e. absurd (cc)
    ] u.2)

from_network :
    (lib : Library) (plan : Plan) (s : Site) (n : OwnedNetwork) (p : UnknownName) → network_at lib s ≡ Some n → Contains (unknown_in_network lib s n) p
    → Contains (unknown_all lib plan) p
from_network lib plan Application n p at h =
    let mine : OwnedNetwork = (None, lib.application.network) in
    Contains-append_right (each_at (unknown_in_block lib) lib.blocks) (unknown_in_network lib Application mine ++ unknown_in_deployment lib plan) p
    (Contains-append_left (unknown_in_network lib Application mine) (unknown_in_deployment lib plan) p
    (subst (λ (n : OwnedNetwork). Contains (unknown_in_network lib Application n) p) (sym (same_Some mine n at)) h))
from_network lib plan (Inside b) n p at h =
    let u = then_some network_inside (slice_get lib.blocks b) n at in
    from_inside lib plan b u.0 p u.1
    (elim u.0 as (λ (v : BlockType). network_inside v ≡ Some n → Contains (unknown_inside lib b v) p) [
      | block.Basic t ↦ λ e. absurd (cc)
      | block.Composite t ↦ λ e. subst (λ (n : OwnedNetwork). Contains (unknown_in_network lib (Inside b) n) p) (sym (same_Some {A = OwnedNetwork} (Some t, t.network) n e)) h
    ] u.2)

from_deployment : (lib : Library) (plan : Plan) (p : UnknownName) → Contains (unknown_in_deployment lib plan) p → Contains (unknown_all lib plan) p
from_deployment lib plan p h =
    let mine : OwnedNetwork = (None, lib.application.network) in
    Contains-append_right (each_at (unknown_in_block lib) lib.blocks) (unknown_in_network lib Application mine ++ unknown_in_deployment lib plan) p
    (Contains-append_right (unknown_in_network lib Application mine) (unknown_in_deployment lib plan) p h)

-- ---- Networks

from_instance :
    (lib : Library) (plan : Plan) (s : Site) (k : ℕ) (i : Instance) (p : UnknownName) → instance_at lib s k ≡ Some i → Contains (unknown_in_instance lib s k i) p
    → Contains (unknown_all lib plan) p
from_instance lib plan s k i p at h =
    let u = then_some (λ (n : OwnedNetwork). slice_get n.1.instances k) (network_at lib s) i at in
    let n : OwnedNetwork = u.0 in
    from_network lib plan s n p u.1
    (Contains-append_left (each_at (unknown_in_instance lib s) n.1.instances)
    (each_at (unknown_ends lib s n Events) n.1.event_connections ++ each_at (unknown_ends lib s n Data) n.1.data_connections) p
    (there_each (unknown_in_instance lib s) n.1.instances k i p u.2 h))

there_type : (lib : Library) (plan : Plan) (s : Site) (k : ℕ) → IsUnknownAt lib plan (location.InstanceType s k) → Contains (unknown_all lib plan) (location.InstanceType s k)
there_type lib plan s k u =
    let p = location.InstanceType s k in
    let i = map_parts (type_required lib) (instance_at lib s k) u.0 u.1 in
    from_instance lib plan s k i.0 p i.1
    (Contains-append_left (unless (is_type_met lib i.0) p) (unknown_parameters lib s k i.0) p (there_unless (is_type_met lib i.0) p (not_met_of (type_required lib i.0) u.0 i.2 u.2)))

there_parameter :
    (lib : Library) (plan : Plan) (s : Site) (k j : ℕ) → IsUnknownAt lib plan (location.Parameter s k j) → Contains (unknown_all lib plan) (location.Parameter s k j)
there_parameter lib plan s k j u =
    let p = location.Parameter s k j in
    let i = then_some (λ (x : Instance). parameter_required lib x j) (instance_at lib s k) u.0 u.1 in
    from_instance lib plan s k i.0 p i.1
    (Contains-append_right (unless (is_type_met lib i.0) (location.InstanceType s k)) (unknown_parameters lib s k i.0) p
    (there_each (λ j w. unless (is_met w) (location.Parameter s k j)) (required_parameters lib i.0) j u.0 p i.2 (there_unless (is_met u.0) p (not_met u.0 u.2))))

there_end :
    (lib : Library) (plan : Plan) (s : Site) (f : FlowKind) (k : ℕ) (side : Side) → IsUnknownEnd lib s f k side → Contains (unknown_all lib plan) (location.End s f k side)
there_end lib plan s f k side u =
    let n = u.network in
    let c = u.at_index in
    let from = unless (is_side_known lib n f From c) (location.End s f k From) in
    let to = unless (is_side_known lib n f To c) (location.End s f k To) in
    let here : Contains (unknown_ends lib s n f k c) (location.End s f k side) =
    elim side as (λ (side : Side). is_side_known lib n f side c ≡ false → Contains (unknown_ends lib s n f k c) (location.End s f k side)) [
      | From ↦ λ e. Contains-append_left from to (location.End s f k From) (there_unless (is_side_known lib n f From c) (location.End s f k From) e)
      | To ↦ λ e. Contains-append_right from to (location.End s f k To) (there_unless (is_side_known lib n f To c) (location.End s f k To) e)
    ] u.unknown in
    let instances = each_at (unknown_in_instance lib s) n.1.instances in
    let events = each_at (unknown_ends lib s n Events) n.1.event_connections in
    let values = each_at (unknown_ends lib s n Data) n.1.data_connections in
    from_network lib plan s n (location.End s f k side) u.at
    (Contains-append_right instances (events ++ values) (location.End s f k side)
    (elim f as
    (λ (f : FlowKind). slice_get (connections_of f n.1) k ≡ Some c → Contains (unknown_ends lib s n f k c) (location.End s f k side) → Contains (events ++ values) (location.End s f k side)) [
      | Events ↦ λ e h. Contains-append_left events values (location.End s Events k side) (there_each (unknown_ends lib s n Events) n.1.event_connections k c (location.End s Events k side) e h)
      | Data ↦ λ e h. Contains-append_right events values (location.End s Data k side) (there_each (unknown_ends lib s n Data) n.1.data_connections k c (location.End s Data k side) e h)
    ] u.found here))

-- ---- Block types

there_variable :
    (lib : Library) (plan : Plan) (b : ℕ) (d : Direction) (e v : ℕ) → IsUnknownAt lib plan (location.With b d e v) → Contains (unknown_all lib plan) (location.With b d e v)
there_variable lib plan b d e v u =
    let p = location.With b d e v in
    let t = then_some (λ (t : BlockType). with_required (ports_of_block t) d e v) (slice_get lib.blocks b) u.0 u.1 in
    let ports = ports_of_block t.0 in
    let known : List Name = variables_for d ports in
    let x = then_some (λ (x : EventPort). option_map (λ (n : Name). (n, known)) (slice_get x.with v)) (slice_get (events_of d ports) e) u.0 t.2 in
    let n = map_parts (λ (n : Name). (n, known)) (slice_get x.0.with v) u.0 x.2 in
    let here : Contains (unknown_withs b d ports) p =
    there_each (unknown_variables known b d) (events_of d ports) e x.0 p x.1
    (there_each (λ v n. unless (among known n) (location.With b d e v)) x.0.with v n.0 p n.1 (there_unless (among known n.0) p (not_met_of (n.0, known) u.0 n.2 u.2))) in
    let ins = unknown_withs b Input ports in
    let outs = unknown_withs b Output ports in
    from_block lib plan b t.0 p t.1
    (elim d as (λ (d : Direction). Contains (unknown_withs b d ports) p → Contains (ins ++ (outs ++ unknown_inside lib b t.0)) p) [
      | Input ↦ λ h. Contains-append_left ins (outs ++ unknown_inside lib b t.0) p h
      | Output ↦ λ h. Contains-append_right ins (outs ++ unknown_inside lib b t.0) p (Contains-append_left outs (unknown_inside lib b t.0) p h)
    ] here)

from_transition :
    (lib : Library) (plan : Plan) (b k : ℕ) (t : BasicType) (x : Transition) (p : UnknownName) → basic_at lib b ≡ Some t → slice_get t.transitions k ≡ Some x
    → Contains (unknown_in_transition t b k x) p → Contains (unknown_all lib plan) p
from_transition lib plan b k t x p at found h =
    let states = each_at (unknown_in_state t b) t.states in
    let transitions = each_at (unknown_in_transition t b) t.transitions in
    let bodies = each_at (unknown_in_body t b) t.algorithms in
    from_chart lib plan b t p at
    (Contains-append_right states (transitions ++ bodies) p (Contains-append_left transitions bodies p (there_each (unknown_in_transition t b) t.transitions k x p found h)))

there_transition :
    (lib : Library) (plan : Plan) (b k : ℕ) (part : TransitionPart) → IsUnknownAt lib plan (location.Transition b k part)
    → Contains (unknown_all lib plan) (location.Transition b k part)
there_transition lib plan b k which u =
    let p = location.Transition b k which in
    let t = then_some (λ (t : BasicType). option_and_then (λ (y : Transition). required_transition t y which) (slice_get t.transitions k)) (basic_at lib b) u.0 u.1 in
    let x = then_some (λ (y : Transition). required_transition t.0 y which) (slice_get t.0.transitions k) u.0 t.2 in
    let from = unmet_at (required_transition t.0 x.0 part.From) (location.Transition b k part.From) in
    let to = unmet_at (required_transition t.0 x.0 part.To) (location.Transition b k part.To) in
    let event = unmet_at (required_transition t.0 x.0 part.Event) (location.Transition b k part.Event) in
    let here : Contains (unmet_at (required_transition t.0 x.0 which) p) p = there_unmet (required_transition t.0 x.0 which) p (u.0, x.2, u.2) in
    from_transition lib plan b k t.0 x.0 p t.1 x.1
    (Contains-append_left (unknown_names t.0 b k x.0) (unknown_mentions t.0 (naming.Guard b k) (guard_mentions x.0)) p
    (elim which as (λ (w : TransitionPart). Contains (unmet_at (required_transition t.0 x.0 w) (location.Transition b k w)) (location.Transition b k w) → Contains (from ++ (to ++ event)) (location.Transition b k w)) [
      | part.From ↦ λ h. Contains-append_left from (to ++ event) (location.Transition b k part.From) h
      | part.To ↦ λ h. Contains-append_right from (to ++ event) (location.Transition b k part.To) (Contains-append_left to event (location.Transition b k part.To) h)
      | part.Event ↦ λ h. Contains-append_right from (to ++ event) (location.Transition b k part.Event) (Contains-append_right to event (location.Transition b k part.Event) h)
    ] here))

there_action :
    (lib : Library) (plan : Plan) (b s k : ℕ) (which : ActionPart) → IsUnknownAt lib plan (location.Action b s k which)
    → Contains (unknown_all lib plan) (location.Action b s k which)
there_action lib plan b s k which u =
    let p = location.Action b s k which in
    let t =
    then_some (λ (t : BasicType). option_and_then (λ (y : State). option_and_then (λ (z : Action). required_action t z which) (slice_get y.actions k)) (slice_get t.states s))
    (basic_at lib b) u.0 u.1 in
    let y = then_some (λ (y : State). option_and_then (λ (z : Action). required_action t.0 z which) (slice_get y.actions k)) (slice_get t.0.states s) u.0 t.2 in
    let z = then_some (λ (z : Action). required_action t.0 z which) (slice_get y.0.actions k) u.0 y.2 in
    let first = unmet_at (required_action t.0 z.0 actions.Algorithm) (location.Action b s k actions.Algorithm) in
    let last = unmet_at (required_action t.0 z.0 actions.Output) (location.Action b s k actions.Output) in
    let here : Contains (unmet_at (required_action t.0 z.0 which) p) p = there_unmet (required_action t.0 z.0 which) p (u.0, z.2, u.2) in
    let states = each_at (unknown_in_state t.0 b) t.0.states in
    let rest = each_at (unknown_in_transition t.0 b) t.0.transitions ++ each_at (unknown_in_body t.0 b) t.0.algorithms in
    from_chart lib plan b t.0 p t.1
    (Contains-append_left states rest p
    (there_each (unknown_in_state t.0 b) t.0.states s y.0 p y.1
    (there_each (unknown_in_action t.0 b s) y.0.actions k z.0 p z.1
    (elim which as (λ (w : ActionPart). Contains (unmet_at (required_action t.0 z.0 w) (location.Action b s k w)) (location.Action b s k w) → Contains (first ++ last) (location.Action b s k w)) [
      | actions.Algorithm ↦ λ h. Contains-append_left first last (location.Action b s k actions.Algorithm) h
      | actions.Output ↦ λ h. Contains-append_right first last (location.Action b s k actions.Output) h
    ] here))))

there_mention :
    (t : BasicType) (text : Naming) (ms : List Mention) (m : ℕ) (x : Mention) → slice_get ms m ≡ Some x → is_known t x ≡ false
    → Contains (unknown_mentions t text ms) (mention_in text m)
there_mention t text ms m x found e =
    there_each (λ m x. unless (is_known t x) (mention_in text m)) ms m x (mention_in text m) found (there_unless (is_known t x) (mention_in text m) e)

there_guard :
    (lib : Library) (plan : Plan) (b k m : ℕ) → IsUnknownMention lib b (guard_at k) m → Contains (unknown_all lib plan) (location.Guard b k m)
there_guard lib plan b k m u =
    let t = u.in_type in
    let x = map_parts guard_mentions (slice_get t.transitions k) u.among u.there in
    let p = location.Guard b k m in
    from_transition lib plan b k t x.0 p u.at x.1
    (Contains-append_right (unknown_names t b k x.0) (unknown_mentions t (naming.Guard b k) (guard_mentions x.0)) p
    (there_mention t (naming.Guard b k) (guard_mentions x.0) m u.at_index (ap (λ (ms : List Mention). slice_get ms m) x.2 ∙ u.found) u.unknown))

there_in_body :
    (lib : Library) (plan : Plan) (b k m : ℕ) → IsUnknownMention lib b (body_at k) m → Contains (unknown_all lib plan) (location.Body b k m)
there_in_body lib plan b k m u =
    let t = u.in_type in
    let a = map_parts (λ (a : Algorithm). mentions_body (body_of a.body)) (slice_get t.algorithms k) u.among u.there in
    let p = location.Body b k m in
    let states = each_at (unknown_in_state t b) t.states in
    let transitions = each_at (unknown_in_transition t b) t.transitions in
    let bodies = each_at (unknown_in_body t b) t.algorithms in
    from_chart lib plan b t p u.at
    (Contains-append_right states (transitions ++ bodies) p
    (Contains-append_right transitions bodies p
    (there_each (unknown_in_body t b) t.algorithms k a.0 p a.1
    (there_mention t (naming.Body b k) (mentions_body (body_of a.0.body)) m u.at_index (ap (λ (ms : List Mention). slice_get ms m) a.2 ∙ u.found) u.unknown))))

-- ---- Deployments

there_mapped :
    (lib : Library) (plan : Plan) (r k : ℕ) → Unmet (mapped_required lib plan r k) → Contains (unknown_all lib plan) (location.Mapped r k)
there_mapped lib plan r k u =
    let p = location.Mapped r k in
    let is = lib.application.network.instances in
    let ns : List Name = instance_names lib.application.network in
    let x = then_some (λ (x : ResourceEntry). option_map (λ (n : Name). (n, ns)) (slice_get x.instances k)) (slice_get plan.resources r) u.0 u.1 in
    let n = map_parts (λ (n : Name). (n, ns)) (slice_get x.0.instances k) u.0 x.2 in
    from_deployment lib plan p
    (Contains-append_left (each_at (unknown_mapped is) plan.resources) (each_at (unknown_sides plan.resources) plan.links) p
    (there_each (unknown_mapped is) plan.resources r x.0 p x.1
    (there_each (λ k n. unless (is_instance is n) (location.Mapped r k)) x.0.instances k n.0 p n.1
    (there_unless (is_instance is n.0) p (any_map (λ (i : Instance). i.name) n.0 is ∙ not_met_of (n.0, ns) u.0 n.2 u.2)))))

there_side :
    (lib : Library) (plan : Plan) (k : ℕ) (side : Side) → Unmet (link_required plan k side) → Contains (unknown_all lib plan) (location.LinkEnd k side)
there_side lib plan k side u =
    let rs = plan.resources in
    let ns : List Name = resource_names_of plan in
    let l = map_parts (λ (l : Link). (side_of side l, ns)) (slice_get plan.links k) u.0 u.1 in
    let from = unless (is_resource rs l.0.from) (location.LinkEnd k From) in
    let to = unless (is_resource rs l.0.to) (location.LinkEnd k To) in
    let fails : is_resource rs (side_of side l.0) ≡ false =
    any_map (λ (r : ResourceEntry). r.name) (side_of side l.0) rs ∙ not_met_of (side_of side l.0, ns) u.0 l.2 u.2 in
    from_deployment lib plan (location.LinkEnd k side)
    (Contains-append_right (each_at (unknown_mapped lib.application.network.instances) rs) (each_at (unknown_sides rs) plan.links) (location.LinkEnd k side)
    (there_each (unknown_sides rs) plan.links k l.0 (location.LinkEnd k side) l.1
    (elim side as (λ (side : Side). is_resource rs (side_of side l.0) ≡ false → Contains (from ++ to) (location.LinkEnd k side)) [
      | From ↦ λ e. Contains-append_left from to (location.LinkEnd k From) (there_unless (is_resource rs l.0.from) (location.LinkEnd k From) e)
      | To ↦ λ e. Contains-append_right from to (location.LinkEnd k To) (there_unless (is_resource rs l.0.to) (location.LinkEnd k To) e)
    ] fails)))

-- ---- All

pub there_unknown : (lib : Library) (plan : Plan) (p : UnknownName) → IsUnknownAt lib plan p → Contains (unknown_all lib plan) p
there_unknown lib plan (location.InstanceType s k) u = there_type lib plan s k u
there_unknown lib plan (location.Parameter s k j) u = there_parameter lib plan s k j u
there_unknown lib plan (location.End s f k side) u = there_end lib plan s f k side u
there_unknown lib plan (location.With b d e v) u = there_variable lib plan b d e v u
there_unknown lib plan (location.Transition b k which) u = there_transition lib plan b k which u
there_unknown lib plan (location.Action b s k which) u = there_action lib plan b s k which u
there_unknown lib plan (location.Guard b k m) u = there_guard lib plan b k m u
there_unknown lib plan (location.Body b k m) u = there_in_body lib plan b k m u
there_unknown lib plan (location.Mapped r k) u = there_mapped lib plan r k u
there_unknown lib plan (location.LinkEnd k side) u = there_side lib plan k side u
