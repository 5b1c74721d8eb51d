-- Each warning that holds at its position is in the list.
use Rattle.fb_lint.proofs.lemmas.Common.{◌≡◌, ℕ, ◌+◌, ◌<◌, Bool, true, false, not, List, [], ◌∷◌, ◌++◌, map, take, Contains, refl, sym, ◌∙◌, ap, subst, inl, inr, arith, filter, list_any, true≢false, Name, guard_mentions, when, each_from, Warning, UnusedPort}
use Rattle.fb_types.proofs.Common.{zero, suc, ◌&&◌, ◌||◌, if◌then◌else◌, Option, Some, None, slice_get, option_map, option_and_then, Contains-append_left, Contains-append_right, ports_of, first_of, kind_of, type_name, type_named, OwnedNetwork, body_of, Stmt, mentions_body}
use Rattle.fb_types.specs.declared.deploy.Plan.{Plan}
use Rattle.fb_types.specs.declared.deploy.Stimulus.{Stimulus}
use Rattle.fb_types.specs.declared.library.BasicType.{BasicType}
use Rattle.fb_types.specs.declared.library.BlockType.{BlockType}
use Rattle.fb_types.specs.declared.library.CompositeType.{CompositeType}
use Rattle.fb_types.specs.declared.library.Library.{Library}
use Rattle.fb_types.specs.declared.library.EventPort.{EventPort}
use Rattle.fb_types.specs.declared.library.Instance.{Instance}
use Rattle.fb_types.specs.declared.library.Ports.{Ports}
use Rattle.fb_types.specs.declared.library.Transition.{Transition}
use Rattle.fb_types.specs.declared.library.Variable.{Variable}
use Rattle.fb_types.specs.declared.library.BlockType.TheVariants as block
use Rattle.fb_types.specs.declared.library.State.{State}
use Rattle.fb_types.proofs.lemmas.lists.Elements.{Contains-nil, Contains-cons_cases, Contains-here}
use Rattle.fb_types.proofs.lemmas.lists.ByIndex.{element_of_index}
use Rattle.fb_check_names.specs.declared.ports.PortKind.{PortKind}
use Rattle.fb_check_names.specs.declared.ports.PortKind.TheVariants as kind
use Rattle.fb_check_names.specs.Sites.{network_at, network_inside}
use Rattle.fb_check_names.specs.declared.location.Site.{Site}
use Rattle.fb_check_names.specs.declared.location.Site.TheVariants.{Application, Inside}
use Rattle.fb_check.specs.types.Statements.{Standing, each_in_body}
use Rattle.fb_lint.specs.Charts as charts
use Rattle.fb_lint.specs.Circles as circles
use Rattle.fb_lint.specs.Conditions.{IsAlgorithmUnsampled, IsAt, IsBasic, IsEarly, IsEndless, IsFinal, IsGuardUnsampled, IsInstance, IsRepeated, IsShadowed, IsSilentSource, IsStatement, IsUnassigned, IsUnfed, IsUnheld, IsUnnamed, IsUnreached, IsUnreachedEvent, IsUnreachedInstance, IsUnread, IsUnsampled, IsUnsent, IsUnusedAlgorithm, IsUnusedLink, IsUnusedType, IsZeroDivision, IsZeroGuard, is_used_event, is_used_in, names_of_ports, stimuli_at, WarningsListed}
use Rattle.fb_lint.specs.Constants as constants
use Rattle.fb_lint.specs.Events as events
use Rattle.fb_lint.specs.Instances as instances
use Rattle.fb_lint.specs.Interfaces as ports
use Rattle.fb_lint.specs.Networks as nets
use Rattle.fb_lint.specs.Outputs as outputs
use Rattle.fb_lint.specs.Reached as reached
use Rattle.fb_lint.specs.Reached.{Reached}
use Rattle.fb_lint.specs.Reads as reads
use Rattle.fb_lint.specs.Statements as statements
use Rattle.fb_lint.specs.Warnings.{readings, of_chart, of_ports, of_statements, of_network, of_type, of_interface, of_block, of_blocks, warnings}
use Rattle.fb_lint.specs.declared.warning.Warning.TheVariants.{UnsampledInput, UnfedInput, UnsampledInGuard, UnsampledInAlgorithm, UnreachedState, FinalState, ShadowedTransition, UnnamedEvent, UnusedAlgorithm, UnusedType, UnassignedEvent, UnusedLink, UnsentOutput, UnreachedInstance, UnreachedEvent, UnheldConstant, ZeroDivisor, ZeroDivisorInGuard, EndlessState, SilentSource, RepeatedLabel, UnreadInternal, EarlyStimulus}
use Rattle.fb_lint.proofs.lemmas.Edges.{leads-is_reached}
use Rattle.fb_lint.proofs.lemmas.WarningsHold.{chart}

-- ---- Lists of findings

-- what is found at an element is found
pub finds_at :
    {A B : Type 0} (f : ℕ → A → List B) (n : ℕ) (xs : List A) (k : ℕ) (x : A) (w : B) → slice_get xs k ≡ Some x → Contains (f (n + k) x) w → Contains (each_from f n xs) w
finds_at f n [] k x w at c = absurd (cc)
finds_at {A} {B} f n (y ∷ ys) zero x w at c =
    let e : x ≡ y = cc in
    let i : n + 0 ≡ n = omega arith in
    Contains-append_left (f n y) (each_from f (n + 1) ys) w (subst (λ (z : A). Contains (f n z) w) e (subst (λ (j : ℕ). Contains (f j x) w) i c))
finds_at {A} {B} f n (y ∷ ys) (suc k) x w at c =
    let i : n + suc k ≡ (n + 1) + k = omega arith in
    Contains-append_right (f n y) (each_from f (n + 1) ys) w (finds_at f (n + 1) ys k x w at (subst (λ (j : ℕ). Contains (f j x) w) i c))

-- the same from the first element on
pub finds_in :
    {A B : Type 0} (f : ℕ → A → List B) (xs : List A) (k : ℕ) (x : A) (w : B) → slice_get xs k ≡ Some x → Contains (f k x) w → Contains (each_from f 0 xs) w
finds_in {A} {B} f xs k x w at c =
    let i : k ≡ 0 + k = omega arith in
    finds_at f 0 xs k x w at (subst (λ (j : ℕ). Contains (f j x) w) i c)

-- the one whose test passes
pub by_test : {B : Type 0} (b : Bool) (v : B) → b ≡ true → Contains (when b v) v
by_test true v h = Contains-here v []
by_test false v h = absurd (true≢false (sym h))

pub by_failure : (b : Bool) → b ≡ false → not b ≡ true
by_failure true h = absurd (true≢false h)
by_failure false h = refl

pub by_two : (x y : Bool) → x ≡ true → y ≡ true → (x && y) ≡ true
by_two true y h g = g
by_two false y h g = absurd (true≢false (sym h))

-- a test of some elements passes at this one
pub by_element : {A : Type 0} (p : A → Bool) (xs : List A) (x : A) → Contains xs x → p x ≡ true → list_any p xs ≡ true
by_element p [] x c h = absurd (Contains-nil x c)
by_element {A} p (y ∷ ys) x c h =
    elim (Contains-cons_cases y ys x c) [
      | inl e ↦ ap (λ (b : Bool). b || list_any p ys) (ap p e ∙ h)
      | inr rest ↦ on_right (p y) (list_any p ys) (by_element p ys x rest h)
    ]
  where
    on_right : (a b : Bool) → b ≡ true → (a || b) ≡ true
    on_right true b h = refl
    on_right false b h = h

-- ---- Parts of the list

in_block :
    (lib : Library) (plan : Plan) (ss : List Stimulus) (b : ℕ) (t : BlockType) → IsAt lib.blocks b t → (w : Warning) → Contains (of_block lib b t) w
    → Contains (warnings lib plan ss) w
in_block lib plan ss b t at w c =
    let net = lib.application.network in
    let one = of_blocks lib lib.blocks in
    let two = of_network lib Application net ss in
    let three = instances.early_stimuli net.instances net.event_connections ss in
    let four = nets.unused_links plan.resources net.event_connections net.data_connections plan.links in
    Contains-append_left (one ++ two ++ three) four w
    (Contains-append_left (one ++ two) three w (Contains-append_left one two w (finds_in (of_block lib) lib.blocks b t w at c)))

in_interface :
    (lib : Library) (plan : Plan) (ss : List Stimulus) (b : ℕ) (t : BlockType) → IsAt lib.blocks b t → (w : Warning) → Contains (of_interface lib (type_name t) b t) w
    → Contains (warnings lib plan ss) w
in_interface lib plan ss b t at w c = in_block lib plan ss b t at w (Contains-append_left (of_interface lib (type_name t) b t) (of_type lib b t) w c)

in_type :
    (lib : Library) (plan : Plan) (ss : List Stimulus) (b : ℕ) (t : BlockType) → IsAt lib.blocks b t → (w : Warning) → Contains (of_type lib b t) w
    → Contains (warnings lib plan ss) w
in_type lib plan ss b t at w c = in_block lib plan ss b t at w (Contains-append_right (of_interface lib (type_name t) b t) (of_type lib b t) w c)

in_readings :
    (lib : Library) (plan : Plan) (ss : List Stimulus) (b : ℕ) (t : BasicType) → IsBasic lib b t → (w : Warning) → Contains (readings lib t.name b t) w
    → Contains (warnings lib plan ss) w
in_readings lib plan ss b t at w c =
    let one = readings lib t.name b t in
    in_type lib plan ss b (block.Basic t) at w
    (Contains-append_left (one ++ of_chart b t ++ of_ports b t) (of_statements b t) w
    (Contains-append_left (one ++ of_chart b t) (of_ports b t) w (Contains-append_left one (of_chart b t) w c)))

in_chart :
    (lib : Library) (plan : Plan) (ss : List Stimulus) (b : ℕ) (t : BasicType) → IsBasic lib b t → (w : Warning) → Contains (of_chart b t) w
    → Contains (warnings lib plan ss) w
in_chart lib plan ss b t at w c =
    let one = readings lib t.name b t in
    in_type lib plan ss b (block.Basic t) at w
    (Contains-append_left (one ++ of_chart b t ++ of_ports b t) (of_statements b t) w
    (Contains-append_left (one ++ of_chart b t) (of_ports b t) w (Contains-append_right one (of_chart b t) w c)))

in_ports :
    (lib : Library) (plan : Plan) (ss : List Stimulus) (b : ℕ) (t : BasicType) → IsBasic lib b t → (w : Warning) → Contains (of_ports b t) w
    → Contains (warnings lib plan ss) w
in_ports lib plan ss b t at w c =
    let one = readings lib t.name b t in
    in_type lib plan ss b (block.Basic t) at w
    (Contains-append_left (one ++ of_chart b t ++ of_ports b t) (of_statements b t) w (Contains-append_right (one ++ of_chart b t) (of_ports b t) w c))

in_statements :
    (lib : Library) (plan : Plan) (ss : List Stimulus) (b : ℕ) (t : BasicType) → IsBasic lib b t → (w : Warning) → Contains (of_statements b t) w
    → Contains (warnings lib plan ss) w
in_statements lib plan ss b t at w c =
    let one = readings lib t.name b t in
    in_type lib plan ss b (block.Basic t) at w (Contains-append_right (one ++ of_chart b t ++ of_ports b t) (of_statements b t) w c)

-- the network of the application, or of a composite type
in_network :
    (lib : Library) (plan : Plan) (ss : List Stimulus) (s : Site) (net : OwnedNetwork) → network_at lib s ≡ Some net → (w : Warning)
    → Contains (of_network lib s net.1 (stimuli_at s ss)) w → Contains (warnings lib plan ss) w
in_network lib plan ss Application net there w c =
    let own : (None, lib.application.network) ≡ net = cc in
    let own_network = lib.application.network in
    let here : Contains (of_network lib Application own_network ss) w = subst (λ (n : OwnedNetwork). Contains (of_network lib Application n.1 ss) w) (sym own) c in
    let one = of_blocks lib lib.blocks in
    let two = of_network lib Application own_network ss in
    let three = instances.early_stimuli own_network.instances own_network.event_connections ss in
    let four = nets.unused_links plan.resources own_network.event_connections own_network.data_connections plan.links in
    Contains-append_left (one ++ two ++ three) four w (Contains-append_left (one ++ two) three w (Contains-append_right one two w here))
in_network lib plan ss (Inside b) net there w c =
    let r = inside_at (slice_get lib.blocks b) net there in
    let here : Contains (of_network lib (Inside b) r.0.network []) w = subst (λ (n : OwnedNetwork). Contains (of_network lib (Inside b) n.1 []) w) (sym r.2) c in
    in_type lib plan ss b (block.Composite r.0) r.1 w (Contains-append_left (of_network lib (Inside b) r.0.network []) (ports.unjoined_ports b r.0) w here)
  where
    inside_of : (o : Option BlockType) (t : BlockType) (n : OwnedNetwork) → o ≡ Some t → network_inside t ≡ Some n → (x : CompositeType) × (o ≡ Some (block.Composite x)) × ((Some x, x.network) ≡ n)
    inside_of o (block.Basic t) n is h = absurd (cc)
    inside_of o (block.Composite t) n is h = let e : (Some t, t.network) ≡ n = cc in (t, is, e)

    inside_at : (o : Option BlockType) (n : OwnedNetwork) → option_and_then network_inside o ≡ Some n → (x : CompositeType) × (o ≡ Some (block.Composite x)) × ((Some x, x.network) ≡ n)
    inside_at None n h = absurd (cc)
    inside_at (Some t) n h = inside_of (Some t) t n refl h

-- ---- Each kind

interfaces :
    (lib : Library) (plan : Plan) (ss : List Stimulus) (b k : ℕ) → IsUnsampled lib b k → Contains (warnings lib plan ss) (UnsampledInput b k)
interfaces lib plan ss b k h =
    let t = h.type in
    let its = ports_of (kind_of t) in
    let w = UnsampledInput b k in
    let n = type_name t in
    let one = nets.unused_type lib n b in
    let two = ports.unsampled_inputs lib n b its.event_inputs its.inputs in
    let three = outputs.unsent_outputs lib n b t its.outputs in
    let passes = by_two _ _ (by_failure _ h.none) (by_failure _ h.not_given) in
    in_interface lib plan ss b t h.found w
    (Contains-append_left (one ++ two) three w
    (Contains-append_right one two w (finds_in (ports.unsampled_input lib n b its.event_inputs) its.inputs k h.input w h.at (by_test _ w passes))))

unsent : (lib : Library) (plan : Plan) (ss : List Stimulus) (b k : ℕ) → IsUnsent lib b k → Contains (warnings lib plan ss) (UnsentOutput b k)
unsent lib plan ss b k h =
    let t = h.type in
    let its = ports_of (kind_of t) in
    let w = UnsentOutput b k in
    let n = type_name t in
    let one = nets.unused_type lib n b in
    let two = ports.unsampled_inputs lib n b its.event_inputs its.inputs in
    let three = outputs.unsent_outputs lib n b t its.outputs in
    let passes = by_two _ _ (by_failure _ h.none) h.used in
    in_interface lib plan ss b t h.found w
    (Contains-append_right (one ++ two) three w (finds_in (outputs.unsent_output lib n b t) its.outputs k h.output w h.at (by_test _ w passes)))

unused_type : (lib : Library) (plan : Plan) (ss : List Stimulus) (b : ℕ) → IsUnusedType lib b → Contains (warnings lib plan ss) (UnusedType b)
unused_type lib plan ss b h =
    let t = h.type in
    let its = ports_of (kind_of t) in
    let w = UnusedType b in
    let n = type_name t in
    let one = nets.unused_type lib n b in
    let two = ports.unsampled_inputs lib n b its.event_inputs its.inputs in
    let three = outputs.unsent_outputs lib n b t its.outputs in
    in_interface lib plan ss b t h.found w
    (Contains-append_left (one ++ two) three w (Contains-append_left one two w (by_test _ w (by_failure _ h.none))))

guard_unsampled :
    (lib : Library) (plan : Plan) (ss : List Stimulus) (b x k : ℕ) → IsGuardUnsampled lib b x k → Contains (warnings lib plan ss) (UnsampledInGuard b x k)
guard_unsampled lib plan ss b x k h =
    let t = h.type in
    let es = t.ports.event_inputs in
    let vs = t.ports.inputs in
    let w = UnsampledInGuard b x k in
    let passes = by_two _ _ (by_two _ _ h.named h.unsampled) (by_failure _ h.not_given) in
    let there = finds_in (reads.unsampled_in_guard lib t.name b x es h.transition.condition.event (guard_mentions h.transition)) vs k h.input w h.input_at (by_test _ w passes) in
    in_readings lib plan ss b t h.found w
    (Contains-append_left (reads.unsampled_in_guards lib t.name b es vs t.transitions) (reads.unsampled_in_algorithms lib t.name (chart t) b vs t.algorithms) w
    (finds_in (reads.unsampled_at lib t.name b es vs) t.transitions x h.transition w h.at there))

-- transitions lead from the first state
leads_passing :
    (c : reads.Chart) (v : Name) (states : List State) (initial : State) (n : Name) → first_of states ≡ Some initial
    → Reached (filter (reads.passes_by c.events v) c.transitions) initial.name n → reads.leads_passing c v states n ≡ true
leads_passing c v [] initial n first h = absurd (cc)
leads_passing c v (s ∷ ss) initial n first h =
    let same : s ≡ initial = cc in
    (leads-is_reached (reads.passing c v) s.name n).1
    (subst (λ (i : State). Reached (filter (reads.passes_by c.events v) c.transitions) i.name n) (sym same) h)

algorithm_unsampled :
    (lib : Library) (plan : Plan) (ss : List Stimulus) (b a k : ℕ) → IsAlgorithmUnsampled lib b a k → Contains (warnings lib plan ss) (UnsampledInAlgorithm b a k)
algorithm_unsampled lib plan ss b a k h =
    let t = h.type in
    let vs = t.ports.inputs in
    let w = UnsampledInAlgorithm b a k in
    let x = h.algorithm in
    let led = by_two _ _ (by_two _ _ h.unsampled h.runs) (leads_passing (chart t) h.input.name t.states h.initial h.transition.from h.first h.reached) in
    let leads = by_element (reads.leads_unsampled (chart t) x.name h.input.name) t.transitions h.transition h.is_one led in
    let passes = by_two _ _ (by_two _ _ h.named leads) (by_failure _ h.not_given) in
    let there = finds_in (reads.unsampled_in_algorithm lib t.name (chart t) b a x.name (mentions_body (body_of x.body))) vs k h.input w h.input_at (by_test _ w passes) in
    in_readings lib plan ss b t h.found w
    (Contains-append_right (reads.unsampled_in_guards lib t.name b t.ports.event_inputs vs t.transitions) (reads.unsampled_in_algorithms lib t.name (chart t) b vs t.algorithms) w
    (finds_in (reads.unsampled_in lib t.name (chart t) b vs) t.algorithms a x w h.at there))

-- the parts of a chart
chart_part :
    (lib : Library) (plan : Plan) (ss : List Stimulus) (b : ℕ) (t : BasicType) → IsBasic lib b t → (w : Warning)
    → Contains (reached.unreached_states b t.transitions t.states ++ charts.final_states b t.transitions t.states ++ charts.shadowed_transitions b t.transitions) w
    → Contains (warnings lib plan ss) w
chart_part lib plan ss b t at w c =
    let front = reached.unreached_states b t.transitions t.states ++ charts.final_states b t.transitions t.states ++ charts.shadowed_transitions b t.transitions in
    let four = events.unnamed_events b t t.ports.event_inputs in
    let five = charts.unused_algorithms b t.states t.algorithms in
    let six = circles.endless_states b t.transitions t.states in
    in_chart lib plan ss b t at w
    (Contains-append_left (front ++ four ++ five) six w (Contains-append_left (front ++ four) five w (Contains-append_left front four w c)))

not_leading : (b : Bool) → (b ≡ true → ⊥) → b ≡ false
not_leading true h = absurd (h refl)
not_leading false h = refl

unreached_in :
    (b k : ℕ) (xs : List Transition) (states : List State) (initial state : State) → first_of states ≡ Some initial → slice_get states k ≡ Some state
    → ¬ (Reached xs initial.name state.name) → Contains (reached.unreached_states b xs states) (UnreachedState b k)
unreached_in b k xs [] initial state first at none = absurd (cc)
unreached_in b k xs (s ∷ ss) initial state first at none =
    let same : s ≡ initial = cc in
    let w = UnreachedState b k in
    let lost : ¬ (Reached xs s.name state.name) = λ h. none (subst (λ (i : State). Reached xs i.name state.name) same h) in
    let leads = reached.leads (map reached.edge_of xs) s.name state.name in
    let fails : leads ≡ false = not_leading leads (λ h. lost ((leads-is_reached xs s.name state.name).0 h)) in
    finds_in (reached.unreached_state b s.name xs) (s ∷ ss) k state w at (by_test _ w (by_failure _ fails))

unreached : (lib : Library) (plan : Plan) (ss : List Stimulus) (b k : ℕ) → IsUnreached lib b k → Contains (warnings lib plan ss) (UnreachedState b k)
unreached lib plan ss b k h =
    let t = h.type in
    let w = UnreachedState b k in
    let one = reached.unreached_states b t.transitions t.states in
    let two = charts.final_states b t.transitions t.states in
    let three = charts.shadowed_transitions b t.transitions in
    chart_part lib plan ss b t h.found w
    (Contains-append_left (one ++ two) three w (Contains-append_left one two w (unreached_in b k t.transitions t.states h.initial h.state h.first h.at h.none)))

final : (lib : Library) (plan : Plan) (ss : List Stimulus) (b k : ℕ) → IsFinal lib b k → Contains (warnings lib plan ss) (FinalState b k)
final lib plan ss b k h =
    let t = h.type in
    let w = FinalState b k in
    let one = reached.unreached_states b t.transitions t.states in
    let two = charts.final_states b t.transitions t.states in
    let three = charts.shadowed_transitions b t.transitions in
    chart_part lib plan ss b t h.found w
    (Contains-append_left (one ++ two) three w
    (Contains-append_right one two w (finds_in (charts.final_state b t.transitions) t.states k h.state w h.at (by_test _ w (by_failure _ h.none)))))

at_front : {A : Type 0} (xs : List A) (k i : ℕ) (y : A) → i < k → slice_get xs i ≡ Some y → slice_get (take k xs) i ≡ Some y
at_front xs zero i y within at = absurd (omega arith)
at_front [] (suc k) i y within at = absurd (cc)
at_front (x ∷ xs) (suc k) zero y within at = at
at_front (x ∷ xs) (suc k) (suc i) y within at = at_front xs k i y (omega arith) at

shadowed : (lib : Library) (plan : Plan) (ss : List Stimulus) (b k : ℕ) → IsShadowed lib b k → Contains (warnings lib plan ss) (ShadowedTransition b k)
shadowed lib plan ss b k h =
    let t = h.type in
    let w = ShadowedTransition b k in
    let one = reached.unreached_states b t.transitions t.states in
    let two = charts.final_states b t.transitions t.states in
    let three = charts.shadowed_transitions b t.transitions in
    let front = take k t.transitions in
    let there = element_of_index front h.index h.earlier (at_front t.transitions k h.index h.earlier h.before h.earlier_at) in
    let passes = by_element (charts.shadows h.transition) front h.earlier there h.shadowed in
    chart_part lib plan ss b t h.found w
    (Contains-append_right (one ++ two) three w (finds_in (charts.shadowed_transition b t.transitions) t.transitions k h.transition w h.at (by_test _ w passes)))

unnamed : (lib : Library) (plan : Plan) (ss : List Stimulus) (b k : ℕ) → IsUnnamed lib b k → Contains (warnings lib plan ss) (UnnamedEvent b k)
unnamed lib plan ss b k h =
    let t = h.type in
    let w = UnnamedEvent b k in
    let front = reached.unreached_states b t.transitions t.states ++ charts.final_states b t.transitions t.states ++ charts.shadowed_transitions b t.transitions in
    let four = events.unnamed_events b t t.ports.event_inputs in
    let five = charts.unused_algorithms b t.states t.algorithms in
    let six = circles.endless_states b t.transitions t.states in
    let passes = by_two _ _ (by_failure _ h.none) (by_failure _ h.samples_none) in
    in_chart lib plan ss b t h.found w
    (Contains-append_left (front ++ four ++ five) six w
    (Contains-append_left (front ++ four) five w
    (Contains-append_right front four w (finds_in (events.unnamed_event b t) t.ports.event_inputs k h.event w h.at (by_test _ w passes)))))

unused_algorithm :
    (lib : Library) (plan : Plan) (ss : List Stimulus) (b k : ℕ) → IsUnusedAlgorithm lib b k → Contains (warnings lib plan ss) (UnusedAlgorithm b k)
unused_algorithm lib plan ss b k h =
    let t = h.type in
    let w = UnusedAlgorithm b k in
    let front = reached.unreached_states b t.transitions t.states ++ charts.final_states b t.transitions t.states ++ charts.shadowed_transitions b t.transitions in
    let four = events.unnamed_events b t t.ports.event_inputs in
    let five = charts.unused_algorithms b t.states t.algorithms in
    let six = circles.endless_states b t.transitions t.states in
    in_chart lib plan ss b t h.found w
    (Contains-append_left (front ++ four ++ five) six w
    (Contains-append_right (front ++ four) five w (finds_in (charts.unused_algorithm b t.states) t.algorithms k h.algorithm w h.at (by_test _ w (by_failure _ h.none)))))

endless : (lib : Library) (plan : Plan) (ss : List Stimulus) (b k : ℕ) → IsEndless lib b k → Contains (warnings lib plan ss) (EndlessState b k)
endless lib plan ss b k h =
    let t = h.type in
    let w = EndlessState b k in
    let front = reached.unreached_states b t.transitions t.states ++ charts.final_states b t.transitions t.states ++ charts.shadowed_transitions b t.transitions in
    let four = events.unnamed_events b t t.ports.event_inputs in
    let five = charts.unused_algorithms b t.states t.algorithms in
    let six = circles.endless_states b t.transitions t.states in
    let es = circles.certain_edges t.transitions in
    let passes = by_element (circles.leads_back es h.state.name) es h.edge h.is_certain (by_two _ _ h.leaves h.back) in
    in_chart lib plan ss b t h.found w
    (Contains-append_right (front ++ four ++ five) six w (finds_in (circles.endless_state b es) t.states k h.state w h.at (by_test _ w passes)))

-- ---- Ports

map_at : {A B : Type 0} (f : A → B) (xs : List A) (k : ℕ) (z : B) → slice_get (map f xs) k ≡ Some z → (x : A) × (slice_get xs k ≡ Some x) × (f x ≡ z)
map_at f [] k z h = absurd (cc)
map_at f (x ∷ xs) zero z h = let e : f x ≡ z = cc in (x, refl, e)
map_at f (x ∷ xs) (suc k) z h = map_at f xs k z h

-- the ports of a composite type
in_composite :
    (lib : Library) (plan : Plan) (ss : List Stimulus) (b : ℕ) (t : CompositeType) → IsAt lib.blocks b (block.Composite t) → (w : Warning)
    → Contains (ports.unjoined_ports b t) w → Contains (warnings lib plan ss) w
in_composite lib plan ss b t at w c =
    in_type lib plan ss b (block.Composite t) at w (Contains-append_right (of_network lib (Inside b) t.network []) (ports.unjoined_ports b t) w c)

port_of :
    (lib : Library) (plan : Plan) (ss : List Stimulus) (b : ℕ) (p : PortKind) (k : ℕ) (t : BlockType) → IsAt lib.blocks b t → (n : Name) → IsAt (names_of_ports t p) k n
    → is_used_in t p k n ≡ false → Contains (warnings lib plan ss) (UnusedPort b p k)
port_of lib plan ss b kind.EventInput k (block.Composite t) found n at none =
    let w = UnusedPort b kind.EventInput k in
    let its = t.ports in
    let net = t.network in
    let one = ports.unused_events b net.event_connections net.data_connections its.event_inputs in
    let two = ports.unjoined_events b kind.EventOutput net.event_connections its.event_outputs in
    let three = ports.unjoined_variables b kind.Input net.data_connections its.inputs in
    let four = ports.unjoined_variables b kind.Output net.data_connections its.outputs in
    let e = map_at (λ (x : EventPort). x.name) its.event_inputs k n at in
    let idle : ports.is_event_used net.event_connections net.data_connections e.0 ≡ false = sym (ap (is_used_event t) e.1) ∙ none in
    in_composite lib plan ss b t found w
    (Contains-append_left (one ++ two ++ three) four w
    (Contains-append_left (one ++ two) three w
    (Contains-append_left one two w (finds_in (ports.unused_event b net.event_connections net.data_connections) its.event_inputs k e.0 w e.1 (by_test _ w (by_failure _ idle))))))
port_of lib plan ss b kind.EventOutput k (block.Composite t) found n at none =
    let w = UnusedPort b kind.EventOutput k in
    let its = t.ports in
    let net = t.network in
    let one = ports.unused_events b net.event_connections net.data_connections its.event_inputs in
    let two = ports.unjoined_events b kind.EventOutput net.event_connections its.event_outputs in
    let three = ports.unjoined_variables b kind.Input net.data_connections its.inputs in
    let four = ports.unjoined_variables b kind.Output net.data_connections its.outputs in
    let e = map_at (λ (x : EventPort). x.name) its.event_outputs k n at in
    let idle : list_any (ports.joins kind.EventOutput e.0.name) net.event_connections ≡ false = ap (λ (m : Name). list_any (ports.joins kind.EventOutput m) net.event_connections) e.2 ∙ none in
    in_composite lib plan ss b t found w
    (Contains-append_left (one ++ two ++ three) four w
    (Contains-append_left (one ++ two) three w
    (Contains-append_right one two w (finds_in (ports.unjoined_event b kind.EventOutput net.event_connections) its.event_outputs k e.0 w e.1 (by_test _ w (by_failure _ idle))))))
port_of lib plan ss b kind.Input k (block.Composite t) found n at none =
    let w = UnusedPort b kind.Input k in
    let its = t.ports in
    let net = t.network in
    let one = ports.unused_events b net.event_connections net.data_connections its.event_inputs in
    let two = ports.unjoined_events b kind.EventOutput net.event_connections its.event_outputs in
    let three = ports.unjoined_variables b kind.Input net.data_connections its.inputs in
    let four = ports.unjoined_variables b kind.Output net.data_connections its.outputs in
    let e = map_at (λ (x : Variable). x.name) its.inputs k n at in
    let idle : list_any (ports.joins kind.Input e.0.name) net.data_connections ≡ false = ap (λ (m : Name). list_any (ports.joins kind.Input m) net.data_connections) e.2 ∙ none in
    in_composite lib plan ss b t found w
    (Contains-append_left (one ++ two ++ three) four w
    (Contains-append_right (one ++ two) three w (finds_in (ports.unjoined_variable b kind.Input net.data_connections) its.inputs k e.0 w e.1 (by_test _ w (by_failure _ idle)))))
port_of lib plan ss b kind.Output k (block.Composite t) found n at none =
    let w = UnusedPort b kind.Output k in
    let its = t.ports in
    let net = t.network in
    let one = ports.unused_events b net.event_connections net.data_connections its.event_inputs in
    let two = ports.unjoined_events b kind.EventOutput net.event_connections its.event_outputs in
    let three = ports.unjoined_variables b kind.Input net.data_connections its.inputs in
    let four = ports.unjoined_variables b kind.Output net.data_connections its.outputs in
    let e = map_at (λ (x : Variable). x.name) its.outputs k n at in
    let idle : list_any (ports.joins kind.Output e.0.name) net.data_connections ≡ false = ap (λ (m : Name). list_any (ports.joins kind.Output m) net.data_connections) e.2 ∙ none in
    in_composite lib plan ss b t found w
    (Contains-append_right (one ++ two ++ three) four w (finds_in (ports.unjoined_variable b kind.Output net.data_connections) its.outputs k e.0 w e.1 (by_test _ w (by_failure _ idle))))
port_of lib plan ss b kind.EventInput k (block.Basic t) found n at none = absurd (true≢false none)
port_of lib plan ss b kind.EventOutput k (block.Basic t) found n at none =
    let w = UnusedPort b kind.EventOutput k in
    let ms = reads.mentions_of t.algorithms t.transitions in
    let one = charts.silent_outputs b t.states t.ports.event_outputs in
    let two = reads.unmentioned_variables b kind.Input ms t.ports.inputs in
    let three = reads.unmentioned_variables b kind.Output ms t.ports.outputs in
    let four = reads.unassigned_events b (reads.assigned t.algorithms) t.ports.event_outputs in
    let e = map_at (λ (x : EventPort). x.name) t.ports.event_outputs k n at in
    let idle : list_any (charts.emits_in e.0.name) t.states ≡ false = ap (λ (m : Name). list_any (charts.emits_in m) t.states) e.2 ∙ none in
    in_ports lib plan ss b t found w
    (Contains-append_left (one ++ two ++ three) four w
    (Contains-append_left (one ++ two) three w
    (Contains-append_left one two w (finds_in (charts.silent_output b t.states) t.ports.event_outputs k e.0 w e.1 (by_test _ w (by_failure _ idle))))))
port_of lib plan ss b kind.Input k (block.Basic t) found n at none =
    let w = UnusedPort b kind.Input k in
    let ms = reads.mentions_of t.algorithms t.transitions in
    let one = charts.silent_outputs b t.states t.ports.event_outputs in
    let two = reads.unmentioned_variables b kind.Input ms t.ports.inputs in
    let three = reads.unmentioned_variables b kind.Output ms t.ports.outputs in
    let four = reads.unassigned_events b (reads.assigned t.algorithms) t.ports.event_outputs in
    let e = map_at (λ (x : Variable). x.name) t.ports.inputs k n at in
    let idle : list_any (reads.is_variable e.0.name) ms ≡ false = ap (λ (m : Name). list_any (reads.is_variable m) ms) e.2 ∙ none in
    in_ports lib plan ss b t found w
    (Contains-append_left (one ++ two ++ three) four w
    (Contains-append_left (one ++ two) three w
    (Contains-append_right one two w (finds_in (reads.unmentioned b kind.Input ms) t.ports.inputs k e.0 w e.1 (by_test _ w (by_failure _ idle))))))
port_of lib plan ss b kind.Output k (block.Basic t) found n at none =
    let w = UnusedPort b kind.Output k in
    let ms = reads.mentions_of t.algorithms t.transitions in
    let one = charts.silent_outputs b t.states t.ports.event_outputs in
    let two = reads.unmentioned_variables b kind.Input ms t.ports.inputs in
    let three = reads.unmentioned_variables b kind.Output ms t.ports.outputs in
    let four = reads.unassigned_events b (reads.assigned t.algorithms) t.ports.event_outputs in
    let e = map_at (λ (x : Variable). x.name) t.ports.outputs k n at in
    let idle : list_any (reads.is_variable e.0.name) ms ≡ false = ap (λ (m : Name). list_any (reads.is_variable m) ms) e.2 ∙ none in
    in_ports lib plan ss b t found w
    (Contains-append_left (one ++ two ++ three) four w
    (Contains-append_right (one ++ two) three w (finds_in (reads.unmentioned b kind.Output ms) t.ports.outputs k e.0 w e.1 (by_test _ w (by_failure _ idle)))))

unassigned : (lib : Library) (plan : Plan) (ss : List Stimulus) (b k : ℕ) → IsUnassigned lib b k → Contains (warnings lib plan ss) (UnassignedEvent b k)
unassigned lib plan ss b k h =
    let t = h.type in
    let w = UnassignedEvent b k in
    let ms = reads.mentions_of t.algorithms t.transitions in
    let one = charts.silent_outputs b t.states t.ports.event_outputs in
    let two = reads.unmentioned_variables b kind.Input ms t.ports.inputs in
    let three = reads.unmentioned_variables b kind.Output ms t.ports.outputs in
    let four = reads.unassigned_events b (reads.assigned t.algorithms) t.ports.event_outputs in
    in_ports lib plan ss b t h.found w
    (Contains-append_right (one ++ two ++ three) four w
    (finds_in (reads.unassigned_event b (reads.assigned t.algorithms)) t.ports.event_outputs k h.event w h.at (by_test _ w h.none)))

-- ---- Statements

constant_of :
    (lib : Library) (plan : Plan) (ss : List Stimulus) (b a k : ℕ) (t : BasicType) (s : Stmt) → (is : IsStatement lib b a k t s) → (w : Warning)
    → Contains (constants.constants_of t b a k (is.in_loop, s)) w → Contains (warnings lib plan ss) w
constant_of lib plan ss b a k t s is w c =
    let one = constants.dividing_guards b t.transitions in
    let two = constants.constants_of_algorithms t b t.algorithms in
    let three = statements.repeated_labels b t.algorithms in
    let four = statements.unread_internals b t in
    let all = each_in_body false (body_of is.algorithm.body) in
    in_statements lib plan ss b t is.found w
    (Contains-append_left ((one ++ two) ++ three) four w
    (Contains-append_left (one ++ two) three w
    (Contains-append_right one two w
    (finds_in (constants.constants_in t b) t.algorithms a is.algorithm w is.at (finds_in (constants.constants_of t b a) all k (is.in_loop, s) w is.statement_at c)))))

unheld : (lib : Library) (plan : Plan) (ss : List Stimulus) (b a k : ℕ) → IsUnheld lib b a k → Contains (warnings lib plan ss) (UnheldConstant b a k)
unheld lib plan ss b a k h =
    let w = UnheldConstant b a k in
    let one = when (constants.assigns_too_large h.type h.statement) w in
    let two = when (constants.divides_in h.statement) (ZeroDivisor b a k) in
    constant_of lib plan ss b a k h.type h.statement h.is w (Contains-append_left one two w (by_test _ w h.too_large))

zero_division : (lib : Library) (plan : Plan) (ss : List Stimulus) (b a k : ℕ) → IsZeroDivision lib b a k → Contains (warnings lib plan ss) (ZeroDivisor b a k)
zero_division lib plan ss b a k h =
    let w = ZeroDivisor b a k in
    let one = when (constants.assigns_too_large h.type h.statement) (UnheldConstant b a k) in
    let two = when (constants.divides_in h.statement) w in
    constant_of lib plan ss b a k h.type h.statement h.is w (Contains-append_right one two w (by_test _ w h.divides))

zero_guard : (lib : Library) (plan : Plan) (ss : List Stimulus) (b x : ℕ) → IsZeroGuard lib b x → Contains (warnings lib plan ss) (ZeroDivisorInGuard b x)
zero_guard lib plan ss b x h =
    let t = h.type in
    let w = ZeroDivisorInGuard b x in
    let one = constants.dividing_guards b t.transitions in
    let two = constants.constants_of_algorithms t b t.algorithms in
    let three = statements.repeated_labels b t.algorithms in
    let four = statements.unread_internals b t in
    in_statements lib plan ss b t h.found w
    (Contains-append_left ((one ++ two) ++ three) four w
    (Contains-append_left (one ++ two) three w
    (Contains-append_left one two w (finds_in (constants.dividing_guard b) t.transitions x h.transition w h.at (by_test _ w h.divides)))))

repeated : (lib : Library) (plan : Plan) (ss : List Stimulus) (b a k : ℕ) → IsRepeated lib b a k → Contains (warnings lib plan ss) (RepeatedLabel b a k)
repeated lib plan ss b a k h =
    let t = h.type in
    let w = RepeatedLabel b a k in
    let one = constants.dividing_guards b t.transitions in
    let two = constants.constants_of_algorithms t b t.algorithms in
    let three = statements.repeated_labels b t.algorithms in
    let four = statements.unread_internals b t in
    let all = each_in_body false (body_of h.is.algorithm.body) in
    let s : Standing = (h.is.in_loop, h.statement) in
    in_statements lib plan ss b t h.is.found w
    (Contains-append_left ((one ++ two) ++ three) four w
    (Contains-append_right (one ++ two) three w
    (finds_in (statements.repeated_of b) t.algorithms a h.is.algorithm w h.is.at
    (finds_in (statements.repeated_label b a) all k s w h.is.statement_at (by_test _ w h.repeated)))))

unread : (lib : Library) (plan : Plan) (ss : List Stimulus) (b k : ℕ) → IsUnread lib b k → Contains (warnings lib plan ss) (UnreadInternal b k)
unread lib plan ss b k h =
    let t = h.type in
    let w = UnreadInternal b k in
    let one = constants.dividing_guards b t.transitions in
    let two = constants.constants_of_algorithms t b t.algorithms in
    let three = statements.repeated_labels b t.algorithms in
    let four = statements.unread_internals b t in
    in_statements lib plan ss b t h.found w
    (Contains-append_right ((one ++ two) ++ three) four w
    (finds_in (statements.unread_internal b (statements.reads_of t.algorithms t.transitions)) t.internals k h.internal w h.at (by_test _ w (by_failure _ h.none))))

-- ---- Networks

unfed : (lib : Library) (plan : Plan) (ss : List Stimulus) (s : Site) (i k : ℕ) → IsUnfed lib ss s i k → Contains (warnings lib plan ss) (UnfedInput s i k)
unfed lib plan ss s i k h =
    let w = UnfedInput s i k in
    let net = h.network.1 in
    let given = stimuli_at s ss in
    let one = nets.unfed_in_network lib s net.data_connections given net.instances in
    let two = instances.unreached_in_network lib s net.event_connections given net.instances in
    let three = instances.silent_sources s net.instances net.event_connections in
    let passes = by_two _ _ (by_failure _ h.none) (by_failure _ h.needed) in
    let inputs = nets.inputs_of (option_map ports_of (type_named lib h.instance.block_type)) in
    in_network lib plan ss s h.network h.there w
    (Contains-append_left (one ++ two) three w
    (Contains-append_left one two w
    (finds_in (nets.unfed_in_instance lib s net.data_connections given) net.instances i h.instance w h.found
    (finds_in (nets.unfed_input s net.data_connections given i h.instance) inputs k h.input w h.at (by_test _ w passes)))))

-- what is found at an instance of a network
at_instance :
    (lib : Library) (plan : Plan) (ss : List Stimulus) (s : Site) (i : ℕ) (network : OwnedNetwork) (x : Instance) (p : Ports) → IsInstance lib s i network x p
    → (w : Warning) → Contains (instances.unreached_at s network.1.event_connections (stimuli_at s ss) i x p) w → Contains (warnings lib plan ss) w
at_instance lib plan ss s i network x p is w c =
    let net = network.1 in
    let given = stimuli_at s ss in
    let one = nets.unfed_in_network lib s net.data_connections given net.instances in
    let two = instances.unreached_in_network lib s net.event_connections given net.instances in
    let three = instances.silent_sources s net.instances net.event_connections in
    let here : Contains (instances.unreached_of lib s net.event_connections given i x) w =
    subst (λ (o : Option Ports). Contains (instances.unreached_by s net.event_connections given i x o) w) (sym is.type) c in
    in_network lib plan ss s network is.there w
    (Contains-append_left (one ++ two) three w
    (Contains-append_right one two w (finds_in (instances.unreached_of lib s net.event_connections given) net.instances i x w is.found here)))

unreached_instance :
    (lib : Library) (plan : Plan) (ss : List Stimulus) (s : Site) (i : ℕ) → IsUnreachedInstance lib ss s i → Contains (warnings lib plan ss) (UnreachedInstance s i)
unreached_instance lib plan ss s i h =
    let w = UnreachedInstance s i in
    let p = h.ports in
    let es = h.network.1.event_connections in
    let given = stimuli_at s ss in
    let others = instances.unreached_events s es given i h.instance p.inputs p.event_inputs in
    let alone = when (instances.has_events p.event_inputs) w in
    at_instance lib plan ss s i h.network h.instance p h.is w
    (subst (λ (b : Bool). Contains (if b then others else alone) w) (sym h.none) (by_test _ w h.some))

unreached_event :
    (lib : Library) (plan : Plan) (ss : List Stimulus) (s : Site) (i k : ℕ) → IsUnreachedEvent lib ss s i k → Contains (warnings lib plan ss) (UnreachedEvent s i k)
unreached_event lib plan ss s i k h =
    let w = UnreachedEvent s i k in
    let p = h.ports in
    let es = h.network.1.event_connections in
    let given = stimuli_at s ss in
    let others = instances.unreached_events s es given i h.instance p.inputs p.event_inputs in
    let alone = when (instances.has_events p.event_inputs) (UnreachedInstance s i) in
    let passes = by_two _ _ (by_two _ _ (by_failure _ h.none) (by_failure _ h.needed)) (by_failure _ h.not_preset) in
    at_instance lib plan ss s i h.network h.instance p h.is w
    (subst (λ (b : Bool). Contains (if b then others else alone) w) (sym h.reached)
    (finds_in (instances.unreached_event s es given i h.instance p.inputs) p.event_inputs k h.event w h.at (by_test _ w passes)))

silent_source :
    (lib : Library) (plan : Plan) (ss : List Stimulus) (s : Site) (k : ℕ) → IsSilentSource lib s k → Contains (warnings lib plan ss) (SilentSource s k)
silent_source lib plan ss s k h =
    let w = SilentSource s k in
    let net = h.network.1 in
    let given = stimuli_at s ss in
    let one = nets.unfed_in_network lib s net.data_connections given net.instances in
    let two = instances.unreached_in_network lib s net.event_connections given net.instances in
    let three = instances.silent_sources s net.instances net.event_connections in
    in_network lib plan ss s h.network h.there w
    (Contains-append_right (one ++ two) three w (finds_in (instances.silent_source s net.instances) net.event_connections k h.connection w h.at (by_test _ w h.silent)))

early : (lib : Library) (plan : Plan) (ss : List Stimulus) (k : ℕ) → IsEarly lib ss k → Contains (warnings lib plan ss) (EarlyStimulus k)
early lib plan ss k h =
    let w = EarlyStimulus k in
    let net = lib.application.network in
    let one = of_blocks lib lib.blocks in
    let two = of_network lib Application net ss in
    let three = instances.early_stimuli net.instances net.event_connections ss in
    let four = nets.unused_links plan.resources net.event_connections net.data_connections plan.links in
    Contains-append_left (one ++ two ++ three) four w
    (Contains-append_right (one ++ two) three w (finds_in (instances.early_stimulus net.instances net.event_connections) ss k h.stimulus w h.at (by_test _ w h.first)))

unused_link : (lib : Library) (plan : Plan) (ss : List Stimulus) (k : ℕ) → IsUnusedLink lib plan k → Contains (warnings lib plan ss) (UnusedLink k)
unused_link lib plan ss k h =
    let w = UnusedLink k in
    let net = lib.application.network in
    let one = of_blocks lib lib.blocks in
    let two = of_network lib Application net ss in
    let three = instances.early_stimuli net.instances net.event_connections ss in
    let four = nets.unused_links plan.resources net.event_connections net.data_connections plan.links in
    Contains-append_right (one ++ two ++ three) four w
    (finds_in (nets.unused_link plan.resources net.event_connections net.data_connections) plan.links k h.link w h.at (by_test _ w (by_failure _ h.none)))

pub each_listed : WarningsListed
each_listed lib plan ss (UnsampledInput b k) h = interfaces lib plan ss b k h
each_listed lib plan ss (UnfedInput s i k) h = unfed lib plan ss s i k h
each_listed lib plan ss (UnsampledInGuard b x k) h = guard_unsampled lib plan ss b x k h
each_listed lib plan ss (UnsampledInAlgorithm b a k) h = algorithm_unsampled lib plan ss b a k h
each_listed lib plan ss (UnreachedState b k) h = unreached lib plan ss b k h
each_listed lib plan ss (FinalState b k) h = final lib plan ss b k h
each_listed lib plan ss (ShadowedTransition b k) h = shadowed lib plan ss b k h
each_listed lib plan ss (UnnamedEvent b k) h = unnamed lib plan ss b k h
each_listed lib plan ss (UnusedAlgorithm b k) h = unused_algorithm lib plan ss b k h
each_listed lib plan ss (UnusedType b) h = unused_type lib plan ss b h
each_listed lib plan ss (UnusedPort b p k) h = port_of lib plan ss b p k h.type h.found h.port h.at h.none
each_listed lib plan ss (UnassignedEvent b k) h = unassigned lib plan ss b k h
each_listed lib plan ss (UnusedLink k) h = unused_link lib plan ss k h
each_listed lib plan ss (UnsentOutput b k) h = unsent lib plan ss b k h
each_listed lib plan ss (UnreachedInstance s i) h = unreached_instance lib plan ss s i h
each_listed lib plan ss (UnreachedEvent s i k) h = unreached_event lib plan ss s i k h
each_listed lib plan ss (UnheldConstant b a k) h = unheld lib plan ss b a k h
each_listed lib plan ss (ZeroDivisor b a k) h = zero_division lib plan ss b a k h
each_listed lib plan ss (ZeroDivisorInGuard b x) h = zero_guard lib plan ss b x h
each_listed lib plan ss (EndlessState b k) h = endless lib plan ss b k h
each_listed lib plan ss (SilentSource s k) h = silent_source lib plan ss s k h
each_listed lib plan ss (RepeatedLabel b a k) h = repeated lib plan ss b a k h
each_listed lib plan ss (UnreadInternal b k) h = unread lib plan ss b k h
each_listed lib plan ss (EarlyStimulus k) h = early lib plan ss k h
