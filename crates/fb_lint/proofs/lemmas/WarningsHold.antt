-- Each warning of the list holds at its position.
use Rattle.fb_lint.proofs.lemmas.Common.{◌≡◌, ℕ, ◌+◌, ◌<◌, Bool, true, false, not, List, [], ◌∷◌, ◌++◌, map, take, Contains, refl, sym, ◌∙◌, ap, subst, inl, inr, arith, filter, list_any, true≢false, Name, Algorithm, guard_mentions, when, each_from, Warning}
use Rattle.fb_types.proofs.Common.{zero, suc, ◌&&◌, if◌then◌else◌, Option, Some, None, slice_get, option_map, option_and_then, Contains-append_cases, ports_of, first_of, kind_of, type_name, type_named, OwnedNetwork, body_of, mentions_body}
use Rattle.fb_types.specs.declared.deploy.Plan.{Plan}
use Rattle.fb_types.specs.declared.deploy.Stimulus.{Stimulus}
use Rattle.fb_types.specs.declared.library.BasicType.{BasicType}
use Rattle.fb_types.specs.declared.library.BlockType.{BlockType}
use Rattle.fb_types.specs.declared.library.Library.{Library}
use Rattle.fb_types.specs.declared.library.CompositeType.{CompositeType}
use Rattle.fb_types.specs.declared.library.Connection.{Connection}
use Rattle.fb_types.specs.declared.library.EventPort.{EventPort}
use Rattle.fb_types.specs.declared.library.Instance.{Instance}
use Rattle.fb_types.specs.declared.library.Ports.{Ports}
use Rattle.fb_types.specs.declared.library.Variable.{Variable}
use Rattle.fb_types.proofs.lemmas.lists.Elements.{Contains-nil, Contains-cons_cases}
use Rattle.fb_types.proofs.lemmas.lists.ByIndex.{index_of_element}
use Rattle.fb_types.proofs.lemmas.lists.ListTests.{passes_somewhere}
use Rattle.fb_types.specs.declared.library.BlockType.TheVariants as block
use Rattle.fb_types.specs.declared.library.State.{State}
use Rattle.fb_check_names.specs.PortKinds.{names_of_kind}
use Rattle.fb_check_names.specs.declared.ports.PortKind.{PortKind}
use Rattle.fb_check_names.specs.declared.ports.PortKind.TheVariants as kind
use Rattle.fb_check.specs.types.Statements.{Standing, each_in_body}
use Rattle.fb_check_names.specs.Sites.{network_at, network_inside}
use Rattle.fb_check_names.specs.declared.location.Site.{Site}
use Rattle.fb_check_names.specs.declared.location.Site.TheVariants.{Application, Inside}
use Rattle.fb_lint.specs.Charts as charts
use Rattle.fb_lint.specs.Circles as circles
use Rattle.fb_lint.specs.Conditions.{Holds, IsAt, IsBasic, IsStatement, is_used_event, is_used_in, stimuli_at, WarningsHold}
use Rattle.fb_lint.specs.Constants as constants
use Rattle.fb_lint.specs.Events as events
use Rattle.fb_lint.specs.Instances as instances
use Rattle.fb_lint.specs.Interfaces as ports
use Rattle.fb_lint.specs.Networks as nets
use Rattle.fb_lint.specs.Outputs as outputs
use Rattle.fb_lint.specs.Reached as reached
use Rattle.fb_lint.specs.Reached.{Reached}
use Rattle.fb_lint.specs.Reads as reads
use Rattle.fb_lint.specs.Statements as statements
use Rattle.fb_lint.proofs.lemmas.Edges.{leads-is_reached}
use Rattle.fb_lint.specs.Warnings.{readings, of_chart, of_ports, of_statements, of_network, of_composite, of_type, of_block, of_blocks}
use Rattle.fb_lint.specs.declared.warning.Warning.TheVariants.{UnheldConstant, UnreachedInstance, ZeroDivisor}

-- ---- Lists of findings

-- what is found is found at an element
pub found_at :
    {A B : Type 0} (f : ℕ → A → List B) (n : ℕ) (xs : List A) (w : B) → Contains (each_from f n xs) w
    → (k : ℕ) × (x : A) × (slice_get xs k ≡ Some x) × Contains (f (n + k) x) w
found_at f n [] w c = absurd (Contains-nil w c)
found_at {A} {B} f n (x ∷ xs) w c =
    elim (Contains-append_cases (f n x) (each_from f (n + 1) xs) w c) [
      | inl here ↦
          let e : n ≡ n + 0 = omega arith in
          (0, x, refl, subst (λ (k : ℕ). Contains (f k x) w) e here)
      | inr later ↦
          let r = found_at f (n + 1) xs w later in
          let e : (n + 1) + r.0 ≡ n + suc r.0 = omega arith in
          (suc r.0, r.1, r.2, subst (λ (k : ℕ). Contains (f k r.1) w) e r.3)
    ]

-- the same from the first element on
pub found_in :
    {A B : Type 0} (f : ℕ → A → List B) (xs : List A) (w : B) → Contains (each_from f 0 xs) w
    → (k : ℕ) × (x : A) × (slice_get xs k ≡ Some x) × Contains (f k x) w
found_in {A} {B} f xs w c =
    let r = found_at f 0 xs w c in
    let e : 0 + r.0 ≡ r.0 = omega arith in
    (r.0, r.1, r.2, subst (λ (k : ℕ). Contains (f k r.1) w) e r.3)

-- it is the one, and its test passes
pub of_test : {B : Type 0} (b : Bool) (v w : B) → Contains (when b v) w → (b ≡ true) × (v ≡ w)
of_test true v w c = elim (Contains-cons_cases v [] w c) [ inl e ↦ (refl, e) | inr none ↦ absurd (Contains-nil w none) ]
of_test false v w c = absurd (Contains-nil w c)

pub of_failed : (b : Bool) → not b ≡ true → b ≡ false
of_failed true h = sym h
of_failed false h = refl

of_two : (x y : Bool) → (x && y) ≡ true → (x ≡ true) × (y ≡ true)
of_two true y h = (refl, h)
of_two false y h = absurd (true≢false (sym h))

at_map : {A B : Type 0} (f : A → B) (xs : List A) (k : ℕ) (x : A) → slice_get xs k ≡ Some x → slice_get (map f xs) k ≡ Some (f x)
at_map f [] k x h = absurd (cc)
at_map f (y ∷ ys) zero x h = let e : y ≡ x = cc in ap (λ z. Some (f z)) e
at_map f (y ∷ ys) (suc k) x h = at_map f ys k x h

at_taken : {A : Type 0} (xs : List A) (k i : ℕ) (y : A) → slice_get (take k xs) i ≡ Some y → (i < k) × (slice_get xs i ≡ Some y)
at_taken xs zero i y h = absurd (cc)
at_taken [] (suc k) i y h = absurd (cc)
at_taken (x ∷ xs) (suc k) zero y h = (omega arith, h)
at_taken (x ∷ xs) (suc k) (suc i) y h = let r = at_taken xs k i y h in (omega (arith, r.0), r.1)

-- ---- Interfaces

unsampled :
    (lib : Library) (plan : Plan) (ss : List Stimulus) (b : ℕ) (t : BlockType) → IsAt lib.blocks b t → (w : Warning)
    → Contains (ports.unsampled_inputs lib (type_name t) b (ports_of (kind_of t)).event_inputs (ports_of (kind_of t)).inputs) w → Holds lib plan ss w
unsampled lib plan ss b t at w c =
    let its = ports_of (kind_of t) in
    let r = found_in (ports.unsampled_input lib (type_name t) b its.event_inputs) its.inputs w c in
    let q = of_test _ _ w r.3 in
    let p = of_two _ _ q.0 in
    subst (Holds lib plan ss) q.1 (record { type = t; found = at; input = r.1; at = r.2; none = of_failed _ p.0; not_given = of_failed _ p.1 })

unsent :
    (lib : Library) (plan : Plan) (ss : List Stimulus) (b : ℕ) (t : BlockType) → IsAt lib.blocks b t → (w : Warning)
    → Contains (outputs.unsent_outputs lib (type_name t) b t (ports_of (kind_of t)).outputs) w → Holds lib plan ss w
unsent lib plan ss b t at w c =
    let its = ports_of (kind_of t) in
    let r = found_in (outputs.unsent_output lib (type_name t) b t) its.outputs w c in
    let q = of_test _ _ w r.3 in
    let p = of_two _ _ q.0 in
    subst (Holds lib plan ss) q.1 (record { type = t; found = at; output = r.1; at = r.2; none = of_failed _ p.0; used = p.1 })

-- what no connection inside names
unjoined_events :
    (lib : Library) (plan : Plan) (ss : List Stimulus) (b : ℕ) (t : BlockType) → IsAt lib.blocks b t → (p : PortKind) (es : List EventPort) (cs : List Connection)
    → names_of_kind p (ports_of (kind_of t)) ≡ map (λ e. e.name) es → ((k : ℕ) (e : EventPort) → is_used_in t p k e.name ≡ list_any (ports.joins p e.name) cs)
    → (w : Warning) → Contains (ports.unjoined_events b p cs es) w → Holds lib plan ss w
unjoined_events lib plan ss b t at p es cs names uses w c =
    let r = found_in (ports.unjoined_event b p cs) es w c in
    let q = of_test _ _ w r.3 in
    subst (Holds lib plan ss) q.1
    (record {
      type = t;
      found = at;
      port = r.1.name;
      at = ap (λ ns. slice_get ns r.0) names ∙ at_map (λ (e : EventPort). e.name) es r.0 r.1 r.2;
      none = uses r.0 r.1 ∙ of_failed _ q.0;
    })

unjoined_variables :
    (lib : Library) (plan : Plan) (ss : List Stimulus) (b : ℕ) (t : BlockType) → IsAt lib.blocks b t → (p : PortKind) (vs : List Variable) (cs : List Connection)
    → names_of_kind p (ports_of (kind_of t)) ≡ map (λ v. v.name) vs → ((k : ℕ) (v : Variable) → is_used_in t p k v.name ≡ list_any (ports.joins p v.name) cs)
    → (w : Warning) → Contains (ports.unjoined_variables b p cs vs) w → Holds lib plan ss w
unjoined_variables lib plan ss b t at p vs cs names uses w c =
    let r = found_in (ports.unjoined_variable b p cs) vs w c in
    let q = of_test _ _ w r.3 in
    subst (Holds lib plan ss) q.1
    (record {
      type = t;
      found = at;
      port = r.1.name;
      at = ap (λ ns. slice_get ns r.0) names ∙ at_map (λ (v : Variable). v.name) vs r.0 r.1 r.2;
      none = uses r.0 r.1 ∙ of_failed _ q.0;
    })

unused_events :
    (lib : Library) (plan : Plan) (ss : List Stimulus) (b : ℕ) (t : CompositeType) → IsAt lib.blocks b (block.Composite t) → (w : Warning)
    → Contains (ports.unused_events b t.network.event_connections t.network.data_connections t.ports.event_inputs) w → Holds lib plan ss w
unused_events lib plan ss b t at w c =
    let es = t.ports.event_inputs in
    let r = found_in (ports.unused_event b t.network.event_connections t.network.data_connections) es w c in
    let q = of_test _ _ w r.3 in
    subst (Holds lib plan ss) q.1
    (record {
      type = block.Composite t;
      found = at;
      port = r.1.name;
      at = at_map (λ (e : EventPort). e.name) es r.0 r.1 r.2;
      none = ap (is_used_event t) r.2 ∙ of_failed _ q.0;
    })

unjoined :
    (lib : Library) (plan : Plan) (ss : List Stimulus) (b : ℕ) (t : CompositeType) → IsAt lib.blocks b (block.Composite t) → (w : Warning)
    → Contains (ports.unjoined_ports b t) w → Holds lib plan ss w
unjoined lib plan ss b t at w c =
    let its = t.ports in
    let net = t.network in
    let one = ports.unused_events b net.event_connections net.data_connections its.event_inputs in
    let two = ports.unjoined_events b kind.EventOutput net.event_connections its.event_outputs in
    let three = ports.unjoined_variables b kind.Input net.data_connections its.inputs in
    let four = ports.unjoined_variables b kind.Output net.data_connections its.outputs in
    elim (Contains-append_cases (one ++ two ++ three) four w c) [
      | inl front ↦ elim (Contains-append_cases (one ++ two) three w front) [
        | inl first ↦ elim (Contains-append_cases one two w first) [
          | inl h ↦ unused_events lib plan ss b t at w h
          | inr h ↦ unjoined_events lib plan ss b (block.Composite t) at kind.EventOutput its.event_outputs net.event_connections refl (λ _ _. refl) w h
        ]
        | inr h ↦ unjoined_variables lib plan ss b (block.Composite t) at kind.Input its.inputs net.data_connections refl (λ _ _. refl) w h
      ]
      | inr h ↦ unjoined_variables lib plan ss b (block.Composite t) at kind.Output its.outputs net.data_connections refl (λ _ _. refl) w h
    ]

-- ---- Readings

guards :
    (lib : Library) (plan : Plan) (ss : List Stimulus) (b : ℕ) (t : BasicType) → IsBasic lib b t → (w : Warning)
    → Contains (reads.unsampled_in_guards lib t.name b t.ports.event_inputs t.ports.inputs t.transitions) w → Holds lib plan ss w
guards lib plan ss b t at w c =
    let es = t.ports.event_inputs in
    let vs = t.ports.inputs in
    let r = found_in (reads.unsampled_at lib t.name b es vs) t.transitions w c in
    let s = found_in (reads.unsampled_in_guard lib t.name b r.0 es r.1.condition.event (guard_mentions r.1)) vs w r.3 in
    let q = of_test _ _ w s.3 in
    let p = of_two _ _ q.0 in
    let u = of_two _ _ p.0 in
    subst (Holds lib plan ss) q.1
    (record {
      type = t;
      found = at;
      transition = r.1;
      at = r.2;
      input = s.1;
      input_at = s.2;
      named = u.0;
      unsampled = u.1;
      not_given = of_failed _ p.1;
    })

-- the first state, from which the transitions lead
first_leading :
    (c : reads.Chart) (v : Name) (states : List State) (n : Name) → reads.leads_passing c v states n ≡ true
    → (initial : State) × (first_of states ≡ Some initial) × Reached (filter (reads.passes_by c.events v) c.transitions) initial.name n
first_leading c v [] n h = absurd (true≢false (sym h))
first_leading c v (s ∷ ss) n h = (s, refl, (leads-is_reached (reads.passing c v) s.name n).0 h)

abbrev pub chart : BasicType → reads.Chart
chart t = record { states = t.states; transitions = t.transitions; events = t.ports.event_inputs }

algorithms :
    (lib : Library) (plan : Plan) (ss : List Stimulus) (b : ℕ) (t : BasicType) → IsBasic lib b t → (w : Warning)
    → Contains (reads.unsampled_in_algorithms lib t.name (chart t) b t.ports.inputs t.algorithms) w → Holds lib plan ss w
algorithms lib plan ss b t at w c =
    let vs = t.ports.inputs in
    let r = found_in (reads.unsampled_in lib t.name (chart t) b vs) t.algorithms w c in
    let s = found_in (reads.unsampled_in_algorithm lib t.name (chart t) b r.0 r.1.name (mentions_body (body_of r.1.body))) vs w r.3 in
    let q = of_test _ _ w s.3 in
    let p = of_two _ _ q.0 in
    let u = of_two _ _ p.0 in
    let e = passes_somewhere (reads.leads_unsampled (chart t) r.1.name s.1.name) t.transitions u.1 in
    let x = of_two _ _ e.2 in
    let y = of_two _ _ x.0 in
    let f = first_leading (chart t) s.1.name t.states e.0.from x.1 in
    subst (Holds lib plan ss) q.1
    (record {
      type = t;
      found = at;
      algorithm = r.1;
      at = r.2;
      input = s.1;
      input_at = s.2;
      named = u.0;
      transition = e.0;
      is_one = e.1;
      unsampled = y.0;
      runs = y.1;
      initial = f.0;
      first = f.1;
      reached = f.2;
      not_given = of_failed _ p.1;
    })

-- ---- Charts

unreached_in :
    (lib : Library) (plan : Plan) (ss : List Stimulus) (b : ℕ) (t : BasicType) → IsBasic lib b t → (w : Warning) (states : List State) → t.states ≡ states
    → Contains (reached.unreached_states b t.transitions states) w → Holds lib plan ss w
unreached_in lib plan ss b t at w [] are c = absurd (Contains-nil w c)
unreached_in lib plan ss b t at w (first ∷ others) are c =
    let r = found_in (reached.unreached_state b first.name t.transitions) (first ∷ others) w c in
    let q = of_test _ _ w r.3 in
    let none = of_failed (reached.leads (map reached.edge_of t.transitions) first.name r.1.name) q.0 in
    subst (Holds lib plan ss) q.1
    (record {
      type = t;
      found = at;
      initial = first;
      first = ap first_of are;
      state = r.1;
      at = ap (λ xs. slice_get xs r.0) are ∙ r.2;
      none = λ h. true≢false (sym ((leads-is_reached t.transitions first.name r.1.name).1 h) ∙ none);
    })

final :
    (lib : Library) (plan : Plan) (ss : List Stimulus) (b : ℕ) (t : BasicType) → IsBasic lib b t → (w : Warning)
    → Contains (charts.final_states b t.transitions t.states) w → Holds lib plan ss w
final lib plan ss b t at w c =
    let r = found_in (charts.final_state b t.transitions) t.states w c in
    let q = of_test _ _ w r.3 in
    subst (Holds lib plan ss) q.1 (record { type = t; found = at; state = r.1; at = r.2; none = of_failed _ q.0 })

shadowed :
    (lib : Library) (plan : Plan) (ss : List Stimulus) (b : ℕ) (t : BasicType) → IsBasic lib b t → (w : Warning)
    → Contains (charts.shadowed_transitions b t.transitions) w → Holds lib plan ss w
shadowed lib plan ss b t at w c =
    let r = found_in (charts.shadowed_transition b t.transitions) t.transitions w c in
    let q = of_test _ _ w r.3 in
    let e = passes_somewhere (charts.shadows r.1) (take r.0 t.transitions) q.0 in
    let i = index_of_element (take r.0 t.transitions) e.0 e.1 in
    let p = at_taken t.transitions r.0 i.0 e.0 i.1 in
    subst (Holds lib plan ss) q.1
    (record {
      type = t;
      found = at;
      transition = r.1;
      at = r.2;
      index = i.0;
      before = p.0;
      earlier = e.0;
      earlier_at = p.1;
      shadowed = e.2;
    })

unnamed :
    (lib : Library) (plan : Plan) (ss : List Stimulus) (b : ℕ) (t : BasicType) → IsBasic lib b t → (w : Warning)
    → Contains (events.unnamed_events b t t.ports.event_inputs) w → Holds lib plan ss w
unnamed lib plan ss b t at w c =
    let r = found_in (events.unnamed_event b t) t.ports.event_inputs w c in
    let q = of_test _ _ w r.3 in
    let p = of_two _ _ q.0 in
    subst (Holds lib plan ss) q.1 (record { type = t; found = at; event = r.1; at = r.2; none = of_failed _ p.0; samples_none = of_failed _ p.1 })

unused :
    (lib : Library) (plan : Plan) (ss : List Stimulus) (b : ℕ) (t : BasicType) → IsBasic lib b t → (w : Warning)
    → Contains (charts.unused_algorithms b t.states t.algorithms) w → Holds lib plan ss w
unused lib plan ss b t at w c =
    let r = found_in (charts.unused_algorithm b t.states) t.algorithms w c in
    let q = of_test _ _ w r.3 in
    subst (Holds lib plan ss) q.1 (record { type = t; found = at; algorithm = r.1; at = r.2; none = of_failed _ q.0 })

endless :
    (lib : Library) (plan : Plan) (ss : List Stimulus) (b : ℕ) (t : BasicType) → IsBasic lib b t → (w : Warning)
    → Contains (circles.endless_states b t.transitions t.states) w → Holds lib plan ss w
endless lib plan ss b t at w c =
    let es = circles.certain_edges t.transitions in
    let r = found_in (circles.endless_state b es) t.states w c in
    let q = of_test _ _ w r.3 in
    let e = passes_somewhere (circles.leads_back es r.1.name) es q.0 in
    let p = of_two _ _ e.2 in
    subst (Holds lib plan ss) q.1
    (record { type = t; found = at; state = r.1; at = r.2; edge = e.0; is_certain = e.1; leaves = p.0; back = p.1 })

-- ---- Ports of a basic type

silent :
    (lib : Library) (plan : Plan) (ss : List Stimulus) (b : ℕ) (t : BasicType) → IsBasic lib b t → (w : Warning)
    → Contains (charts.silent_outputs b t.states t.ports.event_outputs) w → Holds lib plan ss w
silent lib plan ss b t at w c =
    let r = found_in (charts.silent_output b t.states) t.ports.event_outputs w c in
    let q = of_test _ _ w r.3 in
    subst (Holds lib plan ss) q.1
    (record {
      type = block.Basic t;
      found = at;
      port = r.1.name;
      at = at_map (λ (e : EventPort). e.name) t.ports.event_outputs r.0 r.1 r.2;
      none = of_failed _ q.0;
    })

unmentioned :
    (lib : Library) (plan : Plan) (ss : List Stimulus) (b : ℕ) (t : BasicType) → IsBasic lib b t → (p : PortKind) (vs : List Variable)
    → names_of_kind p t.ports ≡ map (λ v. v.name) vs
    → ((k : ℕ) (v : Variable) → is_used_in (block.Basic t) p k v.name ≡ list_any (reads.is_variable v.name) (reads.mentions_of t.algorithms t.transitions))
    → (w : Warning) → Contains (reads.unmentioned_variables b p (reads.mentions_of t.algorithms t.transitions) vs) w → Holds lib plan ss w
unmentioned lib plan ss b t at p vs names uses w c =
    let r = found_in (reads.unmentioned b p (reads.mentions_of t.algorithms t.transitions)) vs w c in
    let q = of_test _ _ w r.3 in
    subst (Holds lib plan ss) q.1
    (record {
      type = block.Basic t;
      found = at;
      port = r.1.name;
      at = ap (λ ns. slice_get ns r.0) names ∙ at_map (λ (v : Variable). v.name) vs r.0 r.1 r.2;
      none = uses r.0 r.1 ∙ of_failed _ q.0;
    })

unassigned :
    (lib : Library) (plan : Plan) (ss : List Stimulus) (b : ℕ) (t : BasicType) → IsBasic lib b t → (w : Warning)
    → Contains (reads.unassigned_events b (reads.assigned t.algorithms) t.ports.event_outputs) w → Holds lib plan ss w
unassigned lib plan ss b t at w c =
    let r = found_in (reads.unassigned_event b (reads.assigned t.algorithms)) t.ports.event_outputs w c in
    let q = of_test _ _ w r.3 in
    subst (Holds lib plan ss) q.1 (record { type = t; found = at; event = r.1; at = r.2; none = q.0 })

basic_ports :
    (lib : Library) (plan : Plan) (ss : List Stimulus) (b : ℕ) (t : BasicType) → IsBasic lib b t → (w : Warning) → Contains (of_ports b t) w → Holds lib plan ss w
basic_ports lib plan ss b t at w c =
    let ms = reads.mentions_of t.algorithms t.transitions in
    let one = charts.silent_outputs b t.states t.ports.event_outputs in
    let two = reads.unmentioned_variables b kind.Input ms t.ports.inputs in
    let three = reads.unmentioned_variables b kind.Output ms t.ports.outputs in
    let four = reads.unassigned_events b (reads.assigned t.algorithms) t.ports.event_outputs in
    elim (Contains-append_cases (one ++ two ++ three) four w c) [
      | inl front ↦ elim (Contains-append_cases (one ++ two) three w front) [
        | inl first ↦ elim (Contains-append_cases one two w first) [
          | inl h ↦ silent lib plan ss b t at w h
          | inr h ↦ unmentioned lib plan ss b t at kind.Input t.ports.inputs refl (λ _ _. refl) w h
        ]
        | inr h ↦ unmentioned lib plan ss b t at kind.Output t.ports.outputs refl (λ _ _. refl) w h
      ]
      | inr h ↦ unassigned lib plan ss b t at w h
    ]

chart_holds :
    (lib : Library) (plan : Plan) (ss : List Stimulus) (b : ℕ) (t : BasicType) → IsBasic lib b t → (w : Warning) → Contains (of_chart b t) w → Holds lib plan ss w
chart_holds lib plan ss b t at w c =
    let one = reached.unreached_states b t.transitions t.states in
    let two = charts.final_states b t.transitions t.states in
    let three = charts.shadowed_transitions b t.transitions in
    let four = events.unnamed_events b t t.ports.event_inputs in
    let five = charts.unused_algorithms b t.states t.algorithms in
    let six = circles.endless_states b t.transitions t.states in
    elim (Contains-append_cases (one ++ two ++ three ++ four ++ five) six w c) [
      | inl most ↦ elim (Contains-append_cases (one ++ two ++ three ++ four) five w most) [
        | inl some ↦ elim (Contains-append_cases (one ++ two ++ three) four w some) [
          | inl front ↦ elim (Contains-append_cases (one ++ two) three w front) [
            | inl first ↦ elim (Contains-append_cases one two w first) [
              | inl h ↦ unreached_in lib plan ss b t at w t.states refl h
              | inr h ↦ final lib plan ss b t at w h
            ]
            | inr h ↦ shadowed lib plan ss b t at w h
          ]
          | inr h ↦ unnamed lib plan ss b t at w h
        ]
        | inr h ↦ unused lib plan ss b t at w h
      ]
      | inr h ↦ endless lib plan ss b t at w h
    ]

readings_hold :
    (lib : Library) (plan : Plan) (ss : List Stimulus) (b : ℕ) (t : BasicType) → IsBasic lib b t → (w : Warning) → Contains (readings lib t.name b t) w → Holds lib plan ss w
readings_hold lib plan ss b t at w c =
    let one = reads.unsampled_in_guards lib t.name b t.ports.event_inputs t.ports.inputs t.transitions in
    let two = reads.unsampled_in_algorithms lib t.name (chart t) b t.ports.inputs t.algorithms in
    elim (Contains-append_cases one two w c) [ inl h ↦ guards lib plan ss b t at w h | inr h ↦ algorithms lib plan ss b t at w h ]

-- ---- Statements, guards and internal variables

dividing_guard :
    (lib : Library) (plan : Plan) (ss : List Stimulus) (b : ℕ) (t : BasicType) → IsBasic lib b t → (w : Warning)
    → Contains (constants.dividing_guards b t.transitions) w → Holds lib plan ss w
dividing_guard lib plan ss b t at w c =
    let r = found_in (constants.dividing_guard b) t.transitions w c in
    let q = of_test _ _ w r.3 in
    subst (Holds lib plan ss) q.1 (record { type = t; found = at; transition = r.1; at = r.2; divides = q.0 })

-- a statement of an algorithm
a_statement :
    (lib : Library) (b a k : ℕ) (t : BasicType) → IsBasic lib b t → (x : Algorithm) → IsAt t.algorithms a x → (s : Standing)
    → IsAt (each_in_body false (body_of x.body)) k s → IsStatement lib b a k t s.1
a_statement lib b a k t at x x_at s s_at = record { found = at; algorithm = x; at = x_at; in_loop = s.0; statement_at = s_at }

constants_hold :
    (lib : Library) (plan : Plan) (ss : List Stimulus) (b : ℕ) (t : BasicType) → IsBasic lib b t → (w : Warning)
    → Contains (constants.constants_of_algorithms t b t.algorithms) w → Holds lib plan ss w
constants_hold lib plan ss b t at w c =
    let r = found_in (constants.constants_in t b) t.algorithms w c in
    let s = found_in (constants.constants_of t b r.0) (each_in_body false (body_of r.1.body)) w r.3 in
    let is = a_statement lib b r.0 s.0 t at r.1 r.2 s.1 s.2 in
    let one = when (constants.assigns_too_large t s.1.1) (UnheldConstant b r.0 s.0) in
    let two = when (constants.divides_in s.1.1) (ZeroDivisor b r.0 s.0) in
    elim (Contains-append_cases one two w s.3) [
      | inl h ↦ let q = of_test _ _ w h in subst (Holds lib plan ss) q.1 (record { type = t; statement = s.1.1; is = is; too_large = q.0 })
      | inr h ↦ let q = of_test _ _ w h in subst (Holds lib plan ss) q.1 (record { type = t; statement = s.1.1; is = is; divides = q.0 })
    ]

repeated :
    (lib : Library) (plan : Plan) (ss : List Stimulus) (b : ℕ) (t : BasicType) → IsBasic lib b t → (w : Warning)
    → Contains (statements.repeated_labels b t.algorithms) w → Holds lib plan ss w
repeated lib plan ss b t at w c =
    let r = found_in (statements.repeated_of b) t.algorithms w c in
    let s = found_in (statements.repeated_label b r.0) (each_in_body false (body_of r.1.body)) w r.3 in
    let q = of_test _ _ w s.3 in
    subst (Holds lib plan ss) q.1
    (record { type = t; statement = s.1.1; is = a_statement lib b r.0 s.0 t at r.1 r.2 s.1 s.2; repeated = q.0 })

unread :
    (lib : Library) (plan : Plan) (ss : List Stimulus) (b : ℕ) (t : BasicType) → IsBasic lib b t → (w : Warning)
    → Contains (statements.unread_internals b t) w → Holds lib plan ss w
unread lib plan ss b t at w c =
    let r = found_in (statements.unread_internal b (statements.reads_of t.algorithms t.transitions)) t.internals w c in
    let q = of_test _ _ w r.3 in
    subst (Holds lib plan ss) q.1 (record { type = t; found = at; internal = r.1; at = r.2; none = of_failed _ q.0 })

-- ---- Networks

unfed :
    (lib : Library) (plan : Plan) (ss : List Stimulus) (s : Site) (net : OwnedNetwork) → network_at lib s ≡ Some net → (w : Warning)
    → Contains (nets.unfed_in_network lib s net.1.data_connections (stimuli_at s ss) net.1.instances) w → Holds lib plan ss w
unfed lib plan ss s net there w c =
    let cs = net.1.data_connections in
    let given = stimuli_at s ss in
    let r = found_in (nets.unfed_in_instance lib s cs given) net.1.instances w c in
    let v = found_in (nets.unfed_input s cs given r.0 r.1) (nets.inputs_of (option_map ports_of (type_named lib r.1.block_type))) w r.3 in
    let q = of_test _ _ w v.3 in
    let p = of_two _ _ q.0 in
    subst (Holds lib plan ss) q.1
    (record {
      network = net;
      there = there;
      instance = r.1;
      found = r.2;
      input = v.1;
      at = v.2;
      none = of_failed _ p.0;
      needed = of_failed _ p.1;
    })

-- what is found at an instance whose ports are these
unreached_at :
    (lib : Library) (plan : Plan) (ss : List Stimulus) (s : Site) (net : OwnedNetwork) → network_at lib s ≡ Some net → (i : ℕ) (x : Instance) → IsAt net.1.instances i x
    → (p : Ports) → option_map ports_of (type_named lib x.block_type) ≡ Some p → (w : Warning) → (met : Bool)
    → instances.is_reached net.1.event_connections (stimuli_at s ss) x.name ≡ met
    → Contains
    (if met then instances.unreached_events s net.1.event_connections (stimuli_at s ss) i x p.inputs p.event_inputs
    else when (instances.has_events p.event_inputs) (UnreachedInstance s i)) w
    → Holds lib plan ss w
unreached_at lib plan ss s net there i x at p type w true met c =
    let es = net.1.event_connections in
    let given = stimuli_at s ss in
    let r = found_in (instances.unreached_event s es given i x p.inputs) p.event_inputs w c in
    let q = of_test _ _ w r.3 in
    let u = of_two _ _ q.0 in
    let v = of_two _ _ u.0 in
    subst (Holds lib plan ss) q.1
    (record {
      network = net;
      instance = x;
      ports = p;
      is = record { there = there; found = at; type = type };
      event = r.1;
      at = r.2;
      reached = met;
      none = of_failed _ v.0;
      needed = of_failed _ v.1;
      not_preset = of_failed _ u.1;
    })
unreached_at lib plan ss s net there i x at p type w false met c =
    let q = of_test _ _ w c in
    subst (Holds lib plan ss) q.1
    (record { network = net; instance = x; ports = p; is = record { there = there; found = at; type = type }; some = q.0; none = met })

unreached_of :
    (lib : Library) (plan : Plan) (ss : List Stimulus) (s : Site) (net : OwnedNetwork) → network_at lib s ≡ Some net → (i : ℕ) (x : Instance) → IsAt net.1.instances i x
    → (o : Option Ports) → option_map ports_of (type_named lib x.block_type) ≡ o → (w : Warning)
    → Contains (instances.unreached_by s net.1.event_connections (stimuli_at s ss) i x o) w → Holds lib plan ss w
unreached_of lib plan ss s net there i x at None type w c = absurd (Contains-nil w c)
unreached_of lib plan ss s net there i x at (Some p) type w c = unreached_at lib plan ss s net there i x at p type w _ refl c

unreached_net :
    (lib : Library) (plan : Plan) (ss : List Stimulus) (s : Site) (net : OwnedNetwork) → network_at lib s ≡ Some net → (w : Warning)
    → Contains (instances.unreached_in_network lib s net.1.event_connections (stimuli_at s ss) net.1.instances) w → Holds lib plan ss w
unreached_net lib plan ss s net there w c =
    let r = found_in (instances.unreached_of lib s net.1.event_connections (stimuli_at s ss)) net.1.instances w c in
    unreached_of lib plan ss s net there r.0 r.1 r.2 (option_map ports_of (type_named lib r.1.block_type)) refl w r.3

silent_net :
    (lib : Library) (plan : Plan) (ss : List Stimulus) (s : Site) (net : OwnedNetwork) → network_at lib s ≡ Some net → (w : Warning)
    → Contains (instances.silent_sources s net.1.instances net.1.event_connections) w → Holds lib plan ss w
silent_net lib plan ss s net there w c =
    let r = found_in (instances.silent_source s net.1.instances) net.1.event_connections w c in
    let q = of_test _ _ w r.3 in
    subst (Holds lib plan ss) q.1 (record { network = net; there = there; connection = r.1; at = r.2; silent = q.0 })

network_holds :
    (lib : Library) (plan : Plan) (ss : List Stimulus) (s : Site) (net : OwnedNetwork) → network_at lib s ≡ Some net → (w : Warning)
    → Contains (of_network lib s net.1 (stimuli_at s ss)) w → Holds lib plan ss w
network_holds lib plan ss s net there w c =
    let one = nets.unfed_in_network lib s net.1.data_connections (stimuli_at s ss) net.1.instances in
    let two = instances.unreached_in_network lib s net.1.event_connections (stimuli_at s ss) net.1.instances in
    let three = instances.silent_sources s net.1.instances net.1.event_connections in
    elim (Contains-append_cases (one ++ two) three w c) [
      | inl front ↦ elim (Contains-append_cases one two w front) [
        | inl h ↦ unfed lib plan ss s net there w h
        | inr h ↦ unreached_net lib plan ss s net there w h
      ]
      | inr h ↦ silent_net lib plan ss s net there w h
    ]

early :
    (lib : Library) (plan : Plan) (ss : List Stimulus) (w : Warning)
    → Contains (instances.early_stimuli lib.application.network.instances lib.application.network.event_connections ss) w → Holds lib plan ss w
early lib plan ss w c =
    let net = lib.application.network in
    let r = found_in (instances.early_stimulus net.instances net.event_connections) ss w c in
    let q = of_test _ _ w r.3 in
    subst (Holds lib plan ss) q.1 (record { stimulus = r.1; at = r.2; first = q.0 })

composite_holds :
    (lib : Library) (plan : Plan) (ss : List Stimulus) (b : ℕ) (t : CompositeType) → IsAt lib.blocks b (block.Composite t) → (w : Warning)
    → Contains (of_composite lib b t) w → Holds lib plan ss w
composite_holds lib plan ss b t at w c =
    let net = t.network in
    elim (Contains-append_cases (of_network lib (Inside b) net []) (ports.unjoined_ports b t) w c) [
      | inl h ↦
          network_holds lib plan ss (Inside b) (Some t, net) (ap (λ o. option_and_then network_inside o) at) w h
      | inr h ↦ unjoined lib plan ss b t at w h
    ]

statements_hold :
    (lib : Library) (plan : Plan) (ss : List Stimulus) (b : ℕ) (t : BasicType) → IsBasic lib b t → (w : Warning) → Contains (of_statements b t) w → Holds lib plan ss w
statements_hold lib plan ss b t at w c =
    let one = constants.dividing_guards b t.transitions in
    let two = constants.constants_of_algorithms t b t.algorithms in
    let three = statements.repeated_labels b t.algorithms in
    let four = statements.unread_internals b t in
    elim (Contains-append_cases ((one ++ two) ++ three) four w c) [
      | inl front ↦ elim (Contains-append_cases (one ++ two) three w front) [
        | inl first ↦ elim (Contains-append_cases one two w first) [
          | inl h ↦ dividing_guard lib plan ss b t at w h
          | inr h ↦ constants_hold lib plan ss b t at w h
        ]
        | inr h ↦ repeated lib plan ss b t at w h
      ]
      | inr h ↦ unread lib plan ss b t at w h
    ]

type_holds :
    (lib : Library) (plan : Plan) (ss : List Stimulus) (b : ℕ) (t : BlockType) → IsAt lib.blocks b t → (w : Warning) → Contains (of_type lib b t) w → Holds lib plan ss w
type_holds lib plan ss b (block.Basic t) at w c =
    let one = readings lib t.name b t in
    elim (Contains-append_cases (one ++ of_chart b t ++ of_ports b t) (of_statements b t) w c) [
      | inl most ↦ elim (Contains-append_cases (one ++ of_chart b t) (of_ports b t) w most) [
        | inl front ↦ elim (Contains-append_cases one (of_chart b t) w front) [
          | inl h ↦ readings_hold lib plan ss b t at w h
          | inr h ↦ chart_holds lib plan ss b t at w h
        ]
        | inr h ↦ basic_ports lib plan ss b t at w h
      ]
      | inr h ↦ statements_hold lib plan ss b t at w h
    ]
type_holds lib plan ss b (block.Composite t) at w c = composite_holds lib plan ss b t at w c

block_holds :
    (lib : Library) (plan : Plan) (ss : List Stimulus) (b : ℕ) (t : BlockType) → IsAt lib.blocks b t → (w : Warning) → Contains (of_block lib b t) w → Holds lib plan ss w
block_holds lib plan ss b t at w c =
    let its = ports_of (kind_of t) in
    let one = nets.unused_type lib (type_name t) b in
    let two = ports.unsampled_inputs lib (type_name t) b its.event_inputs its.inputs in
    let three = outputs.unsent_outputs lib (type_name t) b t its.outputs in
    elim (Contains-append_cases (one ++ two ++ three) (of_type lib b t) w c) [
      | inl some ↦ elim (Contains-append_cases (one ++ two) three w some) [
        | inl front ↦ elim (Contains-append_cases one two w front) [
          | inl h ↦
              let q = of_test _ _ w h in
              subst (Holds lib plan ss) q.1 (record { type = t; found = at; none = of_failed (nets.is_used_type lib (type_name t)) q.0 })
          | inr h ↦ unsampled lib plan ss b t at w h
        ]
        | inr h ↦ unsent lib plan ss b t at w h
      ]
      | inr h ↦ type_holds lib plan ss b t at w h
    ]

links_hold :
    (lib : Library) (plan : Plan) (ss : List Stimulus) (w : Warning)
    → Contains (nets.unused_links plan.resources lib.application.network.event_connections lib.application.network.data_connections plan.links) w
    → Holds lib plan ss w
links_hold lib plan ss w c =
    let net = lib.application.network in
    let r = found_in (nets.unused_link plan.resources net.event_connections net.data_connections) plan.links w c in
    let q = of_test _ _ w r.3 in
    subst (Holds lib plan ss) q.1 (record { link = r.1; at = r.2; none = of_failed _ q.0 })

pub each_holds : WarningsHold
each_holds lib plan ss w c =
    let net = lib.application.network in
    let one = of_blocks lib lib.blocks in
    let two = of_network lib Application net ss in
    let three = instances.early_stimuli net.instances net.event_connections ss in
    let four = nets.unused_links plan.resources net.event_connections net.data_connections plan.links in
    elim (Contains-append_cases (one ++ two ++ three) four w c) [
      | inl some ↦ elim (Contains-append_cases (one ++ two) three w some) [
        | inl front ↦ elim (Contains-append_cases one two w front) [
          | inl h ↦ let r = found_in (of_block lib) lib.blocks w h in block_holds lib plan ss r.0 r.1 r.2 w r.3
          | inr h ↦ network_holds lib plan ss Application (None, net) refl w h
        ]
        | inr h ↦ early lib plan ss w h
      ]
      | inr h ↦ links_hold lib plan ss w h
    ]
