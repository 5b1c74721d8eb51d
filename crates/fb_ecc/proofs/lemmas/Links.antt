-- Chains of states, put together from their links, and what the rows of a chart say.
use Rattle.fb_types.proofs.Common.{◌≡◌, ℕ, zero, suc, ◌+◌, ◌<◌, ◌≤◌, Bool, true, false, cond, List, [], ◌∷◌, length, get_or, drop, map, Option, Some, None, Result, Ok, Err, Bor, ◌⊎◌, inl, inr, refl, sym, ◌∙◌, ap, subst, arith, option_map, option_and_then, slice_get, IfSome, MatchOption, filter, list_all, true≢false, length-map, slice_get-map, slice_get_within, slice_get-get_or, slice_get_read, slice_get_past, get_or_from_slice_get, same_Some, Name, same_name, with_value, named, among, variable_names, inputs_with, Bound, event_at, pair_up, with_values, Values, Position, Moving, Acts, Links, Trial, Clears, NoneClears, Fails, Rests, Enters, trial_at, trial_of, is_true, leaving, actions_of}
use Rattle.fb_types.specs.declared.library.Variable.{Variable}
use Rattle.fb_types.specs.declared.run.Halt.{Halt}
use Rattle.fb_types.specs.declared.value.Value.{Value}
use Rattle.fb_types.specs.declared.library.Action.{Action}
use Rattle.fb_types.specs.declared.library.BasicType.{BasicType}
use Rattle.fb_types.specs.declared.library.EventPort.{EventPort}
use Rattle.fb_types.specs.declared.library.Transition.{Transition}
use Rattle.fb_types.specs.declared.value.Reason.{Reason}
use Rattle.std.specs.List.{HoldsAt}
use Rattle.fb_types.specs.declared.run.Halt.TheVariants as halt
use Rattle.fb_types.specs.declared.library.State.{State}
use Rattle.fb_st.specs.Frames.{Declared}
use Rattle.fb_st.proofs.lemmas.Indexes.{named_at_index}
use Rattle.fb_ecc.specs.Actions.{AreActions}
use Rattle.fb_ecc.specs.Links.{Chain, Linked}
use Rattle.fb_ecc.specs.Located.{AreAt, slots_with, slots_with_each}
use Rattle.fb_ecc.specs.Numbered.{are_waiting, exits_at, exit_of, exits_from, act_of, row_of, chart_of}
use Rattle.fb_ecc.specs.Indexes.{IsStateOf, state_at, Ended}
use Rattle.fb_ecc.specs.Sound.{Each, IsSound, action_known, actions_known, declared_as, declared_by}
use Rattle.fb_ecc.specs.Steps.{clearing_exit, clearing_index, first_or}
use Rattle.fb_ecc.specs.Trials.{transition_at, transitions_at, IsExit}
use Rattle.fb_ecc.specs.declared.chart.Exit.{Exit}
use Rattle.fb_ecc.specs.declared.chart.ChartState.{ChartState}
use Rattle.fb_types.proofs.lemmas.lists.ByIndex.{element_at}
use Rattle.fb_ecc.specs.declared.chart.Chart.{Chart}
use Rattle.fb_ecc.proofs.lemmas.Located.{inputs_at}
use Rattle.fb_ecc.proofs.lemmas.Trials.{transition_here, state_here, list_all-at, and_left, and_right, cut_at, event_here}

-- ---- Links

module _ (t : BasicType) (present : Option Name) where
  pub goes_on :
      (p m q : Position) (target : Name) (left : ℕ) (stop : Option Reason) → trial_at t present p ≡ Clears target left
      → Acts t (actions_of t target) left (record p { state = target; left = left }) None m → Chain t None m stop q → Chain t present p stop q
  goes_on p m q target left stop tried acts (n, rest) =
      (suc n, subst (λ (x : Trial). Enters t x (Links t n None) p stop q) (sym tried) (None, m, acts, rest))

  pub stops_in :
      (p q : Position) (target : Name) (left : ℕ) (r : Reason) → trial_at t present p ≡ Clears target left
      → Acts t (actions_of t target) left (record p { state = target; left = left }) (Some r) q → Chain t present p (Some r) q
  stops_in p q target left r tried acts =
      (suc zero, subst (λ (x : Trial). Enters t x (Links t zero None) p (Some r) q) (sym tried) (Some r, q, acts, (refl, refl)))

  pub rests : (p : Position) (left : ℕ) → trial_at t present p ≡ NoneClears left → Chain t present p None (record p { left = left })
  rests p left tried = (zero, subst (λ (x : Trial). Rests x p None (record p { left = left })) (sym tried) (refl, refl))

  pub fails : (p : Position) (left : ℕ) (r : Reason) → trial_at t present p ≡ Fails r left → Chain t present p (Some r) (record p { left = left })
  fails p left r tried = (zero, subst (λ (x : Trial). Rests x p (Some r) (record p { left = left })) (sym tried) (refl, refl))

-- ---- Rows

drop_next : {A : Type 0} (xs ys : List A) (k : ℕ) (x : A) → drop k xs ≡ x ∷ ys → (slice_get xs k ≡ Some x) × (drop (suc k) xs ≡ ys)
drop_next [] ys zero x h = absurd (cc)
drop_next [] ys (suc k) x h = absurd (cc)
drop_next (y ∷ xs) ys zero x h = (let e : y ≡ x = cc in ap (λ z. Some z) e, cc)
drop_next (y ∷ xs) ys (suc k) x h = drop_next xs ys k x h

-- the transitions that leave a state are at the indexes of its exits
leaving_from :
    (t : BasicType) (n : Name) (k : ℕ) (xs : List Transition) → drop k t.transitions ≡ xs
    → transitions_at t (exits_from t n k xs) ≡ filter (λ x. same_name x.from n) xs
leaving_from t n k [] h = refl
leaving_from t n k (x ∷ xs) h =
    let next = drop_next t.transitions xs k x h in
    let rest = leaving_from t n (suc k) xs next.1 in
    elim (same_name x.from n) as (λ b. transitions_at t (cond b (exit_of t k x ∷ exits_from t n (suc k) xs) (exits_from t n (suc k) xs))
    ≡ cond b (x ∷ filter (λ y. same_name y.from n) xs) (filter (λ y. same_name y.from n) xs)) [
      | true ↦ ap (λ (y : Transition). y ∷ transitions_at t (exits_from t n (suc k) xs)) (transition_here t k x next.0) ∙ ap (λ ys. x ∷ ys) rest
      | false ↦ rest
    ]

first_or-index :
    (r : Result Bool Reason) (f e : Exit) (k : ℕ) (later : Option Exit) (last : Option ℕ) → f.transition ≡ k → (later ≡ Some e → last ≡ Some e.transition)
    → first_or r f later ≡ Some e → first_or r k last ≡ Some e.transition
first_or-index (Ok true) f e k later last is rest h =
    let same : f ≡ e = same_Some f e h in
    ap (λ (i : ℕ). Some i) (sym is ∙ ap (λ (x : Exit). x.transition) same)
first_or-index (Ok false) f e k later last is rest h = rest h
first_or-index (Err r) f e k later last is rest h = absurd (cc)

-- the first true exit is that of the first true transition
clearing_from :
    (t : BasicType) (n : Name) (present : Option Name) (vars : Values) (e : Exit) (k : ℕ) (xs : List Transition) → drop k t.transitions ≡ xs
    → clearing_exit t (exits_from t n k xs) present vars ≡ Some e → clearing_index n k xs present vars ≡ Some e.transition
clearing_from t n present vars e k [] h is = absurd (cc)
clearing_from t n present vars e k (x ∷ xs) h is =
    let next = drop_next t.transitions xs k x h in
    let es : List Exit = exits_from t n (suc k) xs in
    let later : Option ℕ = clearing_index n (suc k) xs present vars in
    let rest : clearing_exit t es present vars ≡ Some e → later ≡ Some e.transition = clearing_from t n present vars e (suc k) xs next.1 in
    let here : is_true (transition_at t k).condition present vars ≡ is_true x.condition present vars =
    ap (λ (y : Transition). is_true y.condition present vars) (transition_here t k x next.0) in
    let f : Exit = exit_of t k x in
    elim (same_name x.from n) as (λ b. clearing_exit t (cond b (f ∷ es) es) present vars ≡ Some e → cond b (first_or (is_true x.condition present vars) k later) later ≡ Some e.transition) [
      | true ↦ λ one. first_or-index (is_true x.condition present vars) f e k (clearing_exit t es present vars) later refl rest
          (subst (λ (r : Result Bool Reason). first_or r f (clearing_exit t es present vars) ≡ Some e) here one)
      | false ↦ rest
    ] is

first :
    (t : BasicType) (n : Name) (k : ℕ) (x : Transition) (rest : List Exit) → slice_get t.transitions k ≡ Some x → Each (IsExit t) rest
    → Each (IsExit t) (exit_of t k x ∷ rest)
first t n k x rest here each zero e at =
    let same : exit_of t k x ≡ e = cc in
    subst (λ (f : Exit). IsExit t f) same (x, here, refl)
first t n k x rest here each (suc i) e at = each i e at

exits_each :
    (t : BasicType) (n : Name) (k : ℕ) (xs : List Transition) → drop k t.transitions ≡ xs → Each (IsExit t) (exits_from t n k xs)
exits_each t n k [] h = λ i e at. absurd (cc)
exits_each t n k (x ∷ xs) h =
    let next = drop_next t.transitions xs k x h in
    let rest = exits_each t n (suc k) xs next.1 in
    elim (same_name x.from n) as (λ b. Each (IsExit t) (cond b (exit_of t k x ∷ exits_from t n (suc k) xs) (exits_from t n (suc k) xs))) [
      | true ↦ λ i e at. first t n k x (exits_from t n (suc k) xs) next.0 rest i e at
      | false ↦ rest
    ]

acts_are : (t : BasicType) (actions : List Action) → list_all (action_known t) actions ≡ true → AreActions t (map (act_of t) actions) actions
acts_are t [] h = tt
acts_are t (a ∷ as') h =
    let known = and_left (action_known t a) (list_all (action_known t) as') h in (
      record {
        algorithm = record { known = and_left _ _ known; is = refl };
        output = record { known = and_right _ _ known; is = refl };
      },
      acts_are t as' (and_right (action_known t a) (list_all (action_known t) as') h),
    )

-- what the row of a state says
pub record IsRow (t : BasicType) (i : ℕ) (row : ChartState) : Type 0 where
  pub leaving_is : transitions_at t row.exits ≡ leaving t (state_at t i)
  pub exits : Each (IsExit t) row.exits
  pub acts : AreActions t row.acts (actions_of t (state_at t i))
  pub waiting : row.waits ≡ are_waiting row.exits

abbrev actions_or : Option State → List Action
actions_or o = elim o [ None ↦ [] | Some x ↦ x.actions ]

row_here : (t : BasicType) (i : ℕ) (s : State) → IsSound t → slice_get t.states i ≡ Some s → IsRow t i (row_of t s)
row_here t i s sound at =
    let name : state_at t i ≡ s.name = state_here t i s at in
    let there : named (λ x. x.name) s.name t.states ≡ Some s =
    named_at_index (λ x. x.name) s.name t.states ∙ ap (option_and_then (slice_get t.states)) (sound.states i s at) ∙ at in
    let actions : actions_of t (state_at t i) ≡ s.actions = ap (actions_of t) name ∙ ap actions_or there in
    record {
      leaving_is = leaving_from t s.name 0 t.transitions refl ∙ ap (leaving t) (sym name);
      exits = exits_each t s.name 0 t.transitions refl;
      acts = subst (λ (l : List Action). AreActions t (map (act_of t) s.actions) l) (sym actions)
          (acts_are t s.actions (list_all-at (actions_known t) t.states i s sound.actions at));
      waiting = refl;
    }

pub row_is :
    (t : BasicType) (rows : List ChartState) (i : ℕ) (d : ChartState) → IsSound t → rows ≡ map (row_of t) t.states → i < length t.states → IsRow t i (get_or rows i d)
row_is t rows i d sound all within =
    let s = element_at t.states i within in
    let inside : i < length rows = subst (λ (l : List ChartState). i < length l) (sym all) (subst (λ n. i < n) (sym (length-map t.states (row_of t))) within) in
    let read : slice_get rows i ≡ Some (get_or rows i d) = slice_get-get_or rows i d inside in
    let same : row_of t s.0 ≡ get_or rows i d =
    same_Some (row_of t s.0) (get_or rows i d)
    (sym (ap (λ (l : List ChartState). slice_get l i) all ∙ slice_get-map (row_of t) t.states i ∙ ap (option_map (row_of t)) s.1) ∙ read) in
    subst (λ (r : ChartState). IsRow t i r) same (row_here t i s.0 sound s.1)

-- what the transitions say that leave the state at an index
pub record HasExits (t : BasicType) (i : ℕ) (exits : List Exit) : Type 0 where
  pub leaving_is : transitions_at t exits ≡ leaving t (state_at t i)
  pub clearing_is :
      (present : Option Name) (vars : Values) (e : Exit) → clearing_exit t exits present vars ≡ Some e → clearing_index (state_at t i) 0 t.transitions present vars ≡ Some e.transition
  pub each : Each (IsExit t) exits

abbrev exits_or : Option ChartState → List Exit
exits_or o = elim o [ None ↦ [] | Some r ↦ r.exits ]

no_transitions : (ns : List Name) (xs : List Transition) → ns ≡ [] → list_all (λ x. among ns x.from) xs ≡ true → xs ≡ []
no_transitions ns [] none h = refl
no_transitions ns (x ∷ xs) none h =
    let source : among ns x.from ≡ true = and_left (among ns x.from) (list_all (λ (y : Transition). among ns y.from) xs) h in
    let nobody : false ≡ true = ap (λ (l : List Name). among l x.from) (sym none) ∙ source in
    absurd (true≢false (sym nobody))

exits_of_state : (t : BasicType) (i : ℕ) → IsSound t → IsStateOf t i → HasExits t i (exits_at (map (row_of t) t.states) i)
exits_of_state t i sound (inl none) =
    let exits : exits_at (map (row_of t) t.states) i ≡ [] = ap (λ (ss : List State). exits_or (slice_get (map (row_of t) ss) i)) none in
    let names : map (λ (s : State). s.name) t.states ≡ [] = ap (map (λ (s : State). s.name)) none in
    let transitions : t.transitions ≡ [] = no_transitions (map (λ (s : State). s.name) t.states) t.transitions names sound.sources in
    record {
      leaving_is = ap (transitions_at t) exits ∙ sym (ap (filter (λ (x : Transition). same_name x.from (state_at t i))) transitions);
      clearing_is = λ present vars e is.
          let nothing : None ≡ Some e = ap (λ (l : List Exit). clearing_exit t l present vars) (sym exits) ∙ is in
          absurd (cc);
      each = subst (λ (l : List Exit). Each (IsExit t) l) (sym exits) (λ k e at. absurd (cc));
    }
exits_of_state t i sound (inr within) =
    let s = element_at t.states i within in
    let row = row_here t i s.0 sound s.1 in
    let exits : exits_at (map (row_of t) t.states) i ≡ (row_of t s.0).exits =
    ap exits_or (slice_get-map (row_of t) t.states i ∙ ap (option_map (row_of t)) s.1) in
    record {
      leaving_is = ap (transitions_at t) exits ∙ row.leaving_is;
      clearing_is = λ present vars e is.
          clearing_from t (state_at t i) present vars e 0 t.transitions refl
          (ap (λ (n : Name). clearing_exit t (exits_from t n 0 t.transitions) present vars) (state_here t i s.0 s.1)
          ∙ ap (λ (l : List Exit). clearing_exit t l present vars) (sym exits) ∙ is);
      each = subst (λ (l : List Exit). Each (IsExit t) l) (sym exits) row.exits;
    }

pub exits_read :
    (t : BasicType) (chart : Chart) (i : ℕ) (read : List Exit) → IsSound t → chart ≡ chart_of t → IsStateOf t i → read ≡ exits_at chart.rows i → HasExits t i read
exits_read t chart i read sound is state at =
    let same : exits_at (map (row_of t) t.states) i ≡ read = sym (at ∙ ap (λ (c : Chart). exits_at c.rows i) is) in
    subst (λ (l : List Exit). HasExits t i l) same (exits_of_state t i sound state)

none_or_first : (ss : List State) → (ss ≡ []) ⊎ (0 < length ss)
none_or_first [] = inl refl
none_or_first (s ∷ ss) = inr (omega arith)

pub first_index : (t : BasicType) → IsStateOf t 0
first_index t = none_or_first t.states

pub row_read :
    (t : BasicType) (chart : Chart) (rows : List ChartState) (i : ℕ) (d : ChartState) → IsSound t → chart ≡ chart_of t → rows ≡ chart.rows → i < length t.states → IsRow t i (get_or rows i d)
row_read t chart rows i d sound is read within = row_is t rows i d sound (read ∙ ap (λ (c : Chart). c.rows) is) within

-- the result of trying the transitions at the exits
pub trial_here :
    (t : BasicType) (exits : List Exit) (present : Option Name) (p : Position) (x : Trial) → transitions_at t exits ≡ leaving t p.state
    → trial_of (transitions_at t exits) present p.vars p.left ≡ x → trial_at t present p ≡ x
trial_here t exits present p x is tried = ap (λ (l : List Transition). trial_of l present p.vars p.left) (sym is) ∙ tried

-- a state that was entered ended the chain
pub linked_early :
    (t : BasicType) (h : Halt) (present : Option Name) (moves : Moving) (p m q : Position) → ((r : Reason) → moves m (Some r) q → Chain t present p (Some r) q)
    → Ended (Err h) moves m q → Linked t (Err h) present p q
linked_early t (halt.Stop r) present moves p m q goes run = goes r run
linked_early t halt.Memory present moves p m q goes run = run

-- a link ended the reaction
pub chain_early :
    (t : BasicType) (h : Halt) (first present : Option Name) (p m q : Position)
    → ((stop : Option Reason) → Chain t present m stop q → Chain t first p stop q) → Linked t (Err h) present m q → Ended (Err h) (Chain t first) p q
chain_early t (halt.Stop r) first present p m q goes run = goes (Some r) run
chain_early t halt.Memory first present p m q goes run = run

-- ---- Sampling

rest_of : {A : Type 0} (xs : List A) (i : ℕ) (x : A) → slice_get xs i ≡ Some x → drop i xs ≡ x ∷ drop (i + 1) xs
rest_of xs i x at = cut_at xs i x (slice_get_within xs i x at) (sym (get_or_from_slice_get xs i x x at))

pub nothing_left : {A : Type 0} (xs : List A) (i : ℕ) → length xs ≤ i → drop i xs ≡ []
nothing_left [] zero h = refl
nothing_left [] (suc i) h = refl
nothing_left (x ∷ xs) zero h = absurd (omega arith)
nothing_left (x ∷ xs) (suc i) h = nothing_left xs i (omega arith)

none_past : {A : Type 0} (xs : List A) (i : ℕ) → slice_get xs i ≡ None → length xs ≤ i
none_past [] i h = omega arith
none_past (x ∷ xs) zero h = absurd (cc)
none_past (x ∷ xs) (suc i) h = let below = none_past xs i h in omega arith

pub pair_up-nil : (ns : List Name) → pair_up ns [] ≡ []
pair_up-nil [] = refl
pair_up-nil (n ∷ ns) = refl

pub samples_one :
    (ns : List Name) (vs : List Value) (i : ℕ) (n : Name) (v : Value) (vars after : Values) → slice_get ns i ≡ Some n → slice_get vs i ≡ Some v
    → after ≡ with_value n v vars → with_values (pair_up (drop (i + 1) ns) (drop (i + 1) vs)) after ≡ with_values (pair_up (drop i ns) (drop i vs)) vars
samples_one ns vs i n v vars after here there is =
    ap (λ (x : Values). with_values (pair_up (drop (i + 1) ns) (drop (i + 1) vs)) x) is
    ∙ sym (ap (λ (l : List Name). with_values (pair_up l (drop i vs)) vars) (rest_of ns i n here)
    ∙ ap (λ (l : List Value). with_values (pair_up (n ∷ drop (i + 1) ns) l) vars) (rest_of vs i v there))

pub samples_none :
    (ns : List Name) (vs : List Value) (i : ℕ) (vars : Values) → slice_get vs i ≡ None
    → with_values (pair_up (drop (i + 1) ns) (drop (i + 1) vs)) vars ≡ with_values (pair_up (drop i ns) (drop i vs)) vars
samples_none ns vs i vars none =
    let past = none_past vs i none in
    let later : length vs ≤ i + 1 = omega arith in
    ap (λ (l : List Value). with_values (pair_up (drop (i + 1) ns) l) vars) (nothing_left vs (i + 1) later)
    ∙ ap (λ (bs : List Bound). with_values bs vars) (pair_up-nil (drop (i + 1) ns) ∙ sym (pair_up-nil (drop i ns)))
    ∙ sym (ap (λ (l : List Value). with_values (pair_up (drop i ns) l) vars) (nothing_left vs i past))

pub names_declared : (vs : List Variable) → map (λ (d : Declared). d.0) (map declared_as vs) ≡ variable_names vs
names_declared [] = refl
names_declared (v ∷ vs) = ap (λ ns. v.name ∷ ns) (names_declared vs)

-- the variables WITH the event at an index are at its slots
pub variables_here :
    (t : BasicType) (ds : List Declared) (chart : Chart) (all : List (List ℕ)) (e : ℕ) (read d : List ℕ) → ds ≡ declared_by t → chart ≡ chart_of t → all ≡ chart.sampled → e < length t.ports.event_inputs
    → read ≡ get_or all e d → AreAt ds (inputs_with t.ports (event_at t.ports.event_inputs e)) read
variables_here t ds chart all e read d declared is shown within here =
    let events : List EventPort = t.ports.event_inputs in
    let p = element_at events e within in
    let with_event : Name → List ℕ = slots_with events t.ports.inputs 0 in
    let name : Name = event_at events e in
    let names : all ≡ slots_with_each events t.ports.inputs 0 = shown ∙ ap (λ (c : Chart). c.sampled) is in
    let at : slice_get all e ≡ Some (with_event p.0.name) =
    ap (λ (l : List (List ℕ)). slice_get l e) names ∙ slice_get-map (λ (q : EventPort). with_event q.name) events e
    ∙ ap (option_map (λ (q : EventPort). with_event q.name)) p.1 in
    let slots : read ≡ with_event name =
    here ∙ get_or_from_slice_get all e (with_event p.0.name) d at ∙ ap with_event (sym (event_here events e p.0 p.1)) in
    subst (λ (l : List Declared). AreAt l (inputs_with t.ports name) read) (sym declared)
    (subst (λ (l : List ℕ). AreAt (declared_by t) (inputs_with t.ports name) l) (sym slots) (inputs_at t name))

pub value_here :
    (vs : List Value) (i : ℕ) (o : Option (Bor Value)) (b : Bor Value) → IfSome o (λ x. x.now ≡ get_or vs i x.now)
    → MatchOption o (length vs ≤ i) (λ x. (i < length vs) × HoldsAt (λ y. x.now ≡ y) vs i) → o ≡ Some b → slice_get vs i ≡ Some b.now
value_here vs i o b shown found is =
    let here : b.now ≡ get_or vs i b.now = subst (λ (p : Option (Bor Value)). IfSome p (λ x. x.now ≡ get_or vs i x.now)) is shown in
    let both = subst (λ (p : Option (Bor Value)). MatchOption p (length vs ≤ i) (λ x. (i < length vs) × HoldsAt (λ y. x.now ≡ y) vs i)) is found in
    slice_get_read vs (length vs) i b.now refl both.0 here

pub value_past :
    (vs : List Value) (i : ℕ) (o : Option (Bor Value)) → MatchOption o (length vs ≤ i) (λ x. (i < length vs) × HoldsAt (λ y. x.now ≡ y) vs i) → o ≡ None → slice_get vs i ≡ None
value_past vs i o found is =
    slice_get_past vs i (subst (λ (p : Option (Bor Value)). MatchOption p (length vs ≤ i) (λ x. (i < length vs) × HoldsAt (λ y. x.now ≡ y) vs i)) is found)
