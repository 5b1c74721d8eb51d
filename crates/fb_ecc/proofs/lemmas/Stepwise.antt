-- Transitions that are tried one after another, and the actions of a state one by one.
use Rattle.fb_types.proofs.Common.{◌≡◌, ℕ, zero, suc, ◌+◌, ◌<◌, Bool, true, List, [], ◌∷◌, length, get_or, drop, map, Option, Some, None, Result, refl, sym, ◌∙◌, ap, subst, arith, inl, inr, slice_get, length-map, slice_get_within, slice_get-get_or, get_or_from_slice_get, Name, actions_of, is_true, Values}
use Rattle.fb_types.specs.declared.library.Action.{Action}
use Rattle.fb_types.specs.declared.library.BasicType.{BasicType}
use Rattle.fb_types.specs.declared.value.Reason.{Reason}
use Rattle.fb_types.specs.declared.library.State.{State}
use Rattle.fb_types.proofs.lemmas.lists.ByIndex.{element_at}
use Rattle.fb_ecc.specs.Actions.{AreActions, IsAction}
use Rattle.fb_ecc.specs.Indexes.{IsStateOf, state_at}
use Rattle.fb_ecc.specs.Numbered.{chart_of, row_of}
use Rattle.fb_ecc.specs.Sound.{IsSound}
use Rattle.fb_ecc.specs.Steps.{acts_at, clearing_exit, first_by, first_or, first_true}
use Rattle.fb_ecc.specs.Trials.{transition_at, transitions_at}
use Rattle.fb_ecc.specs.declared.chart.Act.{Act}
use Rattle.fb_ecc.specs.declared.chart.Chart.{Chart}
use Rattle.fb_ecc.specs.declared.chart.ChartState.{ChartState}
use Rattle.fb_ecc.specs.declared.chart.Exit.{Exit}
use Rattle.fb_ecc.proofs.lemmas.Links.{row_is}
use Rattle.fb_ecc.proofs.lemmas.Trials.{cut_at}

rest_at : (exits : List Exit) (i : ℕ) (e : Exit) → slice_get exits i ≡ Some e → drop i exits ≡ e ∷ drop (i + 1) exits
rest_at exits i e at = cut_at exits i e (slice_get_within exits i e at) (sym (get_or_from_slice_get exits i e e at))

-- the first true transition among the rest of the exits
pub first_tried :
    (t : BasicType) (present : Option Name) (vars : Values) (exits : List Exit) (i : ℕ) (e : Exit) (r : Result Bool Reason) → slice_get exits i ≡ Some e
    → is_true (transition_at t e.transition).condition present vars ≡ r
    → first_true (transitions_at t (drop i exits)) present vars
    ≡ first_by r (transition_at t e.transition) (first_true (transitions_at t (drop (i + 1) exits)) present vars)
first_tried t present vars exits i e r at is =
    ap (λ (l : List Exit). first_true (transitions_at t l) present vars) (rest_at exits i e at)
    ∙ ap (λ (b : Result Bool Reason). first_by b (transition_at t e.transition) (first_true (transitions_at t (drop (i + 1) exits)) present vars)) is

-- one exit is tried, and then the others: the exit that clears
pub clearing_tried :
    (t : BasicType) (present : Option Name) (vars : Values) (exits : List Exit) (i : ℕ) (e : Exit) (r : Result Bool Reason) → slice_get exits i ≡ Some e
    → is_true (transition_at t e.transition).condition present vars ≡ r
    → clearing_exit t (drop i exits) present vars ≡ first_or r e (clearing_exit t (drop (i + 1) exits) present vars)
clearing_tried t present vars exits i e r at is =
    ap (λ (l : List Exit). clearing_exit t l present vars) (rest_at exits i e at)
    ∙ ap (λ (b : Result Bool Reason). first_or b e (clearing_exit t (drop (i + 1) exits) present vars)) is

-- ---- Actions

no_states : (t : BasicType) (i : ℕ) → t.states ≡ [] → actions_of t (state_at t i) ≡ []
no_states t i none = ap (λ (ss : List State). actions_of (record t { states = ss }) (state_at t i)) none

abbrev acts_or : Option ChartState → List Act
acts_or o = elim o [ None ↦ [] | Some row ↦ row.acts ]

acts_of_state : (t : BasicType) (i : ℕ) → IsSound t → IsStateOf t i → AreActions t (acts_at (map (row_of t) t.states) i) (actions_of t (state_at t i))
acts_of_state t i sound (inl none) =
    let acts : acts_at (map (row_of t) t.states) i ≡ [] = ap (λ (ss : List State). acts_or (slice_get (map (row_of t) ss) i)) none in
    subst (λ (l : List Act). AreActions t l (actions_of t (state_at t i))) (sym acts)
    (subst (λ (l : List Action). AreActions t [] l) (sym (no_states t i none)) tt)
acts_of_state t i sound (inr within) =
    let s = element_at t.states i within in
    let unread : ChartState = record { exits = []; acts = []; waits = true } in
    let row = row_is t (map (row_of t) t.states) i unread sound refl within in
    let inside : i < length (map (row_of t) t.states) = subst (λ n. i < n) (sym (length-map t.states (row_of t))) within in
    let acts : acts_at (map (row_of t) t.states) i ≡ (get_or (map (row_of t) t.states) i unread).acts = ap acts_or (slice_get-get_or (map (row_of t) t.states) i unread inside) in
    subst (λ (l : List Act). AreActions t l (actions_of t (state_at t i))) (sym acts) row.acts

-- the actions of a state, where they are read
pub acts_read :
    (t : BasicType) (chart : Chart) (rows : List ChartState) (i : ℕ) (read : List Act) → IsSound t → chart ≡ chart_of t → IsStateOf t i → rows ≡ chart.rows → read ≡ acts_at rows i
    → AreActions t read (actions_of t (state_at t i))
acts_read t chart rows i read sound is state all at =
    let same : acts_at (map (row_of t) t.states) i ≡ read = sym (at ∙ ap (λ (l : List ChartState). acts_at l i) (all ∙ ap (λ (c : Chart). c.rows) is)) in
    subst (λ (l : List Act). AreActions t l (actions_of t (state_at t i))) same (acts_of_state t i sound state)

pub acts_within : (t : BasicType) (acts : List Act) (actions : List Action) (k : ℕ) → AreActions t acts actions → k < length actions → k < length acts
acts_within t [] [] k are within = within
acts_within t [] (a ∷ as') k are within = absurd are
acts_within t (x ∷ xs) [] k are within = absurd are
acts_within t (x ∷ xs) (a ∷ as') zero are within = omega arith
acts_within t (x ∷ xs) (a ∷ as') (suc k) are within = let rest = acts_within t xs as' k are.1 (omega arith) in omega arith

pub count_of_acts : (t : BasicType) (acts : List Act) (actions : List Action) → AreActions t acts actions → length acts ≡ length actions
count_of_acts t [] [] are = refl
count_of_acts t [] (a ∷ as') are = absurd are
count_of_acts t (x ∷ xs) [] are = absurd are
count_of_acts t (x ∷ xs) (a ∷ as') are = let rest = count_of_acts t xs as' are.1 in omega arith

pub act_at :
    (t : BasicType) (acts : List Act) (actions : List Action) (k : ℕ) (d : Act) (a : Action) → AreActions t acts actions → slice_get actions k ≡ Some a
    → IsAction t (get_or acts k d) a
act_at t [] [] k d a are at = absurd (cc)
act_at t [] (b ∷ bs) k d a are at = absurd are
act_at t (x ∷ xs) [] k d a are at = absurd are
act_at t (x ∷ xs) (b ∷ bs) zero d a are at = let same : b ≡ a = cc in subst (λ (c : Action). IsAction t x c) same are.0
act_at t (x ∷ xs) (b ∷ bs) (suc k) d a are at = act_at t xs bs k d a are.1 at
