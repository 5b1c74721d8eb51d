-- Transitions that are tried by their indexes.
use Rattle.fb_types.proofs.Common.{◌≡◌, ℕ, zero, suc, ◌+◌, ◌<◌, Bool, true, false, cond, ◌&&◌, ◌||◌, List, [], ◌∷◌, length, get_or, drop, map, Option, Some, None, Result, Ok, refl, sym, ◌∙◌, ap, subst, arith, add-one, nat_eq, position, option_map, unwrap_or, slice_get, is_some, if◌then◌else◌, IfSome, list_all, drop-cons, nat_tests, false_from_ne_true, true≢false, slice_get-get_or, slice_get-map, slice_get_within, slice_get_read, get_or_from_slice_get, Name, same_name, among, state_names, Values, Fails, NoneClears, is_true, trial_of, by_condition, event_at}
use Rattle.fb_types.specs.declared.text.Expr.{Expr}
use Rattle.fb_types.specs.declared.value.Reason.TheVariants.{Steps}
use Rattle.fb_types.specs.declared.library.BasicType.{BasicType}
use Rattle.fb_types.specs.declared.library.EventPort.{EventPort}
use Rattle.fb_types.specs.declared.library.Transition.{Transition}
use Rattle.fb_types.specs.declared.value.Reason.{Reason}
use Rattle.std.proofs.lemmas.List.Quantifiers.{position-Some}
use Rattle.fb_types.specs.declared.library.State.{State}
use Rattle.fb_types.proofs.lemmas.lists.Positions.{position-first}
use Rattle.fb_st.proofs.lemmas.Indexes.{position-later}
use Rattle.fb_ecc.specs.Indexes.{state_at}
use Rattle.fb_types.specs.Charts.{is_present, guard_value}
use Rattle.fb_types.proofs.lemmas.names.NameLaws.{same_from_same_name}
use Rattle.fb_ecc.specs.Numbered.{are_waiting, number_in}
use Rattle.fb_ecc.specs.Sound.{Each, IsSound, AreFirst}
use Rattle.fb_types.proofs.lemmas.lists.ByIndex.{element_at}
use Rattle.fb_ecc.specs.Trials.{nowhere, transition_at, transitions_at, IsExit, is_number_present}
use Rattle.fb_ecc.specs.declared.chart.Exit.{Exit}

-- ---- Lists

pub cut_at : {A : Type 0} (xs : List A) (i : ℕ) (x : A) → i < length xs → x ≡ get_or xs i x → drop i xs ≡ x ∷ drop (i + 1) xs
cut_at xs i x within is = drop-cons xs i x within ∙ rw (← is) (rw add-one refl)

pub and_left : (a b : Bool) → (a && b) ≡ true → a ≡ true
and_left true b h = refl
and_left false b h = h

pub and_right : (a b : Bool) → (a && b) ≡ true → b ≡ true
and_right true b h = h
and_right false b h = absurd (true≢false (sym h))

-- ---- Events

-- the event at an index
pub event_here : (events : List EventPort) (m : ℕ) (p : EventPort) → slice_get events m ≡ Some p → event_at events m ≡ p.name
event_here events m p at =
    ap (λ (o : Option Name). unwrap_or o []) (slice_get-map (λ (e : EventPort). e.name) events m ∙ ap (option_map (λ (e : EventPort). e.name)) at)

nat_eq-itself : (m : ℕ) → nat_eq m m ≡ true
nat_eq-itself m = grind (arith, nat_tests)

nat_eq-is : (m n : ℕ) → nat_eq m n ≡ true → m ≡ n
nat_eq-is m n h = grind (arith, nat_tests)

-- the number of a name is m only where the name is at m
number_at :
    (o : Option ℕ) (most m : ℕ) → m < most → unwrap_or o most ≡ m → o ≡ Some m
number_at None most m h e = absurd (omega arith)
number_at (Some k) most m h e = ap (λ n. Some n) e

pub same_event :
    (events : List EventPort) (f : Name) (m : ℕ) (p : EventPort) → AreFirst (λ e. e.name) events → slice_get events m ≡ Some p
    → same_name f p.name ≡ nat_eq (number_in (λ e. e.name) events f) m
same_event events f m p first at =
    elim (same_name f p.name) as (λ b. same_name f p.name ≡ b → b ≡ nat_eq (number_in (λ e. e.name) events f) m) [
      | true ↦ λ e.
          let there : position (λ x. same_name f x.name) events ≡ Some m =
          subst (λ (n : Name). position (λ (x : EventPort). same_name n x.name) events ≡ Some m) (sym (same_from_same_name f p.name e)) (first m p at) in
          rw there (sym (nat_eq-itself m))
      | false ↦ λ e. sym (false_from_ne_true (nat_eq (number_in (λ e. e.name) events f) m) (λ h.
          let within : m < length events = slice_get_within events m p at in
          let there = number_at (position (λ x. same_name f x.name) events) (length events) m within (nat_eq-is (number_in (λ e. e.name) events f) m h) in
          let same : same_name f (get_or events m p).name ≡ true = (position-Some (λ x. same_name f x.name) events m p there).1 in
          let here : same_name f p.name ≡ true =
          ap (λ (q : EventPort). same_name f q.name) (sym (get_or_from_slice_get events m p p at)) ∙ same in
          true≢false (sym here ∙ e)))
    ] refl

-- whether the event of a condition is present, by its index
pub present_by_index :
    (events : List EventPort) (present : Option ℕ) (n : Option Name) → AreFirst (λ e. e.name) events → IfSome present (λ m. m < length events)
    → is_present n (option_map (event_at events) present) ≡ is_number_present (option_map (number_in (λ e. e.name) events) n) present
present_by_index events None None first within = refl
present_by_index events (Some m) None first within = refl
present_by_index events None (Some f) first within = refl
present_by_index events (Some m) (Some f) first within =
    let p = element_at events m within in
    ap (same_name f) (event_here events m p.0 p.1) ∙ same_event events f m p.0 first p.1

-- ---- Names

-- where a name is first
pub record IsFirst {A : Type 0} (name_of : A → Name) (xs : List A) (n : Name) : Type 0 where
  pub index : ℕ
  pub element : A
  pub first : position (λ y. same_name n (name_of y)) xs ≡ Some index
  pub at : slice_get xs index ≡ Some element
  pub named : same_name n (name_of element) ≡ true

pub stands : {A : Type 0} (name_of : A → Name) (xs : List A) (n : Name) → among (map name_of xs) n ≡ true → IsFirst name_of xs n
stands name_of [] n h = absurd (true≢false (sym h))
stands name_of (x ∷ xs) n h =
    elim (same_name n (name_of x)) as (λ b. same_name n (name_of x) ≡ b → (b || among (map name_of xs) n) ≡ true → IsFirst name_of (x ∷ xs) n) [
      | true ↦ λ e g. record {
        index = 0;
        element = x;
        first = position-first (λ y. same_name n (name_of y)) x xs e;
        at = refl;
        named = e;
      }
      | false ↦ λ e g.
          let later = stands name_of xs n g in
          record {
            index = suc later.index;
            element = later.element;
            first = position-later (λ y. same_name n (name_of y)) x xs e ∙ ap (option_map (λ i. suc i)) later.first;
            at = later.at;
            named = later.named;
          }
    ] refl h

pub number_is : {A : Type 0} (name_of : A → Name) (xs : List A) (n : Name) (s : IsFirst name_of xs n) → number_in name_of xs n ≡ s.index
number_is name_of xs n s = ap (λ (o : Option ℕ). unwrap_or o (length xs)) s.first

-- ---- Transitions

pub transition_here : (t : BasicType) (k : ℕ) (x : Transition) → slice_get t.transitions k ≡ Some x → transition_at t k ≡ x
transition_here t k x at = ap (λ (o : Option Transition). unwrap_or o nowhere) at

pub condition_meant :
    (t : BasicType) (e : Exit) (present : Option ℕ) (vars : Values) → IsSound t → IsExit t e → IfSome present (λ m. m < length t.ports.event_inputs)
    → is_true (transition_at t e.transition).condition (option_map (event_at t.ports.event_inputs) present) vars
    ≡ (if is_number_present e.event present then guard_value (transition_at t e.transition).condition.guard vars else Ok false)
condition_meant t e present vars sound (x, at, is) within =
    let here = transition_here t e.transition x at in
    let number : option_map (number_in (λ p. p.name) t.ports.event_inputs) x.condition.event ≡ e.event = sym (ap (λ (f : Exit). f.event) is) in
    let same : is_present (transition_at t e.transition).condition.event (option_map (event_at t.ports.event_inputs) present) ≡ is_number_present e.event present =
    ap (λ (y : Transition). is_present y.condition.event (option_map (event_at t.ports.event_inputs) present)) here
    ∙ present_by_index t.ports.event_inputs present x.condition.event sound.events within
    ∙ ap (λ (o : Option ℕ). is_number_present o present) number in
    ap (λ (b : Bool). if b then guard_value (transition_at t e.transition).condition.guard vars else Ok false) same

no_guard : (o : Option Expr) (vars : Values) → is_some o ≡ false → guard_value o vars ≡ Ok true
no_guard None vars h = refl
no_guard (Some g) vars h = absurd (true≢false h)

-- a transition that has no guard
pub unguarded :
    (t : BasicType) (e : Exit) (vars : Values) → IsExit t e → e.is_guarded ≡ false → guard_value (transition_at t e.transition).condition.guard vars ≡ Ok true
unguarded t e vars (x, at, is) free =
    ap (λ (y : Transition). guard_value y.condition.guard vars) (transition_here t e.transition x at)
    ∙ no_guard x.condition.guard vars (sym (ap (λ (f : Exit). f.is_guarded) is) ∙ free)

-- the guard of a transition that was read
pub guard_read :
    (t : BasicType) (e : Exit) (vars : Values) (read : List Transition) (x : Transition) → read ≡ t.transitions → e.transition < length read
    → x ≡ get_or read e.transition x → guard_value (transition_at t e.transition).condition.guard vars ≡ guard_value x.condition.guard vars
guard_read t e vars read x all inside is =
    let at : slice_get t.transitions e.transition ≡ Some x =
    subst (λ (l : List Transition). slice_get l e.transition ≡ Some x) all (slice_get_read read (length read) e.transition x refl inside is) in
    ap (λ (y : Transition). guard_value y.condition.guard vars) (transition_here t e.transition x at)

-- an exit that is read
pub exit_here : (t : BasicType) (exits : List Exit) (i : ℕ) (d : Exit) → Each (IsExit t) exits → i < length exits → IsExit t (get_or exits i d)
exit_here t exits i d each within = each i (get_or exits i d) (slice_get-get_or exits i d within)

pub transition_within : (t : BasicType) (e : Exit) (read : List Transition) → IsExit t e → read ≡ t.transitions → e.transition < length read
transition_within t e read (x, at, is) all =
    subst (λ (l : List Transition). e.transition < length l) (sym all) (slice_get_within t.transitions e.transition x at)

pub list_all-at : {X : Type 0} (p : X → Bool) (xs : List X) (i : ℕ) (x : X) → list_all p xs ≡ true → slice_get xs i ≡ Some x → p x ≡ true
list_all-at p [] i x h at = absurd (cc)
list_all-at {X} p (y ∷ ys) zero x h at = let same : y ≡ x = cc in subst (λ (z : X). p z ≡ true) same (and_left (p y) (list_all p ys) h)
list_all-at p (y ∷ ys) (suc i) x h at = list_all-at p ys i x (and_right (p y) (list_all p ys) h) at

pub state_here : (t : BasicType) (k : ℕ) (s : State) → slice_get t.states k ≡ Some s → state_at t k ≡ s.name
state_here t k s at =
    ap (λ (o : Option Name). unwrap_or o []) (slice_get-map (λ (y : State). y.name) t.states k ∙ ap (option_map (λ (y : State). y.name)) at)

-- where an exit leads
pub record Leads (t : BasicType) (e : Exit) : Type 0 where
  pub named : state_at t e.target ≡ (transition_at t e.transition).to
  pub within : e.target < length t.states

pub target_meant : (t : BasicType) (e : Exit) → IsSound t → IsExit t e → Leads t e
target_meant t e sound (x, at, is) =
    let s = stands (λ y. y.name) t.states x.to (list_all-at (λ y. among (state_names t) y.to) t.transitions e.transition x sound.targets at) in
    let target : e.target ≡ s.index = ap (λ (f : Exit). f.target) is ∙ number_is (λ y. y.name) t.states x.to s in
    record {
      named = ap (state_at t) target ∙ state_here t s.index s.element s.at ∙ sym (same_from_same_name x.to s.element.name s.named)
          ∙ ap (λ (y : Transition). y.to) (sym (transition_here t e.transition x at));
      within = subst (λ k. k < length t.states) (sym target) (slice_get_within t.states s.index s.element s.at);
    }

-- ---- Transitions that all wait for an event

absent : (o : Option Name) → is_some o ≡ true → is_present o None ≡ false
absent None h = absurd (true≢false (sym h))
absent (Some n) h = refl

some_mapped : {A B : Type 0} (f : A → B) (o : Option A) → is_some (option_map f o) ≡ is_some o
some_mapped f None = refl
some_mapped f (Some x) = refl

spent : (t : BasicType) (e : Exit) (vars : Values) → IsExit t e → is_some e.event ≡ true → is_true (transition_at t e.transition).condition None vars ≡ Ok false
spent t e vars (x, at, is) waits =
    let event : is_some x.condition.event ≡ true =
    sym (some_mapped (number_in (λ p. p.name) t.ports.event_inputs) x.condition.event) ∙ sym (ap (λ (f : Exit). is_some f.event) is) ∙ waits in
    ap (λ (y : Transition). is_true y.condition None vars) (transition_here t e.transition x at)
    ∙ ap (λ b. cond b (guard_value x.condition.guard vars) (Ok false)) (absent x.condition.event event)

-- none of them clears without one, and each costs a step ..
pub none_waiting :
    (t : BasicType) (vars : Values) (exits : List Exit) (left less : ℕ) → Each (IsExit t) exits → are_waiting exits ≡ true → left ≡ length exits + less
    → trial_of (transitions_at t exits) None vars left ≡ NoneClears less
none_waiting t vars [] left less each waits is = let same : left ≡ less = omega (arith, is) in ap (λ n. NoneClears n) same
none_waiting t vars (e ∷ es) left less each waits is =
    let rest : ℕ = length es + less in
    let fewer : left ≡ suc rest = omega (arith, is) in
    ap (λ n. trial_of (transition_at t e.transition ∷ transitions_at t es) None vars n) fewer
    ∙ ap (λ (b : Result Bool Reason). by_condition b (transition_at t e.transition).to rest (trial_of (transitions_at t es) None vars rest)) (spent t e vars (each 0 e refl) (and_left (is_some e.event) (are_waiting es) waits))
    ∙ none_waiting t vars es rest less (λ i f at. each (suc i) f at) (and_right (is_some e.event) (are_waiting es) waits) refl

-- with fewer steps than exits, all that wait for an event are tried until no step is left
pub fails_waiting :
    (t : BasicType) (vars : Values) (exits : List Exit) (left : ℕ) → Each (IsExit t) exits → are_waiting exits ≡ true → left < length exits
    → trial_of (transitions_at t exits) None vars left ≡ Fails Steps 0
fails_waiting t vars [] left each waits less = absurd (omega (arith, less))
fails_waiting t vars (e ∷ es) zero each waits less = refl
fails_waiting t vars (e ∷ es) (suc left) each waits less =
    ap (λ (b : Result Bool Reason). by_condition b (transition_at t e.transition).to left (trial_of (transitions_at t es) None vars left)) (spent t e vars (each 0 e refl) (and_left (is_some e.event) (are_waiting es) waits))
    ∙ fails_waiting t vars es left (λ i f at. each (suc i) f at) (and_right (is_some e.event) (are_waiting es) waits) (omega (arith, less))

-- ---- Trials

-- the rest of the exits, from the one at an index on
rest_at : (exits : List Exit) (i : ℕ) (e : Exit) → slice_get exits i ≡ Some e → drop i exits ≡ e ∷ drop (i + 1) exits
rest_at exits i e at = cut_at exits i e (slice_get_within exits i e at) (sym (get_or_from_slice_get exits i e e at))

module _ (t : BasicType) (present : Option Name) (vars : Values) where
  pub tried :
      (exits : List Exit) (i : ℕ) (e : Exit) (left less : ℕ) (r : Result Bool Reason) → slice_get exits i ≡ Some e → left ≡ suc less
      → is_true (transition_at t e.transition).condition present vars ≡ r
      → trial_of (transitions_at t (drop i exits)) present vars left
      ≡ by_condition r (transition_at t e.transition).to less (trial_of (transitions_at t (drop (i + 1) exits)) present vars less)
  tried exits i e left less r at fewer is =
      ap (λ (l : List Exit). trial_of (transitions_at t l) present vars left) (rest_at exits i e at)
      ∙ ap (λ n. trial_of (transition_at t e.transition ∷ transitions_at t (drop (i + 1) exits)) present vars n) fewer
      ∙ ap (λ (b : Result Bool Reason). by_condition b (transition_at t e.transition).to less (trial_of (transitions_at t (drop (i + 1) exits)) present vars less)) is

  pub not_tried :
      (exits : List Exit) (i : ℕ) (e : Exit) (left : ℕ) → slice_get exits i ≡ Some e → left ≡ 0
      → trial_of (transitions_at t (drop i exits)) present vars left ≡ Fails Steps 0
  not_tried exits i e left at none =
      ap (λ (l : List Exit). trial_of (transitions_at t l) present vars left) (rest_at exits i e at)
      ∙ ap (λ n. trial_of (transition_at t e.transition ∷ transitions_at t (drop (i + 1) exits)) present vars n) none
