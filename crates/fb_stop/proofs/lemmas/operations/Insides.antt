-- What is inside an action and a guard: the algorithm, its statement, and the operation.
use Rattle.fb_types.proofs.Common.{◌≡◌, ◌∙◌, ◌∷◌, [], ℕ, zero, suc, Bool, true, false, cond, List, Option, Some, None, IfSome, take, length, sym, ap, subst, slice_get, option_map, unwrap_or, filter, find, slice_get-map, types_of, actions_of, leaving, Name, same_name, Types, Values}
use Rattle.fb_types.specs.declared.library.Action.{Action}
use Rattle.fb_types.specs.declared.library.Algorithm.{Algorithm}
use Rattle.fb_types.specs.declared.library.BasicType.{BasicType}
use Rattle.fb_types.specs.declared.library.Transition.{Transition}
use Rattle.fb_types.specs.declared.text.Expr.{Expr}
use Rattle.fb_types.specs.declared.value.Reason.{Reason}
use Rattle.fb_types.specs.declared.library.State.{State}
use Rattle.fb_st.specs.Frames.{declared_in, types_in, values_of}
use Rattle.fb_st.specs.declared.frame.Slot.{Slot}
use Rattle.fb_ecc.specs.Indexes.{state_at}
use Rattle.fb_ecc.specs.Sound.{IsSound, declared_by}
use Rattle.fb_ecc.proofs.lemmas.Actions.{types_declared}
use Rattle.fb_stop.specs.Operations.{FaultIn}
use Rattle.fb_stop.specs.declared.operation.Operation.{Operation}
use Rattle.fb_stop.specs.Places.{IsNth}
use Rattle.fb_stop.specs.Sites.{FailsInGuard, StopsInBody, StopsInStatements}
use Rattle.fb_stop.specs.declared.site.Inside.{Inside}
use Rattle.fb_stop.proofs.lemmas.copies.CopiedSlots.{actions_there, body_there}

pub if_some_map : {A : Type 0} (P Q : A → Type 0) (o : Option A) → ((a : A) → P a → Q a) → IfSome o P → IfSome o Q
if_some_map P Q None f h = h
if_some_map P Q (Some a) f h = f a h

-- the action at an index of the state is the one that the chart has there
pub action_is : (t : BasicType) (i j : ℕ) (s : State) (a b : Action) → IsSound t → slice_get t.states i ≡ Some s → slice_get s.actions j ≡ Some a
    → slice_get (actions_of t (state_at t i)) j ≡ Some b → a ≡ b
action_is t i j s a b sound there at known =
    let both : Some a ≡ Some b = sym at ∙ ap (λ (l : List Action). slice_get l j) (sym (actions_there t i s sound there)) ∙ known in
    cc

-- the statements of the algorithm that was found are those of the action
pub in_algorithm : (t : BasicType) (a : Action) (n : Name) (g : Algorithm) (f : List Slot) (left : ℕ) (r : Reason) (o : Option Inside) → a.algorithm ≡ Some n
    → Some g ≡ find (λ x. same_name x.name n) t.algorithms → declared_in f ≡ declared_by t
    → IfSome o (StopsInStatements (types_in (declared_in f)) g.body (values_of f) left r) → IfSome o (StopsInBody t a (values_of f) left r)
in_algorithm t a n g f left r o named found declared h =
    let types : types_in (declared_in f) ≡ types_of t = ap types_in declared ∙ types_declared t in
    if_some_map (StopsInStatements (types_in (declared_in f)) g.body (values_of f) left r) (StopsInBody t a (values_of f) left r) o
    (λ x stops. record {
      algorithm = n;
      named = named;
      body = g.body;
      is = body_there t n g found;
      stops = subst (λ (T : Types). StopsInStatements T g.body (values_of f) left r x) types stops;
    })
    h

-- ---- Guards

filtered_at : {A : Type 0} (p : A → Bool) (xs : List A) (i : ℕ) (x : A) → slice_get xs i ≡ Some x → p x ≡ true → slice_get (filter p xs) (length (filter p (take i xs))) ≡ Some x
filtered_at p [] i x at holds = absurd (cc)
filtered_at {A} p (y ∷ xs) zero x at holds =
    let same : y ≡ x = cc in
    let here : p y ≡ true = ap p same ∙ holds in
    ap (λ (b : Bool). slice_get (cond b (y ∷ filter p xs) (filter p xs)) 0) here ∙ at
filtered_at {A} p (y ∷ xs) (suc i) x at holds =
    elim (p y) as (λ b. slice_get (cond b (y ∷ filter p xs) (filter p xs)) (length (cond b (y ∷ filter p (take i xs)) (filter p (take i xs)))) ≡ Some x) [
      | true ↦ filtered_at p xs i x at holds
      | false ↦ filtered_at p xs i x at holds
    ]

-- the transition at this index of the text is the one at that index of those that leave the state
pub leaves_at : (t : BasicType) (i nth index : ℕ) (s : State) (x : Transition) → slice_get t.states i ≡ Some s → IsNth t s.name nth index → slice_get t.transitions index ≡ Some x
    → slice_get (leaving t (state_at t i)) nth ≡ Some x
leaves_at t i nth index s x there is at =
    let name : state_at t i ≡ s.name =
    ap (λ (o : Option Name). unwrap_or o []) (slice_get-map (λ (y : State). y.name) t.states i ∙ ap (option_map (λ (y : State). y.name)) there) in
    let both : Some is.transition ≡ Some x = sym is.at ∙ at in
    let same : is.transition ≡ x = cc in
    let leaves : same_name x.from s.name ≡ true = ap (λ (y : Transition). same_name y.from s.name) (sym same) ∙ is.leaves in
    ap (λ (n : Name). slice_get (leaving t n) nth) name ∙ ap (λ (k : ℕ). slice_get (leaving t s.name) k) (sym is.before)
    ∙ filtered_at (λ y. same_name y.from s.name) t.transitions index x at leaves

pub in_guard : (t : BasicType) (i nth index : ℕ) (s : State) (x : Transition) (g : Expr) (vars : Values) (r : Reason) (o : Option Operation) → slice_get t.states i ≡ Some s → IsNth t s.name nth index
    → slice_get t.transitions index ≡ Some x → x.condition.guard ≡ Some g → IfSome o (FaultIn vars r g 0) → IfSome o (FailsInGuard (leaving t (state_at t i)) nth vars r)
in_guard t i nth index s x g vars r o there is at guard h =
    if_some_map (FaultIn vars r g 0) (FailsInGuard (leaving t (state_at t i)) nth vars r) o
    (λ y fault. record {
      transition = x;
      at = leaves_at t i nth index s x there is at;
      guard = g;
      is = guard;
      fault = fault;
    })
    h
