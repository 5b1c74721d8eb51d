-- Where no statement or no operation is said: then no step was left.
use Rattle.fb_types.proofs.Common.{◌≡◌, ◌∙◌, ◌∷◌, ◌-◌, ◌<◌, ◌≤◌, [], ℕ, zero, suc, Bool, true, false, cond, List, Option, Some, None, Result, Ok, Err, map, length, refl, sym, ap, subst, inl, inr, arith, IfNone, option_map, slice_get, unwrap_or, if◌then◌else◌, slice_get-map, filter, find, list_all, among, named, types_of, End, Point, RunsAll, RunsBody, Went, Left, Returned, Stopped, ended, Acts, Fails, Halts, Moving, NoneClears, Performs, Position, actions_of, algorithm_of, at_point, by_condition, emitting, is_true, leaving, trial_of, Name, same_name, Stmts, body_of, expr_of, no_stmt, Types, Values, and_then, truth, value_of}
use Rattle.fb_types.specs.declared.library.Action.{Action}
use Rattle.fb_types.specs.declared.library.Algorithm.{Algorithm}
use Rattle.fb_types.specs.declared.library.BasicType.{BasicType}
use Rattle.fb_types.specs.declared.library.Transition.{Transition}
use Rattle.fb_types.specs.declared.text.Expr.{Expr}
use Rattle.fb_types.specs.declared.value.Reason.{Reason}
use Rattle.fb_types.specs.declared.value.Value.{Value}
use Rattle.fb_types.specs.Charts.{guard_value, is_present}
use Rattle.fb_types.specs.declared.library.Condition.{Condition}
use Rattle.fb_types.specs.declared.library.State.{State}
use Rattle.fb_types.specs.declared.text.Body.{Body}
use Rattle.fb_types.proofs.lemmas.determined.BodyLaws.{all-one}
use Rattle.fb_ecc.specs.Indexes.{IsStateOf, state_at}
use Rattle.fb_ecc.specs.Sound.{Each, IsSound}
use Rattle.fb_st.specs.declared.meter.Flow.{Flow}
use Rattle.fb_st.specs.declared.meter.Flow.TheVariants as flow
use Rattle.fb_stop.specs.Blamed.{plain}
use Rattle.fb_stop.specs.Ends.{end_of}
use Rattle.fb_stop.specs.Operations.{IsOtherwise, IsWithout}
use Rattle.fb_stop.specs.declared.fault.Fault.{Fault}
use Rattle.fb_stop.specs.Sites.{AreOtherwise, FailsAt, IsActionOtherwise, IsGuardOtherwise}
use Rattle.fb_stop.specs.Places.{IsNth}
use Rattle.fb_stop.proofs.lemmas.copies.CopiedSlots.{actions_there, body_there}
use Rattle.fb_stop.proofs.lemmas.operations.Insides.{leaves_at}

pub if_none_map : {A P Q : Type 0} (o : Option A) → (P → Q) → IfNone o P → IfNone o Q
if_none_map None f h = f h
if_none_map (Some a) f h = tt

-- ---- Statements

-- a body that ends otherwise is not stopped by the reason
pub not_stopped : (types : Types) (body : Stmts) (p m q : Point) (e : End) (r : Reason) → RunsAll types body p e m → (ended e ≡ Stopped r → ⊥) → RunsBody types body p (Stopped r) q → ⊥
not_stopped types body p m q e r runs not (f, run, is) = not (ap ended (all-one body types p e f m q runs run).0 ∙ sym is)

-- what holds of each algorithm holds of the one that was found
pub found_in : (P : Algorithm → Type 0) (n : Name) (xs : List Algorithm) (g : Algorithm) → Each P xs → Some g ≡ find (λ x. same_name x.name n) xs → P g
found_in P n [] g each is = absurd (cc)
found_in P n (x ∷ xs) g each is = go (same_name x.name n) is (found_in P n xs g (λ i y at. each (suc i) y at))
  where
    go : (b : Bool) → Some g ≡ cond b (Some x) (find (λ y. same_name y.name n) xs) → (Some g ≡ find (λ y. same_name y.name n) xs → P g) → P g
    go true is rest = let same : g ≡ x = cc in subst P (sym same) (each zero x refl)
    go false is rest = rest is

-- ---- Actions

performs_not : (t : BasicType) (n : Option Name) (rest : Moving) (p q : Position) (r : Reason) → ((m : Position) (s : Reason) → rest m (Some s) q → ⊥)
    → ((x : Name) (m : Point) → n ≡ Some x → RunsBody (types_of t) (algorithm_of t x) (record { vars = p.vars; left = p.left }) (Stopped r) m → ⊥) → Performs t n rest p (Some r) q → ⊥
performs_not t None rest p q r ends runs h = ends p r h
performs_not t (Some a) rest p q r ends runs (Went, m, run, h) = ends (at_point p m) r h
performs_not t (Some a) rest p q r ends runs (Left, m, run, h) = ends (at_point p m) r h
performs_not t (Some a) rest p q r ends runs (Returned, m, run, h) = ends (at_point p m) r h
performs_not t (Some a) rest p q r ends runs (Stopped s, m, run, (e, is)) =
    let same : s ≡ r = cc in
    runs a m refl (subst (λ (u : Reason). RunsBody (types_of t) (algorithm_of t a) (record { vars = p.vars; left = p.left }) (Stopped u) m) same run)

ends_not : (m q : Position) (s : Reason) → Halts None m (Some s) q → ⊥
ends_not m q s (e, is) = cc

-- Its algorithm does not stop for the reason, if it has one: then the action stops for it only where it has no step.
abbrev pub IsAlgorithmOtherwise : BasicType → Action → Values → ℕ → Reason → Type 0
IsAlgorithmOtherwise t a vars left r =
    (x : Name) (rest : ℕ) (m : Point) → a.algorithm ≡ Some x → left ≡ suc rest → RunsBody (types_of t) (algorithm_of t x) (record { vars = vars; left = rest }) (Stopped r) m → ⊥

pub action_otherwise : (t : BasicType) (a : Action) (vars : Values) (left : ℕ) (r : Reason) → IsAlgorithmOtherwise t a vars left r → IsActionOtherwise t a vars left r
action_otherwise t a vars zero r f p q same h = refl
action_otherwise t a vars (suc left) r f p q same h =
    absurd (performs_not t a.algorithm (λ m stop q. let n = emitting t a.output m in Acts t [] n.left n stop q) (record p { left = left }) q r
    (λ m s. ends_not (emitting t a.output m) q s)
    (λ x m named run. f x left m named refl (subst (λ (vs : Values). RunsBody (types_of t) (algorithm_of t x) (record { vars = vs; left = left }) (Stopped r) m) same run)) h)

-- an action without an algorithm
pub without_algorithm : (t : BasicType) (a : Action) (vars : Values) (left : ℕ) (r : Reason) → a.algorithm ≡ None → IsActionOtherwise t a vars left r
without_algorithm t a vars left r none = action_otherwise t a vars left r (λ x rest m named is run. cc)

-- an action whose algorithm has a body that does not stop for the reason
pub with_body : (t : BasicType) (a : Action) (n : Name) (g : Algorithm) (types : Types) (vars : Values) (left : ℕ) (r : Reason) → a.algorithm ≡ Some n
    → Some g ≡ find (λ x. same_name x.name n) t.algorithms → types ≡ types_of t → AreOtherwise types g.body vars left r → IsActionOtherwise t a vars left r
with_body t a n g types vars left r named found is h =
    action_otherwise t a vars left r
    (λ x rest m called more run.
    let same : x ≡ n = cc in
    let there : algorithm_of t x ≡ body_of g.body = ap (algorithm_of t) same ∙ body_there t n g found in
    h rest m more
    (subst (λ (T : Types). RunsBody T (body_of g.body) (record { vars = vars; left = rest }) (Stopped r) m) (sym is)
    (subst (λ (b : Stmts). RunsBody (types_of t) b (record { vars = vars; left = rest }) (Stopped r) m) there run)))

abbrev body_or : Option Algorithm → Stmts
body_or o = elim o [ None ↦ no_stmt | Some x ↦ body_of x.body ]

named_found : (n : Name) (xs : List Algorithm) → named (λ a. a.name) n xs ≡ find (λ a. same_name a.name n) xs
named_found n [] = refl
named_found n (x ∷ xs) = ap (λ (o : Option Algorithm). cond (same_name x.name n) (Some x) o) (named_found n xs)

nothing_stops : (types : Types) (p m : Point) (r : Reason) → RunsBody types no_stmt p (Stopped r) m → ⊥
nothing_stops types p m r (f, (e, is), stopped) =
    let same : Stopped r ≡ Went = stopped ∙ ap ended e in cc

-- an action whose algorithm is not there
pub no_body : (t : BasicType) (a : Action) (n : Name) (vars : Values) (left : ℕ) (r : Reason) → a.algorithm ≡ Some n → find (λ x. same_name x.name n) t.algorithms ≡ None → IsActionOtherwise t a vars left r
no_body t a n vars left r named none =
    action_otherwise t a vars left r
    (λ x rest m called more run.
    let same : x ≡ n = cc in
    let there : algorithm_of t x ≡ no_stmt = ap (algorithm_of t) same ∙ ap body_or (named_found n t.algorithms ∙ none) in
    nothing_stops (types_of t) (record { vars = vars; left = rest }) m r (subst (λ (b : Stmts). RunsBody (types_of t) b (record { vars = vars; left = rest }) (Stopped r) m) there run))

-- ---- States that are not there

abbrev actions_or : Option State → List Action
actions_or o = elim o [ None ↦ [] | Some x ↦ x.actions ]

there_not : {A : Type 0} (xs : List A) (i : ℕ) → i < length xs → slice_get xs i ≡ None → ⊥
there_not [] i less none = absurd (omega arith)
there_not (x ∷ xs) zero less none = cc
there_not (x ∷ xs) (suc i) less none = there_not xs i (omega arith) none

pub no_state : (t : BasicType) (i j : ℕ) (a : Action) → IsStateOf t i → slice_get t.states i ≡ None → slice_get (actions_of t (state_at t i)) j ≡ Some a → ⊥
no_state t i j a (inl e) none at =
    let gone : slice_get (actions_of t (state_at t i)) j ≡ None = ap (λ (l : List State). slice_get (actions_or (named (λ x. x.name) (state_at t i) l)) j) e in
    cc
no_state t i j a (inr less) none at = there_not t.states i less none

pub no_transition : (t : BasicType) (i j : ℕ) (x : Transition) → IsSound t → IsStateOf t i → slice_get t.states i ≡ None → slice_get (leaving t (state_at t i)) j ≡ Some x → ⊥
no_transition t i j x sound (inl e) none at =
    go t.transitions (subst (λ (l : List State). list_all (λ y. among (map (λ z. z.name) l) y.from) t.transitions ≡ true) e sound.sources) at
  where
    go : (ts : List Transition) → list_all (λ y. among [] y.from) ts ≡ true → slice_get (filter (λ y. same_name y.from (state_at t i)) ts) j ≡ Some x → ⊥
    go [] h at = cc
    go (y ∷ ys) h at = cc
no_transition t i j x sound (inr less) none at = there_not t.states i less none

pub past_all : {A : Type 0} (xs : List A) (j : ℕ) (x : A) → length xs ≤ j → slice_get xs j ≡ Some x → ⊥
past_all [] j x less at = cc
past_all (y ∷ ys) zero x less at = absurd (omega arith)
past_all (y ∷ ys) (suc j) x less at = past_all ys j x (omega arith) at

-- ---- Guards

truth_without : (v : Result Value Reason) (r : Reason) → and_then v (λ w. Ok (truth w)) ≡ Err r → v ≡ Err r
truth_without (Ok v) r e = absurd (cc)
truth_without (Err s) r e = let same : s ≡ r = cc in ap Err same

-- a condition without a value has a guard without one
condition_without : (g : Option Expr) (present : Bool) (vars : Values) (r : Reason) → (if present then guard_value g vars else Ok false) ≡ Err r → (x : Expr) × (g ≡ Some x) × IsWithout vars r x
condition_without g false vars r e = absurd (cc)
condition_without None true vars r e = absurd (cc)
condition_without (Some x) true vars r e = (x, refl, truth_without (value_of (expr_of x) vars) r e)

by_guard : (c : Condition) (present : Option Name) (vars : Values) (to : Name) (n after : ℕ) (r : Reason) → by_condition (is_true c present vars) to n (NoneClears n) ≡ Fails r after
    → (x : Expr) × (c.guard ≡ Some x) × IsWithout vars r x
by_guard c present vars to n after r fails = go (is_true c present vars) refl fails
  where
    go : (b : Result Bool Reason) → is_true c present vars ≡ b → by_condition b to n (NoneClears n) ≡ Fails r after → (x : Expr) × (c.guard ≡ Some x) × IsWithout vars r x
    go (Ok true) is e = absurd (cc)
    go (Ok false) is e = absurd (cc)
    go (Err s) is e = let same : s ≡ r = cc in condition_without c.guard (is_present c.event present) vars r (is ∙ ap Err same)

-- The guard is not what stops the trial: no step is left for it.
pub guard_alone : (ts : List Transition) (present : Option Name) (vars : Values) (left : ℕ) (r : Reason) (j : ℕ) → FailsAt ts present vars left r j → IsGuardOtherwise ts j vars r → left ≤ j
guard_alone ts present vars left r j h other = go (left - j) refl h.fails
  where
    go : (n : ℕ) → left - j ≡ n → trial_of (h.transition ∷ []) present vars n ≡ Fails r h.after → left ≤ j
    go zero is e = omega arith
    go (suc n) is e =
        let it = by_guard h.transition.condition present vars h.transition.to n h.after r e in
        absurd (other h.transition it.0 h.at it.1 it.2)

-- ---- The parts of an answer

flow_goes : (f : Flow) (r : Reason) → ended (plain (end_of (Ok f))) ≡ Stopped r → ⊥
flow_goes flow.Went r e = cc
flow_goes flow.Left r e = cc
flow_goes flow.Returned r e = cc

body_otherwise : (types : Types) (body : Body) (vars : Values) (left : ℕ) (r : Reason) (o : Result Flow Fault) (m : Point)
    → RunsAll types (body_of body) (record { vars = vars; left = left - 1 }) (plain (end_of o)) m → (ended (plain (end_of o)) ≡ Stopped r → ⊥) → AreOtherwise types body vars left r
body_otherwise types body vars left r o m runs not rest q more run =
    let same : left - 1 ≡ rest = omega arith in
    not_stopped types (body_of body) (record { vars = vars; left = rest }) m q (plain (end_of o)) r
    (subst (λ (n : ℕ). RunsAll types (body_of body) (record { vars = vars; left = n }) (plain (end_of o)) m) same runs) not run

-- a body that comes to its end
pub goes_otherwise : (types : Types) (body : Body) (vars : Values) (left : ℕ) (r : Reason) (o : Result Flow Fault) (f : Flow) (m : Point) → o ≡ Ok f
    → RunsAll types (body_of body) (record { vars = vars; left = left - 1 }) (plain (end_of o)) m → AreOtherwise types body vars left r
goes_otherwise types body vars left r o f m is runs =
    body_otherwise types body vars left r (Ok f) m (subst (λ (x : Result Flow Fault). RunsAll types (body_of body) (record { vars = vars; left = left - 1 }) (plain (end_of x)) m) is runs) (flow_goes f r)

-- a body that another reason stops
pub stops_otherwise : (types : Types) (body : Body) (vars : Values) (left : ℕ) (r : Reason) (o : Result Flow Fault) (f : Fault) (m : Point) → o ≡ Err f
    → RunsAll types (body_of body) (record { vars = vars; left = left - 1 }) (plain (end_of o)) m → (f.reason ≡ r → ⊥) → AreOtherwise types body vars left r
stops_otherwise types body vars left r o f m is runs not =
    body_otherwise types body vars left r (Err f) m (subst (λ (x : Result Flow Fault). RunsAll types (body_of body) (record { vars = vars; left = left - 1 }) (plain (end_of x)) m) is runs) (λ e. by f.reason r e not)
  where
    by : (a b : Reason) → Stopped a ≡ Stopped b → (a ≡ b → ⊥) → ⊥
    by a b e no_more = no_more (cc)

name_there : (t : BasicType) (i : ℕ) (s : State) → slice_get t.states i ≡ Some s → state_at t i ≡ s.name
name_there t i s there = ap (λ (o : Option Name). unwrap_or o []) (slice_get-map (λ (y : State). y.name) t.states i ∙ ap (option_map (λ (y : State). y.name)) there)

-- an action that is not there
pub no_action : (t : BasicType) (i j : ℕ) (s : State) (a : Action) → IsSound t → slice_get t.states i ≡ Some s → slice_get s.actions j ≡ None → slice_get (actions_of t (state_at t i)) j ≡ Some a → ⊥
no_action t i j s a sound there none known =
    let both : None ≡ Some a = sym none ∙ ap (λ (l : List Action). slice_get l j) (sym (actions_there t i s sound there)) ∙ known in
    cc

-- a transition that is not there
pub none_after : (t : BasicType) (i j : ℕ) (s : State) (x : Transition) → slice_get t.states i ≡ Some s → length (filter (λ y. same_name y.from s.name) t.transitions) ≤ j → slice_get (leaving t (state_at t i)) j ≡ Some x → ⊥
none_after t i j s x there less at = past_all (leaving t s.name) j x less (ap (λ (n : Name). slice_get (leaving t n) j) (sym (name_there t i s there)) ∙ at)

pub nth_there : (t : BasicType) (name : Name) (nth index : ℕ) → IsNth t name nth index → slice_get t.transitions index ≡ None → ⊥
nth_there t name nth index is none = let both : Some is.transition ≡ None = sym is.at ∙ none in cc

pub guard_other : (t : BasicType) (i nth index : ℕ) (s : State) (x : Transition) (vars : Values) (r : Reason) → slice_get t.states i ≡ Some s → IsNth t s.name nth index → slice_get t.transitions index ≡ Some x
    → ((g : Expr) → x.condition.guard ≡ Some g → IsOtherwise vars r g) → IsGuardOtherwise (leaving t (state_at t i)) nth vars r
guard_other t i nth index s x vars r there is at f y g known named =
    let both : Some x ≡ Some y = sym (leaves_at t i nth index s x there is at) ∙ known in
    let same : x ≡ y = cc in
    f g (ap (λ (z : Transition). z.condition.guard) same ∙ named)

pub other_guard : (g : Option Expr) (e x : Expr) (vars : Values) (r : Reason) → g ≡ Some e → IsOtherwise vars r e → g ≡ Some x → IsOtherwise vars r x
other_guard g e x vars r is other named = let same : e ≡ x = cc in subst (IsOtherwise vars r) same other
