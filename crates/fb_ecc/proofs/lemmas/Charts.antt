-- The rows of a chart, made while the transitions are visited.
use Rattle.fb_types.proofs.Common.{◌≡◌, ℕ, suc, ◌+◌, ◌<◌, Bool, true, false, ◌&&◌, cond, List, [], ◌∷◌, ◌++◌, length, map, set, Some, None, Contains, get_or, take, refl, sym, ◌∙◌, ap, subst, arith, inl, inr, position, option_map, slice_get, is_some, true≢false, false_from_ne_true, length-take-le, take_more, list_all-append, get_or_from_slice_get, slice_get-map, Name, same_name, Twice, state_names}
use Rattle.fb_types.specs.declared.library.BasicType.{BasicType}
use Rattle.fb_types.specs.declared.library.Transition.{Transition}
use Rattle.fb_types.specs.declared.library.State.{State}
use Rattle.fb_types.proofs.lemmas.names.NameLaws.{any_from_contains, same_from_same_name, same_name-itself}
use Rattle.fb_types.proofs.lemmas.lists.Elements.{Contains-cons_cases, Contains-here, Contains-there}
use Rattle.fb_types.proofs.lemmas.lists.Positions.{is_some-position, position-first, position_is}
use Rattle.fb_st.proofs.lemmas.Indexes.{position-later}
use Rattle.fb_ecc.specs.Indexed.{row_within}
use Rattle.fb_ecc.specs.Numbered.{act_of, are_waiting, exit_of, exits_from, row_with}
use Rattle.fb_ecc.specs.declared.chart.Exit.{Exit}
use Rattle.fb_ecc.specs.declared.chart.ChartState.{ChartState}
use Rattle.fb_ecc.proofs.lemmas.Indexing.{some_suc}

-- ---- One transition more

exits_push :
    (t : BasicType) (n : Name) (k j : ℕ) (xs : List Transition) (x : Transition) → j ≡ k + length xs
    → exits_from t n k (xs ++ x ∷ []) ≡ exits_from t n k xs ++ cond (same_name x.from n) (exit_of t j x ∷ []) []
exits_push t n k j [] x at =
    let here : k ≡ j = omega (arith, at) in
    ap (λ i. cond (same_name x.from n) (exit_of t i x ∷ []) []) here
exits_push t n k j (y ∷ ys) x at =
    let rest = exits_push t n (suc k) j ys x (omega (arith, at)) in
    let more : List Exit = cond (same_name x.from n) (exit_of t j x ∷ []) [] in
    elim (same_name y.from n) as (λ b. cond b (exit_of t k y ∷ exits_from t n (suc k) (ys ++ x ∷ [])) (exits_from t n (suc k) (ys ++ x ∷ []))
    ≡ cond b (exit_of t k y ∷ exits_from t n (suc k) ys) (exits_from t n (suc k) ys) ++ more) [
      | true ↦ ap (λ (l : List Exit). exit_of t k y ∷ l) rest
      | false ↦ rest
    ]

exits_more :
    (t : BasicType) (n : Name) (k : ℕ) (x : Transition) → k < length t.transitions → x ≡ get_or t.transitions k x
    → exits_from t n 0 (take (k + 1) t.transitions) ≡ exits_from t n 0 (take k t.transitions) ++ cond (same_name x.from n) (exit_of t k x ∷ []) []
exits_more t n k x within is =
    let counted : length (take k t.transitions) ≡ k = length-take-le k t.transitions (omega (arith, within)) in
    ap (exits_from t n 0) (take_more t.transitions k x within ∙ ap (λ (y : Transition). take k t.transitions ++ y ∷ []) (sym is))
    ∙ exits_push t n 0 k (take k t.transitions) x (omega (arith, counted))

and_true : (b : Bool) → (b && true) ≡ b
and_true true = refl
and_true false = refl

waiting-push : (es : List Exit) (e : Exit) → are_waiting (es ++ e ∷ []) ≡ (are_waiting es && is_some e.event)
waiting-push es e = list_all-append (λ (f : Exit). is_some f.event) es (e ∷ []) ∙ ap (λ b. are_waiting es && b) (and_true (is_some e.event))

append-nil : {A : Type 0} (xs : List A) → xs ++ [] ≡ xs
append-nil [] = refl
append-nil (x ∷ xs) = ap (λ ys. x ∷ ys) (append-nil xs)

-- the row of a state that the transition leaves
row_left :
    (t : BasicType) (k : ℕ) (x : Transition) (s : State) (old new : ChartState) → k < length t.transitions → x ≡ get_or t.transitions k x
    → same_name x.from s.name ≡ true → old ≡ row_within t k s → new.exits ≡ old.exits ++ exit_of t k x ∷ [] → new.acts ≡ old.acts
    → new.waits ≡ (old.waits && is_some (exit_of t k x).event) → new ≡ row_within t (k + 1) s
row_left t k x s old new within is leaves was exits acts waits =
    let more : new.exits ≡ exits_from t s.name 0 (take (k + 1) t.transitions) =
    exits ∙ ap (λ (r : ChartState). r.exits ++ exit_of t k x ∷ []) was
    ∙ sym (exits_more t s.name k x within is ∙ ap (λ b. exits_from t s.name 0 (take k t.transitions) ++ cond b (exit_of t k x ∷ []) []) leaves) in
    let same : new.acts ≡ map (act_of t) s.actions = acts ∙ ap (λ (r : ChartState). r.acts) was in
    let waiting : old.waits ≡ are_waiting old.exits = ap (λ (r : ChartState). r.waits) was ∙ sym (ap (λ (r : ChartState). are_waiting r.exits) was) in
    let waited : new.waits ≡ are_waiting (exits_from t s.name 0 (take (k + 1) t.transitions)) =
    waits ∙ ap (λ b. b && is_some (exit_of t k x).event) waiting ∙ sym (waiting-push old.exits (exit_of t k x)) ∙ ap are_waiting (sym exits ∙ more) in
    λ i. record { exits = more i; acts = same i; waits = waited i }

-- the row of any other state stays
row_stays :
    (t : BasicType) (k : ℕ) (x : Transition) (s : State) → k < length t.transitions → x ≡ get_or t.transitions k x
    → same_name x.from s.name ≡ false → row_within t k s ≡ row_within t (k + 1) s
row_stays t k x s within is apart =
    ap (λ (l : List Exit). row_with l (map (act_of t) s.actions))
    (sym
    (exits_more t s.name k x within is ∙ ap (λ b. exits_from t s.name 0 (take k t.transitions) ++ cond b (exit_of t k x ∷ []) []) apart
    ∙ append-nil (exits_from t s.name 0 (take k t.transitions))))

-- ---- All rows

map_same : {A B : Type 0} (f g : A → B) (xs : List A) → ((x : A) → Contains xs x → f x ≡ g x) → map f xs ≡ map g xs
map_same f g [] same = refl
map_same {A} {B} f g (x ∷ xs) same =
    ap (λ (l : List B). f x ∷ l) (map_same f g xs (λ y c. same y (Contains-there x xs y c))) ∙ ap (λ y. y ∷ map g xs) (same x (Contains-here x xs))

name_within : {A : Type 0} (name_of : A → Name) (xs : List A) (x : A) → Contains xs x → Contains (map name_of xs) (name_of x)
name_within name_of [] x c = absurd (let f = c.1 in omega (arith, f))
name_within {A} name_of (y ∷ ys) x c =
    elim (Contains-cons_cases y ys x c) [
      | inl same ↦ let P : A → Type 0 = λ z. Contains (map name_of (y ∷ ys)) (name_of z) in subst P same (Contains-here (name_of y) (map name_of ys))
      | inr rest ↦ Contains-there (name_of y) (map name_of ys) (name_of x) (name_within name_of ys x rest)
    ]

not_named : {A : Type 0} (name_of : A → Name) (n : Name) (xs : List A) (x : A) → ¬ (Contains (map name_of xs) n) → Contains xs x → same_name n (name_of x) ≡ false
not_named name_of n xs x absent c =
    false_from_ne_true (same_name n (name_of x))
    (λ t. absent (let P : Name → Type 0 = λ m. Contains (map name_of xs) m in subst P (sym (same_from_same_name n (name_of x) t)) (name_within name_of xs x c)))

-- what is at the index of a name changes, and nothing else
set_named :
    {A B : Type 0} (f g : A → B) (name_of : A → Name) (n : Name) (xs : List A) (i : ℕ) (x : A) (b : B) → ¬ (Twice (map name_of xs))
    → position (same_name n) (map name_of xs) ≡ Some i → slice_get xs i ≡ Some x → b ≡ g x → ((y : A) → same_name n (name_of y) ≡ false → f y ≡ g y)
    → set (map f xs) i b ≡ map g xs
set_named f g name_of n [] i x b once found at is others = absurd (cc)
set_named {A} {B} f g name_of n (y ∷ ys) i x b once found at is others =
    elim (same_name n (name_of y)) as (λ c. same_name n (name_of y) ≡ c → set (map f (y ∷ ys)) i b ≡ map g (y ∷ ys)) [
      | true ↦ λ e.
          let first : Some 0 ≡ Some i = sym (position-first (same_name n) (name_of y) (map name_of ys) e) ∙ found in
          let zeroth : i ≡ 0 = cc in
          let same : y ≡ x = let there : Some y ≡ Some x = ap (slice_get (y ∷ ys)) (sym zeroth) ∙ at in cc in
          let absent : ¬ (Contains (map name_of ys) n) =
          λ c. once (inl (let P : Name → Type 0 = λ m. Contains (map name_of ys) m in subst P (same_from_same_name n (name_of y) e) c)) in
          ap (λ j. set (map f (y ∷ ys)) j b) zeroth
          ∙ ap (λ (l : List B). b ∷ l) (map_same f g ys (λ z c. others z (not_named name_of n ys z absent c)))
          ∙ ap (λ (z : B). z ∷ map g ys) (is ∙ ap g (sym same))
      | false ↦ λ e.
          let later = some_suc (position (same_name n) (map name_of ys)) i (sym (position-later (same_name n) (name_of y) (map name_of ys) e) ∙ found) in
          let next : slice_get ys later.0 ≡ Some x = ap (slice_get (y ∷ ys)) (sym later.2) ∙ at in
          ap (λ j. set (map f (y ∷ ys)) j b) later.2
          ∙ ap (λ (l : List B). f y ∷ l) (set_named f g name_of n ys later.0 x b (λ t. once (inr t)) later.1 next is others)
          ∙ ap (λ (z : B). z ∷ map g ys) (others y e)
    ] refl

-- a transition more is put to the state at the index of its source ..
pub rows_left :
    (t : BasicType) (k i : ℕ) (x : Transition) (old after : List ChartState) (now new : ChartState) → k < length t.transitions → x ≡ get_or t.transitions k x
    → ¬ (Twice (state_names t)) → position (same_name x.from) (state_names t) ≡ Some i → old ≡ map (row_within t k) t.states → now ≡ get_or old i now
    → new.exits ≡ now.exits ++ exit_of t k x ∷ [] → new.acts ≡ now.acts → new.waits ≡ (now.waits && is_some (exit_of t k x).event)
    → after ≡ set old i new → after ≡ map (row_within t (k + 1)) t.states
rows_left t k i x old after now new within is once found was here exits acts waits written =
    let source = position_is (λ (s : State). s.name) x.from t.states i found in
    let s : State = source.0 in
    let leaves : same_name x.from s.name ≡ true =
    ap (λ (n : Name). same_name n s.name) (sym source.2) ∙ same_name-itself s.name in
    let there : slice_get (map (row_within t k) t.states) i ≡ Some (row_within t k s) =
    slice_get-map (row_within t k) t.states i ∙ ap (option_map (row_within t k)) source.1 in
    let read : now ≡ row_within t k s =
    here ∙ ap (λ (l : List ChartState). get_or l i now) was ∙ get_or_from_slice_get (map (row_within t k) t.states) i (row_within t k s) now there in
    written ∙ ap (λ (l : List ChartState). set l i new) was
    ∙ set_named (row_within t k) (row_within t (k + 1)) (λ (y : State). y.name) x.from t.states i s new once found source.1
    (row_left t k x s now new within is leaves read exits acts waits) (λ y apart. row_stays t k x y within is apart)

-- a transition whose source is no state changes no row
pub rows_stay :
    (t : BasicType) (k : ℕ) (x : Transition) → k < length t.transitions → x ≡ get_or t.transitions k x → position (same_name x.from) (state_names t) ≡ None
    → map (row_within t k) t.states ≡ map (row_within t (k + 1)) t.states
rows_stay t k x within is nowhere =
    let absent : ¬ (Contains (state_names t) x.from) =
    λ c. true≢false (sym (any_from_contains x.from (state_names t) c) ∙ sym (is_some-position (same_name x.from) (state_names t)) ∙ ap is_some nowhere) in
    map_same (row_within t k) (row_within t (k + 1)) t.states
    (λ s c. row_stays t k x s within is (not_named (λ (y : State). y.name) x.from t.states s absent c))
