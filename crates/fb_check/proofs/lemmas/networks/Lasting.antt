-- Marks that last, and the circles of types to which they lead.
use Rattle.fb_check.proofs.lemmas.Common.{◌≡◌, ◌⊎◌, ℕ, zero, suc, ◌+◌, ◌<◌, ◌≤◌, Bool, true, false, List, [], ◌∷◌, map, length, Option, Some, None, refl, sym, ◌∙◌, ap, subst, inl, inr, arith, true≢false, is_some, option_and_then, position, slice_get, NetworkNumbers, TypeNumber, is_marked}
use Rattle.fb_types.proofs.Common.{get_or, set, replicate, length-map, slice_get_within, unwrap_or}
use Rattle.std.specs.Bool.{beq}
use Rattle.std.specs.Cmp.{booleans_Decides}
use Rattle.std.specs.Cmp.Lexicographic.{pointwise}
use Rattle.std.proofs.lemmas.Slice.Eq.{slice_eq-Decides}
use Rattle.fb_check_names.specs.declared.numbers.TypeNumber.TheVariants as number
use Rattle.fb_types.proofs.lemmas.lists.Positions.{is_some-position}
use Rattle.fb_check.specs.networks.Heights.{AreLasting, ComesBack, HasNoMark, IsRound, Steps, Walks, below, declared_index, first_marked_component, holds_marked, mark_at, marks_after, type_inside}
use Rattle.fb_check.proofs.lemmas.networks.Circles.{part_below}
use Rattle.fb_check.proofs.lemmas.networks.Lists.{any_from}
use Rattle.fb_check.proofs.lemmas.networks.SearchLoops.{position_at}

-- ---- Walks

walk_steps : (xs : List (Option NetworkNumbers)) (marks : List Bool) (n j k : ℕ) → Walks xs marks n j k → Steps xs n j k
walk_steps xs marks zero j k w = w
walk_steps xs marks (suc n) j k w = (w.0, part_below xs marks j w.0 w.1, walk_steps xs marks n w.0 k w.2)

pub walk_on :
    (xs : List (Option NetworkNumbers)) (marks : List Bool) (n j k m : ℕ) → Walks xs marks n j k → below xs marks k ≡ Some m → Walks xs marks (suc n) j m
walk_on xs marks zero j k m w h = (m, subst (λ (i : ℕ). below xs marks i ≡ Some m) (sym w) h, refl)
walk_on xs marks (suc n) j k m w h = (w.0, w.1, walk_on xs marks n w.0 k m w.2 h)

-- what is below a type, by what is known of the type
abbrev below_type : List Bool → Option (Option NetworkNumbers) → Option ℕ
below_type marks p = option_and_then (λ (o : Option NetworkNumbers). option_and_then (type_inside o) (first_marked_component marks o)) p

-- a type from which a step leads is there, and has a component of a marked type
pub back_within : (xs : List (Option NetworkNumbers)) (marks : List Bool) (k : ℕ) → ComesBack xs marks k → k < length xs
back_within xs marks k back =
    elim (slice_get xs k) as (λ o. slice_get xs k ≡ o → below_type marks o ≡ Some back.1.0 → k < length xs) [
      | None ↦ λ e h. absurd (cc)
      | Some o ↦ λ e h. slice_get_within xs k o e
    ] refl back.1.1

pub back_through :
    (xs : List (Option NetworkNumbers)) (marks : List Bool) (k : ℕ) (o : Option NetworkNumbers) → ComesBack xs marks k → slice_get xs k ≡ Some o
    → first_marked_component marks o ≡ None → ⊥
back_through xs marks k o back at none =
    let no : None ≡ Some back.1.0 = ap (λ p. option_and_then (type_inside o) p) (sym none) ∙ ap (below_type marks) (sym at) ∙ back.1.1 in cc

-- a walk that comes back to a type leads back through the type's first component of a marked type
pub round_there :
    (xs : List (Option NetworkNumbers)) (marks : List Bool) (k i : ℕ) (o : Option NetworkNumbers) → ComesBack xs marks k → slice_get xs k ≡ Some o
    → first_marked_component marks o ≡ Some i → IsRound xs marks (k, i)
round_there xs marks k i o back at first =
    let inside : type_inside o i ≡ Some back.1.0 = ap (λ p. option_and_then (type_inside o) p) (sym first) ∙ ap (below_type marks) (sym at) ∙ back.1.1 in
    (o, at, first, record { through = back.1.0; inside = inside; leads = (back.0, walk_steps xs marks back.0 back.1.0 k back.1.2) })

-- ---- Marks of one round

mark_map : (f : Option NetworkNumbers → Bool) (xs : List (Option NetworkNumbers)) (k : ℕ) (o : Option NetworkNumbers) → slice_get xs k ≡ Some o → mark_at (map f xs) k ≡ f o
mark_map f [] k o at = absurd (cc)
mark_map f (x ∷ xs) zero o at = let same : x ≡ o = cc in ap f same
mark_map f (x ∷ xs) (suc k) o at = mark_map f xs k o at

mark_of :
    (f : Option NetworkNumbers → Bool) (xs : List (Option NetworkNumbers)) (k : ℕ) → mark_at (map f xs) k ≡ true
    → (o : Option NetworkNumbers) × (slice_get xs k ≡ Some o) × (f o ≡ true)
mark_of f [] k h = absurd (true≢false (sym h))
mark_of f (x ∷ xs) zero h = (x, refl, h)
mark_of f (x ∷ xs) (suc k) h = mark_of f xs k h

-- a marked type among those of a network's components
marked_component :
    (marks : List Bool) (x : NetworkNumbers) → holds_marked marks (Some x) ≡ true
    → (i : ℕ) × (m : ℕ) × (position (is_marked marks) x.types ≡ Some i) × (slice_get x.types i ≡ Some (number.Declared m)) × (mark_at marks m ≡ true)
marked_component marks x held = go marks x (position (is_marked marks) x.types) refl held
  where
    by_type :
        (marks : List Bool) (x : NetworkNumbers) (i : ℕ) (y : TypeNumber) → position (is_marked marks) x.types ≡ Some i → slice_get x.types i ≡ Some y → is_marked marks y ≡ true
        → (i : ℕ) × (m : ℕ) × (position (is_marked marks) x.types ≡ Some i) × (slice_get x.types i ≡ Some (number.Declared m)) × (mark_at marks m ≡ true)
    by_type marks x i (number.Event e) p there marked = absurd (true≢false (sym marked))
    by_type marks x i (number.Declared m) p there marked = (i, m, p, there, marked)

    go :
        (marks : List Bool) (x : NetworkNumbers) (q : Option ℕ) → position (is_marked marks) x.types ≡ q → is_some q ≡ true
        → (i : ℕ) × (m : ℕ) × (position (is_marked marks) x.types ≡ Some i) × (slice_get x.types i ≡ Some (number.Declared m)) × (mark_at marks m ≡ true)
    go marks x None p h = absurd (true≢false (sym h))
    go marks x (Some i) p h = let y = position_at (is_marked marks) x.types i p in by_type marks x i y.0 p y.1 y.2

-- ---- Marks that last

-- what has a marked component leads to a marked type
held_below :
    (xs : List (Option NetworkNumbers)) (marks : List Bool) (k : ℕ) (o : Option NetworkNumbers) → slice_get xs k ≡ Some o → holds_marked marks o ≡ true
    → (m : ℕ) × (below xs marks k ≡ Some m) × (mark_at marks m ≡ true)
held_below xs marks k None at h = absurd (true≢false (sym h))
held_below xs marks k (Some x) at h =
    let w = marked_component marks x h in
    (w.1, ap (below_type marks) at ∙ ap (λ p. option_and_then (type_inside (Some x)) p) w.2 ∙ ap declared_index w.3, w.4)

pub lasting_below :
    (xs : List (Option NetworkNumbers)) (marks : List Bool) (k : ℕ) → AreLasting xs marks → mark_at marks k ≡ true
    → (m : ℕ) × (below xs marks k ≡ Some m) × (mark_at marks m ≡ true)
lasting_below xs marks k last h =
    let held = mark_of (holds_marked marks) xs k (ap (λ (ms : List Bool). mark_at ms k) last.stay ∙ h) in
    held_below xs marks k held.0 held.1 held.2

pub lasting_within : (xs : List (Option NetworkNumbers)) (marks : List Bool) (k : ℕ) → AreLasting xs marks → mark_at marks k ≡ true → k < length xs
lasting_within xs marks k last h =
    let held = mark_of (holds_marked marks) xs k (ap (λ (ms : List Bool). mark_at ms k) last.stay ∙ h) in
    slice_get_within xs k held.0 held.1

-- ---- The rounds end

-- how many are set
abbrev pub count_set : List Bool → ℕ
count_set [] = 0
count_set (true ∷ bs) = suc (count_set bs)
count_set (false ∷ bs) = count_set bs

fewer_or_same :
    (xs ys : List Bool) → length xs ≡ length ys → ((k : ℕ) → mark_at xs k ≡ true → mark_at ys k ≡ true) → (xs ≡ ys) ⊎ (count_set xs < count_set ys)
fewer_or_same [] [] len sub = inl refl
fewer_or_same [] (b ∷ ys) len sub = absurd (omega (arith, len))
fewer_or_same (a ∷ xs) [] len sub = absurd (omega (arith, len))
fewer_or_same (true ∷ xs) (true ∷ ys) len sub =
    elim (fewer_or_same xs ys (omega (arith, len)) (λ k. sub (suc k))) [ inl e ↦ inl (ap (λ (l : List Bool). true ∷ l) e) | inr less ↦ inr (omega (arith, less)) ]
fewer_or_same (false ∷ xs) (false ∷ ys) len sub =
    elim (fewer_or_same xs ys (omega (arith, len)) (λ k. sub (suc k))) [ inl e ↦ inl (ap (λ (l : List Bool). false ∷ l) e) | inr less ↦ inr less ]
fewer_or_same (false ∷ xs) (true ∷ ys) len sub =
    elim (fewer_or_same xs ys (omega (arith, len)) (λ k. sub (suc k))) [ inl e ↦ inr (let n = ap count_set e in omega (arith, n)) | inr less ↦ inr (omega (arith, less)) ]
fewer_or_same (true ∷ xs) (false ∷ ys) len sub = absurd (true≢false (sym (sub zero refl)))

-- a type with a component that is marked after one more round is marked then, where each mark of that round is one of the round before
still_marked :
    (xs : List (Option NetworkNumbers)) (r k : ℕ) (o : Option NetworkNumbers) → ((m : ℕ) → mark_at (marks_after (suc r) xs) m ≡ true → mark_at (marks_after r xs) m ≡ true)
    → slice_get xs k ≡ Some o → holds_marked (marks_after (suc r) xs) o ≡ true → mark_at (marks_after (suc r) xs) k ≡ true
still_marked xs r k None later there held = absurd (true≢false (sym held))
still_marked xs r k (Some x) later there held =
    let w = marked_component (marks_after (suc r) xs) x held in
    mark_map (holds_marked (marks_after r xs)) xs k (Some x) there ∙ is_some-position (is_marked (marks_after r xs)) x.types
    ∙ any_from (is_marked (marks_after r xs)) x.types w.0 (number.Declared w.1) w.3 (later w.1 w.4)

-- what has marked components is composite
composite : (marks : List Bool) (o : Option NetworkNumbers) → holds_marked marks o ≡ true → is_some o ≡ true
composite marks None h = absurd (true≢false (sym h))
composite marks (Some x) h = refl

-- a type that has a mark after one more round had it before
mark_before : (xs : List (Option NetworkNumbers)) (r k : ℕ) → mark_at (marks_after (suc r) xs) k ≡ true → mark_at (marks_after r xs) k ≡ true
mark_before xs zero k h =
    let w = mark_of (holds_marked (map is_some xs)) xs k h in mark_map is_some xs k w.0 w.1 ∙ composite (map is_some xs) w.0 w.2
mark_before xs (suc r) k h =
    let w = mark_of (holds_marked (marks_after (suc r) xs)) xs k h in still_marked xs r k w.0 (λ m. mark_before xs r m) w.1 w.2

marks_long : (xs : List (Option NetworkNumbers)) (r : ℕ) → length (marks_after r xs) ≡ length xs
marks_long xs zero = length-map xs is_some
marks_long xs (suc r) = length-map xs (holds_marked (marks_after r xs))

-- one more round takes marks away, or changes nothing
fewer_marks : (xs : List (Option NetworkNumbers)) (r : ℕ) → (marks_after (suc r) xs ≡ marks_after r xs) ⊎ (count_set (marks_after (suc r) xs) < count_set (marks_after r xs))
fewer_marks xs r =
    fewer_or_same (marks_after (suc r) xs) (marks_after r xs) (marks_long xs (suc r) ∙ sym (marks_long xs r)) (λ k h. mark_before xs r k h)

-- what one more round gives, by the round before
again_is : (xs : List (Option NetworkNumbers)) (r : ℕ) (marks again : List Bool) → marks ≡ marks_after r xs → again ≡ map (holds_marked marks) xs → again ≡ marks_after (suc r) xs
again_is xs r marks again are round = round ∙ ap (λ (ms : List Bool). map (holds_marked ms) xs) are

-- the marks last, if one more round gives the same
pub they_last :
    (xs : List (Option NetworkNumbers)) (r : ℕ) (marks again : List Bool) (b : Bool) → marks ≡ marks_after r xs → again ≡ map (holds_marked marks) xs
    → b ≡ pointwise beq again marks → b ≡ true → AreLasting xs marks
they_last xs r marks again b are round is same = record {
  rounds = r;
  are = are;
  stay = sym round ∙ (slice_eq-Decides booleans_Decides again marks b is).0 same;
}

-- otherwise there are fewer
pub they_are_fewer :
    (xs : List (Option NetworkNumbers)) (r : ℕ) (marks again : List Bool) (b : Bool) → marks ≡ marks_after r xs → again ≡ map (holds_marked marks) xs
    → b ≡ pointwise beq again marks → b ≡ false → count_set again < count_set marks
they_are_fewer xs r marks again b are round is other =
    let next : again ≡ marks_after (suc r) xs = again_is xs r marks again are round in
    elim (fewer_marks xs r) [
      | inl e ↦ absurd (true≢false (sym ((slice_eq-Decides booleans_Decides again marks b is).1 (next ∙ e ∙ sym are)) ∙ other))
      | inr less ↦ (let a = ap count_set next in let m = ap count_set are in omega (arith, less, a, m))
    ]

pub one_round_more :
    (xs : List (Option NetworkNumbers)) (r : ℕ) (marks again : List Bool) → marks ≡ marks_after r xs → again ≡ map (holds_marked marks) xs
    → (s : ℕ) × (again ≡ marks_after s xs)
one_round_more xs r marks again are round = (suc r, again_is xs r marks again are round)

-- ---- Marks at indexes

pub mark_get : (bs : List Bool) (k : ℕ) (d : Bool) → k < length bs → mark_at bs k ≡ get_or bs k d
mark_get [] k d within = absurd (omega (arith, within))
mark_get (b ∷ bs) zero d within = refl
mark_get (b ∷ bs) (suc k) d within = mark_get bs k d (omega (arith, within))

-- where none of all indexes has a mark, none has
pub all_marks : (bs : List Bool) (i : ℕ) → length bs ≤ i → ((k : ℕ) → k < i → mark_at bs k ≡ false) → HasNoMark bs
all_marks bs i end none k =
    elim (slice_get bs k) as (λ o. slice_get bs k ≡ o → unwrap_or o false ≡ false) [
      | None ↦ λ e. refl
      | Some b ↦ λ e.
          let within = slice_get_within bs k b e in
          ap (λ (o : Option Bool). unwrap_or o false) (sym e) ∙ none k (omega (arith, within, end))
    ] refl

-- ---- Types that were seen

pub none_set : (n k : ℕ) → mark_at (replicate n false) k ≡ false
none_set zero k = refl
none_set (suc n) zero = refl
none_set (suc n) (suc k) = none_set n k

pub set_cases : (bs : List Bool) (i j : ℕ) → mark_at (set bs i true) j ≡ true → (j ≡ i) ⊎ (mark_at bs j ≡ true)
set_cases [] i j h = inr h
set_cases (b ∷ bs) zero zero h = inl refl
set_cases (b ∷ bs) zero (suc j) h = inr h
set_cases (b ∷ bs) (suc i) zero h = inr h
set_cases (b ∷ bs) (suc i) (suc j) h = elim (set_cases bs i j h) [ inl e ↦ inl (ap (λ (n : ℕ). suc n) e) | inr there ↦ inr there ]

pub one_more_set : (bs : List Bool) (i : ℕ) → i < length bs → mark_at bs i ≡ false → count_set (set bs i true) ≡ count_set bs + 1
one_more_set [] i h e = absurd (omega (arith, h))
one_more_set (true ∷ bs) zero h e = absurd (true≢false e)
one_more_set (false ∷ bs) zero h e = omega arith
one_more_set (true ∷ bs) (suc i) h e = let n = one_more_set bs i (omega (arith, h)) e in omega (arith, n)
one_more_set (false ∷ bs) (suc i) h e = one_more_set bs i (omega (arith, h)) e

pub count_within : (bs : List Bool) → count_set bs ≤ length bs
count_within [] = omega arith
count_within (true ∷ bs) = let n = count_within bs in omega (arith, n)
count_within (false ∷ bs) = let n = count_within bs in omega (arith, n)

-- each type that was seen leads to the one at hand
abbrev pub LeadHere : List (Option NetworkNumbers) → List Bool → List Bool → ℕ → Type 0
LeadHere xs marks seen k = (j : ℕ) → mark_at seen j ≡ true → (n : ℕ) × Walks xs marks (suc n) j k

pub lead_on :
    (xs : List (Option NetworkNumbers)) (marks seen : List Bool) (k m : ℕ) → below xs marks k ≡ Some m → LeadHere xs marks seen k → LeadHere xs marks (set seen k true) m
lead_on xs marks seen k m h lead j there =
    elim (set_cases seen k j there) [
      | inl e ↦ (0, subst (λ (i : ℕ). Walks xs marks 1 i m) (sym e) (m, h, refl))
      | inr before ↦ let w = lead j before in (suc w.0, walk_on xs marks (suc w.0) j k m w.1 h)
    ]
