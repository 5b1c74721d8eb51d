-- Indexes in a list of names that differ, and in the parts of which it is made.
use Rattle.fb_types.proofs.Common.{◌≡◌, ℕ, suc, ◌<◌, ◌≤◌, ◌+◌, ◌-◌, Bool, true, false, cond, List, [], ◌∷◌, ◌++◌, length, Some, None, Option, Contains, MatchOption, refl, sym, ◌∙◌, ap, subst, inl, inr, arith, position, option_map, is_some, Contains-append_right, Name, same_name, Twice}
use Rattle.std.proofs.Common.{SomeIff}
use Rattle.std.proofs.lemmas.List.Quantifiers.{position-Some}
use Rattle.fb_types.proofs.lemmas.lists.Positions.{position-cons, is_some-position}
use Rattle.fb_types.proofs.lemmas.names.NameLaws.{contains_from_any}
use Rattle.fb_types.proofs.lemmas.lists.Elements.{Contains-nil, Contains-cons_cases}

-- ---- Lists that are appended

abbrev or_later : ℕ → Option ℕ → Option ℕ → Option ℕ
or_later k (Some i) o = Some i
or_later k None o = option_map (λ j. k + j) o

later : (k : ℕ) (a o : Option ℕ) → option_map (λ i. i + 1) (or_later k a o) ≡ or_later (suc k) (option_map (λ i. i + 1) a) o
later k (Some i) o = refl
later k None None = refl
later k None (Some j) = let e : (k + j) + 1 ≡ suc k + j = omega arith in ap (λ n. Some n) e

at_once : (o : Option ℕ) → o ≡ option_map (λ j. 0 + j) o
at_once None = refl
at_once (Some j) = let e : j ≡ 0 + j = omega arith in ap (λ n. Some n) e

position-append : {X : Type 0} (p : X → Bool) (xs ys : List X) → position p (xs ++ ys) ≡ or_later (length xs) (position p xs) (position p ys)
position-append p [] ys = at_once (position p ys)
position-append p (x ∷ xs) ys =
    position-cons p x (xs ++ ys)
    ∙ (elim (p x) as
    (λ b. cond b (Some 0) (option_map (λ i. i + 1) (position p (xs ++ ys)))
    ≡ or_later (suc (length xs)) (cond b (Some 0) (option_map (λ i. i + 1) (position p xs))) (position p ys)) [
      | true ↦ refl
      | false ↦ ap (option_map (λ i. i + 1)) (position-append p xs ys) ∙ later (length xs) (position p xs) (position p ys)
    ])
    ∙ ap (λ o. or_later (suc (length xs)) o (position p ys)) (sym (position-cons p x xs))

-- ---- Names that differ

Twice-both : (n : Name) (xs ys : List Name) → Contains xs n → Contains ys n → Twice (xs ++ ys)
Twice-both n [] ys c d = absurd (Contains-nil n c)
Twice-both n (x ∷ xs) ys c d =
    elim (Contains-cons_cases x xs n c) [
      | inl e ↦ inl (Contains-append_right xs ys x (subst (λ (m : Name). Contains ys m) (sym e) d))
      | inr rest ↦ inr (Twice-both n xs ys rest d)
    ]

index_contains : (n : Name) (xs : List Name) (i : ℕ) → position (same_name n) xs ≡ Some i → Contains xs n
index_contains n xs i h = contains_from_any n xs (sym (is_some-position (same_name n) xs) ∙ ap is_some h)

pub index_within : (n : Name) (xs : List Name) (i : ℕ) → position (same_name n) xs ≡ Some i → i < length xs
index_within n xs i h = (position-Some (same_name n) xs i [] h).0

-- ---- The index in a part

abbrev Skips : ℕ → Option ℕ → Option ℕ → Type 0
Skips k index r = MatchOption index (r ≡ None) (λ i. SomeIff r (k ≤ i) (i - k))

abbrev Keeps : ℕ → Option ℕ → Option ℕ → Type 0
Keeps k index r = MatchOption index (r ≡ None) (λ i. SomeIff r (i < k) i)

-- an element of the first part has no index in the second
skipped : (k i : ℕ) (r : Option ℕ) → i < k → Skips k (Some i) r → r ≡ None
skipped k i None h s = refl
skipped k i (Some j) h s = absurd (let le : k ≤ i = s.0 in omega (arith, h, le))

moved : (k j : ℕ) (r : Option ℕ) → Skips k (Some (k + j)) r → r ≡ Some j
moved k j None s = absurd (s (let le : k ≤ k + j = omega arith in le))
moved k j (Some i) s = let is : i ≡ (k + j) - k = s.1 in let e : i ≡ j = omega (arith, is) in ap (λ n. Some n) e

skips : (k : ℕ) (o r : Option ℕ) → Skips k (option_map (λ j. k + j) o) r → r ≡ o
skips k None r s = s
skips k (Some j) r s = moved k j r s

pub after_part :
    (n : Name) (xs ys : List Name) (k : ℕ) (index r : Option ℕ) → ¬ (Twice (xs ++ ys)) → k ≡ length xs → index ≡ position (same_name n) (xs ++ ys)
    → Skips k index r → r ≡ position (same_name n) ys
after_part n xs ys k index r once counted e s =
    let q = position (same_name n) ys in
    let at : index ≡ or_later (length xs) (position (same_name n) xs) q = e ∙ position-append (same_name n) xs ys in
    elim (position (same_name n) xs) as
    (λ o. position (same_name n) xs ≡ o → index ≡ or_later (length xs) o q → r ≡ q) [
      | Some i ↦ λ found at.
          let within : i < k = subst (λ (k : ℕ). i < k) (sym counted) (index_within n xs i found) in
          skipped k i r within (subst (λ (o : Option ℕ). Skips k o r) at s)
          ∙ (elim q as (λ o. q ≡ o → None ≡ o) [
            | None ↦ λ _. refl
            | Some j ↦ λ there. absurd (once (Twice-both n xs ys (index_contains n xs i found) (index_contains n ys j there)))
          ] refl)
      | None ↦ λ _ at.
          skips k q r (subst (λ (o : Option ℕ). Skips k o r) (at ∙ ap (λ m. option_map (λ j. m + j) q) (sym counted)) s)
    ] refl at

kept : (k i : ℕ) (r : Option ℕ) → i < k → Keeps k (Some i) r → r ≡ Some i
kept k i None h s = absurd (s h)
kept k i (Some j) h s = ap (λ n. Some n) s.1

past : (k j : ℕ) (r : Option ℕ) → Keeps k (Some (k + j)) r → r ≡ None
past k j None s = refl
past k j (Some i) s = absurd (let lt : k + j < k = s.0 in omega (arith, lt))

keeps_none : (k : ℕ) (o r : Option ℕ) → Keeps k (option_map (λ j. k + j) o) r → r ≡ None
keeps_none k None r s = s
keeps_none k (Some j) r s = past k j r s

pub first_part :
    (n : Name) (xs ys : List Name) (k : ℕ) (index r : Option ℕ) → k ≡ length xs → index ≡ position (same_name n) (xs ++ ys)
    → Keeps k index r → r ≡ position (same_name n) xs
first_part n xs ys k index r counted e s =
    let q = position (same_name n) ys in
    let at : index ≡ or_later (length xs) (position (same_name n) xs) q = e ∙ position-append (same_name n) xs ys in
    elim (position (same_name n) xs) as
    (λ o. position (same_name n) xs ≡ o → index ≡ or_later (length xs) o q → r ≡ o) [
      | Some i ↦ λ found at.
          let within : i < k = subst (λ (k : ℕ). i < k) (sym counted) (index_within n xs i found) in
          kept k i r within (subst (λ (o : Option ℕ). Keeps k o r) at s)
      | None ↦ λ _ at.
          keeps_none k q r (subst (λ (o : Option ℕ). Keeps k o r) (at ∙ ap (λ m. option_map (λ j. m + j) q) (sym counted)) s)
    ] refl at
