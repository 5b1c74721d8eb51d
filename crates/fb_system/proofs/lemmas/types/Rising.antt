-- Rising indexes are those of a filter: indexes in ascending order, each once, keep the names that a test passes, in the
-- order of the list.
use Rattle.fb_types.proofs.Common.{◌≡◌, ◌⊎◌, ℕ, suc, ◌<◌, ◌≤◌, ◌+◌, Bool, true, false, cond, List, [], ◌∷◌, length, map, Some, Contains, refl, sym, ◌∙◌, ap, subst, inl, inr, arith, IsPermutation, sum_by, slice_get, Decides, filter, cases_eq, cases_lt, sum_by-cons, Name}
use Rattle.std.specs.List.Sorted.{IsNonDecreasing}
use Rattle.std.proofs.lemmas.List.Sorted.{sum_by-IsPermutation}
use Rattle.fb_types.proofs.lemmas.lists.Elements.{Contains-nil, Contains-cons_cases, Contains-here, Contains-there}

-- ---- How often an index is in a list

abbrev score : {A B : Type 0} → A ⊎ B → ℕ
score (inl a) = 1
score (inr b) = 0

abbrev pub hit : ℕ → ℕ → ℕ
hit k x = score (cases_eq k x)

score-yes : {A B : Type 0} (o : A ⊎ B) → ¬ B → score o ≡ 1
score-yes (inl a) h = refl
score-yes (inr b) h = absurd (h b)

score-no : {A B : Type 0} (o : A ⊎ B) → ¬ A → score o ≡ 0
score-no (inl a) h = absurd (h a)
score-no (inr b) h = refl

hit-itself : (k : ℕ) → hit k k ≡ 1
hit-itself k = score-yes (cases_eq k k) (λ n. n refl)

hit-other : (k x : ℕ) → ¬ (k ≡ x) → hit k x ≡ 0
hit-other k x h = score-no (cases_eq k x) h

abbrev pub times : ℕ → List ℕ → ℕ
times k ks = sum_by (hit k) ks

times-none : (k : ℕ) (ks : List ℕ) → ¬ (Contains ks k) → times k ks ≡ 0
times-none k [] h = refl
times-none k (x ∷ xs) h =
    let apart : ¬ (k ≡ x) = λ e. h (subst (λ (n : ℕ). Contains (x ∷ xs) n) (sym e) (Contains-here x xs)) in
    let none = hit-other k x apart in
    let rest = times-none k xs (λ c. h (Contains-there x xs k c)) in
    sum_by-cons (hit k) x xs ∙ (λ i. none i + rest i)

times-some : (k : ℕ) (ks : List ℕ) → Contains ks k → 1 ≤ times k ks
times-some k [] h = absurd (Contains-nil k h)
times-some k (x ∷ xs) h =
    let one : times k (x ∷ xs) ≡ hit k x + times k xs = sum_by-cons (hit k) x xs in
    elim (Contains-cons_cases x xs k h) [
      | inl e ↦ let here : hit k x ≡ 1 = ap (hit k) e ∙ hit-itself k in omega (arith, one, here)
      | inr rest ↦ let there : 1 ≤ times k xs = times-some k xs rest in omega (arith, one, there)
    ]

-- no index is there twice
pub record AreOnce (ks : List ℕ) : Type 0 where
  pub at_most : (k : ℕ) → times k ks ≤ 1

pub once_permuted : (xs ys : List ℕ) → IsPermutation xs ys → AreOnce xs → AreOnce ys
once_permuted xs ys moved once = record {
  at_most = λ k. let same : times k ys ≡ times k xs = sum_by-IsPermutation (hit k) xs ys moved in omega (arith, same, once.at_most k);
}

pub once_cons : (k : ℕ) (ks : List ℕ) → ¬ (Contains ks k) → AreOnce ks → AreOnce (k ∷ ks)
once_cons k ks new once = record {
  at_most = λ n.
      let one : times n (k ∷ ks) ≡ hit n k + times n ks = sum_by-cons (hit n) k ks in
      elim (cases_eq n k) [
        | inl e ↦
            let here : hit n k ≡ 1 = ap (λ m. hit m k) e ∙ hit-itself k in
            let none : times n ks ≡ 0 = times-none n ks (λ c. new (subst (λ (m : ℕ). Contains ks m) e c)) in
            omega (arith, one, here, none)
        | inr other ↦ let none : hit n k ≡ 0 = hit-other n k other in omega (arith, one, none, once.at_most n)
      ];
}

pub once_nil : AreOnce []
once_nil = record { at_most = λ k. omega arith }

once_head : (k : ℕ) (ks : List ℕ) → AreOnce (k ∷ ks) → ¬ (Contains ks k)
once_head k ks once c =
    let one : times k (k ∷ ks) ≡ hit k k + times k ks = sum_by-cons (hit k) k ks in
    let here = hit-itself k in
    let there = times-some k ks c in
    absurd (omega (arith, one, here, there, once.at_most k))

once_tail : (k : ℕ) (ks : List ℕ) → AreOnce (k ∷ ks) → AreOnce ks
once_tail k ks once = record { at_most = λ n. let one : times n (k ∷ ks) ≡ hit n k + times n ks = sum_by-cons (hit n) k ks in omega (arith, one, once.at_most n) }

-- ---- Rising indexes

-- each is at least the bound before it, and below the last
abbrev pub Rising : (low high : ℕ) → List ℕ → Type 0
Rising low high [] = Unit {0}
Rising low high (k ∷ ks) = (low ≤ k) × (k < high) × Rising (k + 1) high ks

rising_from :
    (low high : ℕ) (ks : List ℕ) → IsNonDecreasing ks → AreOnce ks → ((k : ℕ) → Contains ks k → k < high) → ((k : ℕ) → Contains ks k → low ≤ k)
    → Rising low high ks
rising_from low high [] up once below above = tt
rising_from low high (k ∷ ks) up once below above = (
  above k (Contains-here k ks),
  below k (Contains-here k ks),
  rising_from (k + 1) high ks
      (λ i j d le lt. up (suc i) (suc j) d (omega arith) (omega arith))
      (once_tail k ks once)
      (λ n c. below n (Contains-there k ks n c))
      (λ n c.
      let le : k ≤ n = subst (λ (m : ℕ). k ≤ m) c.2 (up 0 (suc c.0) n (omega arith) (omega (arith, c.1))) in
      let apart : ¬ (k ≡ n) = λ e. once_head k ks once (subst (λ (m : ℕ). Contains ks m) (sym e) c) in
      elim (cases_lt k n) [ inl l ↦ omega (arith, l) | inr g ↦ absurd (apart (omega (arith, le, g))) ]),
)

not_before : (low high n : ℕ) (ks : List ℕ) → Rising low high ks → n < low → ¬ (Contains ks n)
not_before low high n [] up lt c = absurd (Contains-nil n c)
not_before low high n (k ∷ ks) up lt c =
    elim (Contains-cons_cases k ks n c) [
      | inl e ↦ absurd (omega (arith, e, up.0, lt))
      | inr rest ↦ not_before (k + 1) high n ks up.2 (omega (arith, up.0, lt)) rest
    ]

rising_more : (low high : ℕ) (ks : List ℕ) → Rising low high ks → ¬ (Contains ks low) → Rising (low + 1) high ks
rising_more low high [] up new = tt
rising_more low high (k ∷ ks) up new =
    let apart : ¬ (k ≡ low) = λ e. new (subst (λ (m : ℕ). Contains (k ∷ ks) m) e (Contains-here k ks)) in
    let le : low + 1 ≤ k = elim (cases_lt low k) [ inl l ↦ omega (arith, l) | inr g ↦ absurd (apart (omega (arith, g, up.0))) ] in
    (le, up.1, up.2)

-- the first of rising indexes, where the bound is one of them
rising_first : (low high : ℕ) (ks : List ℕ) → Rising low high ks → Contains ks low → (rest : List ℕ) × (ks ≡ low ∷ rest) × Rising (low + 1) high rest
rising_first low high [] up c = absurd (Contains-nil low c)
rising_first low high (k ∷ ks) up c =
    elim (Contains-cons_cases k ks low c) [
      | inl e ↦ (ks, ap (λ n. n ∷ ks) e, subst (λ (n : ℕ). Rising (n + 1) high ks) e up.2)
      | inr rest ↦ absurd (not_before (k + 1) high low ks up.2 (omega (arith, up.0)) rest)
    ]

-- ---- The filter

-- at each index of a list, counted from low, is its name, and the test passes it exactly if the index is one of these
pub record AreKept (name_at : ℕ → Name) (test : Name → Bool) (low : ℕ) (ns : List Name) (ks : List ℕ) : Type 0 where
  pub name : (i : ℕ) (n : Name) → slice_get ns i ≡ Some n → name_at (low + i) ≡ n
  pub kept : (i : ℕ) (n : Name) → slice_get ns i ≡ Some n → Decides (test n) (Contains ks (low + i))

kept_rest :
    (name_at : ℕ → Name) (test : Name → Bool) (low : ℕ) (n : Name) (ns : List Name) (ks rest : List ℕ) → AreKept name_at test low (n ∷ ns) ks
    → ((i : ℕ) → low < i → Contains ks i → Contains rest i) → ((i : ℕ) → Contains rest i → Contains ks i) → AreKept name_at test (low + 1) ns rest
kept_rest name_at test low n ns ks rest are to from = record {
  name = λ i m h. let e : low + 1 + i ≡ low + suc i = omega arith in ap name_at e ∙ are.name (suc i) m h;
  kept = λ i m h.
      let e : low + 1 + i ≡ low + suc i = omega arith in
      let d = are.kept (suc i) m h in
      let lt : low < low + suc i = omega arith in
      subst (λ (j : ℕ). Decides (test m) (Contains rest j)) (sym e)
      (λ t. to (low + suc i) lt (d.0 t), λ c. d.1 (from (low + suc i) c));
}

pub rising_filter :
    (name_at : ℕ → Name) (test : Name → Bool) (ns : List Name) (low high : ℕ) (ks : List ℕ) → high ≡ low + length ns → Rising low high ks
    → AreKept name_at test low ns ks → map name_at ks ≡ filter test ns
rising_filter name_at test [] low high [] e up are = refl
rising_filter name_at test [] low high (k ∷ ks) e up are = absurd (omega (arith, e, up.0, up.1))
rising_filter name_at test (n ∷ ns) low high ks e up are =
    let counted : high ≡ low + 1 + length ns = omega (arith, e) in
    let here : low + 0 ≡ low = omega arith in
    let kept : Decides (test n) (Contains ks low) = subst (λ (j : ℕ). Decides (test n) (Contains ks j)) here (are.kept 0 n refl) in
    elim (test n) as (λ b. test n ≡ b → map name_at ks ≡ cond b (n ∷ filter test ns) (filter test ns)) [
      | true ↦ λ t.
          let first = rising_first low high ks up (kept.0 t) in
          let rest = kept_rest name_at test low n ns ks first.0 are
          (λ i lt c. elim (Contains-cons_cases low first.0 i (subst (λ (l : List ℕ). Contains l i) first.1 c)) [
            | inl same ↦ absurd (omega (arith, same, lt))
            | inr there ↦ there
          ])
          (λ i c. subst (λ (l : List ℕ). Contains l i) (sym first.1) (Contains-there low first.0 i c)) in
          ap (map name_at) first.1 ∙ ap (λ m. m ∷ map name_at first.0) (ap name_at (sym here) ∙ are.name 0 n refl)
          ∙ ap (λ ms. n ∷ ms) (rising_filter name_at test ns (low + 1) high first.0 counted first.2 rest)
      | false ↦ λ t.
          let new : ¬ (Contains ks low) = λ c. let g = sym t ∙ kept.1 c in absurd (cc) in
          rising_filter name_at test ns (low + 1) high ks counted (rising_more low high ks up new)
          (kept_rest name_at test low n ns ks ks are (λ i lt c. c) (λ i c. c))
    ] refl

-- what sorting leaves of indexes that differ
pub sorted_filter :
    (name_at : ℕ → Name) (test : Name → Bool) (ns : List Name) (ks : List ℕ) → IsNonDecreasing ks → AreOnce ks
    → ((k : ℕ) → Contains ks k → k < length ns) → AreKept name_at test 0 ns ks → map name_at ks ≡ filter test ns
sorted_filter name_at test ns ks up once below are =
    rising_filter name_at test ns 0 (length ns) ks (omega arith) (rising_from 0 (length ns) ks up once below (λ k c. omega arith)) are
