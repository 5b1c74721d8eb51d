-- In how many traces rules applied, trace by trace.
use Rattle.fb_expect.proofs.lemmas.Common.{◌≡◌, ℕ, suc, zero, ◌+◌, ◌<◌, ◌≤◌, ◌^◌, ◌==◌, Bool, true, false, not, ◌||◌, cond, List, [], ◌∷◌, ◌++◌, length, map, take, subst, get_or, list_all, list_any, refl, sym, ap, ap₂, ◌∙◌, arith, cases_lt, inl, inr, Judged, Rule}
use Rattle.fb_types.proofs.Common.{min, replicate}
use Rattle.std.proofs.Common.{◌≢◌, set, get_or-set_other}
use Rattle.std.specs.List.{count_by, range_with_len}
use Rattle.std.proofs.lemmas.Bool.{ne_eqb}
use Rattle.std.proofs.lemmas.Grind.{get_or-set_at}
use Rattle.std.proofs.lemmas.List.Folds.{list_all-map}
use Rattle.std.proofs.lemmas.List.FromFn.{fill_by_all, get_or-map-range_with_len, length-map-range_with_len}
use Rattle.std.proofs.lemmas.List.Sums.{count_by-le-length, sum_by-cons, sum_by_push}
use Rattle.fb_expect.specs.Applied.{applies_at, count_at, counts_of, have_applied, one_if}

one_by : (b : Bool) → ◌≡◌ {A = ℕ} (cond b 1 0) (one_if b)
one_by true = refl
one_by false = refl

-- one more trace
count-more : (rs : List Rule) (all : List (List Judged)) (js : List Judged) (k : ℕ) → count_at rs (all ++ js ∷ []) k ≡ count_at rs all k + one_if (applies_at rs k js)
count-more rs all js k =
    sum_by_push (λ (x : List Judged). cond (applies_at rs k x) 1 0) all js ∙ ap (λ (n : ℕ). count_at rs all k + n) (one_by (applies_at rs k js))

-- all rules with one more trace
pub counted :
    (all : List (List Judged)) (rs : List Rule) (js : List Judged) (old new : List ℕ) (i : ℕ) → length all + 1 < 2 ^ 64 → length js ≡ length rs → old ≡ counts_of rs all
    → length new ≡ length old → i ≡ min (min (length old) (length rs)) (length js)
    → ((k : ℕ) → k < i → get_or old k 0 + 1 < 2 ^ 64 → get_or new k 0 ≡ get_or old k 0 + one_if (applies_at rs k js))
    → new ≡ counts_of rs (all ++ js ∷ [])
counted all rs js old new i room each is same end done =
    let n = length rs in
    let long : length old ≡ n = ap length is ∙ length-map-range_with_len (count_at rs all) 0 n in
    let at : (k : ℕ) → k < n → get_or old k 0 ≡ count_at rs all k = λ k lt. ap (λ (ns : List ℕ). get_or ns k 0) is ∙ get_or-map-range_with_len (count_at rs all) 0 n k k 0 lt (omega arith) in
    fill_by_all (count_at rs (all ++ js ∷ [])) new n 0 (same ∙ long)
    (λ k lt.
    let few = count_by-le-length (applies_at rs k) all in
    let here = at k lt in
    done k (omega (arith, end, long, lt, each)) (omega (arith, here, few, room))
    ∙ ap (λ (m : ℕ). m + one_if (applies_at rs k js)) here ∙ sym (count-more rs all js k))

-- ---- Rule by rule

mark-at : (rs : List Rule) (js : List Judged) (i : ℕ) (d : Judged) → i < length rs → i < length js → applies_at rs i js ≡ (get_or js i d).is_applied
mark-at [] js i d lt lt' = absurd (omega arith)
mark-at (s ∷ rs) [] i d lt lt' = absurd (omega arith)
mark-at (s ∷ rs) (j ∷ js) zero d lt lt' = refl
mark-at (s ∷ rs) (j ∷ js) (suc i) d lt lt' = mark-at rs js i d (omega (arith, lt)) (omega (arith, lt'))

pub one-done :
    (rs : List Rule) (js : List Judged) (old now : List ℕ) (i : ℕ) (d : Judged) (b : Bool) (n : ℕ) → (i < length old) × (i < length rs) × (i < length js)
    → b ≡ (get_or js i d).is_applied → (get_or now i 0 + 1 < 2 ^ 64 → n ≡ get_or now i 0 + one_if b) → length now ≡ length old
    → ((k : ℕ) → k < i → get_or old k 0 + 1 < 2 ^ 64 → get_or now k 0 ≡ get_or old k 0 + one_if (applies_at rs k js)) → ((k : ℕ) → i ≤ k → get_or now k 0 ≡ get_or old k 0)
    → (k : ℕ) → k < i + 1 → get_or old k 0 + 1 < 2 ^ 64 → get_or (set now i n) k 0 ≡ get_or old k 0 + one_if (applies_at rs k js)
one-done rs js old now i d b n lt is-b is-n same done rest k below room =
    elim (cases_lt k i) [
      | inl less ↦ (let other : k ≢ i = omega (arith, less) in get_or-set_other now i k n 0 other ∙ done k less room)
      | inr le ↦
          (let here : k ≡ i = omega (arith, le, below) in
          let kept = rest k le in
          let one = mark-at rs js i d lt.1 lt.2 in
          get_or-set_at now i k n 0 here (omega (arith, same, lt.0))
          ∙ is-n (subst (λ (m : ℕ). get_or now m 0 + 1 < 2 ^ 64) here (omega (arith, kept, room)))
          ∙ ap₂ (λ (m : ℕ) (c : Bool). m + one_if c) (ap (λ (m : ℕ). get_or now m 0) (sym here) ∙ kept)
          (is-b ∙ sym one ∙ ap (λ (m : ℕ). applies_at rs m js) (sym here)))
    ]

pub rest-left :
    (old now : List ℕ) (i n : ℕ) → ((k : ℕ) → i ≤ k → get_or now k 0 ≡ get_or old k 0) → (k : ℕ) → i + 1 ≤ k → get_or (set now i n) k 0 ≡ get_or old k 0
rest-left old now i n rest k le = let other : k ≢ i = omega (arith, le) in get_or-set_other now i k n 0 other ∙ rest k (omega (arith, le))

-- ---- Rules that applied in a trace

count-any : {X : Type 0} (p : X → Bool) (xs : List X) → not (count_by p xs == 0) ≡ list_any p xs
count-any p [] = refl
count-any p (x ∷ xs) = ap (λ (n : ℕ). not (n == 0)) (sum_by-cons (λ y. cond (p y) 1 0) x xs) ∙ by (p x) (count-any p xs)
  where
    by : (b : Bool) → not (count_by p xs == 0) ≡ list_any p xs → not (cond b 1 0 + count_by p xs == 0) ≡ (b || list_any p xs)
    by true so = ap not (ne_eqb (1 + count_by p xs) 0 (λ e. omega arith))
    by false so = ap (λ (n : ℕ). not (n == 0)) (let e : 0 + count_by p xs ≡ count_by p xs = omega arith in e) ∙ so

pub some-applied : (rs : List Rule) (all : List (List Judged)) (counts : List ℕ) → counts ≡ counts_of rs all → list_all (λ n. not (n == 0)) counts ≡ have_applied rs all
some-applied rs all counts is =
    ap (list_all (λ n. not (n == 0))) is ∙ list_all-map (λ n. not (n == 0)) (count_at rs all) (range_with_len 0 (length rs))
    ∙ (λ i. list_all (λ k. count-any (applies_at rs k) all i) (range_with_len 0 (length rs)))

-- ---- Before the first trace

zeros : (rs : List Rule) (n k : ℕ) → replicate n 0 ≡ map (count_at rs []) (range_with_len k n)
zeros rs zero k = refl
zeros rs (suc n) k = ap (λ (ns : List ℕ). 0 ∷ ns) (zeros rs n (k + 1))

pub none-yet : (ns : List ℕ) (rs : List Rule) → ns ≡ replicate (length rs) 0 → ns ≡ counts_of rs []
none-yet ns rs is = is ∙ zeros rs (length rs) 0

-- the counts in a vector
pub taken : (new more : List ℕ) (n : ℕ) → length new ≡ n → take n (new ++ more) ≡ new
taken new more n long = subst (λ (k : ℕ). take k (new ++ more) ≡ new) long (seam new)
  where
    seam : (ns : List ℕ) → take (length ns) (ns ++ more) ≡ ns
    seam [] = refl
    seam (n ∷ ns) = ap (λ (ms : List ℕ). n ∷ ms) (seam ns)
