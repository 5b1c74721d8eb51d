-- Scans of a text, one offset after another.
use Rattle.std.proofs.Common.{◌≡◌, ◌⊎◌, ℕ, zero, suc, ◌+◌, ◌<◌, ◌≤◌, Bool, true, false, cond, length, inl, inr, refl, sym, subst, ap, ◌∙◌, arith, add-one}
use Rattle.std.proofs.lemmas.Bool.{cases_lt, cases_order, false≢true}
use Rattle.fb_inputs.specs.Counts.{Text, IsNth, count_below}

-- ---- How many offsets pass a test

count_more : (test : ℕ → Bool) (n : ℕ) → count_below test (n + 1) ≡ cond (test n) (count_below test n + 1) (count_below test n)
unfolding count_below
count_more test n = rw add-one refl

pub counts : (test : ℕ → Bool) (n count next : ℕ) (passes : Bool) → count ≡ count_below test n → passes ≡ test n → next ≡ cond passes (count + 1) count → next ≡ count_below test (n + 1)
counts test n count next passes so_far is e =
    e ∙ ap (λ (b : Bool). cond b (count + 1) count) is ∙ ap (λ (k : ℕ). cond (test n) (k + 1) k) so_far ∙ sym (count_more test n)

pub fits : (n count next : ℕ) (passes : Bool) → next ≡ cond passes (count + 1) count → count ≤ n → next ≤ n + 1
fits n count next true e le = omega arith
fits n count next false e le = omega arith

-- ---- The offset with an index among those that pass a test

rises_on : (test : ℕ → Bool) (k n : ℕ) → k < n + 1 → test k ≡ true → (k < n → count_below test k < count_below test n) → count_below test k < count_below test (n + 1)
rises_on test k n lt here before = go (cases_lt k n)
  where
    up : (b : Bool) (m : ℕ) → m ≤ cond b (m + 1) m
    up true m = omega arith
    up false m = omega arith

    go : (k < n) ⊎ (n ≤ k) → count_below test k < count_below test (n + 1)
    go (inl less) = omega (arith, before less, up (test n) (count_below test n), count_more test n)
    go (inr ends) =
        let same : k ≡ n = omega arith in
        let more : count_below test (n + 1) ≡ count_below test n + 1 = count_more test n ∙ ap (λ (b : Bool). cond b (count_below test n + 1) (count_below test n)) (ap test (sym same) ∙ here) in
        omega (arith, more, ap (count_below test) same)

-- an offset that passes is counted from the next one on
pub rises : (test : ℕ → Bool) (k n : ℕ) → k < n → test k ≡ true → count_below test k < count_below test n
rises test k zero lt here = absurd (omega arith)
rises test k (suc n) lt here =
    let next : n + 1 ≡ suc n = omega arith in
    subst (λ (m : ℕ). count_below test k < count_below test m) next (rises_on test k n (omega arith) here (λ less. rises test k n less here))

-- the count is still no greater than the index, if the one that is sought was not there
pub still_few : (index count next : ℕ) (passes : Bool) → next ≡ cond passes (count + 1) count → count ≤ index → ((passes ≡ true) × (count ≡ index → ⊥)) ⊎ (passes ≡ false) → next ≤ index
still_few index count next false e few other = omega (arith, e, few)
still_few index count next true e few (inl other) = omega (arith, e, few, other.1)
still_few index count next true e few (inr differs) = absurd (false≢true (sym differs))

-- so the one that is sought is not before this offset
pub not_before : (text : Text) (test : ℕ → Bool) (index count n k : ℕ) → count ≡ count_below test n → count ≤ index → IsNth text test index k → k < n → ⊥
not_before text test index count n k counted few nth lt = omega (arith, rises test k n lt nth.passes, nth.before, counted, few)

-- there is none if the scan reached the end of the text
pub none_there : (text : Text) (test : ℕ → Bool) (index count n : ℕ) → count ≡ count_below test n → count ≤ index → length text ≤ n → (k : ℕ) → IsNth text test index k → ⊥
none_there text test index count n counted few ended k nth = not_before text test index count n k counted few nth (omega (arith, nth.within, ended))

-- there is one with an index
pub one_nth : (text : Text) (test : ℕ → Bool) (index a b : ℕ) → IsNth text test index a → IsNth text test index b → a ≡ b
one_nth text test index a b at_a at_b = go (cases_order a b)
  where
    go : (a ≡ b) ⊎ ((a < b) ⊎ (b < a)) → a ≡ b
    go (inl same) = same
    go (inr (inl less)) = absurd (omega (arith, rises test a b less at_a.passes, at_a.before, at_b.before))
    go (inr (inr more)) = absurd (omega (arith, rises test b a more at_b.passes, at_a.before, at_b.before))

up_to : (count n : ℕ) (passes : Bool) → count ≤ n → cond passes (count + 1) count ≤ suc n
up_to count n true few = omega arith
up_to count n false few = omega arith

-- no more offsets pass than there are
pub few_below : (test : ℕ → Bool) (n : ℕ) → count_below test n ≤ n
unfolding count_below
few_below test zero = omega arith
few_below test (suc n) = up_to (count_below test n) n (test n) (few_below test n)
