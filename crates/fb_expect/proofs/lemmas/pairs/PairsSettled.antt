-- Whether a rule that pairs lines was decided at least once: fewer lines wait than are P, or one waits too long.
use Rattle.fb_expect.proofs.lemmas.Common.{◌≡◌, ℕ, zero, suc, ◌+◌, ◌<◌, ◌≤◌, Bool, true, false, cond, List, [], ◌∷◌, length, Some, None, refl, sym, ap, ◌∙◌, arith, inl, inr, Option, is_some, cases_lt, true≢false, lt-ltb, ltb-true, tick_of, End, Waiting, Pairing, Breach}
use Rattle.fb_types.proofs.Common.{cases_Bool}
use Rattle.std.proofs.Common.{MatchOption, nat_lt, length-append}
use Rattle.std.proofs.lemmas.List.Sums.{sum_by-cons}
use Rattle.fb_expect.specs.Paired.{IsInTime, IsOverdue, IsSettled, KnowsWaiting, PairHit, PairsSettle, answers, count_first, hit_at, one_if, picks, waiting_at, waits}
use Rattle.fb_expect.specs.declared.pairs.Pairs.{Pairs}
use Rattle.fb_expect.proofs.lemmas.pairs.Coupled.{end-over, in-time-all, inside, none-answers, waiting-of, waits-first}

never : {P : Type 0} (b : Bool) → b ≡ true → b ≡ false → P
never b sure off = absurd (true≢false (sym sure ∙ off))

-- ---- How many numbers pass a test

abbrev one-of : Bool → ℕ
one-of b = cond b 1 0

abbrev below : (ℕ → Bool) → ℕ → ℕ
below f zero = 0
below f (suc n) = below f n + one-of (f n)

below-cons : (f : ℕ → Bool) (n : ℕ) → below f (suc n) ≡ one-of (f 0) + below (λ i. f (suc i)) n
below-cons f zero = omega arith
below-cons f (suc n) = let e = below-cons f n in omega (arith, e)

firsts : (hs : List PairHit) → below (λ i. (hit_at hs i).first) (length hs) ≡ count_first hs
firsts [] = refl
firsts (h ∷ hs) =
    let e = below-cons (λ i. (hit_at (h ∷ hs) i).first) (length hs) in
    let more = firsts hs in
    let sum = sum_by-cons (λ (x : PairHit). cond x.first 1 0) h hs in
    omega (arith, e, more, sum)

one-long : (b : Bool) (w : Waiting) → length (one_if b w) ≡ one-of b
one-long true w = refl
one-long false w = refl

picks-long : (f : ℕ → Bool) (make : ℕ → Waiting) (n : ℕ) → length (picks f make n) ≡ below f n
picks-long f make zero = refl
picks-long f make (suc n) =
    let e = length-append (picks f make n) (one_if (f n) (make n)) in
    let one = one-long (f n) (make n) in
    let more = picks-long f make n in
    omega (arith, e, one, more)

-- numbers that pass the one test pass the other
abbrev Implies : (f g : ℕ → Bool) → Type 0
Implies f g = (i : ℕ) → f i ≡ true → g i ≡ true

step-le : (a b : Bool) → (a ≡ true → b ≡ true) → one-of a ≤ one-of b
step-le true true so = omega arith
step-le true false so = absurd (true≢false (sym (so refl)))
step-le false true so = omega arith
step-le false false so = omega arith

fewer : (f g : ℕ → Bool) (n : ℕ) → Implies f g → below f n ≤ below g n
fewer f g zero so = omega arith
fewer f g (suc n) so = let less = fewer f g n so in let one = step-le (f n) (g n) (so n) in omega (arith, less, one)

one-less : (f g : ℕ → Bool) (n i : ℕ) → Implies f g → i < n → g i ≡ true → f i ≡ false → below f n < below g n
one-less f g zero i so lt on off = absurd (omega (arith, lt))
one-less f g (suc n) i so lt on off =
    elim (cases_lt i n) as (λ _. below f (suc n) < below g (suc n)) [
      | inl less ↦ (let more = one-less f g n i so less on off in let one = step-le (f n) (g n) (so n) in omega (arith, more, one))
      | inr le ↦
          (let same : i ≡ n = omega (arith, le, lt) in
          let some = fewer f g n so in
          let a : one-of (f n) ≡ 0 = ap one-of (ap f (sym same) ∙ off) in
          let b : one-of (g n) ≡ 1 = ap one-of (ap g (sym same) ∙ on) in
          omega (arith, some, a, b))
    ]

between : (f g : ℕ → Bool) (n : ℕ) → below f n < below g n → (i : ℕ) × (g i ≡ true) × (f i ≡ false)
between f g zero less = absurd (omega (arith, less))
between f g (suc n) less = by (f n) (g n) refl refl (λ lt. between f g n lt)
  where
    at-most : (b : Bool) → one-of b ≤ 1
    at-most true = omega arith
    at-most false = omega arith

    by : (a b : Bool) → f n ≡ a → g n ≡ b → (below f n < below g n → (i : ℕ) × (g i ≡ true) × (f i ≡ false)) → (i : ℕ) × (g i ≡ true) × (f i ≡ false)
    by false true off on again = (n, on, off)
    by true b on is again =
        let one : one-of (f n) ≡ 1 = ap one-of on in
        let most = at-most (g n) in
        again (omega (arith, less, one, most))
    by false false none off again =
        let one : one-of (g n) ≡ 0 = ap one-of off in
        again (omega (arith, less, one))

-- ---- What waits, and what is P

is-first : (p : Pairing) (hs : List PairHit) → Implies (waits p hs) (λ i. (hit_at hs i).first)
is-first p hs i wait = waits-first p hs i wait

waiting-count : (within : ℕ) (p : Pairing) (hs : List PairHit) (ws : List Waiting) → KnowsWaiting within p hs ws → length ws ≡ below (waits p hs) (length hs)
waiting-count within p hs ws knows = ap length knows.kept ∙ picks-long (waits p hs) (waiting_at hs) (length hs)

pub over-settles :
    (within : ℕ) (p : Pairing) (pairs : Pairs) (end : End) (often : ℕ) (b : Breach) → is_some pairs.late ≡ false → IsOverdue within (tick_of end) pairs.waiting.items b
    → PairsSettle within p pairs end often true
over-settles within p pairs end often b off late hs low counts knows =
    let left = (end-over within p pairs end b off late hs low knows).left in
    (λ yes. ((end-over within p pairs end b off late hs low knows).index, record { first = left.unpaired.first; settled = inr left.over }), λ x. refl)

pub count-settles :
    (within : ℕ) (p : Pairing) (pairs : Pairs) (end : End) (often : ℕ) → is_some pairs.late ≡ false → IsInTime within (tick_of end) pairs.waiting.items
    → PairsSettle within p pairs end often (nat_lt (length pairs.waiting.items) often)
count-settles within p pairs end often off soon hs low counts knows =
    let ws = pairs.waiting.items in
    let known = waiting-of within p hs ws pairs.late off knows in
    let long = waiting-count within p hs ws known in
    let all = firsts hs in (
      λ yes.
          (let less = ltb-true (length ws) often yes in
          let found = between (waits p hs) (λ i. (hit_at hs i).first) (length hs) (omega (arith, less, long, all, counts)) in
          (found.0, record { first = found.1; settled = inl (known.met found.0 found.1 found.2) })),
      λ x.
          (let off = gone known x.0 x.1 in
          let less = one-less (waits p hs) (λ i. (hit_at hs i).first) (length hs) x.0 (is-first p hs) (inside hs x.0 x.1.first) x.1.first off in
          lt-ltb (length ws) often (omega (arith, less, long, all, counts))),
    )
  where
    still : KnowsWaiting within p hs pairs.waiting.items → (i : ℕ) → waits p hs i ≡ true → IsSettled within p hs end i → ⊥
    still known i wait x =
        elim x.settled as (λ _. ⊥) [
          | inl met ↦ none-answers p hs i wait met.answer met.answers
          | inr over ↦ (let near = in-time-all within (tick_of end) p hs pairs.waiting.items known soon i wait in omega (arith, near, over))
        ]

    gone : KnowsWaiting within p hs pairs.waiting.items → (i : ℕ) → IsSettled within p hs end i → waits p hs i ≡ false
    gone known i x =
        elim (cases_Bool (waits p hs i)) as (λ _. waits p hs i ≡ false) [
          | inl wait ↦ absurd (still known i wait x)
          | inr none ↦ none
        ]

-- ---- By whether one waits too long

pub over-by :
    (within : ℕ) (p : Pairing) (pairs : Pairs) (end : End) (often : ℕ) (o : Option Breach) → is_some pairs.late ≡ false → is_some o ≡ true
    → MatchOption o (IsInTime within (tick_of end) pairs.waiting.items) (IsOverdue within (tick_of end) pairs.waiting.items) → PairsSettle within p pairs end often true
over-by within p pairs end often None off on late = absurd (true≢false (sym on))
over-by within p pairs end often (Some b) off on late = over-settles within p pairs end often b off late

pub count-by :
    (within : ℕ) (p : Pairing) (pairs : Pairs) (end : End) (often : ℕ) (o : Option Breach) → is_some pairs.late ≡ false → is_some o ≡ false
    → MatchOption o (IsInTime within (tick_of end) pairs.waiting.items) (IsOverdue within (tick_of end) pairs.waiting.items)
    → PairsSettle within p pairs end often (nat_lt (length pairs.waiting.items) often)
count-by within p pairs end often None off none soon = count-settles within p pairs end often off soon
count-by within p pairs end often (Some b) off none late = absurd (true≢false none)
