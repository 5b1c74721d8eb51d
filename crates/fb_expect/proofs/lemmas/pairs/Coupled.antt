-- Rules that pair lines: what is known of them with one more line, and at the end.
use Rattle.fb_expect.proofs.lemmas.Common.{◌≡◌, ℕ, ◌+◌, ◌<◌, ◌≤◌, Bool, true, false, List, [], ◌∷◌, ◌++◌, length, Some, None, Result, Ok, Err, refl, sym, ap, ap₂, subst, ◌∙◌, arith, inl, inr, OnOk, Option, is_some, not, ◌&&◌, cases_lt, true≢false, append-nil, get_or_past, length_push, tick_of, End, Waiting, Pairing, Breach, Holds, Broken}
use Rattle.fb_types.proofs.Common.{cases_Bool, get_or_append_left}
use Rattle.std.proofs.Math.Seq.{get_or-append_seam}
use Rattle.fb_expect.specs.Paired.{AreBelow, IsInTime, IsLeft, IsLeftFirst, IsMet, IsOverdue, IsPairVerdict, IsUnpaired, KnowsBy, KnowsLate, KnowsWaiting, PairHit, PairsEnd, PairsOn, answered, answers, hit_at, if_second, no_hit, one_if, some_below, waiting_at, waiting_of, waits, waits_after}
use Rattle.fb_expect.specs.declared.pairs.Pairs.{Pairs}
use Rattle.fb_expect.specs.declared.verdict.Verdict.TheVariants.{Undecided}
use Rattle.fb_expect.proofs.lemmas.pairs.AnsweredLines.{IsPicked, answers-inside, answers-old, answers-second, below-none, kept-on, picks-head, picks-none, waits-new, waits-old}

never : {P : Type 0} (b : Bool) → b ≡ true → b ≡ false → P
never b sure off = absurd (true≢false (sym sure ∙ off))

and-parts : (a b : Bool) → (a && b) ≡ true → (a ≡ true) × (b ≡ true)
and-parts true b is = (refl, is)
and-parts false b is = never false is refl

not-on : (b : Bool) → not b ≡ true → b ≡ false
not-on true is = never false is refl
not-on false is = refl

still-off : (a b : Bool) → a ≡ true → (a && not b) ≡ false → b ≡ true
still-off true true on off = refl
still-off true false on off = never true refl off
still-off false b on off = never false on refl

tick-old : (hs : List PairHit) (h : PairHit) (i : ℕ) → i < length hs → (hit_at (hs ++ h ∷ []) i).tick ≡ (hit_at hs i).tick
tick-old hs h i lt = ap (λ (p : PairHit). p.tick) (get_or_append_left hs (h ∷ []) no_hit i lt)

tick-new : (hs : List PairHit) (h : PairHit) → (hit_at (hs ++ h ∷ []) (length hs)).tick ≡ h.tick
tick-new hs h = ap (λ (p : PairHit). p.tick) (get_or-append_seam hs h [] no_hit)

first-old : (hs : List PairHit) (h : PairHit) (i : ℕ) → i < length hs → (hit_at (hs ++ h ∷ []) i).first ≡ (hit_at hs i).first
first-old hs h i lt = ap (λ (p : PairHit). p.first) (get_or_append_left hs (h ∷ []) no_hit i lt)

pub inside : (hs : List PairHit) (i : ℕ) → (hit_at hs i).first ≡ true → i < length hs
inside hs i is =
    elim (cases_lt i (length hs)) as (λ _. i < length hs) [
      | inl lt ↦ lt
      | inr le ↦ never (hit_at hs i).first is (ap (λ (p : PairHit). p.first) (get_or_past hs i no_hit le))
    ]

-- a line that waits is a P, and none answers it
pub none-answers : (p : Pairing) (hs : List PairHit) (i : ℕ) → waits p hs i ≡ true → (j : ℕ) → answers p hs i j ≡ true → ⊥
none-answers p hs i wait j found =
    let off = not-on (some_below (answers p hs i) (length hs)) (and-parts (hit_at hs i).first (not (some_below (answers p hs i) (length hs))) wait).1 in
    never (answers p hs i j) found (below-none (answers p hs i) (length hs) j off (answers-inside p hs i j found))

pub waits-first : (p : Pairing) (hs : List PairHit) (i : ℕ) → waits p hs i ≡ true → (hit_at hs i).first ≡ true
waits-first p hs i wait = (and-parts (hit_at hs i).first (not (some_below (answers p hs i) (length hs))) wait).0

-- the first that is kept is the first that waits
abbrev IsHead : Pairing → List PairHit → Waiting → Type 0
IsHead p hs w = IsPicked (waits p hs) (waiting_at hs) (length hs) w

first-kept : (within : ℕ) (p : Pairing) (hs : List PairHit) (w : Waiting) (ws : List Waiting) → KnowsWaiting within p hs (w ∷ ws) → IsHead p hs w
first-kept within p hs w ws knows = picks-head (waits p hs) (waiting_at hs) (length hs) w ws (sym knows.kept)

-- and the others are not before it
after-head : (p : Pairing) (hs : List PairHit) (w : Waiting) (i : ℕ) → waits p hs i ≡ true → (r : IsHead p hs w) → r.index ≤ i
after-head p hs w i wait r =
    elim (cases_lt i r.index) as (λ _. r.index ≤ i) [
      | inl lt ↦ never (waits p hs i) wait (r.before i lt)
      | inr le ↦ le
    ]

pub in-time-all :
    (within tick : ℕ) (p : Pairing) (hs : List PairHit) (ws : List Waiting) → KnowsWaiting within p hs ws → IsInTime within tick ws → (i : ℕ) → waits p hs i ≡ true
    → tick ≤ (hit_at hs i).tick + within
in-time-all within tick p hs [] knows soon i wait =
    never (waits p hs i) wait (picks-none (waits p hs) (waiting_at hs) (length hs) (sym knows.kept) i (inside hs i (waits-first p hs i wait)))
in-time-all within tick p hs (w ∷ ws) knows soon i wait =
    let r = first-kept within p hs w ws knows in
    let made : w.mark.tick ≡ (hit_at hs r.index).tick = ap (λ (x : Waiting). x.mark.tick) r.made in
    let up = knows.rise r.index i (after-head p hs w i wait r) (inside hs i (waits-first p hs i wait)) in
    omega (arith, soon, made, up)

-- ---- A line that is in time

-- the new line comes in time for each that waits and that it answers
abbrev ComesSoon : (within : ℕ) → Pairing → List PairHit → PairHit → Type 0
ComesSoon within p hs h = (i : ℕ) → waits p hs i ≡ true → answers p (hs ++ h ∷ []) i (length hs) ≡ true → h.tick ≤ (hit_at hs i).tick + within

met-on :
    (within : ℕ) (p : Pairing) (hs : List PairHit) (h : PairHit) (ws : List Waiting) → ComesSoon within p hs h → KnowsWaiting within p hs ws → (i : ℕ)
    → (hit_at (hs ++ h ∷ []) i).first ≡ true → waits p (hs ++ h ∷ []) i ≡ false → IsMet within p (hs ++ h ∷ []) i
met-on within p hs h ws soon knows i first off =
    let long = length_push hs h in
    let lt = inside (hs ++ h ∷ []) i first in
    elim (cases_lt i (length hs)) as (λ _. IsMet within p (hs ++ h ∷ []) i) [
      | inl old ↦
          elim (cases_Bool (waits p hs i)) as (λ _. IsMet within p (hs ++ h ∷ []) i) [
            | inl wait ↦ now old wait
            | inr gone ↦ before old gone
          ]
      | inr new ↦
          (let same : i ≡ length hs = omega (arith, long, lt, new) in
          let on : h.first ≡ true = sym (ap (λ (q : PairHit). q.first) (get_or-append_seam hs h [] no_hit)) ∙ subst (λ (k : ℕ). (hit_at (hs ++ h ∷ []) k).first ≡ true) same first in
          never (waits p (hs ++ h ∷ []) (length hs)) (waits-new p hs h ∙ on) (subst (λ (k : ℕ). waits p (hs ++ h ∷ []) k ≡ false) same off))
    ]
  where
    now : i < length hs → waits p hs i ≡ true → IsMet within p (hs ++ h ∷ []) i
    now old wait =
        let found = still-off (waits p hs i) (answers p (hs ++ h ∷ []) i (length hs)) wait (sym (waits-old p hs h i old) ∙ off) in
        let low = soon i wait found in
        let a = tick-new hs h in
        let b = tick-old hs h i old in
        record {
          answer = length hs;
          answers = found;
          soon = omega (arith, low, a, b);
        }

    before : i < length hs → waits p hs i ≡ false → IsMet within p (hs ++ h ∷ []) i
    before old gone =
        let m = knows.met i (sym (first-old hs h i old) ∙ first) gone in
        let low = answers-inside p hs i m.answer m.answers in
        let a = tick-old hs h m.answer low in
        let b = tick-old hs h i old in
        let c = m.soon in
        record {
          answer = m.answer;
          answers = answers-old p hs h i m.answer old low ∙ m.answers;
          soon = omega (arith, a, b, c);
        }

rise-on :
    (hs : List PairHit) (h : PairHit) → AreBelow hs h.tick → ((i k : ℕ) → i ≤ k → k < length hs → (hit_at hs i).tick ≤ (hit_at hs k).tick) → (i k : ℕ) → i ≤ k
    → k < length (hs ++ h ∷ []) → (hit_at (hs ++ h ∷ []) i).tick ≤ (hit_at (hs ++ h ∷ []) k).tick
rise-on hs h below rise i k le lt =
    let long = length_push hs h in
    elim (cases_lt k (length hs)) as (λ _. (hit_at (hs ++ h ∷ []) i).tick ≤ (hit_at (hs ++ h ∷ []) k).tick) [
      | inl old ↦
          (let a = tick-old hs h i (omega (arith, le, old)) in
          let b = tick-old hs h k old in
          let up = rise i k le old in
          omega (arith, a, b, up))
      | inr new ↦
          (let same : k ≡ length hs = omega (arith, long, lt, new) in
          let b : (hit_at (hs ++ h ∷ []) k).tick ≡ h.tick = ap (λ (n : ℕ). (hit_at (hs ++ h ∷ []) n).tick) same ∙ tick-new hs h in
          elim (cases_lt i (length hs)) as (λ _. (hit_at (hs ++ h ∷ []) i).tick ≤ (hit_at (hs ++ h ∷ []) k).tick) [
            | inl less ↦ (let a = tick-old hs h i less in let up = below i in omega (arith, a, b, up))
            | inr more ↦
                (let here : i ≡ k = omega (arith, le, same, more) in
                let e = ap (λ (n : ℕ). (hit_at (hs ++ h ∷ []) n).tick) here in
                omega (arith, e))
          ])
    ]

knows-on :
    (within line : ℕ) (p : Pairing) (hs : List PairHit) (h : PairHit) (ws new : List Waiting) → line ≡ length hs + 1 → AreBelow hs h.tick → ComesSoon within p hs h
    → new ≡ waits_after p line h ws → KnowsWaiting within p hs ws → KnowsWaiting within p (hs ++ h ∷ []) new
knows-on within line p hs h ws new number below soon is knows =
    record {
      kept = is ∙ ap (waits_after p line h) knows.kept ∙ sym (kept-on p hs h line number);
      met = λ i first off. met-on within p hs h ws soon knows i first off;
      rise = λ i k le lt. rise-on hs h below knows.rise i k le lt;
    }

-- ---- A line that is late for the first that waits

pub late-on :
    (within : ℕ) (p : Pairing) (hs : List PairHit) (h : PairHit) (ws : List Waiting) (b : Breach) → IsOverdue within h.tick ws b → KnowsWaiting within p hs ws
    → KnowsLate within p (hs ++ h ∷ []) b
late-on within p hs h [] b late knows = absurd late
late-on within p hs h (w ∷ ws) b late knows =
    let r = first-kept within p hs w ws knows in
    let made : w.mark.tick ≡ (hit_at hs r.index).tick = ap (λ (x : Waiting). x.mark.tick) r.made in
    let old = r.inside in
    let a = tick-old hs h r.index old in
    let c = tick-new hs h in
    let over = late.1 in
    let gone : (hit_at (hs ++ h ∷ []) r.index).tick + within < (hit_at (hs ++ h ∷ []) (length hs)).tick = omega (arith, made, a, c, over) in
    record {
      index = r.index;
      line = ap (λ (x : Breach). x.line) late.0 ∙ ap (λ (x : Waiting). x.mark.line) r.made;
      tick = ap (λ (x : Breach). x.tick) late.0 ∙ made ∙ sym a;
      fault = ap (λ (x : Breach). x.fault) late.0;
      unpaired = record {
        first = first-old hs h r.index old ∙ waits-first p hs r.index r.passes;
        none = λ j found.
            (let long = length_push hs h in
            let lt = answers-inside p (hs ++ h ∷ []) r.index j found in
            elim (cases_lt j (length hs)) as (λ _. (hit_at (hs ++ h ∷ []) r.index).tick + within < (hit_at (hs ++ h ∷ []) j).tick) [
              | inl less ↦ absurd (none-answers p hs r.index r.passes j (sym (answers-old p hs h r.index j old less) ∙ found))
              | inr more ↦
                  (let same : length hs ≡ j = omega (arith, long, lt, more) in
                  subst (λ (k : ℕ). (hit_at (hs ++ h ∷ []) r.index).tick + within < (hit_at (hs ++ h ∷ []) k).tick) same gone)
            ]);
      };
      later = length hs;
      over = gone;
      before = λ i lt x.
          (let low : i < length hs = omega (arith, old, lt) in
          let m = knows.met i (sym (first-old hs h i low) ∙ x.first) (r.before i lt) in
          let answer = answers-inside p hs i m.answer m.answers in
          let far = x.none m.answer (answers-old p hs h i m.answer low answer ∙ m.answers) in
          let d = tick-old hs h i low in
          let e = tick-old hs h m.answer answer in
          let near = m.soon in
          absurd (omega (arith, far, d, e, near)));
    }

-- it stays so
pub late-kept :
    (within : ℕ) (p : Pairing) (hs : List PairHit) (h : PairHit) (b : Breach) → AreBelow hs h.tick → KnowsLate within p hs b → KnowsLate within p (hs ++ h ∷ []) b
late-kept within p hs h b below knows =
    let long = length_push hs h in
    let old = inside hs knows.index knows.unpaired.first in
    let a = tick-old hs h knows.index old in
    let c = tick-new hs h in
    let over = knows.over in
    let last = below knows.later in
    let now : (hit_at (hs ++ h ∷ []) knows.index).tick + within < (hit_at (hs ++ h ∷ []) (length hs)).tick = omega (arith, a, c, over, last) in
    record {
      index = knows.index;
      line = knows.line;
      tick = knows.tick ∙ sym a;
      fault = knows.fault;
      unpaired = record {
        first = first-old hs h knows.index old ∙ knows.unpaired.first;
        none = λ j found.
            (let lt = answers-inside p (hs ++ h ∷ []) knows.index j found in
            elim (cases_lt j (length hs)) as (λ _. (hit_at (hs ++ h ∷ []) knows.index).tick + within < (hit_at (hs ++ h ∷ []) j).tick) [
              | inl less ↦
                  (let far = knows.unpaired.none j (sym (answers-old p hs h knows.index j old less) ∙ found) in
                  let d = tick-old hs h j less in
                  omega (arith, far, a, d))
              | inr more ↦
                  (let same : length hs ≡ j = omega (arith, long, lt, more) in
                  subst (λ (k : ℕ). (hit_at (hs ++ h ∷ []) knows.index).tick + within < (hit_at (hs ++ h ∷ []) k).tick) same now)
            ]);
      };
      later = length hs;
      over = now;
      before = λ i lt x.
          (let low : i < length hs = omega (arith, old, lt) in
          knows.before i lt (record {
            first = sym (first-old hs h i low) ∙ x.first;
            none = λ j found.
                (let less = answers-inside p hs i j found in
                let far = x.none j (answers-old p hs h i j low less ∙ found) in
                let d = tick-old hs h i low in
                let e = tick-old hs h j less in
                omega (arith, far, d, e));
          }));
    }

-- ---- What the function that takes a line answers

pub on-late : (within line : ℕ) (p : Pairing) (old : Pairs) (h : PairHit) → is_some old.late ≡ true → PairsOn within p old line h old
on-late within line p old h is hs number below knows = by old.late is knows
  where
    by : (late : Option Breach) → is_some late ≡ true → KnowsBy within p hs old.waiting.items late → KnowsBy within p (hs ++ h ∷ []) old.waiting.items late
    by (Some b) on known = late-kept within p hs h b below known
    by None on known = never false on refl

pub waiting-of : (within : ℕ) (p : Pairing) (hs : List PairHit) (ws : List Waiting) (late : Option Breach) → is_some late ≡ false → KnowsBy within p hs ws late → KnowsWaiting within p hs ws
waiting-of within p hs ws (Some b) off known = never true refl off
waiting-of within p hs ws None off known = known

pub on-overdue :
    (within line : ℕ) (p : Pairing) (old new : Pairs) (h : PairHit) (b : Breach) → is_some old.late ≡ false → IsOverdue within h.tick old.waiting.items b → new.late ≡ Some b
    → PairsOn within p old line h new
on-overdue within line p old new h b off late is hs number below knows =
    subst (λ (o : Option Breach). KnowsBy within p (hs ++ h ∷ []) new.waiting.items o) (sym is)
    (late-on within p hs h old.waiting.items b late (waiting-of within p hs old.waiting.items old.late off knows))

pub on-time :
    (within line : ℕ) (p : Pairing) (old new : Pairs) (h : PairHit) → is_some old.late ≡ false → IsInTime within h.tick old.waiting.items → new.late ≡ old.late
    → new.waiting.items ≡ waits_after p line h old.waiting.items → PairsOn within p old line h new
on-time within line p old new h off soon same is hs number below knows =
    subst (λ (o : Option Breach). KnowsBy within p (hs ++ h ∷ []) new.waiting.items o) (sym same)
    (by old.late off
    (let known = waiting-of within p hs old.waiting.items old.late off knows in
    knows-on within line p hs h old.waiting.items new.waiting.items number below (λ i wait found. in-time-all within h.tick p hs old.waiting.items known soon i wait) is known))
  where
    by : (late : Option Breach) → is_some late ≡ false → KnowsWaiting within p (hs ++ h ∷ []) new.waiting.items → KnowsBy within p (hs ++ h ∷ []) new.waiting.items late
    by (Some b) on known = never true refl on
    by None on known = known

pub on-time-ok :
    {T E : Type 0} (r : Result T E) (within line : ℕ) (p : Pairing) (old new : Pairs) (h : PairHit) → is_some old.late ≡ false → IsInTime within h.tick old.waiting.items
    → OnOk r (new.late ≡ old.late) → OnOk r (new.waiting.items ≡ waits_after p line h old.waiting.items) → OnOk r (PairsOn within p old line h new)
on-time-ok (Ok x) within line p old new h off soon same is = on-time within line p old new h off soon same is
on-time-ok (Err e) within line p old new h off soon same is = tt

-- a line that is neither P nor Q changes nothing
pub on-idle : (within line : ℕ) (p : Pairing) (s : Pairs) (h : PairHit) → h.first ≡ false → h.second ≡ false → PairsOn within p s line h s
on-idle within line p s h no-first no-second hs number below knows = by s.late knows
  where
    same : s.waiting.items ≡ waits_after p line h s.waiting.items
    same =
        sym (
        ap₂ (λ (a b : Bool). if_second a (answered p h.values s.waiting.items) s.waiting.items ++ one_if b (waiting_of line h)) no-second no-first
        ∙ append-nil s.waiting.items
        )

    by : (late : Option Breach) → KnowsBy within p hs s.waiting.items late → KnowsBy within p (hs ++ h ∷ []) s.waiting.items late
    by (Some b) known = late-kept within p hs h b below known
    by None known =
        knows-on within line p hs h s.waiting.items s.waiting.items number below (λ i wait found. never h.second (answers-second p hs h i found) no-second) same known

-- ---- At the end

-- a P without an answer in time waits
unpaired-waits : (within : ℕ) (p : Pairing) (hs : List PairHit) (ws : List Waiting) (i : ℕ) → KnowsWaiting within p hs ws → IsUnpaired within p hs i → waits p hs i ≡ true
unpaired-waits within p hs ws i knows x =
    elim (cases_Bool (waits p hs i)) as (λ _. waits p hs i ≡ true) [
      | inl wait ↦ wait
      | inr gone ↦
          (let m = knows.met i x.first gone in
          let far = x.none m.answer m.answers in
          let near = m.soon in
          absurd (omega (arith, far, near)))
    ]

alone : (within : ℕ) (p : Pairing) (hs : List PairHit) (i : ℕ) → waits p hs i ≡ true → IsUnpaired within p hs i
alone within p hs i wait = record { first = waits-first p hs i wait; none = λ j found. absurd (none-answers p hs i wait j found) }

pub end-late : (within : ℕ) (p : Pairing) (pairs : Pairs) (end : End) (b : Breach) → pairs.late ≡ Some b → PairsEnd within p pairs end (Broken b)
end-late within p pairs end b is hs below knows =
    let late : KnowsLate within p hs b = subst (λ (o : Option Breach). KnowsBy within p hs pairs.waiting.items o) is knows in
    let over = late.over in
    let last = below late.later in
    record {
      index = late.index;
      line = late.line;
      tick = late.tick;
      fault = late.fault;
      left = record { unpaired = late.unpaired; over = omega (arith, over, last) };
      before = λ i lt x. late.before i lt x.unpaired;
    }

pub end-over :
    (within : ℕ) (p : Pairing) (pairs : Pairs) (end : End) (b : Breach) → is_some pairs.late ≡ false → IsOverdue within (tick_of end) pairs.waiting.items b
    → PairsEnd within p pairs end (Broken b)
end-over within p pairs end b off late hs below knows =
    by pairs.waiting.items late (waiting-of within p hs pairs.waiting.items pairs.late off knows)
  where
    by : (ws : List Waiting) → IsOverdue within (tick_of end) ws b → KnowsWaiting within p hs ws → IsLeftFirst within p hs end b
    by [] over known = absurd over
    by (w ∷ ws) over known =
        let r = first-kept within p hs w ws known in
        let made : w.mark.tick ≡ (hit_at hs r.index).tick = ap (λ (x : Waiting). x.mark.tick) r.made in
        let more = over.1 in
        record {
          index = r.index;
          line = ap (λ (x : Breach). x.line) over.0 ∙ ap (λ (x : Waiting). x.mark.line) r.made;
          tick = ap (λ (x : Breach). x.tick) over.0 ∙ made;
          fault = ap (λ (x : Breach). x.fault) over.0;
          left = record { unpaired = alone within p hs r.index r.passes; over = omega (arith, made, more) };
          before = λ i lt x. never (waits p hs i) (unpaired-waits within p hs (w ∷ ws) i known x.unpaired) (r.before i lt);
        }

none-left :
    (within : ℕ) (p : Pairing) (hs : List PairHit) (ws : List Waiting) (end : End) → KnowsWaiting within p hs ws → IsInTime within (tick_of end) ws → (i : ℕ)
    → IsLeft within p hs end i → ⊥
none-left within p hs ws end known soon i x =
    let low = in-time-all within (tick_of end) p hs ws known soon i (unpaired-waits within p hs ws i known x.unpaired) in
    let over = x.over in
    omega (arith, low, over)

pub end-holds :
    (within : ℕ) (p : Pairing) (pairs : Pairs) (end : End) → is_some pairs.late ≡ false → length pairs.waiting.items ≡ 0 → PairsEnd within p pairs end Holds
end-holds within p pairs end off none hs below knows =
    by pairs.waiting.items none (waiting-of within p hs pairs.waiting.items pairs.late off knows)
  where
    by : (ws : List Waiting) → length ws ≡ 0 → KnowsWaiting within p hs ws → IsPairVerdict within p hs end Holds
    by (w ∷ ws) long known = absurd (omega (arith, long))
    by [] long known = (
      λ i x. none-left within p hs [] end known tt i x,
      λ i x.
          (let wait = unpaired-waits within p hs [] i known x.unpaired in
          never (waits p hs i) wait (picks-none (waits p hs) (waiting_at hs) (length hs) (sym known.kept) i (inside hs i x.unpaired.first))),
    )

pub end-open :
    (within : ℕ) (p : Pairing) (pairs : Pairs) (end : End) → is_some pairs.late ≡ false → (length pairs.waiting.items ≡ 0 → ⊥) → IsInTime within (tick_of end) pairs.waiting.items
    → PairsEnd within p pairs end Undecided
end-open within p pairs end off some soon hs below knows =
    by pairs.waiting.items some soon (waiting-of within p hs pairs.waiting.items pairs.late off knows)
  where
    by : (ws : List Waiting) → (length ws ≡ 0 → ⊥) → IsInTime within (tick_of end) ws → KnowsWaiting within p hs ws → IsPairVerdict within p hs end Undecided
    by [] long near known = absurd (long refl)
    by (w ∷ ws) long near known =
        let r = first-kept within p hs w ws known in
        let made : w.mark.tick ≡ (hit_at hs r.index).tick = ap (λ (x : Waiting). x.mark.tick) r.made in (
          λ i x. none-left within p hs (w ∷ ws) end known near i x,
          (r.index, record { unpaired = alone within p hs r.index r.passes; amid = omega (arith, near, made) }),
        )
