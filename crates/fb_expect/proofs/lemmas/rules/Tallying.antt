-- How often rules are decided: what is counted of them with one more line, and at the end.
use Rattle.fb_expect.proofs.lemmas.Common.{◌≡◌, ℕ, zero, suc, ◌+◌, ◌-◌, ◌<◌, ◌≤◌, Bool, true, false, cond, List, [], ◌∷◌, ◌++◌, length, refl, sym, ap, subst, ◌∙◌, arith, inl, inr, not, ◌&&◌, ◌||◌, Option, Some, None, is_some, length_push, End, Hit, Need}
use Rattle.std.proofs.lemmas.List.Sums.{count_by-le-length, sum_by_push}
use Rattle.fb_expect.specs.Deciding.{AreInside, AreWindows, BeganBy, Counts, Decides, KnowsInside, Tallies, closed_after, count_first, judged_up_to, since_after}
use Rattle.fb_expect.specs.Watching.{KnowsStretch}
use Rattle.fb_expect.specs.declared.rule.Need.TheVariants as need
use Rattle.fb_expect.specs.declared.tally.Tally.{Tally}
use Rattle.fb_expect.specs.declared.tally.Tally.TheVariants as tally
use Rattle.fb_expect.proofs.lemmas.rules.Growing.{within-kept, within-old}
use Rattle.fb_expect.proofs.lemmas.rules.Stretches.{KnowsHere, goes-on, stays}

-- ---- P's

pub first-yes : (hs : List Hit) (h : Hit) → h.first ≡ true → count_first (hs ++ h ∷ []) ≡ count_first hs + 1
first-yes hs h is = sum_by_push (λ x. cond x.first 1 0) hs h ∙ ap (λ (b : Bool). count_first hs + cond b 1 0) is

pub first-no : (hs : List Hit) (h : Hit) → h.first ≡ false → count_first (hs ++ h ∷ []) ≡ count_first hs
first-no hs h off = let more = sum_by_push (λ x. cond x.first 1 0) hs h ∙ ap (λ (b : Bool). count_first hs + cond b 1 0) off in omega (arith, more)

first-sum :
    (count more line : ℕ) (hs : List Hit) (h : Hit) → h.first ≡ true → ((n : ℕ) → line ≡ n + 1 → count ≤ n → more ≡ count + 1) → line ≡ length hs + 1
    → count ≡ count_first hs → more ≡ count_first (hs ++ h ∷ [])
first-sum count more line hs h is sum number knows =
    let le = count_by-le-length (λ (x : Hit). x.first) hs in
    sum (length hs) number (omega (arith, le, knows)) ∙ ap (λ (n : ℕ). n + 1) knows ∙ sym (first-yes hs h is)

-- ---- Lines in stretches

-- the lines before an index are in stretches as they were, whatever line comes
pub inside-kept : (f : Bool) (hs : List Hit) (h : Hit) (k n : ℕ) → k ≤ length hs → AreInside f hs k n → AreInside f (hs ++ h ∷ []) k n
inside-kept f hs h zero n le is = is
inside-kept f hs h (suc k) n le (inl (here, (fewer, more, rest))) =
    inl (within-kept f hs h k (omega arith) here, (fewer, more, inside-kept f hs h k fewer (omega arith) rest))
inside-kept f hs h (suc k) n le (inr (off, rest)) =
    inr (λ s. off (within-old f hs h k (omega arith) s), inside-kept f hs h k n (omega arith) rest)

-- no more lines are in stretches than there are
pub inside-fits : (f : Bool) (hs : List Hit) (k n : ℕ) → AreInside f hs k n → n ≤ k
inside-fits f hs zero n is = omega (arith, is)
inside-fits f hs (suc k) n (inl (here, (fewer, more, rest))) = let le = inside-fits f hs k fewer rest in omega (arith, more, le)
inside-fits f hs (suc k) n (inr (off, rest)) = let le = inside-fits f hs k n rest in omega (arith, le)

longer : (hs : List Hit) (h : Hit) → length (hs ++ h ∷ []) ≡ suc (length hs)
longer hs h = let e = length_push hs h in omega (arith, e)

-- how many are, with the new line
pub inside-new :
    (f : Bool) (hs : List Hit) (h : Hit) (here : Bool) (n m : ℕ) → KnowsHere f hs h here → AreInside f hs (length hs) n → m ≡ n + cond here 1 0
    → AreInside f (hs ++ h ∷ []) (length (hs ++ h ∷ [])) m
inside-new f hs h true n m knows is more =
    subst (λ (k : ℕ). AreInside f (hs ++ h ∷ []) k m) (sym (longer hs h))
    (inl (knows, (n, more, inside-kept f hs h (length hs) n (omega arith) is)))
inside-new f hs h false n m knows is more =
    subst (λ (k : ℕ). AreInside f (hs ++ h ∷ []) k m) (sym (longer hs h))
    (inr (knows, subst (λ (k : ℕ). AreInside f (hs ++ h ∷ []) (length hs) k) (let same : n ≡ m = omega (arith, more) in same) (inside-kept f hs h (length hs) n (omega arith) is)))

-- ---- One more line

-- the lines in stretches that are counted then are those before it, and this one where it is in a stretch
pub sums :
    (since : Option ℕ) (closed lines line : ℕ) (third second : Bool) → line ≡ lines + 1 → BeganBy since lines
    → judged_up_to (since_after since third second line) (closed_after since closed third line) line ≡ judged_up_to since closed lines + cond (is_some since && not third) 1 0
sums None closed lines line true true is began = omega (arith, is)
sums None closed lines line true false is began = omega (arith, is)
sums None closed lines line false true is began = omega (arith, is)
sums None closed lines line false false is began = omega (arith, is)
sums (Some start) closed lines line true true is began = let same : line - 1 ≡ lines = omega (arith, is) in omega (arith, is, same, ap (λ (n : ℕ). closed + (n - start)) same)
sums (Some start) closed lines line true false is began = let same : line - 1 ≡ lines = omega (arith, is) in omega (arith, is, same, ap (λ (n : ℕ). closed + (n - start)) same)
sums (Some start) closed lines line false second is began = omega (arith, is, began)

pub began-by : (since : Option ℕ) (lines line : ℕ) (third second : Bool) → line ≡ lines + 1 → BeganBy since lines → BeganBy (since_after since third second line) line
began-by None lines line true true is began = omega (arith, is)
began-by None lines line true false is began = tt
began-by None lines line false true is began = omega (arith, is)
began-by None lines line false false is began = tt
began-by (Some start) lines line true true is began = omega (arith, is)
began-by (Some start) lines line true false is began = tt
began-by (Some start) lines line false second is began = omega (arith, is, began)

-- the next line is in a stretch as `goes-on` says
pub on-after : (since : Option ℕ) (third second : Bool) (line : ℕ) → is_some (since_after since third second line) ≡ ((is_some since && not third) || second)
on-after None true true line = refl
on-after None true false line = refl
on-after None false true line = refl
on-after None false false line = refl
on-after (Some start) true true line = refl
on-after (Some start) true false line = refl
on-after (Some start) false second line = refl

pub inside-on :
    (f : Bool) (hs : List Hit) (h : Hit) (since : Option ℕ) (closed line : ℕ) → line ≡ length hs + 1 → KnowsInside f hs since closed
    → KnowsInside f (hs ++ h ∷ []) (since_after since h.third h.second line) (closed_after since closed h.third line)
inside-on f hs h since closed line is knows =
    let here : KnowsHere f hs h (is_some since && not h.third) = stays f hs h (is_some since) h.third refl knows.stretch in
    let long : length (hs ++ h ∷ []) ≡ line = length_push hs h ∙ sym is in
    record {
      stretch =
          subst (λ (b : Bool). KnowsStretch f (hs ++ h ∷ []) b) (sym (on-after since h.third h.second line))
          (goes-on f hs h (is_some since && not h.third) h.second refl here);
      began =
          subst (λ (n : ℕ). BeganBy (since_after since h.third h.second line) n) (sym long) (began-by since (length hs) line h.third h.second is knows.began);
      counted =
          inside-new f hs h (is_some since && not h.third) (judged_up_to since closed (length hs)) _ here knows.counted
          (ap (judged_up_to (since_after since h.third h.second line) (closed_after since closed h.third line)) long
          ∙ sums since closed (length hs) line h.third h.second is knows.began);
    }

-- a line that is neither Q nor R
pub inside-idle :
    (f : Bool) (hs : List Hit) (h : Hit) (since : Option ℕ) (closed : ℕ) → h.second ≡ false → h.third ≡ false → KnowsInside f hs since closed
    → KnowsInside f (hs ++ h ∷ []) since closed
inside-idle f hs h None closed no-second no-third knows =
    subst (λ (o : Option ℕ). KnowsInside f (hs ++ h ∷ []) o closed) (same h.third h.second no-third no-second)
    (subst (λ (n : ℕ). KnowsInside f (hs ++ h ∷ []) (since_after None h.third h.second (length hs + 1)) n) (ap (λ (b : Bool). closed_after None closed b (length hs + 1)) no-third)
    (inside-on f hs h None closed (length hs + 1) refl knows))
  where
    same : (third second : Bool) → third ≡ false → second ≡ false → since_after None third second (length hs + 1) ≡ None
    same true second a b = absurd (let bad : true ≡ false = a in cc)
    same false true a b = absurd (let bad : true ≡ false = b in cc)
    same false false a b = refl
inside-idle f hs h (Some start) closed no-second no-third knows =
    subst (λ (o : Option ℕ). KnowsInside f (hs ++ h ∷ []) o closed) (same h.third no-third)
    (subst (λ (n : ℕ). KnowsInside f (hs ++ h ∷ []) (since_after (Some start) h.third h.second (length hs + 1)) n)
    (ap (λ (b : Bool). closed_after (Some start) closed b (length hs + 1)) no-third)
    (inside-on f hs h (Some start) closed (length hs + 1) refl knows))
  where
    same : (third : Bool) → third ≡ false → since_after (Some start) third h.second (length hs + 1) ≡ Some start
    same true a = absurd (let bad : true ≡ false = a in cc)
    same false a = refl

-- ---- All rules

pub idle-tally : (n : Need) (hs : List Hit) (h : Hit) (t : Tally) → h.first ≡ false → h.second ≡ false → h.third ≡ false → Tallies n hs t → Tallies n (hs ++ h ∷ []) t
idle-tally (need.See within) hs h (tally.Events count) a b c knows = knows ∙ sym (first-no hs h a)
idle-tally (need.Not within) hs h (tally.Events count) a b c knows = knows ∙ sym (first-no hs h a)
idle-tally (need.Before within) hs h (tally.Events count) a b c knows = knows ∙ sym (first-no hs h a)
idle-tally (need.Never from_start) hs h (tally.Stretches since closed) a b c knows = inside-idle from_start hs h since closed b c knows
idle-tally (need.Count least most every) hs h tally.Windows a b c knows = tt
idle-tally (need.See within) hs h (tally.Stretches since closed) a b c knows = absurd knows
idle-tally (need.See within) hs h tally.Windows a b c knows = absurd knows
idle-tally (need.Not within) hs h (tally.Stretches since closed) a b c knows = absurd knows
idle-tally (need.Not within) hs h tally.Windows a b c knows = absurd knows
idle-tally (need.Before within) hs h (tally.Stretches since closed) a b c knows = absurd knows
idle-tally (need.Before within) hs h tally.Windows a b c knows = absurd knows
idle-tally (need.Never from_start) hs h (tally.Events count) a b c knows = absurd knows
idle-tally (need.Never from_start) hs h tally.Windows a b c knows = absurd knows
idle-tally (need.Count least most every) hs h (tally.Events count) a b c knows = absurd knows
idle-tally (need.Count least most every) hs h (tally.Stretches since closed) a b c knows = absurd knows

-- ---- What the functions that count answer

-- what is counted fits
low :
    (bound : ℕ) (f : Bool) (since : Option ℕ) (closed line : ℕ) (hs : List Hit) → line < bound → line ≡ length hs + 1 → KnowsInside f hs since closed
    → judged_up_to since closed (line - 1) < bound
low bound f since closed line hs fits number knows =
    let less : line - 1 ≡ length hs = omega (arith, number) in
    let most = inside-fits f hs (length hs) (judged_up_to since closed (length hs)) knows.counted in
    let same = ap (judged_up_to since closed) less in
    omega (arith, same, most, number, fits)

-- a P is counted
pub counts-first :
    (count more line : ℕ) (h : Hit) → h.first ≡ true → ((n : ℕ) → line ≡ n + 1 → count ≤ n → more ≡ count + 1)
    → Counts (tally.Events count) line h (tally.Events more)
counts-first count more line h is sum (need.See within) hs number knows = first-sum count more line hs h is sum number knows
counts-first count more line h is sum (need.Not within) hs number knows = first-sum count more line hs h is sum number knows
counts-first count more line h is sum (need.Before within) hs number knows = first-sum count more line hs h is sum number knows
counts-first count more line h is sum (need.Never from_start) hs number knows = absurd knows
counts-first count more line h is sum (need.Count least most every) hs number knows = absurd knows

pub counts-same : (count line : ℕ) (h : Hit) → h.first ≡ false → Counts (tally.Events count) line h (tally.Events count)
counts-same count line h off (need.See within) hs number knows = knows ∙ sym (first-no hs h off)
counts-same count line h off (need.Not within) hs number knows = knows ∙ sym (first-no hs h off)
counts-same count line h off (need.Before within) hs number knows = knows ∙ sym (first-no hs h off)
counts-same count line h off (need.Never from_start) hs number knows = absurd knows
counts-same count line h off (need.Count least most every) hs number knows = absurd knows

-- lines in stretches are, of which there are fewer than the bound
pub counts-inside :
    (bound : ℕ) (since since2 : Option ℕ) (closed closed2 line : ℕ) (h : Hit) → line < bound → since2 ≡ since_after since h.third h.second line
    → (judged_up_to since closed (line - 1) < bound → closed2 ≡ closed_after since closed h.third line)
    → Counts (tally.Stretches since closed) line h (tally.Stretches since2 closed2)
counts-inside bound since since2 closed closed2 line h fits same sum (need.See within) hs number knows = absurd knows
counts-inside bound since since2 closed closed2 line h fits same sum (need.Not within) hs number knows = absurd knows
counts-inside bound since since2 closed closed2 line h fits same sum (need.Before within) hs number knows = absurd knows
counts-inside bound since since2 closed closed2 line h fits same sum (need.Never from_start) hs number knows =
    subst (λ (o : Option ℕ). KnowsInside from_start (hs ++ h ∷ []) o closed2) (sym same)
    (subst (λ (n : ℕ). KnowsInside from_start (hs ++ h ∷ []) (since_after since h.third h.second line) n)
    (sym (sum (low bound from_start since closed line hs fits number knows))) (inside-on from_start hs h since closed line number knows))
counts-inside bound since since2 closed closed2 line h fits same sum (need.Count least most every) hs number knows = absurd knows

pub counts-windows : (line : ℕ) (h : Hit) → Counts tally.Windows line h tally.Windows
counts-windows line h (need.See within) hs number knows = absurd knows
counts-windows line h (need.Not within) hs number knows = absurd knows
counts-windows line h (need.Before within) hs number knows = absurd knows
counts-windows line h (need.Never from_start) hs number knows = absurd knows
counts-windows line h (need.Count least most every) hs number knows = tt

-- at the end
pub decides-events : (n : Need) (count line : ℕ) (end : End) → Decides n (tally.Events count) line end count
decides-events (need.See within) count line end hs number knows = knows
decides-events (need.Not within) count line end hs number knows = knows
decides-events (need.Before within) count line end hs number knows = knows
decides-events (need.Never from_start) count line end hs number knows = absurd knows
decides-events (need.Count least most every) count line end hs number knows = absurd knows

pub decides-inside :
    (bound : ℕ) (n : Need) (since : Option ℕ) (closed line lines count : ℕ) (end : End) → line < bound → ((k : ℕ) → line ≡ k + 1 → lines ≡ k)
    → (judged_up_to since closed lines < bound → count ≡ judged_up_to since closed lines) → Decides n (tally.Stretches since closed) line end count
decides-inside bound (need.See within) since closed line lines count end fits less sum hs number knows = absurd knows
decides-inside bound (need.Not within) since closed line lines count end fits less sum hs number knows = absurd knows
decides-inside bound (need.Before within) since closed line lines count end fits less sum hs number knows = absurd knows
decides-inside bound (need.Never from_start) since closed line lines count end fits less sum hs number knows =
    let long : lines ≡ length hs = less (length hs) number in
    let most : judged_up_to since closed (length hs) ≤ length hs = inside-fits from_start hs (length hs) (judged_up_to since closed (length hs)) knows.counted in
    let same : judged_up_to since closed lines ≡ judged_up_to since closed (length hs) = ap (judged_up_to since closed) long in
    subst (λ (k : ℕ). AreInside from_start hs (length hs) k) (sym (sum (omega (arith, same, most, number, fits)) ∙ same)) knows.counted
decides-inside bound (need.Count least most every) since closed line lines count end fits less sum hs number knows = absurd knows

pub decides-windows : (n : Need) (line count : ℕ) (end : End) → AreWindows n end count → Decides n tally.Windows line end count
decides-windows (need.See within) line count end are hs number knows = absurd knows
decides-windows (need.Not within) line count end are hs number knows = absurd knows
decides-windows (need.Before within) line count end are hs number knows = absurd knows
decides-windows (need.Never from_start) line count end are hs number knows = absurd knows
decides-windows (need.Count least most every) line count end are hs number knows = are
