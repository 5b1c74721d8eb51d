-- What is known of a rule with one more line, rule by rule.
use Rattle.fb_expect.proofs.lemmas.Common.{◌≡◌, ℕ, ◌+◌, ◌<◌, ◌≤◌, Bool, true, false, List, [], ◌∷◌, ◌++◌, length, refl, sym, ap, subst, ◌∙◌, arith, inl, inr, ◌⊎◌, not, ◌&&◌, ◌||◌, Option, Some, IsOver, count_in, IsClean, IsPast, KnowsCount, KnowsLast, KnowsSee, Lacks, Steps, Hit, Unanswered, Fewer, Mark, Watch}
use Rattle.fb_expect.specs.Rules.{BreaksHere, IsFewerAtLine, IsForbidden, IsMore, window_of}
use Rattle.fb_expect.specs.Watching.{CountsOn, KnowsStretch, WaitsNext}
use Rattle.fb_expect.specs.declared.rule.Need.TheVariants as need
use Rattle.fb_expect.specs.declared.verdict.Fault.{Fault}
use Rattle.fb_expect.specs.declared.verdict.Fault.TheVariants.{Answered, Unprepared, Forbidden, More}
use Rattle.fb_expect.specs.declared.watch.Watch.TheVariants as watch
use Rattle.fb_expect.proofs.lemmas.rules.Counts.{before-it, count-fits, count-no, count-yes, counts-on, enough-new, fewer-new, more-back, more-new, no-more}
use Rattle.fb_expect.proofs.lemmas.rules.Growing.{broken-kept, broken-new, clean-more, first, second}
use Rattle.fb_expect.proofs.lemmas.rules.RulesOfBefore.{answered, last-new, last-same, no-first, no-second, prepared, unanswered, unprepared}
use Rattle.fb_expect.proofs.lemmas.rules.RulesOfAfter.{late, late-kept, waits-on}
use Rattle.fb_expect.proofs.lemmas.rules.Stretches.{KnowsHere, allowed, forbidden, goes-on, no-forbidden, stays}

-- ---- Followed in time

pub see-late :
    (within line : ℕ) (mark : Option Mark) (hit : Hit) (m : Mark) → mark ≡ Some m → m.tick + within < hit.tick
    → Steps (need.See within) (watch.See mark) line hit (watch.Broken (record { line = m.line; tick = m.tick; fault = Unanswered }))
see-late within line mark hit m is over hs number below knows = late within hs hit m (subst (λ (o : Option Mark). KnowsSee within hs o) is knows) over

pub wait-on : (line : ℕ) (mark : Option Mark) (hit : Hit) (m : Mark) → mark ≡ Some m → hit.second ≡ false → WaitsNext mark line hit (Some m)
wait-on line mark hit m is off within hs number below time knows = waits-on within hs hit m below off (subst (λ (o : Option Mark). KnowsSee within hs o) is knows)

pub see-broken : (within line : ℕ) (hit : Hit) (w : Watch) → ((m : Option Mark) → w ≡ watch.See m → ⊥) → Steps (need.See within) w line hit w
see-broken within line hit (watch.See m) other hs number below knows = absurd (other m refl)
see-broken within line hit (watch.Broken b) other hs number below knows = late-kept within hs hit b below knows
see-broken within line hit (watch.Not m) other hs number below knows = absurd knows
see-broken within line hit (watch.Before m) other hs number below knows = absurd knows
see-broken within line hit (watch.Never m) other hs number below knows = absurd knows
see-broken within line hit (watch.Count m c) other hs number below knows = absurd knows

-- ---- Not followed too soon

clean-not : (within : ℕ) (hs : List Hit) (hit : Hit) (last : Option ℕ) → (hit.second ≡ false) ⊎ IsPast last within hit.tick → KnowsLast first hs last → IsClean (need.Not within) hs → IsClean (need.Not within) (hs ++ hit ∷ [])
clean-not within hs hit last (inl off) knows clean = clean-more (need.Not within) hs hit clean (λ f x. no-second within hs hit off x.1)
clean-not within hs hit last (inr past) knows clean = clean-more (need.Not within) hs hit clean (λ f x. unanswered within hs hit last knows past x.1)

pub not-breaks :
    (within line : ℕ) (last : Option ℕ) (hit : Hit) → hit.second ≡ true → (IsPast last within hit.tick → ⊥)
    → Steps (need.Not within) (watch.Not last) line hit (watch.Broken (record { line = line; tick = hit.tick; fault = Answered }))
not-breaks within line last hit is soon hs number below (knows, clean) =
    broken-new (need.Not within) hs hit line Answered number clean (refl, answered within hs hit last is knows soon)

pub not-first :
    (within line : ℕ) (last : Option ℕ) (hit : Hit) → (hit.second ≡ false) ⊎ IsPast last within hit.tick → hit.first ≡ true
    → Steps (need.Not within) (watch.Not last) line hit (watch.Not (Some hit.tick))
not-first within line last hit fine is hs number below (knows, clean) = (last-new first hs hit refl below is, clean-not within hs hit last fine knows clean)

pub not-other :
    (within line : ℕ) (last : Option ℕ) (hit : Hit) → (hit.second ≡ false) ⊎ IsPast last within hit.tick → hit.first ≡ false
    → Steps (need.Not within) (watch.Not last) line hit (watch.Not last)
not-other within line last hit fine off hs number below (knows, clean) = (last-same first hs hit last refl off knows, clean-not within hs hit last fine knows clean)

pub not-broken : (within line : ℕ) (hit : Hit) (w : Watch) → ((m : Option ℕ) → w ≡ watch.Not m → ⊥) → Steps (need.Not within) w line hit w
not-broken within line hit (watch.Not m) other hs number below knows = absurd (other m refl)
not-broken within line hit (watch.Broken b) other hs number below knows = broken-kept (need.Not within) hs hit b knows
not-broken within line hit (watch.See m) other hs number below knows = absurd knows
not-broken within line hit (watch.Before m) other hs number below knows = absurd knows
not-broken within line hit (watch.Never m) other hs number below knows = absurd knows
not-broken within line hit (watch.Count m c) other hs number below knows = absurd knows

-- ---- Prepared in time

clean-before : (within : ℕ) (hs : List Hit) (hit : Hit) (last : Option ℕ) → (hit.first ≡ false) ⊎ (IsPast last within hit.tick → ⊥) → KnowsLast second hs last → IsClean (need.Before within) hs → IsClean (need.Before within) (hs ++ hit ∷ [])
clean-before within hs hit last (inl off) knows clean = clean-more (need.Before within) hs hit clean (λ f x. no-first within hs hit off x.1)
clean-before within hs hit last (inr soon) knows clean = clean-more (need.Before within) hs hit clean (λ f x. prepared within hs hit last knows soon x.1)

pub before-breaks :
    (within line : ℕ) (last : Option ℕ) (hit : Hit) → hit.first ≡ true → IsPast last within hit.tick
    → Steps (need.Before within) (watch.Before last) line hit (watch.Broken (record { line = line; tick = hit.tick; fault = Unprepared }))
before-breaks within line last hit is past hs number below (knows, clean) =
    broken-new (need.Before within) hs hit line Unprepared number clean (refl, unprepared within hs hit last is knows past)

pub before-second :
    (within line : ℕ) (last : Option ℕ) (hit : Hit) → (hit.first ≡ false) ⊎ (IsPast last within hit.tick → ⊥) → hit.second ≡ true
    → Steps (need.Before within) (watch.Before last) line hit (watch.Before (Some hit.tick))
before-second within line last hit fine is hs number below (knows, clean) = (last-new second hs hit refl below is, clean-before within hs hit last fine knows clean)

pub before-other :
    (within line : ℕ) (last : Option ℕ) (hit : Hit) → (hit.first ≡ false) ⊎ (IsPast last within hit.tick → ⊥) → hit.second ≡ false
    → Steps (need.Before within) (watch.Before last) line hit (watch.Before last)
before-other within line last hit fine off hs number below (knows, clean) = (last-same second hs hit last refl off knows, clean-before within hs hit last fine knows clean)

pub before-broken : (within line : ℕ) (hit : Hit) (w : Watch) → ((m : Option ℕ) → w ≡ watch.Before m → ⊥) → Steps (need.Before within) w line hit w
before-broken within line hit (watch.Before m) other hs number below knows = absurd (other m refl)
before-broken within line hit (watch.Broken b) other hs number below knows = broken-kept (need.Before within) hs hit b knows
before-broken within line hit (watch.See m) other hs number below knows = absurd knows
before-broken within line hit (watch.Not m) other hs number below knows = absurd knows
before-broken within line hit (watch.Never m) other hs number below knows = absurd knows
before-broken within line hit (watch.Count m c) other hs number below knows = absurd knows

-- ---- Stretches

here : (f : Bool) (hs : List Hit) (hit : Hit) (on b : Bool) → b ≡ (on && not hit.third) → KnowsStretch f hs on → KnowsHere f hs hit b
here f hs hit on b is knows = subst (λ (x : Bool). KnowsHere f hs hit x) (sym is) (stays f hs hit on hit.third refl knows)

pub never-breaks :
    (f : Bool) (line : ℕ) (on b : Bool) (hit : Hit) → b ≡ (on && not hit.third) → b ≡ true → hit.first ≡ true
    → Steps (need.Never f) (watch.Never on) line hit (watch.Broken (record { line = line; tick = hit.tick; fault = Forbidden }))
never-breaks f line on b hit is sure p hs number below (knows, clean) =
    broken-new (need.Never f) hs hit line Forbidden number clean (refl, forbidden f hs hit b sure p (here f hs hit on b is knows))

pub never-goes :
    (f : Bool) (line : ℕ) (on b next : Bool) (hit : Hit) → b ≡ (on && not hit.third) → (b ≡ false) ⊎ (hit.first ≡ false) → next ≡ (b || hit.second)
    → Steps (need.Never f) (watch.Never on) line hit (watch.Never next)
never-goes f line on b next hit is fine then hs number below (knows, clean) = (
  subst (λ (x : Bool). KnowsStretch f (hs ++ hit ∷ []) x) (sym then) (goes-on f hs hit b hit.second refl (here f hs hit on b is knows)),
  clean-more (need.Never f) hs hit clean (λ g x. none fine x.1),
)
  where
    none : (b ≡ false) ⊎ (hit.first ≡ false) → IsForbidden f (hs ++ hit ∷ []) (length hs) → ⊥
    none (inl off) x = allowed f hs hit b off (here f hs hit on b is knows) x
    none (inr off) x = no-forbidden f hs hit off x

pub never-broken : (f : Bool) (line : ℕ) (hit : Hit) (w : Watch) → ((m : Bool) → w ≡ watch.Never m → ⊥) → Steps (need.Never f) w line hit w
never-broken f line hit (watch.Never m) other hs number below knows = absurd (other m refl)
never-broken f line hit (watch.Broken b) other hs number below knows = broken-kept (need.Never f) hs hit b knows
never-broken f line hit (watch.See m) other hs number below knows = absurd knows
never-broken f line hit (watch.Not m) other hs number below knows = absurd knows
never-broken f line hit (watch.Before m) other hs number below knows = absurd knows
never-broken f line hit (watch.Count m c) other hs number below knows = absurd knows

-- ---- Counts

pub count-breaks :
    (least : ℕ) (most every : Option ℕ) (window count next line : ℕ) (hit : Hit) → next ≡ window_of every hit.tick → Lacks least window count next
    → Steps (need.Count least most every) (watch.Count window count) line hit (watch.Broken (record { line = line; tick = hit.tick; fault = Fewer }))
count-breaks least most every window count next line hit is lacks hs number below (knows, clean) =
    broken-new (need.Count least most every) hs hit line Fewer number clean
    (inl (refl, fewer-new every least hs hit window count knows (subst (λ (n : ℕ). Lacks least window count n) is lacks)))

pub count-goes :
    (least : ℕ) (most every : Option ℕ) (window count next before line : ℕ) (hit : Hit) (new : Watch) → next ≡ window_of every hit.tick
    → (Lacks least window count next → ⊥) → ((window < next) × (before ≡ 0)) ⊎ ((next ≤ window) × (before ≡ count)) → CountsOn most next before line hit new
    → Steps (need.Count least most every) (watch.Count window count) line hit new
count-goes least most every window count next before line hit new is fine either goes hs number below (knows, clean) =
    let fine' = λ (l : Lacks least window count (window_of every hit.tick)). fine (subst (λ (n : ℕ). Lacks least window count n) (sym is) l) in
    goes least every hs number is (counted either) clean (enough-new every least hs hit window count knows fine')
    (λ after same.
    subst (λ (n : ℕ). KnowsCount every least (hs ++ hit ∷ []) n after) (sym is)
    (counts-on every least hs hit window count after below knows fine' (same ∙ ap (λ (n : ℕ). count_in every n (hs ++ hit ∷ [])) is)))
  where
    counted : ((window < next) × (before ≡ 0)) ⊎ ((next ≤ window) × (before ≡ count)) → before ≡ count_in every next hs
    counted (inl (more, zero)) =
        zero ∙ sym (ap (λ (n : ℕ). count_in every n hs) is ∙ (before-it every least hs hit window count below knows).0 (subst (λ (n : ℕ). window < n) is more))
    counted (inr (less, same)) =
        same ∙ sym (ap (λ (n : ℕ). count_in every n hs) is ∙ (before-it every least hs hit window count below knows).1 (subst (λ (n : ℕ). n ≤ window) is less))

-- no more breaks such a rule at the new line
clean-count :
    (least : ℕ) (most every : Option ℕ) (hs : List Hit) (hit : Hit) → IsClean (need.Count least most every) hs
    → (IsFewerAtLine every least (hs ++ hit ∷ []) (length hs) → ⊥) → (IsMore every most (hs ++ hit ∷ []) (length hs) → ⊥)
    → IsClean (need.Count least most every) (hs ++ hit ∷ [])
clean-count least most every hs hit clean enough few = clean-more (need.Count least most every) hs hit clean none
  where
    none : (f : Fault) → BreaksHere (need.Count least most every) (hs ++ hit ∷ []) (length hs) f → ⊥
    none f (inl x) = enough x.1
    none f (inr x) = few x.1

pub count-none : (most : Option ℕ) (window before line : ℕ) (hit : Hit) → hit.first ≡ false → CountsOn most window before line hit (watch.Count window before)
count-none most window before line hit off least every hs number is counted clean enough on =
    (on before (counted ∙ sym (count-no every window hs hit off)), clean-count least most every hs hit clean enough (no-more every most hs hit off))

-- how many are in the window with the new line
with-new :
    (window before after : ℕ) (every : Option ℕ) (hs : List Hit) (hit : Hit) → hit.first ≡ true → window ≡ window_of every hit.tick → before ≡ count_in every window hs
    → after ≡ before + 1 → after ≡ count_in every window (hs ++ hit ∷ [])
with-new window before after every hs hit sure is counted more =
    let one = count-yes every window hs hit sure (sym is) in
    omega (arith, one, counted, more)

pub count-more :
    (most : Option ℕ) (window before after line : ℕ) (hit : Hit) → hit.first ≡ true → ((n : ℕ) → line ≡ n + 1 → before ≤ n → after ≡ before + 1) → IsOver most after
    → CountsOn most window before line hit (watch.Broken (record { line = line; tick = hit.tick; fault = More }))
count-more most window before after line hit sure more over least every hs number is counted clean enough on =
    broken-new (need.Count least most every) hs hit line More number clean (inr (refl, more-new every most hs hit sure over'))
  where
    one : after ≡ before + 1
    one = more (length hs) number (let fits = count-fits every window hs in omega (arith, fits, counted))

    over' : IsOver most (count_in every (window_of every hit.tick) (hs ++ hit ∷ []))
    over' =
        subst (λ (n : ℕ). IsOver most n)
        (with-new window before after every hs hit sure is counted one ∙ ap (λ (n : ℕ). count_in every n (hs ++ hit ∷ [])) is) over

pub count-next :
    (most : Option ℕ) (window before after line : ℕ) (hit : Hit) → hit.first ≡ true → ((n : ℕ) → line ≡ n + 1 → before ≤ n → after ≡ before + 1) → (IsOver most after → ⊥)
    → CountsOn most window before line hit (watch.Count window after)
count-next most window before after line hit sure more few least every hs number is counted clean enough on =
    (on after same, clean-count least most every hs hit clean enough (λ x. few (subst (λ (n : ℕ). IsOver most n) (sym there) (more-back every most hs hit x))))
  where
    one : after ≡ before + 1
    one = more (length hs) number (let fits = count-fits every window hs in omega (arith, fits, counted))

    same : after ≡ count_in every window (hs ++ hit ∷ [])
    same = with-new window before after every hs hit sure is counted one

    there : after ≡ count_in every (window_of every hit.tick) (hs ++ hit ∷ [])
    there = same ∙ ap (λ (n : ℕ). count_in every n (hs ++ hit ∷ [])) is

pub count-broken :
    (least : ℕ) (most every : Option ℕ) (line : ℕ) (hit : Hit) (w : Watch) → ((m c : ℕ) → w ≡ watch.Count m c → ⊥) → Steps (need.Count least most every) w line hit w
count-broken least most every line hit (watch.Count m c) other hs number below knows = absurd (other m c refl)
count-broken least most every line hit (watch.Broken b) other hs number below knows = broken-kept (need.Count least most every) hs hit b knows
count-broken least most every line hit (watch.See m) other hs number below knows = absurd knows
count-broken least most every line hit (watch.Not m) other hs number below knows = absurd knows
count-broken least most every line hit (watch.Before m) other hs number below knows = absurd knows
count-broken least most every line hit (watch.Never m) other hs number below knows = absurd knows
