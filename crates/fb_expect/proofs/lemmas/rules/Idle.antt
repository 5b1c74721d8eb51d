-- Lines that do not matter to a rule.
use Rattle.fb_expect.proofs.lemmas.Common.{◌≡◌, ℕ, ◌+◌, Bool, true, false, List, [], ◌∷◌, ◌++◌, refl, sym, ap₂, subst, ◌∙◌, arith, inl, inr, ◌⊎◌, Option, Some, None, not, ◌&&◌, ◌||◌, list_all, list_any, Event, is_at, KnowsCount, Steps, Hit, Watcher, Pattern, Need, Rule, Watch}
use Rattle.fb_expect.specs.Hits.{hit_of, may_meet}
use Rattle.fb_expect.specs.Judging.{Moves, StateOn}
use Rattle.fb_expect.specs.Paired.{pair_hit_of, within_of}
use Rattle.fb_expect.specs.Passing.{IsElsewhere, IsElsewhereOf, IsTimeless, PassesOver, is_marked}
use Rattle.fb_expect.specs.Patterns.{has_all, has_kinds, is_met, meets}
use Rattle.fb_expect.specs.Sights.{may_sight, sight_of, sights_of}
use Rattle.fb_expect.specs.Watching.{Knows}
use Rattle.fb_expect.specs.declared.judging.State.{State}
use Rattle.fb_expect.specs.declared.judging.State.TheVariants.{Alone, Paired}
use Rattle.fb_expect.specs.declared.rule.Need.TheVariants as need
use Rattle.fb_expect.specs.declared.watch.Watch.TheVariants as watch
use Rattle.fb_expect.proofs.lemmas.pairs.Coupled.{on-idle}
use Rattle.fb_expect.proofs.lemmas.rules.Following.{alone-on, moves, paired-on}
use Rattle.fb_expect.proofs.lemmas.rules.Settling.{first-idle}
use Rattle.fb_expect.proofs.lemmas.rules.Tallying.{idle-tally}
use Rattle.fb_expect.proofs.lemmas.rules.RulesOfAfter.{none-new, none-waits, waits-on}
use Rattle.fb_expect.proofs.lemmas.patterns.Sighting.{lacks-all, lacks-kinds, seen, sight-more}
use Rattle.fb_expect.proofs.lemmas.rules.Stepping.{before-broken, before-other, count-broken, count-goes, count-none, never-broken, never-goes, not-broken, not-other, see-broken}

-- a line that meets nothing
pub record IsNothing (h : Hit) : Type 0 where
  pub first : h.first ≡ false
  pub second : h.second ≡ false
  pub third : h.third ≡ false

-- ---- What is known stays

idle-see : (within line : ℕ) (hit : Hit) (w : Watch) → IsNothing hit → Steps (need.See within) w line hit w
idle-see within line hit (watch.See None) off hs number below knows = none-new within hs hit off.first (none-waits within hs hit knows)
idle-see within line hit (watch.See (Some m)) off hs number below knows = waits-on within hs hit m below off.second knows
idle-see within line hit (watch.Broken b) off hs number below knows = see-broken within line hit (watch.Broken b) (λ m same. cc) hs number below knows
idle-see within line hit (watch.Not m) off hs number below knows = see-broken within line hit (watch.Not m) (λ n same. cc) hs number below knows
idle-see within line hit (watch.Before m) off hs number below knows = see-broken within line hit (watch.Before m) (λ n same. cc) hs number below knows
idle-see within line hit (watch.Never m) off hs number below knows = see-broken within line hit (watch.Never m) (λ n same. cc) hs number below knows
idle-see within line hit (watch.Count m k) off hs number below knows = see-broken within line hit (watch.Count m k) (λ n same. cc) hs number below knows

idle-not : (within line : ℕ) (hit : Hit) (w : Watch) → IsNothing hit → Steps (need.Not within) w line hit w
idle-not within line hit (watch.Not last) off = not-other within line last hit (inl off.second) off.first
idle-not within line hit (watch.Broken b) off = not-broken within line hit (watch.Broken b) (λ m same. cc)
idle-not within line hit (watch.See m) off = not-broken within line hit (watch.See m) (λ n same. cc)
idle-not within line hit (watch.Before m) off = not-broken within line hit (watch.Before m) (λ n same. cc)
idle-not within line hit (watch.Never m) off = not-broken within line hit (watch.Never m) (λ n same. cc)
idle-not within line hit (watch.Count m k) off = not-broken within line hit (watch.Count m k) (λ n same. cc)

idle-before : (within line : ℕ) (hit : Hit) (w : Watch) → IsNothing hit → Steps (need.Before within) w line hit w
idle-before within line hit (watch.Before last) off = before-other within line last hit (inl off.first) off.second
idle-before within line hit (watch.Broken b) off = before-broken within line hit (watch.Broken b) (λ m same. cc)
idle-before within line hit (watch.See m) off = before-broken within line hit (watch.See m) (λ n same. cc)
idle-before within line hit (watch.Not m) off = before-broken within line hit (watch.Not m) (λ n same. cc)
idle-before within line hit (watch.Never m) off = before-broken within line hit (watch.Never m) (λ n same. cc)
idle-before within line hit (watch.Count m k) off = before-broken within line hit (watch.Count m k) (λ n same. cc)

stays-on : (on third : Bool) → third ≡ false → on ≡ (on && not third)
stays-on true true off = off
stays-on true false off = refl
stays-on false third off = refl

goes-on : (on second : Bool) → second ≡ false → on ≡ (on || second)
goes-on true second off = refl
goes-on false second off = sym off

idle-never : (from_start : Bool) (line : ℕ) (hit : Hit) (w : Watch) → IsNothing hit → Steps (need.Never from_start) w line hit w
idle-never from_start line hit (watch.Never on) off =
    never-goes from_start line on on on hit (stays-on on hit.third off.third) (inr off.first) (goes-on on hit.second off.second)
idle-never from_start line hit (watch.Broken b) off = never-broken from_start line hit (watch.Broken b) (λ m same. cc)
idle-never from_start line hit (watch.See m) off = never-broken from_start line hit (watch.See m) (λ n same. cc)
idle-never from_start line hit (watch.Not m) off = never-broken from_start line hit (watch.Not m) (λ n same. cc)
idle-never from_start line hit (watch.Before m) off = never-broken from_start line hit (watch.Before m) (λ n same. cc)
idle-never from_start line hit (watch.Count m k) off = never-broken from_start line hit (watch.Count m k) (λ n same. cc)

-- without windows the first is that of all lines
one-window : (least window count : ℕ) (hs : List Hit) → KnowsCount None least hs window count → window ≡ 0
one-window least window count hs knows = by knows.last
  where
    by : ((window ≡ 0) ⊎ ((i : ℕ) × (window ≡ 0))) → window ≡ 0
    by (inl none) = none
    by (inr (i, none)) = none

idle-count : (least : ℕ) (most : Option ℕ) (line : ℕ) (hit : Hit) (w : Watch) → IsNothing hit → Steps (need.Count least most None) w line hit w
idle-count least most line hit (watch.Count window count) off hs number below knows =
    let none = one-window least window count hs knows.0 in
    subst (λ (n : ℕ). Knows (need.Count least most None) (hs ++ hit ∷ []) (watch.Count n count)) (sym none)
    (count-goes least most None 0 count 0 count line hit (watch.Count 0 count) refl (λ lacks. absurd (let bad = lacks.0 in omega arith)) (inr (omega arith, refl))
    (count-none most 0 count line hit off.first) hs number below
    (subst (λ (n : ℕ). Knows (need.Count least most None) hs (watch.Count n count)) none knows))
idle-count least most line hit (watch.Broken b) off hs number below knows = count-broken least most None line hit (watch.Broken b) (λ m k same. cc) hs number below knows
idle-count least most line hit (watch.See m) off hs number below knows = count-broken least most None line hit (watch.See m) (λ n k same. cc) hs number below knows
idle-count least most line hit (watch.Not m) off hs number below knows = count-broken least most None line hit (watch.Not m) (λ n k same. cc) hs number below knows
idle-count least most line hit (watch.Before m) off hs number below knows = count-broken least most None line hit (watch.Before m) (λ n k same. cc) hs number below knows
idle-count least most line hit (watch.Never m) off hs number below knows = count-broken least most None line hit (watch.Never m) (λ n k same. cc) hs number below knows

idle : (n : Need) (line : ℕ) (hit : Hit) (w : Watch) → IsTimeless n → IsNothing hit → Steps n w line hit w
idle (need.See within) line hit w free off = idle-see within line hit w off
idle (need.Not within) line hit w free off = idle-not within line hit w off
idle (need.Before within) line hit w free off = idle-before within line hit w off
idle (need.Never from_start) line hit w free off = idle-never from_start line hit w off
idle (need.Count least most every) line hit w free off =
    subst (λ (e : Option ℕ). Steps (need.Count least most e) w line hit w) (sym free) (idle-count least most line hit w off)

-- ---- What is met and seen

and-off : (x y : Bool) → x ≡ false → (x && y) ≡ false
and-off true y a = absurd (let bad : true ≡ false = a in cc)
and-off false y a = refl

unmet : (p : Pattern) (e : Event) → IsElsewhere p e → meets p e ≡ false
unfolding meets
unmet p e off = and-off (is_at p e) (list_all (λ c. is_met c e.values) p.conditions) off

may-unmet : (o : Option Pattern) (e : Event) → IsElsewhereOf o e → may_meet o e ≡ false
may-unmet None e off = refl
may-unmet (Some p) e off = unmet p e off

nothing : (r : Rule) (e : Event) → PassesOver r e → IsNothing (hit_of r e)
nothing r e passes =
    record { first = unmet r.first e passes.first; second = may-unmet r.second e passes.second; third = may-unmet r.third e passes.third }

same-sight : (p : Pattern) (es : List Event) (e : Event) → IsElsewhere p e → sight_of p (es ++ e ∷ []) ≡ sight_of p es
same-sight p es e off =
    sight-more p es e
    ∙ ap₂ (λ (x y : Bool). seen x y (list_any (has_all p) es || has_all p e) (list_any (is_at p) es || is_at p e)) (or-off (list_any (meets p) es) (meets p e) (unmet p e off))
    (or-off (list_any (has_kinds p) es) (has_kinds p e) (lacks-kinds p e off))
    ∙ ap₂ (seen (list_any (meets p) es) (list_any (has_kinds p) es)) (or-off (list_any (has_all p) es) (has_all p e) (lacks-all p e off))
    (or-off (list_any (is_at p) es) (is_at p e) off)
  where
    or-off : (x y : Bool) → y ≡ false → (x || y) ≡ x
    or-off true y b = refl
    or-off false true b = b
    or-off false false b = refl

same-may-sight : (o : Option Pattern) (es : List Event) (e : Event) → IsElsewhereOf o e → may_sight o (es ++ e ∷ []) ≡ may_sight o es
same-may-sight None es e off = refl
same-may-sight (Some p) es e off = same-sight p es e off

same-sights : (r : Rule) (es : List Event) (e : Event) → PassesOver r e → sights_of r (es ++ e ∷ []) ≡ sights_of r es
same-sights r es e passes =
    let a = same-sight r.first es e passes.first in
    let b = same-may-sight r.second es e passes.second in
    let d = same-may-sight r.third es e passes.third in
    cc

-- ---- A line that is passed over

idle-state : (r : Rule) (number : ℕ) (e : Event) (s : State) → PassesOver r e → StateOn r number e s s
idle-state r number e (Alone w) passes = alone-on r number e (hit_of r e) w w refl (idle r.need number (hit_of r e) w passes.timeless (nothing r e passes))
idle-state r number e (Paired s) passes =
    let none = nothing r e passes in
    paired-on r number e s s (λ p is. on-idle (within_of r.need) number p s (pair_hit_of r e) none.first none.second)

pub passed : (number : ℕ) (e : Event) (w : Watcher) → is_marked w.ports.marks e.port ≡ false → Moves number e w w
passed number e w off = record {
  rule = refl;
  follows = λ es counted below f.
      (let passes = f.covers e off in
      let none = nothing w.rule.now e passes in
      (moves number e w w (hit_of w.rule.now e) refl refl refl (idle-state w.rule.now number e w.state passes)
      (λ hs long counts. idle-tally w.rule.now.need hs (hit_of w.rule.now e) w.tally none.first none.second none.third counts)
      (first-idle number (hit_of w.rule.now e) w.first none.first) (λ fs same. same ∙ sym (same-sights w.rule.now fs e passes))).follows es counted below f);
}
