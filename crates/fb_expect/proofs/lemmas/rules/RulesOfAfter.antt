-- Rules that ask for what follows: what is known of them with one more line.
use Rattle.fb_expect.proofs.lemmas.Common.{◌≡◌, ℕ, ◌+◌, ◌<◌, ◌≤◌, Bool, true, false, List, [], ◌∷◌, ◌++◌, length, refl, sym, ap, subst, ◌∙◌, arith, inl, inr, Option, Some, None, cases_lt, length_push, tick_at, IsBelow, KnowsSee, Hit, Breach, Unanswered, Mark}
use Rattle.fb_expect.specs.Hits.{IsFirst, IsSecond}
use Rattle.fb_expect.specs.Watching.{AreMet, InTime, IsLate, IsMet, Waits}
use Rattle.fb_expect.proofs.lemmas.traces.Indexes.{Found, at-new, back, found, inside, kept, test-none, tick-new, tick-old}

abbrev first : Hit → Bool
first h = h.first

abbrev second : Hit → Bool
second h = h.second

first-in : (hs : List Hit) (i : ℕ) → IsFirst hs i → i < length hs
first-in hs i is = inside first hs i refl is

second-in : (hs : List Hit) (i : ℕ) → IsSecond hs i → i < length hs
second-in hs i is = inside second hs i refl is

met-kept : (within : ℕ) (hs : List Hit) (h : Hit) (i : ℕ) → IsMet within hs i → IsMet within (hs ++ h ∷ []) i
met-kept within hs h i m =
    let after = m.after in
    let soon = m.soon in
    let lt = second-in hs m.answer m.second in
    let a = tick-old hs h m.answer lt in
    let b = tick-old hs h i (omega arith) in
    record { answer = m.answer; after = after; second = kept second hs h m.answer lt m.second; soon = omega arith }

are-met-kept : (within : ℕ) (hs : List Hit) (h : Hit) (index : ℕ) → index ≤ length hs → AreMet within hs index → AreMet within (hs ++ h ∷ []) index
are-met-kept within hs h index le are i lt is = met-kept within hs h i (are i lt (back first hs h i (omega arith) is))

-- a line comes too late for the one that waits
pub late :
    (within : ℕ) (hs : List Hit) (h : Hit) (m : Mark) → Waits within hs m → m.tick + within < h.tick
    → IsLate within (hs ++ h ∷ []) (record { line = m.line; tick = m.tick; fault = Unanswered })
late within hs h m w over =
    let index = w.index in
    let lt = first-in hs index w.first in
    let long = length_push hs h in
    let here = tick-old hs h index lt in
    let new = tick-new hs h in
    let same = w.tick in
    record {
      index = index;
      line = w.line;
      tick = same ∙ sym here;
      fault = refl;
      inside = omega arith;
      first = kept first hs h index lt w.first;
      none = λ j after is. by j after (found second hs h j refl is);
      before = are-met-kept within hs h index (omega arith) w.before;
      later = length hs;
      over = omega arith;
    }
  where
    by : (j : ℕ) → w.index < j → Found second hs h j → tick_at (hs ++ h ∷ []) w.index + within < tick_at (hs ++ h ∷ []) j
    by j after (inl old) = absurd (w.none j after old.1)
    by j after (inr new) =
        let lt = first-in hs w.index w.first in
        let here = tick-old hs h w.index lt in
        let there : tick_at (hs ++ h ∷ []) j ≡ h.tick = ap (tick_at (hs ++ h ∷ [])) new.0 ∙ tick-new hs h in
        let same = w.tick in
        omega arith

-- it stays late
pub late-kept : (within : ℕ) (hs : List Hit) (h : Hit) (b : Breach) → IsBelow hs h.tick → IsLate within hs b → IsLate within (hs ++ h ∷ []) b
late-kept within hs h b below l =
    let lt = l.inside in
    let long = length_push hs h in
    let here = tick-old hs h l.index lt in
    let far = l.over in
    record {
      index = l.index;
      line = l.line;
      tick = l.tick ∙ sym here;
      fault = l.fault;
      inside = omega arith;
      first = kept first hs h l.index lt l.first;
      none = λ j after is. by j after (found second hs h j refl is);
      before = are-met-kept within hs h l.index (omega arith) l.before;
      later = length hs;
      over = (let most = below l.later in let new = tick-new hs h in omega arith);
    }
  where
    by : (j : ℕ) → l.index < j → Found second hs h j → tick_at (hs ++ h ∷ []) l.index + within < tick_at (hs ++ h ∷ []) j
    by j after (inl old) =
        let here = tick-old hs h l.index l.inside in
        let there = tick-old hs h j old.0 in
        let far = l.none j after old.1 in
        omega arith
    by j after (inr new) =
        let here = tick-old hs h l.index l.inside in
        let there : tick_at (hs ++ h ∷ []) j ≡ h.tick = ap (tick_at (hs ++ h ∷ [])) new.0 ∙ tick-new hs h in
        let far = l.over in
        let most = below l.later in
        omega arith

-- ---- What waits next

-- a Q that is in time answers all P before it
pub answers :
    (within : ℕ) (hs : List Hit) (h : Hit) (mark : Option Mark) → h.second ≡ true → InTime within mark h.tick → KnowsSee within hs mark
    → AreMet within (hs ++ h ∷ []) (length hs)
answers within hs h None is time knows i lt p = met-kept within hs h i (knows i (back first hs h i lt p))
answers within hs h (Some m) is time w i lt p =
    elim (cases_lt i w.index) as (λ _. IsMet within (hs ++ h ∷ []) i) [
      | inl before ↦ met-kept within hs h i (w.before i before (back first hs h i lt p))
      | inr after ↦
          (let own = rises i (back first hs h i lt p) after in
          let here = tick-old hs h i lt in
          let new = tick-new hs h in
          let same = w.tick in
          record { answer = length hs; after = lt; second = at-new second hs h is; soon = omega arith })
    ]
  where
    rises : (i : ℕ) → IsFirst hs i → w.index ≤ i → tick_at hs w.index ≤ tick_at hs i
    rises i q le =
        elim (cases_lt w.index i) as (λ _. tick_at hs w.index ≤ tick_at hs i) [
          | inl more ↦ w.after i more q
          | inr less ↦ (let same : i ≡ w.index = omega arith in subst (λ (k : ℕ). tick_at hs w.index ≤ tick_at hs k) (sym same) (omega arith))
        ]

-- where nothing waited, all P before a line are answered
pub none-waits : (within : ℕ) (hs : List Hit) (h : Hit) → KnowsSee within hs None → AreMet within (hs ++ h ∷ []) (length hs)
none-waits within hs h knows i lt p = met-kept within hs h i (knows i (back first hs h i lt p))

-- a line that is a P waits
pub waits-new :
    (within line : ℕ) (hs : List Hit) (h : Hit) → line ≡ length hs + 1 → h.first ≡ true → AreMet within (hs ++ h ∷ []) (length hs)
    → Waits within (hs ++ h ∷ []) (record { line = line; tick = h.tick })
waits-new within line hs h number is are =
    let long = length_push hs h in
    record {
      index = length hs;
      line = number;
      tick = sym (tick-new hs h);
      first = at-new first hs h is;
      none = λ j after q. (let lt = second-in (hs ++ h ∷ []) j q in absurd (omega arith));
      before = are;
      after = λ j after q. (let lt = first-in (hs ++ h ∷ []) j q in absurd (omega arith));
    }

-- a line that is none does not
pub none-new : (within : ℕ) (hs : List Hit) (h : Hit) → h.first ≡ false → AreMet within (hs ++ h ∷ []) (length hs) → KnowsSee within (hs ++ h ∷ []) None
none-new within hs h off are i is = by (found first hs h i refl is)
  where
    by : Found first hs h i → IsMet within (hs ++ h ∷ []) i
    by (inl old) = are i old.0 is
    by (inr new) = test-none h.first new.1 off

-- what waited waits on
pub waits-on : (within : ℕ) (hs : List Hit) (h : Hit) (m : Mark) → IsBelow hs h.tick → h.second ≡ false → Waits within hs m → Waits within (hs ++ h ∷ []) m
waits-on within hs h m below off w =
    let lt = first-in hs w.index w.first in
    record {
      index = w.index;
      line = w.line;
      tick = w.tick ∙ sym (tick-old hs h w.index lt);
      first = kept first hs h w.index lt w.first;
      none = λ j after is. other j after (found second hs h j refl is);
      before = are-met-kept within hs h w.index (omega arith) w.before;
      after = λ i more is. rise i more (found first hs h i refl is);
    }
  where
    other : (j : ℕ) → w.index < j → Found second hs h j → ⊥
    other j after (inl old) = w.none j after old.1
    other j after (inr new) = test-none h.second new.1 off

    rise : (i : ℕ) → w.index < i → Found first hs h i → tick_at (hs ++ h ∷ []) w.index ≤ tick_at (hs ++ h ∷ []) i
    rise i more (inl old) =
        let lt = first-in hs w.index w.first in
        let here = tick-old hs h w.index lt in
        let there = tick-old hs h i old.0 in
        let up = w.after i more old.1 in
        omega arith
    rise i more (inr new) =
        let lt = first-in hs w.index w.first in
        let here = tick-old hs h w.index lt in
        let there : tick_at (hs ++ h ∷ []) i ≡ h.tick = ap (tick_at (hs ++ h ∷ [])) new.0 ∙ tick-new hs h in
        let up = below w.index in
        omega arith
