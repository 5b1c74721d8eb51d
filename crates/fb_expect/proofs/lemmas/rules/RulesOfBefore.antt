-- Rules that ask for what comes before: what is known of them with one more line.
use Rattle.fb_expect.proofs.lemmas.Common.{◌≡◌, ℕ, ◌+◌, ◌<◌, ◌≤◌, Bool, true, false, List, [], ◌∷◌, ◌++◌, length, refl, sym, ap, ◌∙◌, arith, inl, inr, Option, Some, None, hit_at, tick_at, IsBelow, IsPast, KnowsLast, Hit}
use Rattle.fb_expect.specs.Hits.{no_hit}
use Rattle.fb_expect.specs.Rules.{IsAnswered, IsUnprepared}
use Rattle.fb_expect.specs.Watching.{IsLastTick}
use Rattle.fb_expect.proofs.lemmas.rules.Growing.{first, second}
use Rattle.fb_expect.proofs.lemmas.traces.Indexes.{Found, at-new, back, found, inside, kept, new-back, test-none, tick-new, tick-old}

-- the last line of a kind is the new one
pub last-new : (test : Hit → Bool) (hs : List Hit) (h : Hit) → test no_hit ≡ false → IsBelow hs h.tick → test h ≡ true → IsLastTick test (hs ++ h ∷ []) h.tick
last-new test hs h none below is =
    record { index = length hs; is = at-new test hs h is; same = sym (tick-new hs h); most = λ i sure. most i (found test hs h i none sure) }
  where
    most : (i : ℕ) → Found test hs h i → tick_at (hs ++ h ∷ []) i ≤ h.tick
    most i (inl old) = let a = tick-old hs h i old.0 in let b = below i in omega arith
    most i (inr new) = let a : tick_at (hs ++ h ∷ []) i ≡ h.tick = ap (tick_at (hs ++ h ∷ [])) new.0 ∙ tick-new hs h in omega arith

-- it is the one that it was
pub last-same : (test : Hit → Bool) (hs : List Hit) (h : Hit) (last : Option ℕ) → test no_hit ≡ false → test h ≡ false → KnowsLast test hs last → KnowsLast test (hs ++ h ∷ []) last
last-same test hs h None none off knows = λ i is. by i (found test hs h i none is)
  where
    by : (i : ℕ) → Found test hs h i → ⊥
    by i (inl old) = knows i old.1
    by i (inr new) = test-none (test h) new.1 off
last-same test hs h (Some t) none off knows =
    let lt = inside test hs knows.index none knows.is in
    record {
      index = knows.index;
      is = kept test hs h knows.index lt knows.is;
      same = knows.same ∙ sym (tick-old hs h knows.index lt);
      most = λ i sure. most i (found test hs h i none sure);
    }
  where
    most : (i : ℕ) → Found test hs h i → tick_at (hs ++ h ∷ []) i ≤ t
    most i (inl old) = let a = tick-old hs h i old.0 in let b = knows.most i old.1 in omega arith
    most i (inr new) = test-none (test h) new.1 off

-- ---- What must not follow

pub answered : (within : ℕ) (hs : List Hit) (h : Hit) (last : Option ℕ) → h.second ≡ true → KnowsLast first hs last → (IsPast last within h.tick → ⊥) → IsAnswered within (hs ++ h ∷ []) (length hs)
answered within hs h None is knows soon = absurd (soon tt)
answered within hs h (Some t) is knows soon =
    let lt = inside first hs knows.index refl knows.is in
    let same = knows.same in
    let new = tick-new hs h in
    let old = tick-old hs h knows.index lt in
    record {
      second = at-new second hs h is;
      cause = knows.index;
      before = lt;
      first = kept first hs h knows.index lt knows.is;
      soon = omega (arith, soon);
    }

pub unanswered : (within : ℕ) (hs : List Hit) (h : Hit) (last : Option ℕ) → KnowsLast first hs last → IsPast last within h.tick → IsAnswered within (hs ++ h ∷ []) (length hs) → ⊥
unanswered within hs h None knows past x = knows x.cause (back first hs h x.cause x.before x.first)
unanswered within hs h (Some t) knows past x =
    let most = knows.most x.cause (back first hs h x.cause x.before x.first) in
    let soon = x.soon in
    let new = tick-new hs h in
    let old = tick-old hs h x.cause x.before in
    omega arith

pub no-second : (within : ℕ) (hs : List Hit) (h : Hit) → h.second ≡ false → IsAnswered within (hs ++ h ∷ []) (length hs) → ⊥
no-second within hs h off x = test-none h.second (new-back second hs h x.second) off

-- ---- What must come before

pub unprepared : (within : ℕ) (hs : List Hit) (h : Hit) (last : Option ℕ) → h.first ≡ true → KnowsLast second hs last → IsPast last within h.tick → IsUnprepared within (hs ++ h ∷ []) (length hs)
unprepared within hs h last is knows past = record { first = at-new first hs h is; none = λ j before q. far last knows past j before (back second hs h j before q) }
  where
    far : (l : Option ℕ) → KnowsLast second hs l → IsPast l within h.tick → (j : ℕ) → j < length hs → second (hit_at hs j) ≡ true → tick_at (hs ++ h ∷ []) j + within < tick_at (hs ++ h ∷ []) (length hs)
    far None knows past j before q = absurd (knows j q)
    far (Some t) knows past j before q =
        let most = knows.most j q in
        let new = tick-new hs h in
        let old = tick-old hs h j before in
        omega arith

pub prepared : (within : ℕ) (hs : List Hit) (h : Hit) (last : Option ℕ) → KnowsLast second hs last → (IsPast last within h.tick → ⊥) → IsUnprepared within (hs ++ h ∷ []) (length hs) → ⊥
prepared within hs h None knows soon x = soon tt
prepared within hs h (Some t) knows soon x =
    let lt = inside second hs knows.index refl knows.is in
    let same = knows.same in
    let new = tick-new hs h in
    let old = tick-old hs h knows.index lt in
    let far = x.none knows.index lt (kept second hs h knows.index lt knows.is) in
    soon (omega arith)

pub no-first : (within : ℕ) (hs : List Hit) (h : Hit) → h.first ≡ false → IsUnprepared within (hs ++ h ∷ []) (length hs) → ⊥
no-first within hs h off x = test-none h.first (new-back first hs h x.first) off
