-- Whether a rule that judges each line by itself was decided at least once: the first P of a trace, and rules `not`.
use Rattle.fb_expect.proofs.lemmas.Common.{◌≡◌, ℕ, ◌+◌, ◌<◌, ◌≤◌, Bool, true, false, List, [], ◌∷◌, ◌++◌, length, refl, sym, ap, ◌∙◌, arith, inl, inr, ◌⊎◌, Option, Some, None, tick_at, tick_of, IsClean, End, Hit, Mark}
use Rattle.std.proofs.Common.{IsTrue}
use Rattle.fb_expect.specs.Deciding.{FirstOn, IsFirstMark, IsSettled, Settles}
use Rattle.fb_expect.specs.Hits.{IsFirst}
use Rattle.fb_expect.specs.Watching.{IsMet}
use Rattle.fb_expect.specs.declared.rule.Need.TheVariants as need
use Rattle.fb_expect.specs.declared.verdict.Fault.TheVariants.{Answered}
use Rattle.fb_expect.proofs.lemmas.rules.Growing.{first}
use Rattle.fb_expect.proofs.lemmas.traces.Indexes.{Found, at-new, back, found, inside, kept, test-none, tick-new, tick-old}

-- ---- The first P

first-in : (hs : List Hit) (i : ℕ) → IsFirst hs i → i < length hs
first-in hs i is = inside first hs i refl is

pub first-kept : (line : ℕ) (hit : Hit) (m : Mark) → FirstOn (Some m) line hit (Some m)
first-kept line hit m hs number below f =
    let lt = first-in hs f.index f.first in
    let here = tick-old hs hit f.index lt in
    let same = f.tick in
    record {
      index = f.index;
      line = f.line;
      tick = same ∙ sym here;
      first = kept first hs hit f.index lt f.first;
      before = λ i less is. f.before i less (back first hs hit i (omega (arith, less, lt)) is);
      least = λ i is. by i (found first hs hit i refl is);
    }
  where
    by : (i : ℕ) → Found first hs hit i → tick_at (hs ++ hit ∷ []) f.index ≤ tick_at (hs ++ hit ∷ []) i
    by i (inl old) =
        let here = tick-old hs hit f.index (first-in hs f.index f.first) in
        let there = tick-old hs hit i old.0 in
        let up = f.least i old.1 in
        omega arith
    by i (inr new) =
        let here = tick-old hs hit f.index (first-in hs f.index f.first) in
        let there : tick_at (hs ++ hit ∷ []) i ≡ hit.tick = ap (tick_at (hs ++ hit ∷ [])) new.0 ∙ tick-new hs hit in
        let up = below f.index in
        omega arith

pub first-new : (line : ℕ) (hit : Hit) → hit.first ≡ true → FirstOn None line hit (Some (record { line = line; tick = hit.tick }))
first-new line hit is hs number below none =
    record {
      index = length hs;
      line = number;
      tick = sym (tick-new hs hit);
      first = at-new first hs hit is;
      before = λ i less q. none i (back first hs hit i less q);
      least = λ i q. by i (found first hs hit i refl q);
    }
  where
    by : (i : ℕ) → Found first hs hit i → tick_at (hs ++ hit ∷ []) (length hs) ≤ tick_at (hs ++ hit ∷ []) i
    by i (inl old) = absurd (none i old.1)
    by i (inr new) = let same = ap (tick_at (hs ++ hit ∷ [])) new.0 in omega (arith, same)

pub first-none : (line : ℕ) (hit : Hit) → hit.first ≡ false → FirstOn None line hit None
first-none line hit off hs number below none i is = by (found first hs hit i refl is)
  where
    by : Found first hs hit i → ⊥
    by (inl old) = none i old.1
    by (inr new) = test-none hit.first new.1 off

-- a line that is no P
pub first-idle : (line : ℕ) (hit : Hit) (o : Option Mark) → hit.first ≡ false → FirstOn o line hit o
first-idle line hit None off = first-none line hit off
first-idle line hit (Some m) off = first-kept line hit m

-- ---- Rules `not`

over-first : (within : ℕ) (hs : List Hit) (end : End) (m : Mark) → IsFirstMark hs m → m.tick + within < tick_of end → (i : ℕ) × IsSettled within hs end i
over-first within hs end m f over = let same = f.tick in (f.index, record { first = f.first; settled = inr (omega (arith, over, same)) })

pub not-settles :
    (within : ℕ) (hs : List Hit) (end : End) (m : Mark) (is_over : Bool) → ((IsTrue is_over → m.tick + within < tick_of end) × (m.tick + within < tick_of end → IsTrue is_over))
    → IsFirstMark hs m → IsClean (need.Not within) hs → Settles within hs end is_over
not-settles within hs end m is_over past f clean =
    (λ yes. over-first within hs end m f (past.0 yes), λ x. by x.0 x.1.first x.1.settled)
  where
    by : (i : ℕ) → IsFirst hs i → IsMet within hs i ⊎ (tick_at hs i + within < tick_of end) → IsTrue is_over
    by i is (inl met) =
        absurd (clean met.answer Answered (refl, record { second = met.second; cause = i; before = met.after; first = is; soon = met.soon }))
    by i is (inr over) =
        let up = f.least i is in
        let same = f.tick in
        past.1 (omega (arith, up, same, over))
