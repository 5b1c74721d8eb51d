-- How often rules are decided by the lines of a trace (docs/FORMATS.md, "The report (TAP)"; this project's own).
use Rattle.std.specs.Prelude.{◌≡◌, ◌⊎◌, ◌↔◌, IsTrue, ℕ, zero, suc, ◌+◌, ◌-◌, ◌<◌, ◌≤◌, Bool, true, false, not, ◌==◌, nat_lt, List, [], ◌∷◌, ◌++◌, length, count_by, Option, Some, None, is_some}
use Rattle.fb_expect.specs.Hits.{IsFirst, tick_at}
use Rattle.fb_expect.specs.Rules.{IsFromStart, IsSince, windows_over}
use Rattle.fb_expect.specs.Traces.{tick_of}
use Rattle.fb_expect.specs.Watching.{IsBelow, IsMet, Knows, KnowsStretch}
use Rattle.fb_expect.specs.declared.ending.End.{End}
use Rattle.fb_expect.specs.declared.hit.Hit.{Hit}
use Rattle.fb_expect.specs.declared.rule.Need.{Need}
use Rattle.fb_expect.specs.declared.rule.Need.TheVariants as need
use Rattle.fb_expect.specs.declared.tally.Tally.{Tally}
use Rattle.fb_expect.specs.declared.tally.Tally.TheVariants as tally
use Rattle.fb_expect.specs.declared.watch.Mark.{Mark}
use Rattle.fb_expect.specs.declared.watch.Watch.{Watch}

-- how many lines are P
abbrev pub count_first : List Hit → ℕ
count_first hs = count_by (λ h. h.first) hs

-- a line in a stretch, where a P is forbidden
abbrev pub IsInside : (from_start : Bool) → List Hit → ℕ → Type 0
IsInside from_start hs k = IsFromStart from_start hs k ⊎ IsSince hs k

-- of the lines before an index this many are in stretches
abbrev pub AreInside : (from_start : Bool) → List Hit → (before count : ℕ) → Type 0
AreInside f hs zero count = count ≡ 0
AreInside f hs (suc k) count =
    (IsInside f hs k × ((fewer : ℕ) × (count ≡ fewer + 1) × AreInside f hs k fewer)) ⊎ ((IsInside f hs k → ⊥) × AreInside f hs k count)

-- The lines with this end decide the rule so often: at each P, at each line in a stretch, and at the end of each window.
abbrev pub IsDecided : Need → List Hit → End → ℕ → Type 0
IsDecided (need.See within) hs end n = n ≡ count_first hs
IsDecided (need.Not within) hs end n = n ≡ count_first hs
IsDecided (need.Before within) hs end n = n ≡ count_first hs
IsDecided (need.Never from_start) hs end n = AreInside from_start hs (length hs) n
IsDecided (need.Count least most every) hs end n = n ≡ windows_over every end

-- ---- Whether a rule was decided at least once

-- A P is decided: a Q follows it in time, or its time is over when the trace ends.
pub record IsSettled (within : ℕ) (hs : List Hit) (end : End) (i : ℕ) : Type 0 where
  pub first : IsFirst hs i
  pub settled : IsMet within hs i ⊎ (tick_at hs i + within < tick_of end)

-- whether some P is
abbrev pub Settles : (within : ℕ) → List Hit → End → Bool → Type 0
Settles within hs end applied = IsTrue applied ↔ ((i : ℕ) × IsSettled within hs end i)

-- Whether a rule that judges each line by itself was decided at least once. Each P of a rule `before` is, each line in a stretch, and each window.
abbrev pub IsApplied : Need → List Hit → End → (often : ℕ) → (applied : Bool) → Type 0
IsApplied (need.See within) hs end often applied = Settles within hs end applied
IsApplied (need.Not within) hs end often applied = Settles within hs end applied
IsApplied (need.Before within) hs end often applied = applied ≡ not (often == 0)
IsApplied (need.Never from_start) hs end often applied = applied ≡ not (often == 0)
IsApplied (need.Count least most every) hs end often applied = applied ≡ not (often == 0)

-- ---- While a trace is read

-- The marked line is the first P, and no P is of an earlier tick.
pub record IsFirstMark (hs : List Hit) (m : Mark) : Type 0 where
  pub index : ℕ
  pub line : m.line ≡ index + 1
  pub tick : m.tick ≡ tick_at hs index
  pub first : IsFirst hs index
  pub before : (i : ℕ) → i < index → IsFirst hs i → ⊥
  pub least : (i : ℕ) → IsFirst hs i → tick_at hs index ≤ tick_at hs i

abbrev pub KnowsFirst : List Hit → Option Mark → Type 0
KnowsFirst hs None = (i : ℕ) → IsFirst hs i → ⊥
KnowsFirst hs (Some m) = IsFirstMark hs m

-- the first P with one more line, of no earlier tick and of this number
abbrev pub FirstOn : Option Mark → (line : ℕ) → Hit → Option Mark → Type 0
FirstOn old line hit new = (hs : List Hit) → line ≡ length hs + 1 → IsBelow hs hit.tick → KnowsFirst hs old → KnowsFirst (hs ++ hit ∷ []) new

-- the first P is before what waits, or nothing does
abbrev pub comes_before : (first : Mark) → (waiting : Option Mark) → Bool
comes_before first None = true
comes_before first (Some m) = nat_lt first.line m.line

-- all lines were read: whether the rule, of which this is known, was decided
abbrev pub Applies : Need → Watch → Option Mark → End → (often : ℕ) → (applied : Bool) → Type 0
Applies n w first end often applied =
    (hs : List Hit) → IsBelow hs (tick_of end) → KnowsFirst hs first → Knows n hs w → IsApplied n hs end often applied

-- the lines in stretches, of this many lines: those of stretches that are over, and those of the one since this many lines
abbrev pub judged_up_to : (since : Option ℕ) → (closed lines : ℕ) → ℕ
judged_up_to None closed lines = closed
judged_up_to (Some start) closed lines = closed + (lines - start)

-- the lines before a stretch that begins after this line, if it is a Q
abbrev pub fresh : (second : Bool) → (line : ℕ) → Option ℕ
fresh true line = Some line
fresh false line = None

-- the lines before the stretch that is not over after this line
abbrev pub since_after : (since : Option ℕ) → (third second : Bool) → (line : ℕ) → Option ℕ
since_after since true second line = fresh second line
since_after (Some start) false second line = Some start
since_after None false second line = fresh second line

-- the lines in stretches that are over after this line
abbrev pub closed_after : (since : Option ℕ) → (closed : ℕ) → (third : Bool) → (line : ℕ) → ℕ
closed_after since closed true line = judged_up_to since closed (line - 1)
closed_after since closed false line = closed

-- a stretch that is not over began after at most this many lines
abbrev pub BeganBy : (since : Option ℕ) → (lines : ℕ) → Type 0
BeganBy None lines = Unit {0}
BeganBy (Some start) lines = start ≤ lines

pub record KnowsInside (from_start : Bool) (hs : List Hit) (since : Option ℕ) (closed : ℕ) : Type 0 where
  pub stretch : KnowsStretch from_start hs (is_some since)
  pub began : BeganBy since (length hs)
  pub counted : AreInside from_start hs (length hs) (judged_up_to since closed (length hs))

-- What is counted of a rule when these lines were read.
abbrev pub Tallies : Need → List Hit → Tally → Type 0
Tallies (need.See within) hs (tally.Events count) = count ≡ count_first hs
Tallies (need.Not within) hs (tally.Events count) = count ≡ count_first hs
Tallies (need.Before within) hs (tally.Events count) = count ≡ count_first hs
Tallies (need.Never from_start) hs (tally.Stretches since closed) = KnowsInside from_start hs since closed
Tallies (need.Count least most every) hs tally.Windows = Unit {0}
Tallies _ hs _ = ⊥

-- windows are counted at the end
abbrev pub AreWindows : Need → End → ℕ → Type 0
AreWindows (need.Count least most every) end n = n ≡ windows_over every end
AreWindows _ end n = Unit {0}

-- one more line is counted, which has this number
abbrev pub Counts : Tally → (line : ℕ) → Hit → Tally → Type 0
Counts old line hit new = (n : Need) (hs : List Hit) → line ≡ length hs + 1 → Tallies n hs old → Tallies n (hs ++ hit ∷ []) new

-- all lines are counted, and this is the number of the last one
abbrev pub Decides : Need → Tally → (line : ℕ) → End → ℕ → Type 0
Decides n t line end count = (hs : List Hit) → line ≡ length hs + 1 → Tallies n hs t → IsDecided n hs end count
