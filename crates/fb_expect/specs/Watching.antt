-- What is known of a rule when a part of a trace was read (this project's own).
use Rattle.std.specs.Prelude.{◌≡◌, ◌⊎◌, ℕ, ◌+◌, ◌<◌, ◌≤◌, Bool, true, false, List, [], ◌∷◌, ◌++◌, length, Option, Some, None}
use Rattle.fb_expect.specs.Hits.{IsFirst, IsSecond, hit_at, tick_at}
use Rattle.fb_expect.specs.Rules.{BreaksHere, HasNoAnswer, IsFewerAtLine, IsFromStart, IsSince, IsVerdict, count_in, window_of}
use Rattle.fb_expect.specs.Traces.{tick_of}
use Rattle.fb_expect.specs.declared.ending.End.{End}
use Rattle.fb_expect.specs.declared.verdict.Verdict.{Verdict}
use Rattle.fb_expect.specs.declared.hit.Hit.{Hit}
use Rattle.fb_expect.specs.declared.rule.Need.{Need}
use Rattle.fb_expect.specs.declared.rule.Need.TheVariants as need
use Rattle.fb_expect.specs.declared.verdict.Breach.{Breach}
use Rattle.fb_expect.specs.declared.verdict.Fault.{Fault}
use Rattle.fb_expect.specs.declared.verdict.Fault.TheVariants.{Unanswered}
use Rattle.fb_expect.specs.declared.watch.Mark.{Mark}
use Rattle.fb_expect.specs.declared.watch.Watch.{Watch}
use Rattle.fb_expect.specs.declared.watch.Watch.TheVariants as watch

-- no line so far is of a later tick
abbrev pub IsBelow : List Hit → ℕ → Type 0
IsBelow hs t = (i : ℕ) → tick_at hs i ≤ t

-- nothing breaks the rule so far, whatever comes
abbrev pub IsClean : Need → List Hit → Type 0
IsClean n hs = (k : ℕ) (fault : Fault) → BreaksHere n hs k fault → ⊥

-- ---- Followed in time

-- a Q follows a index in time
pub record IsMet (within : ℕ) (hs : List Hit) (i : ℕ) : Type 0 where
  pub answer : ℕ
  pub after : i < answer
  pub second : IsSecond hs answer
  pub soon : tick_at hs answer ≤ tick_at hs i + within

-- all P before a index are followed in time
abbrev pub AreMet : (within : ℕ) → List Hit → ℕ → Type 0
AreMet within hs index = (i : ℕ) → i < index → IsFirst hs i → IsMet within hs i

-- The marked line is the first P that no Q follows yet, and no later one is of an earlier tick.
pub record Waits (within : ℕ) (hs : List Hit) (m : Mark) : Type 0 where
  pub index : ℕ
  pub line : m.line ≡ index + 1
  pub tick : m.tick ≡ tick_at hs index
  pub first : IsFirst hs index
  pub none : (j : ℕ) → index < j → IsSecond hs j → ⊥
  pub before : AreMet within hs index
  pub after : (i : ℕ) → index < i → IsFirst hs i → tick_at hs index ≤ tick_at hs i

abbrev pub KnowsSee : (within : ℕ) → List Hit → Option Mark → Type 0
KnowsSee within hs None = (i : ℕ) → IsFirst hs i → IsMet within hs i
KnowsSee within hs (Some m) = Waits within hs m

-- what waits is in time
abbrev pub InTime : (within : ℕ) → Option Mark → ℕ → Type 0
InTime within None t = Unit {0}
InTime within (Some m) t = t ≤ m.tick + within

-- what waits with one more line, where nothing waited before
abbrev pub WaitsFresh : (line : ℕ) → Hit → Option Mark → Type 0
WaitsFresh line hit new =
    (within : ℕ) (hs : List Hit) → line ≡ length hs + 1 → AreMet within (hs ++ hit ∷ []) (length hs) → KnowsSee within (hs ++ hit ∷ []) new

-- what waits with one more line, where the line is in time for what waited
abbrev pub WaitsNext : (old : Option Mark) → (line : ℕ) → Hit → Option Mark → Type 0
WaitsNext old line hit new =
    (within : ℕ) (hs : List Hit) → line ≡ length hs + 1 → IsBelow hs hit.tick → InTime within old hit.tick → KnowsSee within hs old
    → KnowsSee within (hs ++ hit ∷ []) new

-- No Q followed in time, and a line of a later tick came.
pub record IsLate (within : ℕ) (hs : List Hit) (b : Breach) : Type 0 where
  pub index : ℕ
  pub line : b.line ≡ index + 1
  pub tick : b.tick ≡ tick_at hs index
  pub fault : b.fault ≡ Unanswered
  pub inside : index < length hs
  pub first : IsFirst hs index
  pub none : HasNoAnswer within hs index
  pub before : AreMet within hs index
  pub later : ℕ
  pub over : tick_at hs index + within < tick_at hs later

-- ---- The last line of a kind

-- a tick is more than this many ticks after another, where there is one to count from
abbrev pub IsPast : (from : Option ℕ) → (within tick : ℕ) → Type 0
IsPast None within tick = Unit {0}
IsPast (Some from) within tick = from + within < tick

pub record IsLastTick (test : Hit → Bool) (hs : List Hit) (tick : ℕ) : Type 0 where
  pub index : ℕ
  pub is : test (hit_at hs index) ≡ true
  pub same : tick ≡ tick_at hs index
  pub most : (i : ℕ) → test (hit_at hs i) ≡ true → tick_at hs i ≤ tick

abbrev pub KnowsLast : (test : Hit → Bool) → List Hit → Option ℕ → Type 0
KnowsLast test hs None = (i : ℕ) → test (hit_at hs i) ≡ true → ⊥
KnowsLast test hs (Some t) = IsLastTick test hs t

-- ---- Stretches

abbrev pub IsWithin : (from_start : Bool) → List Hit → ℕ → Type 0
IsWithin from_start hs k = IsFromStart from_start hs k ⊎ IsSince hs k

-- the next line is in a stretch, unless an R is in it
abbrev pub KnowsStretch : (from_start : Bool) → List Hit → Bool → Type 0
KnowsStretch from_start hs true = IsWithin from_start hs (length hs)
KnowsStretch from_start hs false = IsWithin from_start hs (length hs) → ⊥

-- ---- Windows

pub record KnowsCount (every : Option ℕ) (least : ℕ) (hs : List Hit) (window count : ℕ) : Type 0 where
  pub counted : count ≡ count_in every window hs
  pub last : (window ≡ 0) ⊎ ((i : ℕ) × (window ≡ window_of every (tick_at hs i)))
  pub most : (i : ℕ) → window_of every (tick_at hs i) ≤ window
  pub enough : (w : ℕ) → w < window → least ≤ count_in every w hs

-- a window before that of this number has too few, where the last with a line has this many
abbrev pub Lacks : (least window count next : ℕ) → Type 0
Lacks least window count next = (window < next) × ((count < least) ⊎ ((window + 1 < next) × (0 < least)))

-- ---- All rules

-- a line breaks the rule, and none before it
pub record IsBroken (n : Need) (hs : List Hit) (b : Breach) : Type 0 where
  pub index : ℕ
  pub line : b.line ≡ index + 1
  pub tick : b.tick ≡ tick_at hs index
  pub inside : index < length hs
  pub breaks : BreaksHere n hs index b.fault
  pub before : (k : ℕ) (fault : Fault) → k < index → BreaksHere n hs k fault → ⊥

-- What is known of a rule when these lines were read.
abbrev pub Knows : Need → List Hit → Watch → Type 0
Knows (need.See within) hs (watch.See mark) = KnowsSee within hs mark
Knows (need.See within) hs (watch.Broken b) = IsLate within hs b
Knows (need.Not within) hs (watch.Not last) = KnowsLast (λ h. h.first) hs last × IsClean (need.Not within) hs
Knows (need.Not within) hs (watch.Broken b) = IsBroken (need.Not within) hs b
Knows (need.Before within) hs (watch.Before last) = KnowsLast (λ h. h.second) hs last × IsClean (need.Before within) hs
Knows (need.Before within) hs (watch.Broken b) = IsBroken (need.Before within) hs b
Knows (need.Never from_start) hs (watch.Never is_on) = KnowsStretch from_start hs is_on × IsClean (need.Never from_start) hs
Knows (need.Never from_start) hs (watch.Broken b) = IsBroken (need.Never from_start) hs b
Knows (need.Count least most every) hs (watch.Count window count) = KnowsCount every least hs window count × IsClean (need.Count least most every) hs
Knows (need.Count least most every) hs (watch.Broken b) = IsBroken (need.Count least most every) hs b
Knows _ hs _ = ⊥

-- One more line was read, of no earlier tick and of this number.
abbrev pub Steps : Need → Watch → ℕ → Hit → Watch → Type 0
Steps n old line hit new =
    (hs : List Hit) → line ≡ length hs + 1 → IsBelow hs hit.tick → Knows n hs old → Knows n (hs ++ hit ∷ []) new

-- The counts of the window of one more line, where no window before it has too few, and this many P of its own come before it.
abbrev pub CountsOn : (most : Option ℕ) → (window before line : ℕ) → Hit → Watch → Type 0
CountsOn most window before line hit new =
    (least : ℕ) (every : Option ℕ) (hs : List Hit) → line ≡ length hs + 1 → window ≡ window_of every hit.tick → before ≡ count_in every window hs
    → IsClean (need.Count least most every) hs → (IsFewerAtLine every least (hs ++ hit ∷ []) (length hs) → ⊥)
    → ((after : ℕ) → after ≡ count_in every window (hs ++ hit ∷ []) → KnowsCount every least (hs ++ hit ∷ []) window after)
    → Knows (need.Count least most every) (hs ++ hit ∷ []) new

-- The whole trace was read, and this is the number of its last line.
abbrev pub Concludes : Need → Watch → ℕ → End → Verdict → Type 0
Concludes n w line end verdict = (hs : List Hit) → line ≡ length hs + 1 → IsBelow hs (tick_of end) → Knows n hs w → IsVerdict n hs end verdict
