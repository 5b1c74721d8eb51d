-- What rules ask of the lines of a trace (this project's own). "Before" and "after" mean the order of lines; "later" and "earlier" compare ticks.
use Rattle.std.specs.Prelude.{◌≡◌, ◌⊎◌, ℕ, ◌+◌, ◌/◌, ◌%◌, ◌<◌, ◌≤◌, Bool, true, false, not, ◌&&◌, ◌==◌, if◌then◌else◌, nat_lt, List, length, take, count_by, Option, Some, None}
use Rattle.fb_expect.specs.Hits.{IsFirst, IsSecond, IsThird, tick_at}
use Rattle.fb_expect.specs.Traces.{tick_of}
use Rattle.fb_expect.specs.declared.ending.End.{End}
use Rattle.fb_expect.specs.declared.ending.End.TheVariants.{Horizon, Stop, Cut}
use Rattle.fb_expect.specs.declared.hit.Hit.{Hit}
use Rattle.fb_expect.specs.declared.rule.Need.{Need}
use Rattle.fb_expect.specs.declared.rule.Need.TheVariants.{See, Not, Before, Never, Count}
use Rattle.fb_expect.specs.declared.verdict.Breach.{Breach}
use Rattle.fb_expect.specs.declared.verdict.Fault.{Fault}
use Rattle.fb_expect.specs.declared.verdict.Fault.TheVariants.{Unanswered, Answered, Unprepared, Forbidden, Fewer, More}
use Rattle.fb_expect.specs.declared.verdict.Verdict.{Verdict}
use Rattle.fb_expect.specs.declared.verdict.Verdict.TheVariants.{Holds, Broken, Undecided}

-- ---- Each P is followed by a Q at most this many ticks later

-- no Q after a index comes in time
abbrev pub HasNoAnswer : (within : ℕ) → List Hit → ℕ → Type 0
HasNoAnswer within hs i = (j : ℕ) → i < j → IsSecond hs j → tick_at hs i + within < tick_at hs j

-- a P that no Q follows in time
pub record IsUnmet (within : ℕ) (hs : List Hit) (i : ℕ) : Type 0 where
  pub first : IsFirst hs i
  pub none : HasNoAnswer within hs i

-- the time for it is over
pub record IsUnanswered (within : ℕ) (hs : List Hit) (end : End) (i : ℕ) : Type 0 where
  pub unmet : IsUnmet within hs i
  pub over : tick_at hs i + within < tick_of end

-- the trace ends before that
pub record IsPending (within : ℕ) (hs : List Hit) (end : End) (i : ℕ) : Type 0 where
  pub unmet : IsUnmet within hs i
  pub amid : tick_of end ≤ tick_at hs i + within

-- ---- No P is followed by a Q at most this many ticks later

-- a Q that follows a P too soon
pub record IsAnswered (within : ℕ) (hs : List Hit) (j : ℕ) : Type 0 where
  pub second : IsSecond hs j
  pub cause : ℕ
  pub before : cause < j
  pub first : IsFirst hs cause
  pub soon : tick_at hs j ≤ tick_at hs cause + within

-- a P that may still be followed by one when the trace ends
pub record IsWatched (within : ℕ) (hs : List Hit) (end : End) (i : ℕ) : Type 0 where
  pub first : IsFirst hs i
  pub amid : tick_of end ≤ tick_at hs i + within

-- ---- Each P has a Q at most this many ticks before

-- a P with no Q before it, or with all too long before
pub record IsUnprepared (within : ℕ) (hs : List Hit) (i : ℕ) : Type 0 where
  pub first : IsFirst hs i
  pub none : (j : ℕ) → j < i → IsSecond hs j → tick_at hs j + within < tick_at hs i

-- ---- No P between a Q and the next R

-- no R comes after a index and up to another
abbrev pub HasNoThird : List Hit → ℕ → ℕ → Type 0
HasNoThird hs i k = (j : ℕ) → i < j → j ≤ k → IsThird hs j → ⊥

-- a Q before a index, and no R since
pub record IsSince (hs : List Hit) (k : ℕ) : Type 0 where
  pub start : ℕ
  pub before : start < k
  pub second : IsSecond hs start
  pub none : HasNoThird hs start k

-- no R from the beginning up to a index, where that counts
pub record IsFromStart (from_start : Bool) (hs : List Hit) (k : ℕ) : Type 0 where
  pub counts : from_start ≡ true
  pub none : (j : ℕ) → j ≤ k → IsThird hs j → ⊥

-- a P in such a stretch
pub record IsForbidden (from_start : Bool) (hs : List Hit) (k : ℕ) : Type 0 where
  pub first : IsFirst hs k
  pub within : IsFromStart from_start hs k ⊎ IsSince hs k

-- ---- This many P in the whole trace, or in each window

-- The window in which a tick is, counted from 0: with windows of T ticks those from kT up to (k + 1)T. Without them the trace is one.
abbrev pub window_of : (every : Option ℕ) → ℕ → ℕ
window_of None t = 0
window_of (Some length) t = if length == 0 then 0 else t / length

-- how many windows are over at an end
abbrev pub windows_over : (every : Option ℕ) → End → ℕ
windows_over None (Horizon h) = 1
windows_over None (Stop t) = 1
windows_over None (Cut t) = 0
windows_over (Some length) end = window_of (Some length) (tick_of end)

-- an end is within a window
abbrev pub is_amid : (every : Option ℕ) → End → Bool
is_amid None (Horizon h) = false
is_amid None (Stop t) = false
is_amid None (Cut t) = true
is_amid (Some length) (Horizon h) = not (length == 0) && not (h % length == 0)
is_amid (Some length) (Stop t) = true
is_amid (Some length) (Cut t) = true

-- how many P are in a window
abbrev pub count_in : (every : Option ℕ) → (window : ℕ) → List Hit → ℕ
count_in every window hs = count_by (λ h. h.first && (window_of every h.tick == window)) hs

-- a window that is over has too few, of the lines before a index
pub record HasFewer (every : Option ℕ) (least over : ℕ) (hs : List Hit) (k : ℕ) : Type 0 where
  pub window : ℕ
  pub is_over : window < over
  pub few : count_in every window (take k hs) < least

-- that shows at a line, by its tick, or at the end
pub record IsFewerAtLine (every : Option ℕ) (least : ℕ) (hs : List Hit) (k : ℕ) : Type 0 where
  pub within : k < length hs
  pub fewer : HasFewer every least (window_of every (tick_at hs k)) hs k

pub record IsFewerAtEnd (every : Option ℕ) (least : ℕ) (hs : List Hit) (end : End) (k : ℕ) : Type 0 where
  pub after : k ≡ length hs
  pub fewer : HasFewer every least (windows_over every end) hs k

abbrev pub IsOver : (most : Option ℕ) → ℕ → Type 0
IsOver None count = ⊥
IsOver (Some most) count = most < count

-- a P with which its window has too many
pub record IsMore (every most : Option ℕ) (hs : List Hit) (k : ℕ) : Type 0 where
  pub first : IsFirst hs k
  pub many : IsOver most (count_in every (window_of every (tick_at hs k)) (take (k + 1) hs))

-- ---- Rules

-- What breaks a rule at a index, whatever comes after it.
abbrev pub BreaksHere : Need → List Hit → ℕ → Fault → Type 0
BreaksHere (See within) hs k fault = ⊥
BreaksHere (Not within) hs k fault = (fault ≡ Answered) × IsAnswered within hs k
BreaksHere (Before within) hs k fault = (fault ≡ Unprepared) × IsUnprepared within hs k
BreaksHere (Never from_start) hs k fault = (fault ≡ Forbidden) × IsForbidden from_start hs k
BreaksHere (Count least most every) hs k fault = ((fault ≡ Fewer) × IsFewerAtLine every least hs k) ⊎ ((fault ≡ More) × IsMore every most hs k)

-- What breaks a rule at a index only with what comes after it, or with the end.
abbrev pub BreaksLater : Need → List Hit → End → ℕ → Fault → Type 0
BreaksLater (See within) hs end k fault = (fault ≡ Unanswered) × IsUnanswered within hs end k
BreaksLater (Not within) hs end k fault = ⊥
BreaksLater (Before within) hs end k fault = ⊥
BreaksLater (Never from_start) hs end k fault = ⊥
BreaksLater (Count least most every) hs end k fault = (fault ≡ Fewer) × IsFewerAtEnd every least hs end k

-- What breaks a rule at a index. The last line comes after all others.
abbrev pub Breaks : Need → List Hit → End → ℕ → Fault → Type 0
Breaks need hs end k fault = BreaksHere need hs k fault ⊎ BreaksLater need hs end k fault

-- What keeps a rule from being decided when the trace ends.
abbrev pub IsOpen : Need → List Hit → End → Type 0
IsOpen (See within) hs end = (i : ℕ) × IsPending within hs end i
IsOpen (Not within) hs end = (i : ℕ) × IsWatched within hs end i
IsOpen (Before within) hs end = ⊥
IsOpen (Never from_start) hs end = ⊥
IsOpen (Count least most every) hs end = is_amid every end ≡ true

-- the tick of a line, or of the last line
abbrev pub tick_there : List Hit → End → ℕ → ℕ
tick_there hs end k = if nat_lt k (length hs) then tick_at hs k else tick_of end

-- The rule breaks at this line, and at none before.
pub record BreaksFirst (need : Need) (hs : List Hit) (end : End) (b : Breach) : Type 0 where
  pub index : ℕ
  pub line : b.line ≡ index + 1
  pub tick : b.tick ≡ tick_there hs end index
  pub breaks : Breaks need hs end index b.fault
  pub first : (k : ℕ) (fault : Fault) → k < index → Breaks need hs end k fault → ⊥

abbrev pub BreaksNowhere : Need → List Hit → End → Type 0
BreaksNowhere need hs end = (k : ℕ) (fault : Fault) → Breaks need hs end k fault → ⊥

-- What comes of a rule at a trace of these lines with this end.
abbrev pub IsVerdict : Need → List Hit → End → Verdict → Type 0
IsVerdict need hs end Holds = BreaksNowhere need hs end × (IsOpen need hs end → ⊥)
IsVerdict need hs end (Broken b) = BreaksFirst need hs end b
IsVerdict need hs end Undecided = BreaksNowhere need hs end × IsOpen need hs end
