-- What signals show after events and values, and those of a tick's lines (this project's profile).
use Rattle.std.specs.Prelude.{◌≡◌, ◌<◌, ℕ, ◌+◌, ◌%◌, ◌^◌, ◌==◌, List, [], ◌∷◌, ◌++◌, length, count_by, Bool, if◌then◌else◌, Option, Some, None, slice_index_or}
use Rattle.std.specs.List.{list_any}
use Rattle.fb_types.specs.declared.value.Value.{Value}
use Rattle.fb_wave.specs.declared.levels.Cell.{Cell}
use Rattle.fb_wave.specs.declared.levels.Levels as code
use Rattle.fb_wave.specs.declared.levels.Level.{Level}
use Rattle.fb_wave.specs.declared.levels.Level.TheVariants.{Count, Last}

-- ---- What a signal shows

abbrev pub or_else : Option Value → Option Value → Option Value
or_else (Some v) o = Some v
or_else None o = o

-- the last value that is reported of a signal
abbrev pub last_shown : (signal : ℕ) → List (ℕ × Value) → Option Value
last_shown s [] = None
last_shown s (t ∷ ts) = or_else (last_shown s ts) (if t.0 == s then Some t.1 else None)

-- how many of the events are those of a signal, in 64 bits
abbrev pub count_in : (signal : ℕ) → List ℕ → ℕ
count_in s fires = count_by (λ k. k == s) fires % 2 ^ 64

abbrev pub shows : Option Value → ℕ → Level
shows (Some v) n = Last v
shows None n = Count n

-- After events and values, each of a signal: a variable shows its last value, an event port the count of its events.
abbrev pub shown_of : (signal : ℕ) → (fires : List ℕ) → (sets : List (ℕ × Value)) → Level
shown_of s fires sets = shows (last_shown s sets) (count_in s fires)

-- what is shown after one more event
abbrev pub after_event : Level → Level
after_event (Count n) = Count ((n + 1) % 2 ^ 64)
after_event (Last v) = Last v

-- ---- The signals of a tick

abbrev pub is_in : List ℕ → ℕ → Bool
is_in ss s = list_any (λ k. k == s) ss

-- with one more number, unless it is there
abbrev pub with_one : List ℕ → ℕ → List ℕ
with_one ss s = if is_in ss s then ss else ss ++ s ∷ []

-- numbers in the order in which each comes first, after others
abbrev pub marked : (before : List ℕ) → List ℕ → List ℕ
marked before [] = before
marked before (s ∷ ss) = marked (with_one before s) ss

-- ---- The table of the code

-- A cell of a signal.
pub record IsCell (fires : List ℕ) (sets : List (ℕ × Value)) (touches : List ℕ) (s : ℕ) (x : Cell) : Type 0 where
  pub shown : x.shown ≡ shown_of s fires sets
  pub is_marked : x.is_marked ≡ is_in (marked [] touches) s

-- This many signals, with what they show after events and values, and those of a tick.
pub record AreLevels (count : ℕ) (fires : List ℕ) (sets : List (ℕ × Value)) (touches : List ℕ) (x : code.Levels) : Type 0 where
  pub counted : length x.cells.items ≡ count
  pub cells : (s : ℕ) (d : Cell) → s < length x.cells.items → IsCell fires sets touches s (slice_index_or x.cells.items s d)
  pub marked : x.marked.items ≡ marked [] touches
