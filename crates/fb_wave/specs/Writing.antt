-- How a dump grows line by line (this project's profile).
use Rattle.std.specs.Prelude.{◌≡◌, ◌<◌, ◌≤◌, ℕ, ◌+◌, ◌^◌, List, [], ◌∷◌, ◌++◌, length, All, slice_index}
use Rattle.fb_types.specs.Systems.{System}
use Rattle.fb_types.specs.declared.run.Line.{Line}
use Rattle.fb_system.specs.IndexLists.{AreIndexes}
use Rattle.fb_system.specs.Lines.{line_variables}
use Rattle.fb_wave.specs.Levels.{AreLevels}
use Rattle.fb_wave.specs.Signals.{first_signal, first_variable, sizes_of}
use Rattle.fb_wave.specs.declared.levels.Levels.{Levels}
use Rattle.fb_wave.specs.Scopes.{head_text}
use Rattle.fb_wave.specs.Dumps.{last_tick, ticks_text}
use Rattle.fb_wave.specs.declared.dump.Dump.{Dump}
use Rattle.fb_wave.specs.declared.system_signals.Signals.{Signals}
use Rattle.fb_wave.specs.declared.system_signals.Marks.{Marks}
use Rattle.fb_wave.specs.Lines.{line_side}
use Rattle.fb_wave.specs.LineSignals.{fired, fires_of, has_signal, touches_of}

-- The number of the first signal of each instance, and after them how many signals there are.
pub record AreFirsts (sys : System) (firsts : List ℕ) : Type 0 where
  pub counted : length firsts ≡ length sys.paths + 1
  pub each : (i : ℕ) → i ≤ length sys.paths → slice_index firsts i ≡ first_signal sys i
  pub small : sizes_of sys sys.paths < 2 ^ 64

-- The signals of the system: their numbers, and a cell for each.
pub record AreSignals (sys : System) (x : Signals) : Type 0 where
  pub firsts : AreFirsts sys x.firsts.items
  pub counted : length x.levels.cells.items ≡ sizes_of sys sys.paths

-- The signals of a line are those of the system.
pub record AreMarks (sys : System) (l : Line) (x : Marks) : Type 0 where
  pub event_is : x.event ≡ fired sys l
  pub event_within : x.event < sizes_of sys sys.paths
  pub first_is : x.first ≡ first_variable sys l.instance l.taken
  pub indexes_are : AreIndexes (line_side sys l) (line_variables sys l) x.indexes.now
  pub within : All (λ k. x.first + k < sizes_of sys sys.paths) x.indexes.now

-- The signals of the dump are those of the system.
abbrev pub IsDump : System → Dump → Type 0
IsDump sys x = AreSignals sys x.signals

-- Lines were written: the text so far is that of their dump, but for what the last tick changes. Whatever lines come, it grows
-- to the dump of all.
pub record Shows (sys : System) (ls : List Line) (shown : List ℕ) (last : ℕ) (x : Levels) : Type 0 where
  pub before : List Line
  pub now : List Line
  pub parts : ls ≡ before ++ now
  pub tick : last ≡ last_tick 0 ls
  pub levels : AreLevels (sizes_of sys sys.paths) (fires_of sys ls) (has_signal sys ls) (touches_of sys now) x
  pub text : (rest : List Line) → shown ++ ticks_text sys last before now rest ≡ head_text sys ++ ticks_text sys 0 [] [] (ls ++ rest)

-- The same where the next line is one of this tick.
pub record Turns (sys : System) (ls : List Line) (shown : List ℕ) (next : ℕ) (x : Levels) : Type 0 where
  pub before : List Line
  pub now : List Line
  pub parts : ls ≡ before ++ now
  pub levels : AreLevels (sizes_of sys sys.paths) (fires_of sys ls) (has_signal sys ls) (touches_of sys now) x
  pub text :
      (l : Line) (rest : List Line) → l.key.tick ≡ next
      → shown ++ ticks_text sys next before (now ++ l ∷ []) rest ≡ head_text sys ++ ticks_text sys 0 [] [] (ls ++ l ∷ rest)

-- A dump has shown these lines, and this is its text so far.
abbrev pub HasShown : System → List Line → List ℕ → Dump → Type 0
HasShown sys ls shown x = Shows sys ls shown x.tick x.signals.levels
