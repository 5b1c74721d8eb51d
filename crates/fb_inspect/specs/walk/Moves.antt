-- How a trace is gone through, line by line: lines are read, and text is added for them (this project's own).
use Rattle.std.specs.Prelude.{◌≡◌, ℕ, ◌+◌, List, [], ◌∷◌, ◌++◌, length, map, All, Bool, false, true, if◌then◌else◌, Option}
use Rattle.std.specs.Io.KnownBytes.{Consumes}
use Rattle.fb_types.specs.Numbers.{line_of}
use Rattle.fb_types.specs.Systems.{System}
use Rattle.fb_types.specs.Text.{lines_text}
use Rattle.fb_types.specs.declared.run.Emission.{Emission}
use Rattle.fb_types.specs.declared.run.Form.{Form}
use Rattle.fb_types.specs.declared.run.Line.{Line}
use Rattle.fb_wave.specs.Lines.{IsLineOf}
use Rattle.fb_coverage.specs.declared.marks.ChartMarks.{ChartMarks}
use Rattle.fb_inspect.specs.walk.Lines.{IsAlone}
use Rattle.fb_inspect.specs.Markings.{lines_marked}
use Rattle.fb_inspect.specs.declared.walk.reading.Reading.{Reading}
use Rattle.fb_inspect.specs.declared.walk.trail.PassedLines.{PassedLines}
use Rattle.fb_inspect.specs.declared.walk.trail.Trail.{Trail}

-- a line of the system, of a tick
pub record IsLineAt (sys : System) (tick : ℕ) (l : Line) : Type 0 where
  pub line : IsLineOf sys l
  pub tick_is : l.key.tick ≡ tick

-- lines after others, if lines are kept
abbrev pub lines_kept : (are_kept : Bool) → (old ls : List Line) → List Line
lines_kept true old ls = old ++ ls
lines_kept false old ls = old

-- These lines were passed.
pub record HavePassed (ls : List Line) (old new : PassedLines) : Type 0 where
  pub same : new.are_kept ≡ old.are_kept
  pub lines : new.lines.items ≡ lines_kept old.are_kept old.lines.items ls

-- These lines, all of one tick, were read, their ports were marked, and this text was added for them.
pub record Goes (sys : System) (form : Form) (tick : ℕ) (ls : List Line) (bytes : List ℕ) (old new : Trail) (left after : Option (List ℕ)) : Type 0 where
  pub each : All (IsLineAt sys tick) ls
  pub kept : new.is_shown ≡ old.is_shown
  pub taken : List ℕ
  pub took : Consumes left after taken
  pub read : old.reading.line.items ++ taken ≡ lines_text form sys (map (line_of sys) ls) ++ new.reading.line.items
  pub text : new.page.text.items ≡ old.page.text.items ++ bytes
  pub ported : new.marks.ports ≡ lines_marked ls old.marks.ports
  pub passed : HavePassed ls old.passed new.passed
  pub numbered : new.reading.number ≡ old.reading.number + length ls

-- The next line still ends before what is left of the text.
abbrev pub StaysAlone : (old new : Reading) → (left after : Option (List ℕ)) → Type 0
StaysAlone old new left after = IsAlone old.line.items left → IsAlone new.line.items after

-- Text is added or marks of charts are set, and nothing else changes.
pub record IsAside (old new : Trail) : Type 0 where
  pub kept : new.is_shown ≡ old.is_shown
  pub ported : new.marks.ports ≡ old.marks.ports
  pub passed : new.passed ≡ old.passed
  pub number : new.reading.number ≡ old.reading.number

-- what is written of a text of an instance that is shown, or not
abbrev pub shown_text : Bool → List ℕ → List ℕ
shown_text is_shown text = if is_shown then text else []

-- This text was added, if the instance is shown, these are the marks of charts, and nothing else changed.
pub record HasNoted (text : List ℕ) (charts : ChartMarks) (old new : Trail) : Type 0 where
  pub aside : IsAside old new
  pub added : new.page.text.items ≡ old.page.text.items ++ shown_text old.is_shown text
  pub marked : new.marks.charts ≡ charts

-- The line is that of an emission of the block of another line.
pub record IsEmission (l line : Line) (e : Emission) : Type 0 where
  pub taken : l.taken ≡ false
  pub instance : l.instance ≡ line.instance
  pub event : l.event ≡ e.event
  pub key : l.key ≡ line.key
  pub values : l.values ≡ e.values

-- the lines are those of these emissions, one by one
abbrev pub AreEmissions : List Line → Line → List Emission → Type 0
AreEmissions [] line [] = Unit {0}
AreEmissions [] line (e ∷ es) = ⊥
AreEmissions (l ∷ ls) line [] = ⊥
AreEmissions (l ∷ ls) line (e ∷ es) = IsEmission l line e × AreEmissions ls line es

-- All these emissions of the block of a line are in the lines that were read.
pub record EmitsGo (sys : System) (form : Form) (line : Line) (es : List Emission) (old new : Trail) (left after : Option (List ℕ)) : Type 0 where
  pub lines : List Line
  pub are : AreEmissions lines line es
  pub goes : Goes sys form line.key.tick lines (shown_text old.is_shown (lines_text form sys (map (line_of sys) lines))) old new left after
  pub alone : StaysAlone old.reading new.reading left after
