-- Traces that are cut off, and their dumps (this project's profile).
use Rattle.std.specs.Prelude.{◌≡◌, ◌≤◌, ◌⊎◌, ℕ, ◌-◌, ◌==◌, List, [], ◌++◌, length, map, count_by, Bool, true, false, not, IfSome, Option, Some, None, slice_get, codes}
use Rattle.std.specs.List.{list_all}
use Rattle.std.specs.Io.KnownBytes.{Appends}
use Rattle.fb_types.specs.Systems.{System}
use Rattle.fb_types.specs.Numbers.{line_of}
use Rattle.fb_types.specs.Text.{lines_text}
use Rattle.fb_types.specs.declared.run.Form.{Form}
use Rattle.fb_types.specs.declared.run.Line.{Line}
use Rattle.fb_trace.specs.Progress.{IsPartWritten}
use Rattle.fb_wave.specs.Changes.{line}
use Rattle.fb_wave.specs.Dumps.{ticks_text}
use Rattle.fb_wave.specs.Refusals.{Blames, IsTrace}
use Rattle.fb_wave.specs.Scopes.{head_text}
use Rattle.fb_wave.specs.Waves.{AreLinesOf, FailsWave, IsWave}
use Rattle.fb_wave.specs.declared.truncation.Cut.{Cut}
use Rattle.fb_wave.specs.declared.truncation.Cut.TheVariants as cut
use Rattle.fb_wave.specs.declared.error.WaveError.{WaveError}
use Rattle.fb_wave.specs.declared.error.WaveError.TheVariants.{Refused, Names, Memory, Read, Write}

-- ---- Texts

-- a text without a line feed
abbrev pub has_no_feed : List ℕ → Bool
has_no_feed text = list_all (λ b. not (b == 10)) text

-- Lines that a trace of the system can begin with, and after them nothing, or a part of a line.
pub record IsCutTrace (sys : System) (form : Form) (text : List ℕ) (ls : List Line) : Type 0 where
  pub lines : AreLinesOf sys ls
  pub part : List ℕ
  pub unended : has_no_feed part ≡ true
  pub is : text ≡ lines_text form sys (map (line_of sys) ls) ++ part

-- ---- Dumps

-- The dump of such lines says at its end that the trace is cut off.
abbrev pub cut_comment : List ℕ
cut_comment = line (codes "$comment cut $end")

abbrev pub cut_text : System → List Line → List ℕ
cut_text sys ls = head_text sys ++ ticks_text sys 0 [] [] ls ++ cut_comment

-- The text is cut off, and the writer got the dump of its lines.
pub record IsCutWave (sys : System) (text : List ℕ) (old new : Option (List ℕ)) : Type 0 where
  pub form : Form
  pub lines : List Line
  pub trace : IsCutTrace sys form text lines
  pub got : Appends old new (cut_text sys lines)

-- A writer got the first bytes of such a dump, but not all, and `written` is how many.
pub record WritesCutPart (sys : System) (old new : Option (List ℕ)) (written : ℕ) : Type 0 where
  pub lines : List Line
  pub are : AreLinesOf sys lines
  pub got : IsPartWritten old new (cut_text sys lines) written

-- ---- Outcomes, where a trace may be cut off or not

abbrev pub IsShown : Cut → System → (text : List ℕ) → (old new : Option (List ℕ)) → Type 0
IsShown cut.Refused sys text old new = IsWave sys text old new
IsShown cut.Allowed sys text old new = IsWave sys text old new ⊎ IsCutWave sys text old new

-- only the writer can fail once it shows that a trace is cut off
abbrev pub FailsCut : System → (old new : Option (List ℕ)) → WaveError → Type 0
FailsCut sys old new (Write n) = WritesCutPart sys old new n
FailsCut sys old new (Refused line) = ⊥
FailsCut sys old new Names = ⊥
FailsCut sys old new Memory = ⊥
FailsCut sys old new Read = ⊥

abbrev pub FailsShown : Cut → System → (old new : Option (List ℕ)) → WaveError → Type 0
FailsShown cut.Refused sys old new e = FailsWave sys old new e
FailsShown cut.Allowed sys old new e = FailsWave sys old new e ⊎ FailsCut sys old new e

-- the line of this number, from 1, ends in a line feed
abbrev pub IsWhole : (number : ℕ) → (text : List ℕ) → Type 0
IsWhole number text = number ≤ count_by (λ b. b == 10) text

-- The text begins with a trace of the system.
pub record HasTrace (sys : System) (text : List ℕ) : Type 0 where
  pub trace : List ℕ
  pub rest : List ℕ
  pub is : IsTrace sys trace
  pub parts : text ≡ trace ++ rest

-- The line of this number is not refused because the text is cut off: it is a whole one, or there is a trace before it.
abbrev pub IsUncut : System → (number : ℕ) → (text : List ℕ) → Type 0
IsUncut sys number text = IsWhole number text ⊎ HasTrace sys text

-- No text is refused because it is cut off.
abbrev pub IsNoCut : System → (text : Option (List ℕ)) → WaveError → Type 0
IsNoCut sys text (Refused line) = IfSome text (IsUncut sys line)
IsNoCut sys text Names = Unit {0}
IsNoCut sys text Memory = Unit {0}
IsNoCut sys text Read = Unit {0}
IsNoCut sys text (Write n) = Unit {0}

abbrev pub BlamesShown : Cut → System → (text : Option (List ℕ)) → WaveError → Type 0
BlamesShown cut.Refused sys text e = Blames sys text e
BlamesShown cut.Allowed sys text e = Blames sys text e × IsNoCut sys text e

-- ---- How it shows

abbrev pub is_unended_by : Option ℕ → Bool
is_unended_by None = true
is_unended_by (Some b) = not (b == 10)

-- whether a line does not end in a line feed
abbrev pub is_unended : List ℕ → Bool
is_unended text = is_unended_by (slice_get text (length text - 1))

abbrev pub is_cut : Cut → List ℕ → Bool
is_cut cut.Refused text = false
is_cut cut.Allowed text = is_unended text
