-- What a writer got where a line is refused (this project's profile).
use Rattle.std.specs.Prelude.{◌≡◌, ◌⊎◌, ℕ, ◌+◌, List, ◌++◌, length, map, IfSome, Option}
use Rattle.std.specs.Io.KnownBytes.{Appends}
use Rattle.fb_types.specs.Systems.{System}
use Rattle.fb_types.specs.Simulation.{Ending}
use Rattle.fb_types.specs.Numbers.{line_of}
use Rattle.fb_types.specs.Text.{last_line, lines_text}
use Rattle.fb_types.specs.declared.run.Form.{Form}
use Rattle.fb_types.specs.declared.run.Line.{Line}
use Rattle.fb_wave.specs.CutOff.{cut_text}
use Rattle.fb_wave.specs.Dumps.{dump_text}
use Rattle.fb_wave.specs.Lines.{IsEndOf}
use Rattle.fb_wave.specs.Waves.{AreLinesOf}
use Rattle.fb_wave.specs.declared.error.WaveError.{WaveError}
use Rattle.fb_wave.specs.declared.error.WaveError.TheVariants.{Refused, Names, Memory, Read, Write}

-- The bytes are the first of the dump of these lines, whichever lines come after them, and whether an end comes or the trace is cut off.
pub record AreFirst (sys : System) (ls : List Line) (bytes : List ℕ) : Type 0 where
  pub ended : (more : List Line) (end : Ending) → (rest : List ℕ) × (bytes ++ rest ≡ dump_text sys (ls ++ more) end)
  pub cut : (more : List Line) → (rest : List ℕ) × (bytes ++ rest ≡ cut_text sys (ls ++ more))

-- The line of this number comes after the last line of a trace, and what is left of the text begins with that.
pub record IsPastEnd (sys : System) (number : ℕ) (ls : List Line) (left : List ℕ) : Type 0 where
  pub end : Ending
  pub can : IsEndOf sys end
  pub rest : List ℕ
  pub is : left ≡ last_line sys end ++ rest
  pub numbered : number ≡ length ls + 2

-- The lines before the line of this number were read. A writer got the first bytes of the dump of each trace that begins with them.
pub record WritesUpTo (sys : System) (number : ℕ) (text : List ℕ) (old new : Option (List ℕ)) : Type 0 where
  pub form : Form
  pub lines : List Line
  pub are : AreLinesOf sys lines
  pub left : List ℕ
  pub read : text ≡ lines_text form sys (map (line_of sys) lines) ++ left
  pub next : (number ≡ length lines + 1) ⊎ IsPastEnd sys number lines left
  pub bytes : List ℕ
  pub first : AreFirst sys lines bytes
  pub got : Appends old new bytes

-- what the writer got before a refusal
abbrev pub WritesBefore : System → (text old new : Option (List ℕ)) → WaveError → Type 0
WritesBefore sys text old new (Refused line) = IfSome text (λ t. WritesUpTo sys line t old new)
WritesBefore sys text old new Names = Unit {0}
WritesBefore sys text old new Memory = Unit {0}
WritesBefore sys text old new Read = Unit {0}
WritesBefore sys text old new (Write n) = Unit {0}
