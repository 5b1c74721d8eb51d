-- Where the line that was read last is in a text, and why it is refused (this project's own).
use Rattle.std.specs.Prelude.{◌≡◌, ◌⊎◌, ℕ, ◌+◌, List, ◌++◌, length, map, true, false, IfSome, Option}
use Rattle.std.specs.Io.BufRead.{take_through}
use Rattle.fb_types.specs.Systems.{System}
use Rattle.fb_types.specs.Simulation.{Ending}
use Rattle.fb_types.specs.Numbers.{line_of}
use Rattle.fb_types.specs.Text.{last_line, lines_text}
use Rattle.fb_types.specs.declared.run.Line.{Line}
use Rattle.fb_wave.specs.Copying.{IsNoLineFrom}
use Rattle.fb_wave.specs.Dumps.{last_tick}
use Rattle.fb_wave.specs.Lines.{IsEndOf}
use Rattle.fb_wave.specs.Refusals.{IsTrace}
use Rattle.fb_wave.specs.Waves.{AreLinesOf, EndsAfter}
use Rattle.fb_wave.specs.declared.error.WaveError.{WaveError}
use Rattle.fb_wave.specs.declared.error.WaveError.TheVariants.{Refused, Names, Memory, Read, Write}
use Rattle.fb_wave.specs.declared.current_line.CurrentLine.{CurrentLine}

-- No end of the system that may come after that tick has this text.
abbrev pub IsNoEndFrom : System → (tick : ℕ) → (text : List ℕ) → Type 0
IsNoEndFrom sys t text = (end : Ending) → IsEndOf sys end → EndsAfter t end → text ≡ last_line sys end → ⊥

-- The text begins with lines that a trace of the system can begin with. Then comes this line, which has this number from 1,
-- and it is no line and no end that may come after them.
pub record IsAfterLines (sys : System) (number : ℕ) (x : CurrentLine) (text : List ℕ) : Type 0 where
  pub lines : List Line
  pub rest : List ℕ
  pub are : AreLinesOf sys lines
  pub numbered : number ≡ length lines + 1
  pub ticked : x.tick ≡ last_tick 0 lines
  pub parts : text ≡ lines_text x.form sys (map (line_of sys) lines) ++ (x.text.items ++ rest)
  pub first : x.text.items ≡ take_through 10 (x.text.items ++ rest)
  pub no_line : IsNoLineFrom sys x.form x.tick x.text.items
  pub no_end : IsNoEndFrom sys x.tick x.text.items

-- The text begins with a trace of the system, and then comes this line.
pub record IsAfterTrace (sys : System) (x : CurrentLine) (text : List ℕ) : Type 0 where
  pub trace : List ℕ
  pub rest : List ℕ
  pub is : IsTrace sys trace
  pub parts : text ≡ trace ++ (x.text.items ++ rest)
  pub first : x.text.items ≡ take_through 10 (x.text.items ++ rest)

-- what is known of a refused line
abbrev pub IsRefusedLine : System → (text : Option (List ℕ)) → CurrentLine → WaveError → Type 0
IsRefusedLine sys text x (Refused line) =
    IfSome text (λ t. ((x.after_end ≡ false) × IsAfterLines sys line x t) ⊎ ((x.after_end ≡ true) × IsAfterTrace sys x t))
IsRefusedLine sys text x Names = Unit {0}
IsRefusedLine sys text x Memory = Unit {0}
IsRefusedLine sys text x Read = Unit {0}
IsRefusedLine sys text x (Write n) = Unit {0}
