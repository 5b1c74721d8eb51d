-- What is reported after the refusal of a line of a trace (this project's own).
use Rattle.std.specs.Prelude.{◌≡◌, ◌++◌, ℕ, Bool, IsTrue, MatchOption, Option, Some, None, Result, Ok, Err, codes, decimal}
use Rattle.clap.specs.Words.{Text}
use Rattle.fb_types.specs.Headline.{Inputs, system_of}
use Rattle.fb_types.specs.Systems.{System}
use Rattle.fb_sim.specs.Given.{Given}
use Rattle.fb_sim.specs.Serial.{Declares}
use Rattle.fb_wave.specs.CurrentLines.{IsRefusedLine}
use Rattle.fb_wave.specs.declared.current_line.CurrentLine.{CurrentLine}
use Rattle.fb_wave.specs.declared.error.WaveError.{WaveError}
use Rattle.fb_wave.specs.declared.error.WaveError.TheVariants as wave
use Rattle.fb_inspect.specs.refused.LineFaults.{Applies, CanGoOn}
use Rattle.fb_inspect.specs.refused.Messages.{fault_text}
use Rattle.fb_inspect.specs.declared.refused.line_fault.LineFault.{LineFault}
use Rattle.fbsim_command.specs.Outcomes.{End, Held}
use Rattle.fbsim_command.specs.declared.failure.Failure.TheVariants.{Refused}
use Rattle.fbsim_command.specs.declared.failure.RefusalLine.TheVariants.{Trace}

-- The note has the number of the line, and says something that is wrong with the line.
pub record SaysFault (sys : System) (x : CurrentLine) (line : ℕ) (note : Text) : Type 0 where
  pub fault : LineFault
  pub applies : Applies sys x fault
  pub is : note ≡ codes "trace: line " ++ (decimal line ++ (codes ": " ++ fault_text sys x.tick fault))

-- there is such a note exactly if something is wrong with the line
abbrev pub SaysLine : System → CurrentLine → (line : ℕ) → Option Text → Type 0
SaysLine sys x line None = CanGoOn sys x
SaysLine sys x line (Some note) = SaysFault sys x line note

-- the line at which a trace was refused, if it was
abbrev pub refused_at : Result (Unit {0}) WaveError → Option ℕ
refused_at (Err (wave.Refused line)) = Some line
refused_at _ = None

-- the note to how a trace was written: there is one exactly if it was refused at a line with which something is wrong
abbrev pub SaysWritten : System → CurrentLine → Result (Unit {0}) WaveError → Option Text → Type 0
SaysWritten sys x written note = MatchOption (refused_at written) (note ≡ None) (λ line. SaysLine sys x line note)

-- The inputs are accepted, their system has no trace with this line where the trace has it, and the note says why; there is none only if
-- the line is right by itself.
abbrev pub IsLineNote : Given → (trace : Held) → (line : ℕ) → Option Text → Type 0
IsLineNote given trace line note =
    (i : Inputs) × Declares given i × ((x : CurrentLine) × IsRefusedLine (system_of i) trace x (wave.Refused line) × SaysLine (system_of i) x line note)

-- There is such a note exactly where one is asked for and the trace is refused.
abbrev pub NotesLine : (why : Bool) → Given → (trace : Held) → End → Option Text → Type 0
NotesLine why given trace end None = IsTrue why → (line : ℕ) → end ≡ Err (Refused (Trace line)) → IsLineNote given trace line None
NotesLine why given trace end (Some note) = IsTrue why × ((line : ℕ) × (end ≡ Err (Refused (Trace line))) × IsLineNote given trace line (Some note))
