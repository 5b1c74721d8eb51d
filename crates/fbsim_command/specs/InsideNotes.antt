-- What is reported after the refusal of a trace that is gone through (this project's own).
use Rattle.std.specs.Prelude.{◌≡◌, ◌≤◌, ◌++◌, ℕ, Bool, [], IsTrue, IfSome, MatchOption, Option, Some, None, Result, Err, codes, decimal}
use Rattle.clap.specs.Words.{Text}
use Rattle.fb_types.specs.Headline.{Inputs}
use Rattle.fb_inspect.specs.OfSystem.{Applies, CanGoOn, IsWrongFor, fault_text, finding_text}
use Rattle.fb_inspect.specs.declared.error.InspectError.{InspectError}
use Rattle.fb_inspect.specs.declared.error.InspectError.TheVariants as inspection
use Rattle.fb_inspect.specs.walk.Looks.{most}
use Rattle.fb_sim.specs.Given.{Given}
use Rattle.fb_sim.specs.Serial.{Declares}
use Rattle.fb_inspect.specs.declared.refused.finding.RefusedLine.{RefusedLine}
use Rattle.fb_inspect.specs.declared.refused.line_fault.LineFault.{LineFault}
use Rattle.fbsim_command.specs.Outcomes.{End, Held}
use Rattle.fbsim_command.specs.declared.failure.Failure.TheVariants.{Refused}
use Rattle.fbsim_command.specs.declared.failure.RefusalLine.TheVariants.{Trace}

-- what is said of a line at which a trace is refused: what is wrong with it as a line of the system, or else what was found
abbrev pub words_by : Inputs → RefusedLine → Option LineFault → Text
words_by i r (Some fault) = fault_text i r.current.tick fault
words_by i r None = finding_text i r.finding

-- These are the words: something is wrong with the line as one of the system, or nothing is.
pub record IsWordsOf (i : Inputs) (r : RefusedLine) (words : Text) : Type 0 where
  pub fault : Option LineFault
  pub applies : MatchOption fault (CanGoOn i r.current) (Applies i r.current)
  pub is : words ≡ words_by i r fault

abbrev pub line_note : (front : Text) → (line : ℕ) → (words : Text) → Text
line_note front line words = front ++ (codes ": line " ++ (decimal line ++ (codes ": " ++ words)))

-- the note has these words, and there is one exactly if there are words
abbrev pub SaysInside : Inputs → RefusedLine → (front : Text) → (line : ℕ) → Option Text → Type 0
SaysInside i r front line None = IsWordsOf i r []
SaysInside i r front line (Some note) = (words : Text) × (words ≡ [] → ⊥) × IsWordsOf i r words × (note ≡ line_note front line words)

-- the line at which a walk has refused a trace, if it did
abbrev pub refused_at : Result (Unit {0}) InspectError → Option ℕ
refused_at (Err (inspection.Refused line)) = Some line
refused_at _ = None

-- the note to how a walk through a trace has ended: there is one exactly if it refused the trace at a line of which words say what is
-- wrong
abbrev pub SaysGone : Inputs → RefusedLine → Result (Unit {0}) InspectError → Option Text → Type 0
SaysGone i r gone note = MatchOption (refused_at gone) (note ≡ None) (λ line. SaysInside i r (codes "trace") line note)

-- This was found where the trace, of which these bytes are known, is refused at the line.
abbrev pub IsFoundAt : Inputs → (steps : ℕ) → (trace : Held) → (line : ℕ) → RefusedLine → Type 0
IsFoundAt i steps trace line r =
    steps ≤ most → IfSome trace (IsWrongFor i steps (record { number = line; finding = r.finding }) r.current.text.items)

-- The inputs are accepted, their system has no trace with this line where the trace has it, and the note says what was found there; there
-- is none only if no words say it.
abbrev pub IsInsideNote : Given → (steps : ℕ) → (trace : Held) → (line : ℕ) → Option Text → Type 0
IsInsideNote given steps trace line note =
    (i : Inputs) × Declares given i × ((r : RefusedLine) × IsFoundAt i steps trace line r × SaysInside i r (codes "trace") line note)

-- There is such a note exactly where one is asked for and the trace is refused.
abbrev pub NotesInside : (why : Bool) → Given → (steps : ℕ) → (trace : Held) → End → Option Text → Type 0
NotesInside why given steps trace end None = IsTrue why → (line : ℕ) → end ≡ Err (Refused (Trace line)) → IsInsideNote given steps trace line None
NotesInside why given steps trace end (Some note) = IsTrue why × ((line : ℕ) × (end ≡ Err (Refused (Trace line))) × IsInsideNote given steps trace line (Some note))
