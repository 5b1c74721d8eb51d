-- What a call for the waveforms of a trace with the inside of basic blocks does (docs/FORMATS.md, "Waveforms"; this project's own).
use Rattle.std.specs.Prelude.{◌≡◌, ◌≤◌, ◌⊎◌, ℕ, IfSome, Ok, Err}
use Rattle.fb_types.specs.Headline.{Inputs, system_of}
use Rattle.fb_sim.specs.Given.{Given}
use Rattle.fb_sim.specs.Serial.{Declares}
use Rattle.fb_wave.specs.declared.truncation.Cut.{Cut}
use Rattle.fb_inspect.specs.StateWaves.{IsShownWith, WritesBefore, WritesRead}
use Rattle.fb_inspect.specs.walk.Looks.{most}
use Rattle.fbsim_command.specs.Outcomes.{End, Held, IsRefused}
use Rattle.fbsim_command.specs.WrongLines.{IsWrongIn}
use Rattle.fbsim_command.specs.declared.failure.RefusalLine.{RefusalLine}
use Rattle.fbsim_command.specs.declared.failure.RefusalLine.TheVariants.{Trace}
use Rattle.fbsim_command.specs.declared.failure.Failure.TheVariants.{Refused, RefusedTrace, File, Write, Memory, Line, BadOption}
use Rattle.fbsim_command.specs.declared.statuses.Done.TheVariants.{Helped, Explained, Accepted, Shown, Ended, Stopped, Met, Unmet, Same, Different}

-- The inputs are accepted, and the writer got the first bytes of the dump of takings of their system: those of the lines with which the
-- trace begins.
abbrev pub StatesFront : Given → (steps : ℕ) → (trace : Held) → (old new : Held) → Type 0
StatesFront given steps trace old new = (i : Inputs) × Declares given i × WritesRead (system_of i) steps trace old new

-- The inputs are accepted, the writer got such bytes, and the refusal is that of a line that is wrong. What the writer got begins the
-- dump of each trace that has the lines before it (`fb_inspect::laws`).
abbrev pub RefusesStates : Cut → Given → (steps : ℕ) → (trace : Held) → (old new : Held) → RefusalLine → Type 0
RefusesStates may given steps trace old new refusal =
    (i : Inputs) × Declares given i × WritesRead (system_of i) steps trace old new × ((line : ℕ) × (refusal ≡ Trace line) × IsWrongIn may i steps trace line
    × (steps ≤ most → IfSome trace (λ text. WritesBefore (system_of i) line text old new)))

-- a trace of what the inputs declare is read, of which these bytes are known, and its dump is written with the inside of basic blocks
abbrev pub DumpsStates : Cut → (steps : ℕ) → Given → (trace : Held) → (old new : Held) → End → Type 0
DumpsStates may steps given trace old new (Ok Shown) = (i : Inputs) × Declares given i × IfSome trace (λ text. IsShownWith may (system_of i) steps text old new)
DumpsStates may steps given trace old new (Ok Helped) = ⊥
DumpsStates may steps given trace old new (Ok Explained) = ⊥
DumpsStates may steps given trace old new (Ok Accepted) = ⊥
DumpsStates may steps given trace old new (Ok Ended) = ⊥
DumpsStates may steps given trace old new (Ok Stopped) = ⊥
DumpsStates may steps given trace old new (Ok Met) = ⊥
DumpsStates may steps given trace old new (Ok Unmet) = ⊥
DumpsStates may steps given trace old new (Ok Same) = ⊥
DumpsStates may steps given trace old new (Ok Different) = ⊥
DumpsStates may steps given trace old new (Err (Refused refusal)) = (IsRefused given refusal × (new ≡ old)) ⊎ RefusesStates may given steps trace old new refusal
DumpsStates may steps given trace old new (Err File) = StatesFront given steps trace old new
DumpsStates may steps given trace old new (Err (Write n)) = StatesFront given steps trace old new
DumpsStates may steps given trace old new (Err Memory) = (new ≡ old) ⊎ StatesFront given steps trace old new
DumpsStates may steps given trace old new (Err (Line message)) = ⊥
DumpsStates may steps given trace old new (Err BadOption) = ⊥
DumpsStates may steps given trace old new (Err (RefusedTrace text)) = ⊥
