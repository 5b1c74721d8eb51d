-- How failures are reported, and the status of each end (this project's own).
use Rattle.std.specs.Prelude.{◌≡◌, ◌/◌, ◌%◌, ◌<◌, ℕ, List, [], ◌++◌, length, take, Option, Some, None, Result, Ok, Err, codes, decimal, string_bytes}
use Rattle.std.specs.Io.KnownBytes.{Appends}
use Rattle.fb_read.specs.Errors.{number_of as read_number}
use Rattle.fb_read.specs.declared.error.ReadError.{ReadError}
use Rattle.fb_read.specs.declared.error.ReadError.TheVariants as read
use Rattle.fb_expect.specs.Refusals as rules
use Rattle.fb_expect.specs.declared.error.RulesError.{RulesError}
use Rattle.fb_expect.specs.declared.parting.PartFault.{PartFault}
use Rattle.fb_expect.specs.declared.parting.PartFault.TheVariants as part_fault
use Rattle.fb_inputs.specs.Refusals as input
use Rattle.fb_inputs.specs.declared.error.InputError.{InputError}
use Rattle.fb_check.specs.Refusals as check
use Rattle.fb_check.specs.declared.error.CheckError.{CheckError}
use Rattle.fb_sim.specs.declared.outcome.Refusal as sim
use Rattle.fb_sim.specs.declared.outcome.Refusal.TheVariants as of
use Rattle.fb_sim.specs.declared.outcome.RunError.{RunError}
use Rattle.fb_sim.specs.declared.outcome.RunError.TheVariants as run
use Rattle.fb_inspect.specs.declared.error.InspectError.{InspectError}
use Rattle.fb_inspect.specs.declared.error.InspectError.TheVariants as inspect
use Rattle.fb_wave.specs.declared.error.WaveError.{WaveError}
use Rattle.fb_wave.specs.declared.error.WaveError.TheVariants as wave
use Rattle.fbsim_command.specs.Shown.{shown_name}
use Rattle.fbsim_command.specs.declared.failure.Failure.{Failure}
use Rattle.fbsim_command.specs.declared.failure.Failure.TheVariants.{Refused, RefusedTrace, File, Write, Memory, Line, BadOption}
use Rattle.fbsim_command.specs.declared.failure.RefusalLine.{RefusalLine}
use Rattle.fbsim_command.specs.declared.failure.RefusalLine.TheVariants.{Numbered, Syntax, Trace}
use Rattle.fbsim_command.specs.declared.sources.SourceFault.{SourceFault}
use Rattle.fbsim_command.specs.declared.sources.SourceFault.TheVariants as source
use Rattle.fbsim_command.specs.declared.statuses.Done.{Done}
use Rattle.fbsim_command.specs.declared.statuses.Done.TheVariants.{Helped, Explained, Accepted, Shown, Ended, Stopped, Met, Unmet, Same, Different}

-- ---- Failures

-- a refusal with this number; without one, out of memory
abbrev pub numbered_input : Option ℕ → Failure
numbered_input (Some n) = Refused (Numbered n)
numbered_input None = Memory

-- a syntax fault is reported with its line, any other refusal by its number
abbrev pub failure_of_read : ReadError → Failure
failure_of_read read.Memory = numbered_input (read_number read.Memory)
failure_of_read read.Byte = numbered_input (read_number read.Byte)
failure_of_read read.Token = numbered_input (read_number read.Token)
failure_of_read (read.Syntax line) = Refused (Syntax line)
failure_of_read read.TooLong = numbered_input (read_number read.TooLong)
failure_of_read read.Nesting = numbered_input (read_number read.Nesting)

abbrev pub failure_of_input : InputError → Failure
failure_of_input e = numbered_input (input.number_of e)

abbrev pub failure_of_check : CheckError → Failure
failure_of_check e = numbered_input (check.number_of e)

abbrev pub failure_of_refusal : sim.Refusal → Failure
failure_of_refusal (of.Declaration e) = failure_of_read e
failure_of_refusal (of.Deployment e) = failure_of_input e
failure_of_refusal (of.Stimuli e) = failure_of_input e
failure_of_refusal (of.Check e) = failure_of_check e

-- Only a simulation that is used after a failed call answers `Failed`, and the program has none.
abbrev pub failure_of : RunError → Failure
failure_of (run.Refused r) = failure_of_refusal r
failure_of run.Memory = Memory
failure_of (run.Write n) = Write n
failure_of run.BadOption = BadOption
failure_of run.Failed = Memory

abbrev pub failure_of_part : PartFault → Failure
failure_of_part part_fault.Memory = Memory
failure_of_part part_fault.First = File
failure_of_part part_fault.Second = File

-- why a trace of what was read has no dump; names are at fault only in what no text gives
abbrev pub IsWaveFailure : WaveError → Failure → Type 0
IsWaveFailure (wave.Refused line) failure = failure ≡ Refused (Trace line)
IsWaveFailure wave.Memory failure = failure ≡ Memory
IsWaveFailure wave.Read failure = failure ≡ File
IsWaveFailure (wave.Write n) failure = failure ≡ Write n
IsWaveFailure wave.Names failure = ⊥

-- why such a trace is not inspected
abbrev pub IsInspectionFailure : InspectError → Failure → Type 0
IsInspectionFailure (inspect.Refused line) failure = failure ≡ Refused (Trace line)
IsInspectionFailure inspect.Unknown failure = failure ≡ Refused (Numbered 21)
IsInspectionFailure inspect.Memory failure = failure ≡ Memory
IsInspectionFailure inspect.Read failure = failure ≡ File
IsInspectionFailure (inspect.Write n) failure = failure ≡ Write n
IsInspectionFailure inspect.Names failure = ⊥

abbrev pub failure_of_rules : RulesError → Failure
failure_of_rules e = numbered_input (rules.number_of e)

abbrev pub failure_of_source : SourceFault → Failure
failure_of_source source.File = File
failure_of_source source.Folder = File
failure_of_source source.Memory = Memory

-- ---- The texts

abbrev pub refusal_text : RefusalLine → List ℕ
refusal_text (Numbered n) = codes "refused E" ++ decimal (n / 10) ++ decimal (n % 10)
refusal_text (Syntax line) = codes "refused E03 line " ++ decimal line
refusal_text (Trace line) = codes "refused trace line " ++ decimal line

-- a trace that is refused, with its name and the line
abbrev pub refused_trace : (name : List ℕ) → (line : ℕ) → List ℕ
refused_trace name line = codes "refused trace " ++ (shown_name name ++ (codes " line " ++ decimal line))

abbrev pub failure_text : Failure → List ℕ
failure_text (Refused refusal) = refusal_text refusal
failure_text (RefusedTrace text) = string_bytes text
failure_text File = codes "file fault"
failure_text (Write n) = codes "write fault after " ++ decimal n ++ codes " bytes"
failure_text Memory = codes "out of memory"
failure_text (Line text) = string_bytes text
failure_text BadOption = codes "an option is out of range"

-- what standard error gets: the text, and a line end if the text has none of its own
abbrev pub reported : Failure → List ℕ
reported (Line text) = string_bytes text
reported failure = failure_text failure ++ codes "\n"

-- what standard error gets at the end of a call: the failure, and then the line of the note, if there is one
abbrev pub reported_of : Result Done Failure → Option (List ℕ) → List ℕ
reported_of (Ok d) text = []
reported_of (Err failure) None = reported failure
reported_of (Err failure) (Some text) = reported failure ++ text ++ codes "\n"

-- ---- Explanations

-- what a refusal or a reason means, with two examples of it, and what to look at
abbrev pub explained_text : (name meaning first second look : List ℕ) → List ℕ
explained_text name meaning first second look =
    name
    ++ (codes ": " ++ (meaning ++ (codes "\nFor example:\n- " ++ (first ++ (codes "\n- " ++ (second ++ (codes "\nLook at: " ++ (look ++ codes "\n"))))))))

-- the words ask for what is no refusal and no reason
abbrev pub no_refusal : (name : List ℕ) → List ℕ
no_refusal name = codes "error: no refusal or stop is called " ++ name ++ codes "\n"

-- ---- The statuses

abbrev pub status_of : Result Done Failure → ℕ
status_of (Ok Helped) = 0
status_of (Ok Explained) = 0
status_of (Ok Accepted) = 0
status_of (Ok Shown) = 0
status_of (Ok Ended) = 0
status_of (Ok Met) = 0
status_of (Ok Same) = 0
status_of (Ok Stopped) = 1
status_of (Ok Unmet) = 1
status_of (Ok Different) = 1
status_of (Err (Refused refusal)) = 2
status_of (Err (RefusedTrace text)) = 2
status_of (Err File) = 3
status_of (Err (Write n)) = 3
status_of (Err Memory) = 4
status_of (Err (Line text)) = 5
status_of (Err BadOption) = 5

-- ---- A writer that fails

-- The writer got the first bytes of a text, but not all, and `written` is how many.
pub record IsPartWritten (old new : Option (List ℕ)) (text : List ℕ) (written : ℕ) : Type 0 where
  pub short : written < length text
  pub got : Appends old new (take written text)

abbrev pub WritesPart : (old new : Option (List ℕ)) → List ℕ → Failure → Type 0
WritesPart old new text (Refused refusal) = ⊥
WritesPart old new text (RefusedTrace message) = ⊥
WritesPart old new text File = ⊥
WritesPart old new text (Write n) = IsPartWritten old new text n
WritesPart old new text Memory = ⊥
WritesPart old new text (Line message) = ⊥
WritesPart old new text BadOption = ⊥
