-- What a call of the program does (this project's own).
use Rattle.std.specs.Prelude.{◌≡◌, ◌⊎◌, ◌++◌, ℕ, Bool, true, false, List, [], map, Option, None, Result, Ok, Err, IfOk, codes, string_bytes}
use Rattle.std.specs.Borrow.{Bor}
use Rattle.std.specs.Global.{Vec}
use Rattle.std.specs.List.{list_any}
use Rattle.std.specs.Io.KnownBytes.{Appends}
use Rattle.std.specs.Str.{str_eq_ignore_ascii_case}
use Rattle.clap.specs.Words.{Text}
use Rattle.fb_types.specs.Simulation.{AtHorizon, AtStop}
use Rattle.fb_types.specs.declared.value.Reason.{Reason}
use Rattle.fb_sim.specs.Given.{Given}
use Rattle.fb_sim.specs.Rounds.{WritesFront}
use Rattle.fb_sim.specs.Serial as sim
use Rattle.fb_sim.specs.Serial.{AreWithin, IsDeclared, Writes}
use Rattle.fb_sim.specs.declared.options.Options.{Options}
use Rattle.fb_trace.specs.declared.last.Outcome.{Outcome}
use Rattle.fb_trace.specs.declared.last.Outcome.TheVariants as sim_end
use Rattle.fb_sim.specs.declared.outcome.RunError.{RunError}
use Rattle.fb_sim.specs.Reports.{AreReports}
use Rattle.fb_why.specs.Explained.{explained}
use Rattle.fb_why.specs.declared.table.Explanation.{Explanation}
use Rattle.fbsim_line.specs.Line.{AreCall, AreNoCall, AskHelp, IsTaken}
use Rattle.fbsim_command.specs.Failures.{IsPartWritten, explained_text, failure_of, failure_of_source, no_refusal, reported_of}
use Rattle.fbsim_command.specs.Notes.{Noted, NotesInput, NotesOf}
use Rattle.fbsim_command.specs.Outcomes.{End, Held, IsRefused}
use Rattle.fbsim_command.specs.OwnLines.{EndsIn}
use Rattle.fbsim_command.specs.WarningLines.{AreWarnings, Naming, naming_in}
use Rattle.fbsim_command.specs.Reading.{Reading, AreRead, IsUnread}
use Rattle.fbsim_command.specs.LateRows.{ReportsRows}
use Rattle.fbsim_command.specs.Stops.{ReportsStop}
use Rattle.fbsim_command.specs.Showing.{Opening, Shows}
use Rattle.fbsim_command.specs.Comparing.{Compares}
use Rattle.fbsim_command.specs.Covering.{ReportsCoverage}
use Rattle.fbsim_command.specs.Drawing.{Draws}
use Rattle.fbsim_command.specs.Expecting.{Expects}
use Rattle.fbsim_command.specs.Inspecting.{ShowsInsides}
use Rattle.fbsim_command.specs.Sessions.{TalksIn}
use Rattle.fbsim_line.specs.declared.bench_line.Diff.{Diff}
use Rattle.fbsim_line.specs.declared.bench_line.Expect.{Expect}
use Rattle.fbsim_line.specs.declared.coverage_line.Coverage.{Coverage}
use Rattle.fbsim_line.specs.declared.draw_line.Draw.{Draw}
use Rattle.fbsim_line.specs.declared.inspect_line.Inspect.{Inspect}
use Rattle.fbsim_line.specs.declared.session_line.SessionCall.{SessionCall}
use Rattle.fbsim_line.specs.declared.levels.Levels.{Levels}
use Rattle.fbsim_command.specs.Selecting.{IsSorting, IsUnsorted}
use Rattle.fbsim_command.specs.declared.failure.Failure.{Failure}
use Rattle.fbsim_command.specs.declared.selectors.Sorting.{Sorting}
use Rattle.fbsim_command.specs.declared.failure.Failure.TheVariants.{Refused, RefusedTrace, File, Write, Memory, Line, BadOption}
use Rattle.fbsim_line.specs.declared.line.Task.{Task}
use Rattle.fbsim_line.specs.declared.line.Action.{Action}
use Rattle.fbsim_line.specs.declared.line.Action.TheVariants.{Check, Run}
use Rattle.fbsim_line.specs.declared.line.Call.TheVariants as call
use Rattle.fbsim_line.specs.declared.line.Wave.{Wave}
use Rattle.fbsim_command.specs.declared.sources.SourceFault.{SourceFault}
use Rattle.fbsim_command.specs.declared.statuses.Done.{Done}
use Rattle.fbsim_command.specs.declared.statuses.Done.TheVariants.{Helped, Explained, Accepted, Shown, Ended, Stopped, Met, Unmet, Same, Different}
use Rattle.fbsim_command.specs.declared.texts.Part.{Part}
use Rattle.fbsim_command.specs.declared.join.FileLines.{FileLines}

-- How a check of accepted inputs ends, by whether one of the warnings about them is denied.
abbrev pub checked_by : Bool → Done
checked_by true = Unmet
checked_by false = Accepted

-- the inputs are checked, and warnings about them asked for, or not
abbrev pub Checks : (lint : Bool) → Given → (old new : Held) → End → Type 0
Checks lint given old new (Ok Accepted) = IsDeclared given × Appends old new (codes "accepted\n")
Checks lint given old new (Ok Helped) = ⊥
Checks lint given old new (Ok Explained) = ⊥
Checks lint given old new (Ok Ended) = ⊥
Checks lint given old new (Ok Shown) = ⊥
Checks lint given old new (Ok Stopped) = ⊥
Checks lint given old new (Ok Met) = ⊥
Checks true given old new (Ok Unmet) = IsDeclared given × Appends old new (codes "accepted\n")
Checks false given old new (Ok Unmet) = ⊥
Checks lint given old new (Ok Same) = ⊥
Checks lint given old new (Ok Different) = ⊥
Checks lint given old new (Err (Refused refusal)) = IsRefused given refusal × (new ≡ old)
Checks lint given old new (Err (Write n)) = IsDeclared given × IsPartWritten old new (codes "accepted\n") n
Checks lint given old new (Err Memory) = new ≡ old
Checks lint given old new (Err File) = ⊥
Checks lint given old new (Err (Line message)) = ⊥
Checks lint given old new (Err BadOption) = ⊥
Checks lint given old new (Err (RefusedTrace text)) = ⊥

abbrev pub IsDoneOf : Outcome → Done → Type 0
IsDoneOf (sim_end.End h) done = done ≡ Ended
IsDoneOf (sim_end.Stop mark) done = done ≡ Stopped

-- what a writer has when a run is out of memory: nothing, or a beginning of the trace
abbrev pub Wants : Given → Options → (old new : Held) → Type 0
Wants given o old new = (AreWithin o × (new ≡ old)) ⊎ WritesFront given o old new

-- the inputs are run
abbrev pub Runs : (serial : Bool) → Given → Options → (old new : Held) → End → Type 0
Runs serial given o old new (Ok Ended) = (horizon : ℕ) × Writes given o old new (AtHorizon horizon)
Runs serial given o old new (Ok Stopped) = (tick : ℕ) × (resource : ℕ) × (reason : Reason) × Writes given o old new (AtStop tick resource reason)
Runs serial given o old new (Ok Shown) = ⊥
Runs serial given o old new (Ok Met) = ⊥
Runs serial given o old new (Ok Unmet) = ⊥
Runs serial given o old new (Ok Same) = ⊥
Runs serial given o old new (Ok Different) = ⊥
Runs serial given o old new (Ok Helped) = ⊥
Runs serial given o old new (Ok Explained) = ⊥
Runs serial given o old new (Ok Accepted) = ⊥
Runs serial given o old new (Err (Refused refusal)) = AreWithin o × IsRefused given refusal × (new ≡ old)
Runs serial given o old new (Err (Write n)) = sim.WritesPart given o old new n
Runs serial given o old new (Err Memory) = Wants given o old new
Runs serial given o old new (Err BadOption) = (AreWithin o → ⊥) × (new ≡ old)
Runs serial given o old new (Err File) = ⊥
Runs serial given o old new (Err (RefusedTrace text)) = ⊥
Runs serial given o old new (Err (Line message)) = ⊥

-- what a task asks for is done with the inputs
abbrev pub Meets : Given → Action → (old new : Held) → End → Type 0
Meets given (Check lint) old new end = Checks lint given old new end
Meets given (Run horizon steps workers serial form progress) old new end =
    Runs serial given (record { horizon = horizon; steps = steps; workers = workers; form = form }) old new end

-- a call ends as its run did
abbrev pub IsEndOf : Result Outcome RunError → End → Type 0
IsEndOf (Ok outcome) end = (done : Done) × IsDoneOf outcome done × (end ≡ Ok done)
IsEndOf (Err error) end = end ≡ Err (failure_of error)

-- what is reported meanwhile: of a run with workers, if it is asked for, its progress, and else nothing
abbrev pub ReportsOn : (serial progress : Bool) → Given → Options → (old new : Held) → End → (reports : Text) → Type 0
ReportsOn false true given o old new end reports = (run : Result Outcome RunError) × IsEndOf run end × AreReports given o old new run reports
ReportsOn true true given o old new end reports = reports ≡ []
ReportsOn serial false given o old new end reports = reports ≡ []

-- What is reported of a check: of inputs that are accepted the warnings, if they are asked for, and else nothing. It ends by
-- whether one of these is denied.
abbrev pub Warns : (lint : Bool) → Naming → Given → Sorting → End → (reports : Text) → Type 0
Warns true n given s (Ok done) reports = (denied : Bool) × AreWarnings n given s reports denied × (done ≡ checked_by denied)
Warns true n given s (Err failure) reports = reports ≡ []
Warns false n given s end reports = reports ≡ []

abbrev pub Reports : Naming → Given → Action → Sorting → (old new : Held) → End → (reports : Text) → Type 0
Reports n given (Check lint) s old new end reports = Warns lint n given s end reports
Reports n given (Run horizon steps workers serial form progress) s old new end reports =
    ReportsOn serial progress given (record { horizon = horizon; steps = steps; workers = workers; form = form }) old new end reports

-- Of what is to be reported all was taken: these reports, and how a call ended, with its note.
abbrev pub IsReported : (reports : Text) → End → Noted → (old new : Held) → Type 0
IsReported reports end (Ok note) old new = Appends old new (reports ++ reported_of end note)
IsReported reports end (Err e) old new = ⊥

-- ---- The call

-- The files are read, and what the task asks for is done with them; then it is reported which rows a run did not come to, and where it
-- stopped. A syntax fault is one of the file that has it.
pub record AreReadAndDone {S : Type 0} (reads : Reading S) (from to : S) (types : List Text) (c : Task) (s : Sorting) (old new : Held) (end : End) (whole : Bool) (reports : Text) (note : Noted) : Type 0 where
  pub lines : List FileLines
  pub given : Given
  pub read : AreRead reads types c from to lines given
  pub inner : End
  pub done : Meets given c.action old new inner
  pub first : Text
  pub reported : Reports (naming_in types c lines) given c.action s old new inner first
  pub rows : Text
  pub late : ReportsRows c given.stimuli inner whole rows
  pub last : Text
  pub located : ReportsStop types c lines given inner whole last
  pub reports_are : reports ≡ (first ++ rows) ++ last
  pub noted : IfOk note (NotesOf types c lines given inner)
  pub ends : EndsIn types c.declaration.now lines inner end

-- A file is not read.
pub record IsFileFault {S : Type 0} (reads : Reading S) (from to : S) (types : List Text) (c : Task) (old new : Held) (end : End) (reports : Text) (note : Noted) : Type 0 where
  pub part : Part
  pub fault : SourceFault
  pub unread : IsUnread reads types c from to part fault
  pub failed : end ≡ Err (failure_of_source fault)
  pub same : new ≡ old
  pub reported : reports ≡ []
  pub noted : IfOk note (NotesInput types c part fault)

abbrev pub Performs : {S : Type 0} → Reading S → (from to : S) → (types : List Text) → Task → Sorting → (old new : Held) → End → (whole : Bool) → (reports : Text) → (note : Noted) → Type 0
Performs reads from to types c s old new end whole reports note =
    AreReadAndDone reads from to types c s old new end whole reports note ⊎ IsFileFault reads from to types c old new end reports note

-- nothing is read, and only the end is reported
abbrev pub ReportsNoMore : {S : Type 0} → (from to : S) → (reports : Text) → (note : Noted) → Type 0
ReportsNoMore from to reports note = (to ≡ from) × (reports ≡ []) × (note ≡ Ok None)

-- What is said of warnings names some that there are, and the task is performed; or it doesn't, and nothing is read.
abbrev pub SortsAndPerforms : {S : Type 0} → Reading S → (from to : S) → (types : List Text) → Task → Levels → (old new : Held) → End → (whole : Bool) → (reports : Text) → (note : Noted) → Type 0
SortsAndPerforms reads from to types c l old new end whole reports note =
    ((s : Sorting) × IsSorting l s × Performs reads from to types c s old new end whole reports note)
    ⊎ ((failure : Failure) × IsUnsorted l failure × (end ≡ Err failure) × (new ≡ old) × ReportsNoMore from to reports note)

-- whether a refusal or a reason has this name, in any letter case
abbrev pub is_explained : (name : Text) → Bool
is_explained name = list_any (λ n. str_eq_ignore_ascii_case n name) explained

abbrev pub IsRefusalName : (name : Text) → Type 0
IsRefusalName name = is_explained name ≡ true

-- the words ask what a refusal or a reason means
abbrev pub ExplainsRefusal : (name : Text) → (old new : Held) → End → Type 0
ExplainsRefusal name old new (Ok Explained) =
    IsRefusalName name × (e : Explanation) × (first : Text) × (second : Text) × (str_eq_ignore_ascii_case e.name.now name ≡ true) × Appends old new (explained_text e.name.now e.meaning.now first second e.look.now)
ExplainsRefusal name old new (Ok Helped) = ⊥
ExplainsRefusal name old new (Ok Accepted) = ⊥
ExplainsRefusal name old new (Ok Ended) = ⊥
ExplainsRefusal name old new (Ok Shown) = ⊥
ExplainsRefusal name old new (Ok Stopped) = ⊥
ExplainsRefusal name old new (Ok Met) = ⊥
ExplainsRefusal name old new (Ok Unmet) = ⊥
ExplainsRefusal name old new (Ok Same) = ⊥
ExplainsRefusal name old new (Ok Different) = ⊥
ExplainsRefusal name old new (Err (Write n)) =
    IsRefusalName name × (e : Explanation) × (first : Text) × (second : Text) × (str_eq_ignore_ascii_case e.name.now name ≡ true) × IsPartWritten old new (explained_text e.name.now e.meaning.now first second e.look.now) n
ExplainsRefusal name old new (Err (Line message)) =
    (is_explained name ≡ false) × (string_bytes message ≡ no_refusal name) × (new ≡ old)
ExplainsRefusal name old new (Err Memory) = new ≡ old
ExplainsRefusal name old new (Err (Refused refusal)) = ⊥
ExplainsRefusal name old new (Err File) = ⊥
ExplainsRefusal name old new (Err BadOption) = ⊥
ExplainsRefusal name old new (Err (RefusedTrace text)) = ⊥

-- the words name no call
abbrev pub Explains : List Text → (old new : Held) → End → Type 0
Explains words old new (Ok Helped) = AskHelp words × ((help : Text) × Appends old new help)
Explains words old new (Ok Explained) = ⊥
Explains words old new (Ok Accepted) = ⊥
Explains words old new (Ok Ended) = ⊥
Explains words old new (Ok Shown) = ⊥
Explains words old new (Ok Stopped) = ⊥
Explains words old new (Ok Met) = ⊥
Explains words old new (Ok Unmet) = ⊥
Explains words old new (Ok Same) = ⊥
Explains words old new (Ok Different) = ⊥
Explains words old new (Err (Write n)) = AskHelp words × ((help : Text) × IsPartWritten old new help n)
Explains words old new (Err (Line message)) = AreNoCall words × (new ≡ old)
Explains words old new (Err Memory) = new ≡ old
Explains words old new (Err (Refused refusal)) = ⊥
Explains words old new (Err File) = ⊥
Explains words old new (Err BadOption) = ⊥
Explains words old new (Err (RefusedTrace text)) = ⊥

-- the names of a list of files
abbrev pub names_of : Vec (Bor Text) → List Text
names_of v = map (λ n. n.now) v.items

-- The program does what the words call for: `run` or `check`, `wave`, `explain`, `expect`, `diff`, `draw`, `inspect`,
-- `coverage` or `session`. Or they name no call.
abbrev pub Does : {S : Type 0} → Reading S → Opening S → (from to : S) → List Text → (old new : Held) → End → (whole : Bool) → (reports : Text) → (note : Noted) → Type 0
Does reads opens from to words old new end whole reports note =
    ((c : Task) × (types : Vec (Bor Text)) × (l : Levels) × AreCall words (call.Task c types l) × IsTaken words × SortsAndPerforms reads from to (names_of types) c l old new end whole reports note)
    ⊎ ((w : Wave) × (types : Vec (Bor Text)) × AreCall words (call.Wave w types) × IsTaken words × Shows reads opens from to (names_of types) w old new end note × (reports ≡ []))
    ⊎ ((name : Bor Text) × AreCall words (call.Explain name) × IsTaken words × ExplainsRefusal name.now old new end × ReportsNoMore from to reports note)
    ⊎ ((x : Expect) × AreCall words (call.Expect x) × IsTaken words × Expects reads opens from to x old new end note × (reports ≡ []))
    ⊎ ((d : Diff) × AreCall words (call.Diff d) × IsTaken words × Compares opens from to d old new end note × (reports ≡ []))
    ⊎ ((d : Draw) × (types : Vec (Bor Text)) × AreCall words (call.Draw d types) × IsTaken words × Draws reads from to (names_of types) d old new end note × (reports ≡ []))
    ⊎ ((x : Inspect) × (types : Vec (Bor Text)) × AreCall words (call.Inspect x types) × IsTaken words × ShowsInsides reads opens from to (names_of types) x old new end note × (reports ≡ []))
    ⊎ ((x : Coverage) × (types : Vec (Bor Text)) × AreCall words (call.Coverage x types) × IsTaken words × ReportsCoverage reads opens from to (names_of types) x old new end note × (reports ≡ []))
    ⊎ ((x : SessionCall) × (types : Vec (Bor Text)) × AreCall words (call.Session x types) × IsTaken words × TalksIn reads opens from to (names_of types) x old new end × (reports ≡ []) × (note ≡ Ok None))
    ⊎ (Explains words old new end × ReportsNoMore from to reports note)
