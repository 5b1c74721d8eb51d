-- What a call that reports what traces cover does (docs/FORMATS.md, "What traces cover"; this project's own).
use Rattle.std.specs.Prelude.{◌≡◌, ◌⊎◌, ℕ, ◌+◌, Bool, true, false, nat_eq, nat_lt, if◌then◌else◌, List, [], ◌∷◌, ◌++◌, length, map, Option, Some, None, IfOk, IfSome, Ok, Err, codes, decimal, string_bytes}
use Rattle.std.specs.Io.KnownBytes.{Appends}
use Rattle.clap.specs.Words.{Text}
use Rattle.fb_types.specs.Headline.{Inputs, system_of}
use Rattle.fb_coverage.specs.Openings.{opening_marks}
use Rattle.fb_coverage.specs.OfSystem.{is_below}
use Rattle.fb_coverage.specs.Reports.{report_text}
use Rattle.fb_coverage.specs.declared.marks.Marks.{Marks}
use Rattle.fb_inspect.specs.Covering.{Covers}
use Rattle.fb_inspect.specs.declared.error.InspectError.{InspectError}
use Rattle.fb_inspect.specs.declared.error.InspectError.TheVariants as inspection
use Rattle.fb_inspect.specs.declared.refused.finding.RefusedLine.{RefusedLine}
use Rattle.fb_inspect.specs.declared.walk.Extent.{Extent}
use Rattle.fb_inspect.specs.declared.walk.Extent.TheVariants.{Whole, CutOff}
use Rattle.fb_wave.specs.declared.truncation.Cut.{Cut}
use Rattle.fb_sim.specs.Given.{Given}
use Rattle.fb_sim.specs.Serial.{Declares}
use Rattle.fbsim_command.specs.Expecting.{IsNoTrace}
use Rattle.fbsim_command.specs.Failures.{IsPartWritten, failure_of_source, refused_trace}
use Rattle.fbsim_command.specs.InsideNotes.{IsFoundAt, SaysInside}
use Rattle.fbsim_command.specs.Notes.{Follows, IsUnnoted, Noted, Notes, NotesEnd, NotesInput, NotesOf}
use Rattle.fbsim_command.specs.Outcomes.{End, Held, IsRefused}
use Rattle.fbsim_command.specs.OwnLines.{EndsIn}
use Rattle.fbsim_command.specs.Reading.{Reading, AreRead, IsUnread, checked}
use Rattle.fbsim_command.specs.Showing.{Opening}
use Rattle.fbsim_command.specs.Texts.{may_be_cut}
use Rattle.fbsim_command.specs.WrongLines.{IsWrongIn}
use Rattle.fbsim_line.specs.declared.coverage_line.Coverage.{Coverage}
use Rattle.fbsim_command.specs.Shown.{shown_name}
use Rattle.fbsim_command.specs.declared.coverage.Gleaned.{Gleaned}
use Rattle.fbsim_command.specs.declared.failure.Failure.{Failure}
use Rattle.fbsim_command.specs.declared.failure.Failure.TheVariants.{Refused, RefusedTrace, File, Write, Memory, Line, BadOption}
use Rattle.fbsim_command.specs.declared.failure.RefusalLine.TheVariants.{Trace}
use Rattle.fbsim_line.specs.declared.line.Task.{Task}
use Rattle.fbsim_command.specs.declared.sources.SourceFault.{SourceFault}
use Rattle.fbsim_command.specs.declared.statuses.Done.{Done}
use Rattle.fbsim_command.specs.declared.statuses.Done.TheVariants.{Helped, Explained, Accepted, Shown, Ended, Stopped, Met, Unmet, Same, Different}
use Rattle.fbsim_command.specs.declared.texts.Part.{Part}
use Rattle.fbsim_command.specs.declared.join.FileLines.{FileLines}

-- the call that checks what traces are of
abbrev pub files_of : Coverage → Task
files_of x = checked x.declaration x.deploy x.why

abbrev pub names_of : Coverage → List Text
names_of x = map (λ t. t.now) x.traces.items

-- there are several traces, so that a refusal names one
abbrev pub are_several : Coverage → Bool
are_several x = nat_lt 1 (length x.traces.items)

-- ---- Traces

-- whether traces may be cut off
abbrev pub cut_of : Coverage → Cut
cut_of x = may_be_cut x.is_cut

-- one more that is cut off, or not
abbrev pub cut_count : Extent → ℕ → ℕ
cut_count Whole n = n
cut_count CutOff n = n + 1

-- A trace is opened and gone through, and what it covers is marked next to what others covered.
pub record GoesThrough {S : Type 0} (opens : Opening S) (i : Inputs) (x : Coverage) (name : Text) (from to : S) (old new : Gleaned) : Type 0 where
  pub trace : Held
  pub opened : opens from name (Ok trace) to
  pub extent : Extent
  pub covers : IfSome trace (λ text. Covers (cut_of x) i x.steps text old.marks new.marks extent)
  pub cuts : new.cut ≡ cut_count extent old.cut

-- the same of traces, one after the other
abbrev pub GoThrough : {S : Type 0} → Opening S → Inputs → Coverage → List Text → (from to : S) → (old new : Gleaned) → Type 0
GoThrough opens i x [] from to old new = (to ≡ from) × (new ≡ old)
GoThrough {S} opens i x (name ∷ names) from to old new =
    (between : S) × (m : Gleaned) × GoesThrough opens i x name from between old m × GoThrough opens i x names between to m new

-- before the first trace
abbrev pub IsFirst : Inputs → Gleaned → Type 0
IsFirst i g = (g.marks ≡ opening_marks i.library.blocks (system_of i)) × (g.cut ≡ 0)

-- All traces are gone through, and this is gleaned from them.
abbrev pub AreGoneThrough : {S : Type 0} → Opening S → Inputs → Coverage → (from to : S) → Gleaned → Type 0
AreGoneThrough opens i x from to gleaned = (first : Gleaned) × IsFirst i first × GoThrough opens i x (names_of x) from to first gleaned

-- how many of the traces are cut off, where some are
abbrev pub cut_line : (cut of : ℕ) → Text
cut_line k n = if nat_eq k 0 then [] else codes "traces cut " ++ (decimal k ++ (codes " of " ++ (decimal n ++ codes "\n")))

-- the report of what is gleaned from traces
abbrev pub coverage_text : Inputs → Coverage → Gleaned → Text
coverage_text i x g = report_text i.library (system_of i) g.marks ++ cut_line g.cut (length x.traces.items)

-- traces cover less than is asked for
abbrev pub is_too_little : Inputs → (least : Option ℕ) → Marks → Bool
is_too_little i None marks = false
is_too_little i (Some least) marks = is_below i least marks

-- The inputs are accepted, all traces are gone through, and this is the report of what they cover, and whether that is too little.
pub record IsReport {S : Type 0} (opens : Opening S) (given : Given) (x : Coverage) (from to : S) (text : Text) (too_little : Bool) : Type 0 where
  pub inputs : Inputs
  pub declared : Declares given inputs
  pub gleaned : Gleaned
  pub gone : AreGoneThrough opens inputs x from to gleaned
  pub is : text ≡ coverage_text inputs x gleaned
  pub less : too_little ≡ is_too_little inputs x.least gleaned.marks

-- ---- Traces that are not gone through

-- what is reported of a trace that is refused at a line
abbrev pub RefusesAt : (is_named : Bool) → (name : Text) → (line : ℕ) → Failure → Type 0
RefusesAt true name line (RefusedTrace text) = string_bytes text ≡ refused_trace name line
RefusesAt true name line Memory = Unit {0}
RefusesAt true name line _ = ⊥
RefusesAt false name line (Refused refusal) = refusal ≡ Trace line
RefusesAt false name line _ = ⊥

-- The failure for which a trace is not gone through. What is written is dropped, so a writer that fails is out of memory.
abbrev pub IsTraceFailure : (is_named : Bool) → (name : Text) → InspectError → Failure → Type 0
IsTraceFailure is_named name (inspection.Refused line) failure = RefusesAt is_named name line failure
IsTraceFailure is_named name inspection.Memory failure = failure ≡ Memory
IsTraceFailure is_named name inspection.Read failure = failure ≡ File
IsTraceFailure is_named name (inspection.Write n) failure = failure ≡ Memory
IsTraceFailure is_named name inspection.Names failure = ⊥
IsTraceFailure is_named name inspection.Unknown failure = ⊥

-- how the note to a line begins, which names the trace where there are several
abbrev pub note_front : (is_named : Bool) → (name : Text) → Text
note_front true name = codes "trace " ++ shown_name name
note_front false name = codes "trace"

-- What is said of a line at which a trace of this name is refused: there is a note where one is asked for, unless no words say what is
-- wrong with the line.
abbrev pub NotesRefusal : Inputs → Coverage → (name : Text) → (trace : Held) → (line : ℕ) → Noted → Type 0
NotesRefusal i x name trace line note =
    IfOk note (Notes x.why (λ n. (r : RefusedLine) × IsFoundAt i x.steps trace line r × SaysInside i r (note_front (are_several x) name) line n))

-- A trace is opened, and refused for a line that is wrong, and the note is one to this line.
pub record RefusesOne {S : Type 0} (opens : Opening S) (i : Inputs) (x : Coverage) (name : Text) (from to : S) (note : Noted) (failure : Failure) : Type 0 where
  pub trace : Held
  pub opened : opens from name (Ok trace) to
  pub line : ℕ
  pub is_wrong : IsWrongIn (cut_of x) i x.steps trace line
  pub reported : RefusesAt (are_several x) name line failure
  pub noted : NotesRefusal i x name trace line note

-- the note to a trace that is opened and not gone through, by the error, and by what was found at the line at which it is refused
abbrev pub NotesWalk : Inputs → Coverage → (name : Text) → RefusedLine → InspectError → Noted → Type 0
NotesWalk i x name r (inspection.Refused line) note = IfOk note (Notes x.why (SaysInside i r (note_front (are_several x) name) line))
NotesWalk i x name r inspection.Read note = IfOk note (NotesEnd x.why name)
NotesWalk i x name r inspection.Memory note = IsUnnoted note
NotesWalk i x name r (inspection.Write n) note = IsUnnoted note
NotesWalk i x name r inspection.Names note = IsUnnoted note
NotesWalk i x name r inspection.Unknown note = IsUnnoted note

-- A trace is not gone through, by the failure. Where memory ran out, nothing is noted, or a line of the trace was refused before.
abbrev pub IsStopped : {S : Type 0} → Opening S → Inputs → Coverage → (name : Text) → (from to : S) → Noted → Failure → Type 0
IsStopped opens i x name from to note (Refused refusal) = RefusesOne opens i x name from to note (Refused refusal)
IsStopped opens i x name from to note (RefusedTrace text) = RefusesOne opens i x name from to note (RefusedTrace text)
IsStopped opens i x name from to note File = IsNoTrace opens x.why from to name note
IsStopped opens i x name from to note Memory = IsUnnoted note ⊎ RefusesOne opens i x name from to note Memory
IsStopped opens i x name from to note (Write n) = ⊥
IsStopped opens i x name from to note (Line message) = ⊥
IsStopped opens i x name from to note BadOption = ⊥

-- Those before a trace are gone through, and it is not.
pub record StopsAt {S : Type 0} (opens : Opening S) (i : Inputs) (x : Coverage) (from to : S) (note : Noted) (failure : Failure) : Type 0 where
  pub before : List Text
  pub name : Text
  pub following : List Text
  pub parts : names_of x ≡ before ++ name ∷ following
  pub between : S
  pub first : Gleaned
  pub is_first : IsFirst i first
  pub gleaned : Gleaned
  pub gone : GoThrough opens i x before from between first gleaned
  pub stopped : IsStopped opens i x name between to note failure

-- one of the traces is not, by the failure
abbrev pub AreStopped : {S : Type 0} → Opening S → Inputs → Coverage → (from to : S) → Noted → Failure → Type 0
AreStopped opens i x from to note (Refused refusal) = StopsAt opens i x from to note (Refused refusal)
AreStopped opens i x from to note (RefusedTrace text) = StopsAt opens i x from to note (RefusedTrace text)
AreStopped opens i x from to note File = StopsAt opens i x from to note File
AreStopped opens i x from to note Memory = IsUnnoted note ⊎ StopsAt opens i x from to note Memory
AreStopped opens i x from to note (Write n) = ⊥
AreStopped opens i x from to note (Line message) = ⊥
AreStopped opens i x from to note BadOption = ⊥

-- the inputs are accepted, and one of the traces is not gone through
abbrev pub MayStop : {S : Type 0} → Opening S → Given → Coverage → (from to : S) → Noted → Failure → Type 0
MayStop opens given x from to note failure = (i : Inputs) × Declares given i × AreStopped opens i x from to note failure

-- nothing is reported: the inputs are refused, as a check refuses them, or a trace is not gone through, or memory ran out
abbrev pub IsUnreported : {S : Type 0} → Opening S → Given → Coverage → (from to : S) → Noted → Failure → Type 0
IsUnreported opens given x from to note (Refused refusal) = (IsRefused given refusal × (to ≡ from) × IsUnnoted note) ⊎ MayStop opens given x from to note (Refused refusal)
IsUnreported opens given x from to note (RefusedTrace text) = MayStop opens given x from to note (RefusedTrace text)
IsUnreported opens given x from to note File = MayStop opens given x from to note File
IsUnreported opens given x from to note Memory = IsUnnoted note ⊎ MayStop opens given x from to note Memory
IsUnreported opens given x from to note (Write n) = ⊥
IsUnreported opens given x from to note (Line message) = ⊥
IsUnreported opens given x from to note BadOption = ⊥

-- ---- What is written

-- how a call ends, by whether traces cover too little
abbrev pub covered_by : Bool → Done
covered_by true = Unmet
covered_by false = Shown

-- The report is written, or nothing is. The note is one to a trace.
abbrev pub WritesReport : {S : Type 0} → Opening S → Given → Coverage → (from to : S) → (old new : Held) → Noted → End → Type 0
WritesReport opens given x from to old new note (Ok Shown) = (text : Text) × IsReport opens given x from to text false × Appends old new text × IsUnnoted note
WritesReport opens given x from to old new note (Ok Helped) = ⊥
WritesReport opens given x from to old new note (Ok Explained) = ⊥
WritesReport opens given x from to old new note (Ok Accepted) = ⊥
WritesReport opens given x from to old new note (Ok Ended) = ⊥
WritesReport opens given x from to old new note (Ok Stopped) = ⊥
WritesReport opens given x from to old new note (Ok Met) = ⊥
WritesReport opens given x from to old new note (Ok Unmet) = (text : Text) × IsReport opens given x from to text true × Appends old new text × IsUnnoted note
WritesReport opens given x from to old new note (Ok Same) = ⊥
WritesReport opens given x from to old new note (Ok Different) = ⊥
WritesReport opens given x from to old new note (Err (Write n)) = (text : Text) × (less : Bool) × IsReport opens given x from to text less × IsPartWritten old new text n × IsUnnoted note
WritesReport opens given x from to old new note (Err (Refused refusal)) = IsUnreported opens given x from to note (Refused refusal) × (new ≡ old)
WritesReport opens given x from to old new note (Err (RefusedTrace text)) = IsUnreported opens given x from to note (RefusedTrace text) × (new ≡ old)
WritesReport opens given x from to old new note (Err File) = IsUnreported opens given x from to note File × (new ≡ old)
WritesReport opens given x from to old new note (Err Memory) = IsUnreported opens given x from to note Memory × (new ≡ old)
WritesReport opens given x from to old new note (Err (Line message)) = ⊥
WritesReport opens given x from to old new note (Err BadOption) = ⊥

-- ---- What is read

-- All is read that traces are of, and what they cover is reported. A syntax fault is one of the file that has it.
-- The note is one to a trace, or else that of a check.
pub record IsReadAndReported {S : Type 0} (reads : Reading S) (opens : Opening S) (from to : S) (types : List Text) (x : Coverage) (old new : Held) (end : End) (note : Noted) : Type 0 where
  pub lines : List FileLines
  pub given : Given
  pub between : S
  pub read : AreRead reads types (files_of x) from between lines given
  pub inner : End
  pub of_trace : Noted
  pub done : WritesReport opens given x between to old new of_trace inner
  pub noted : Follows of_trace (NotesOf types (files_of x) lines given inner) note
  pub ends : EndsIn types x.declaration.now lines inner end

-- A file is not read.
pub record IsNotRead {S : Type 0} (reads : Reading S) (from to : S) (types : List Text) (x : Coverage) (old new : Held) (end : End) (note : Noted) : Type 0 where
  pub part : Part
  pub fault : SourceFault
  pub unread : IsUnread reads types (files_of x) from to part fault
  pub failed : end ≡ Err (failure_of_source fault)
  pub noted : IfOk note (NotesInput types (files_of x) part fault)
  pub same : new ≡ old

abbrev pub ReportsCoverage : {S : Type 0} → Reading S → Opening S → (from to : S) → (types : List Text) → Coverage → (old new : Held) → End → Noted → Type 0
ReportsCoverage reads opens from to types x old new end note =
    IsReadAndReported reads opens from to types x old new end note ⊎ IsNotRead reads from to types x old new end note
