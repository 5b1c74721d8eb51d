-- What a call that holds rules against traces does (docs/FORMATS.md, "Rules over traces"; this project's own).
use Rattle.std.specs.Prelude.{option_map, ◌≡◌, ◌⊎◌, ℕ, ◌+◌, ◌*◌, ◌<◌, ◌≤◌, Bool, true, false, ◌&&◌, if◌then◌else◌, nat_lt, List, [], ◌∷◌, ◌++◌, length, map, Option, Some, None, IfOk, IfSome, Ok, Err, codes, string_bytes}
use Rattle.std.specs.Borrow.{Bor}
use Rattle.std.specs.List.{list_all}
use Rattle.std.specs.Io.KnownBytes.{Appends}
use Rattle.clap.specs.Words.{Text}
use Rattle.fb_types.specs.Headline.{Inputs, system_of}
use Rattle.fb_sim.specs.Given.{Given}
use Rattle.fb_sim.specs.Serial.{Declares}
use Rattle.fb_expect.specs.Applied.{applied_points, applied_suite, counts_of, have_applied}
use Rattle.fb_expect.specs.Judging as judging
use Rattle.fb_expect.specs.Judging.{Judges}
use Rattle.fb_expect.specs.Locations.{IsLocation, number_at, refusal_of}
use Rattle.fb_expect.specs.Reading.{most_bytes, rules_of}
use Rattle.fb_expect.specs.Reports.{all_points, are_well, plan, points}
use Rattle.fb_expect.specs.Suites.{suite, suites_head, suites_tail}
use Rattle.fb_expect.specs.declared.fault.TraceError.{TraceError}
use Rattle.fb_expect.specs.declared.fault.TraceError.TheVariants as trace_error
use Rattle.fb_expect.specs.declared.judging.Cut.{Cut}
use Rattle.fb_expect.specs.declared.judging.Cut.TheVariants as cut
use Rattle.fb_expect.specs.declared.judging.Judged.{Judged}
use Rattle.fb_expect.specs.declared.location.RuleKey.{RuleKey}
use Rattle.fb_expect.specs.declared.location.RulesLocation.{RulesLocation}
use Rattle.fb_expect.specs.declared.rule.Rule.{Rule}
use Rattle.fbsim_command.specs.Failures.{IsPartWritten, failure_of_source, refused_trace}
use Rattle.fbsim_command.specs.Known.{IsUnknownAt, has_names}
use Rattle.fb_why.specs.Findings.{IsSilent}
use Rattle.fbsim_command.specs.InputNotes.{FileNames}
use Rattle.fbsim_command.specs.Notes.{Follows, IsNoteOfNumber, IsUnnoted, Noted, Notes, NotesEnd, NotesInput, SaysUnread, number_of}
use Rattle.fbsim_command.specs.Outcomes.{End, HasRefusal, Held, IsRefused}
use Rattle.fbsim_command.specs.OwnLines.{EndsIn, IsPlacedText}
use Rattle.fbsim_command.specs.Reading.{Reading, AreRead, IsUnread, checked}
use Rattle.fbsim_command.specs.Showing.{Opening}
use Rattle.fbsim_line.specs.declared.bench_line.Expect.{Expect}
use Rattle.fbsim_command.specs.declared.failure.Failure.{Failure}
use Rattle.fbsim_command.specs.declared.failure.Failure.TheVariants.{Refused, RefusedTrace, File, Write, Memory, Line, BadOption}
use Rattle.fbsim_command.specs.declared.failure.RefusalLine.{RefusalLine}
use Rattle.fbsim_command.specs.declared.failure.RefusalLine.TheVariants.{Numbered}
use Rattle.fbsim_line.specs.declared.line.Task.{Task}
use Rattle.fbsim_command.specs.declared.sources.SourceFault.{SourceFault}
use Rattle.fbsim_command.specs.declared.statuses.Done.TheVariants.{Helped, Explained, Accepted, Shown, Ended, Stopped, Met, Unmet, Same, Different}
use Rattle.fbsim_command.specs.declared.texts.Part.{Part}
use Rattle.fbsim_command.specs.declared.join.FileLines.{FileLines}

-- ---- What is read before the traces

-- the call that checks the declaration in which the names of the rules must be
abbrev pub files_of : Expect → Bor Text → Task
files_of x declaration = checked declaration x.deploy x.why

-- one byte more than rules may have
abbrev pub asked_rules : ℕ
asked_rules = most_bytes + 1

-- the names of the files of block types
abbrev pub types_of : Expect → List Text
types_of x = map (λ t. t.now) x.types.items

-- the name of the declaration's own file, if there is one
abbrev pub own_of : Option (Bor Text) → Text
own_of None = []
own_of (Some name) = name.now

-- the names of its inputs: there are no stimuli
abbrev pub input_names_of : Expect → FileNames
input_names_of x = record { deploy = option_map (λ d. d.now) x.deploy; stimuli = None }

-- the declaration and the deployment are read, where a declaration is named
abbrev pub MayDeclare : {S : Type 0} → Reading S → Expect → Option (Bor Text) → (old new : S) → (lines : List FileLines) → Option Given → Type 0
MayDeclare reads x None old new lines None = (new ≡ old) × (lines ≡ [])
MayDeclare reads x None old new lines (Some given) = ⊥
MayDeclare reads x (Some name) old new lines None = ⊥
MayDeclare reads x (Some name) old new lines (Some given) = AreRead reads (types_of x) (files_of x name) old new lines given

-- The rules are read, and then what their names must be in.
pub record AreRulesRead {S : Type 0} (reads : Reading S) (x : Expect) (old new : S) (bytes : Text) (lines : List FileLines) (declared : Option Given) : Type 0 where
  pub between : S
  pub rules : reads old x.rules.now asked_rules (Ok bytes) between
  pub declaration : MayDeclare reads x x.declaration between new lines declared

-- this file is the first of them that is not read, for this fault
abbrev pub IsUndeclared : {S : Type 0} → Reading S → Expect → Option (Bor Text) → (old new : S) → Part → SourceFault → Type 0
IsUndeclared reads x None old new part fault = ⊥
IsUndeclared reads x (Some name) old new part fault = IsUnread reads (types_of x) (files_of x name) old new part fault

-- The rules are read, and then this file is not, for this fault.
pub record AreNamesUnread {S : Type 0} (reads : Reading S) (x : Expect) (old new : S) (part : Part) (fault : SourceFault) : Type 0 where
  pub between : S
  pub bytes : Text
  pub rules : reads old x.rules.now asked_rules (Ok bytes) between
  pub declaration : IsUndeclared reads x x.declaration between new part fault

-- the note to the file of the rules, which is not read, where one is asked for
abbrev pub NotesRulesFile : Expect → SourceFault → Option Text → Type 0
NotesRulesFile x fault note = Notes x.why (SaysUnread (codes "rules") x.rules.now fault) note

-- the note to this file of the declaration, which is not read, where one is asked for
abbrev pub NotesNamesFile : Expect → Option (Bor Text) → Part → SourceFault → Option Text → Type 0
NotesNamesFile x None part fault note = note ≡ None
NotesNamesFile x (Some name) part fault note = NotesInput (types_of x) (files_of x name) part fault note

-- a file is not read, for this fault, and such a note is given
abbrev pub AreUnread : {S : Type 0} → Reading S → Expect → (old new : S) → SourceFault → Noted → Type 0
AreUnread reads x old new fault note =
    (reads old x.rules.now asked_rules (Err fault) new × IfOk note (NotesRulesFile x fault))
    ⊎ ((part : Part) × AreNamesUnread reads x old new part fault × IfOk note (NotesNamesFile x x.declaration part fault))

-- ---- Rules

-- the inputs are accepted, and their system has a port for each pattern, or not
abbrev pub Names : Given → List Rule → (known : Bool) → Type 0
Names given rules known = (i : Inputs) × Declares given i × (has_names (system_of i) rules ≡ known)

abbrev pub AreNamed : Option Given → List Rule → Type 0
AreNamed None rules = Unit {0}
AreNamed (Some given) rules = Names given rules true

-- These are the rules of the bytes, and what is declared has their names.
pub record AreRules (bytes : Text) (declared : Option Given) (rules : List Rule) : Type 0 where
  pub are : rules_of bytes ≡ Ok rules
  pub named : AreNamed declared rules

-- The bytes are refused.
pub record AreRefused (bytes : Text) (refusal : RefusalLine) : Type 0 where
  pub number : ℕ
  pub are : rules_of bytes ≡ Err number
  pub reported : refusal ≡ Numbered number

-- The bytes are rules, and what is declared is refused, as a check refuses it.
pub record IsPlanRefused (bytes : Text) (declared : Option Given) (refusal : RefusalLine) : Type 0 where
  pub rules : List Rule
  pub are : rules_of bytes ≡ Ok rules
  pub given : Given
  pub is : declared ≡ Some given
  pub refused : IsRefused given refusal

-- The bytes are rules, and what is declared does not have their names.
pub record AreUnnamed (bytes : Text) (declared : Option Given) (refusal : RefusalLine) : Type 0 where
  pub rules : List Rule
  pub are : rules_of bytes ≡ Ok rules
  pub given : Given
  pub is : declared ≡ Some given
  pub unknown : Names given rules false
  pub reported : refusal ≡ Numbered 45

abbrev pub RefusesRules : Text → Option Given → RefusalLine → Type 0
RefusesRules bytes declared refusal = AreRefused bytes refusal ⊎ IsPlanRefused bytes declared refusal ⊎ AreUnnamed bytes declared refusal

-- what keeps rules from being held, by its failure
abbrev pub IsUnnamed : Given → List Rule → Failure → Type 0
IsUnnamed given rules (Refused refusal) = IsRefused given refusal ⊎ (Names given rules false × (refusal ≡ Numbered 45))
IsUnnamed given rules Memory = Unit {0}
IsUnnamed given rules (RefusedTrace text) = ⊥
IsUnnamed given rules File = ⊥
IsUnnamed given rules (Write n) = ⊥
IsUnnamed given rules (Line message) = ⊥
IsUnnamed given rules BadOption = ⊥

abbrev pub RefusesFor : Text → Option Given → Failure → Type 0
RefusesFor bytes declared (Refused refusal) = RefusesRules bytes declared refusal
RefusesFor bytes declared Memory = Unit {0}
RefusesFor bytes declared (RefusedTrace text) = ⊥
RefusesFor bytes declared File = ⊥
RefusesFor bytes declared (Write n) = ⊥
RefusesFor bytes declared (Line message) = ⊥
RefusesFor bytes declared BadOption = ⊥

-- ---- Traces

abbrev pub cut_of : Expect → Cut
cut_of x = if x.is_cut then cut.Allowed else cut.Refused

-- A trace is opened, and this came of each rule.
pub record IsHeld {S : Type 0} (opens : Opening S) (x : Expect) (rules : List Rule) (old new : S) (name : Text) (js : List Judged) : Type 0 where
  pub trace : Held
  pub opened : opens old name (Ok trace) new
  pub judged : IfSome trace (λ text. Judges (cut_of x) text rules js)

-- the same of traces, one after the other
abbrev pub AreHeld : {S : Type 0} → Opening S → Expect → List Rule → (old new : S) → List Text → List (List Judged) → Type 0
AreHeld opens x rules old new [] [] = new ≡ old
AreHeld opens x rules old new [] (js ∷ all) = ⊥
AreHeld opens x rules old new (name ∷ names) [] = ⊥
AreHeld {S} opens x rules old new (name ∷ names) (js ∷ all) = (between : S) × IsHeld opens x rules old between name js × AreHeld opens x rules between new names all

abbrev pub names_of : Expect → List Text
names_of x = map (λ t. t.now) x.traces.items

-- what the report has of one trace: its points, which are numbered after those before, or its suite
abbrev pub part_of : Expect → List Rule → (before : ℕ) → Bor Text → List Judged → Text
part_of x rules before t js =
    if x.is_junit then suite x.is_strict t.now rules js
    else points x.is_strict (record { trace = t; is_named = nat_lt 1 (length x.traces.items) }) before rules js

abbrev pub points_of : Expect → List Rule → (before : ℕ) → List (Bor Text) → List (List Judged) → Text
points_of x rules before [] all = []
points_of x rules before (t ∷ ts) [] = []
points_of x rules before (t ∷ ts) (js ∷ all) = part_of x rules before t js ++ points_of x rules (before + length rules) ts all

-- what the report begins with: how many points there are, or the head of the suites; and what it ends with
abbrev pub head_of : Expect → List Rule → Text
head_of x rules = if x.is_junit then suites_head else plan (all_points (length rules) (length x.traces.items) x.is_applied)

abbrev pub tail_of : Expect → Text
tail_of x = if x.is_junit then suites_tail else []

-- what it says of the traces in which rules applied, where that is asked for: a point for each rule, or a suite
abbrev pub counted_of : Expect → List Rule → (counts : List ℕ) → Text
counted_of x rules counts =
    if x.is_junit then applied_suite rules counts (length x.traces.items)
    else applied_points (length rules * length x.traces.items) rules counts (length x.traces.items)

abbrev pub applied_of : Expect → List Rule → (counts : List ℕ) → Text
applied_of x rules counts = if x.is_applied then counted_of x rules counts else []

-- The report, trace by trace.
abbrev pub report_of : Expect → List Rule → List (List Judged) → Text
report_of x rules all =
    head_of x rules ++ (points_of x rules 0 x.traces.items all ++ (applied_of x rules (counts_of rules all) ++ tail_of x))

abbrev pub all_well : Expect → List (List Judged) → Bool
all_well x all = list_all (are_well x.is_strict) all

-- whether each rule applied in one trace or more, where that is asked for
abbrev pub all_applied : Expect → List Rule → List (List Judged) → Bool
all_applied x rules all = if x.is_applied then have_applied rules all else true

-- All traces were held against the rules, and this is the report. It says whether the rules are well at all of them, and applied where they
-- must.
pub record Reports {S : Type 0} (opens : Opening S) (x : Expect) (rules : List Rule) (old new : S) (well : Bool) (text : Text) : Type 0 where
  pub all : List (List Judged)
  pub held : AreHeld opens x rules old new (names_of x) all
  pub are_well : (all_well x all && all_applied x rules all) ≡ well
  pub report : text ≡ report_of x rules all

-- Those before this trace were held against the rules.
pub record ComesTo {S : Type 0} (opens : Opening S) (x : Expect) (rules : List Rule) (old new : S) (name : Text) : Type 0 where
  pub before : List Text
  pub following : List Text
  pub all : List (List Judged)
  pub parts : names_of x ≡ before ++ name ∷ following
  pub held : AreHeld opens x rules old new before all

-- The line of this number is not what a trace has there, if the trace is known.
abbrev pub IsWrongLine : Expect → (trace : Held) → (line : ℕ) → Type 0
IsWrongLine x trace line = IfSome trace (λ text. judging.IsRefused (cut_of x) text line)

-- A trace is refused for a line that is wrong: the line in the text, with the trace's name.
pub record RefusesTrace {S : Type 0} (opens : Opening S) (x : Expect) (rules : List Rule) (old new : S) (text : Text) : Type 0 where
  pub name : Text
  pub between : S
  pub comes : ComesTo opens x rules old between name
  pub trace : Held
  pub opened : opens between name (Ok trace) new
  pub line : ℕ
  pub is_wrong : IsWrongLine x trace line
  pub reported : text ≡ refused_trace name line

-- A trace is not opened, and the note says why, where one is asked for.
pub record IsUnopenedTrace {S : Type 0} (opens : Opening S) (why : Bool) (old new : S) (name : Text) (note : Noted) : Type 0 where
  pub fault : SourceFault
  pub of_file : failure_of_source fault ≡ File
  pub unopened : opens old name (Err fault) new
  pub noted : IfOk note (Notes why (SaysUnread (codes "trace") name fault))

-- A trace can't be read to its end, and the note says so, where one is asked for.
pub record IsUnendedTrace {S : Type 0} (opens : Opening S) (why : Bool) (old new : S) (name : Text) (note : Noted) : Type 0 where
  pub trace : Held
  pub opened : opens old name (Ok trace) new
  pub noted : IfOk note (NotesEnd why name)

-- the file of a trace fails
abbrev pub IsNoTrace : {S : Type 0} → Opening S → (why : Bool) → (old new : S) → (name : Text) → Noted → Type 0
IsNoTrace opens why old new name note = IsUnopenedTrace opens why old new name note ⊎ IsUnendedTrace opens why old new name note

pub record LacksTrace {S : Type 0} (opens : Opening S) (x : Expect) (rules : List Rule) (old new : S) (note : Noted) : Type 0 where
  pub name : Text
  pub between : S
  pub comes : ComesTo opens x rules old between name
  pub lacks : IsNoTrace opens x.why between new name note

-- A trace is not held against the rules, by its failure.
abbrev pub IsRefusedAt : (name : Text) → (line : ℕ) → Failure → Type 0
IsRefusedAt name line (RefusedTrace text) = string_bytes text ≡ refused_trace name line
IsRefusedAt name line Memory = Unit {0}
IsRefusedAt name line (Refused refusal) = ⊥
IsRefusedAt name line File = ⊥
IsRefusedAt name line (Write n) = ⊥
IsRefusedAt name line (Line message) = ⊥
IsRefusedAt name line BadOption = ⊥

-- the failure for which a trace is not held
abbrev pub IsTraceFailure : (name : Text) → TraceError → Failure → Type 0
IsTraceFailure name (trace_error.Refused line) failure = IsRefusedAt name line failure
IsTraceFailure name trace_error.Memory failure = failure ≡ Memory
IsTraceFailure name trace_error.Read failure = failure ≡ File

-- the note to a trace that is opened and not held, by its error: only one that can't be read to its end has one
abbrev pub NotesError : (why : Bool) → (name : Text) → TraceError → Noted → Type 0
NotesError why name trace_error.Read note = IfOk note (NotesEnd why name)
NotesError why name trace_error.Memory note = IsUnnoted note
NotesError why name (trace_error.Refused line) note = IsUnnoted note

-- a trace is not held, by its failure; a note is given to a file that fails, and to nothing else
abbrev pub IsUnheld : {S : Type 0} → Opening S → Expect → (old new : S) → (name : Text) → Noted → Failure → Type 0
IsUnheld opens x old new name note (RefusedTrace text) =
    (trace : Held) × opens old name (Ok trace) new × ((line : ℕ) × IsWrongLine x trace line × (string_bytes text ≡ refused_trace name line)) × IsUnnoted note
IsUnheld opens x old new name note File = IsNoTrace opens x.why old new name note
IsUnheld opens x old new name note Memory = IsUnnoted note
IsUnheld opens x old new name note (Refused refusal) = ⊥
IsUnheld opens x old new name note (Write n) = ⊥
IsUnheld opens x old new name note (Line message) = ⊥
IsUnheld opens x old new name note BadOption = ⊥

-- one of the traces is not, and those before it are
abbrev pub AreUnheld : {S : Type 0} → Opening S → Expect → List Rule → (old new : S) → Noted → Failure → Type 0
AreUnheld opens x rules old new note (RefusedTrace text) = RefusesTrace opens x rules old new (string_bytes text) × IsUnnoted note
AreUnheld opens x rules old new note File = LacksTrace opens x rules old new note
AreUnheld opens x rules old new note Memory = IsUnnoted note
AreUnheld opens x rules old new note (Refused refusal) = ⊥
AreUnheld opens x rules old new note (Write n) = ⊥
AreUnheld opens x rules old new note (Line message) = ⊥
AreUnheld opens x rules old new note BadOption = ⊥

-- The trace at this place was held against the rules, with these results, and its points come after a text.
pub record PutsOne {S : Type 0} (opens : Opening S) (x : Expect) (rules : List Rule) (index : ℕ) (trace : Bor Text) (old new : S) (before text : Text) (judged : List Judged) : Type 0 where
  pub held : IsHeld opens x rules old new trace.now judged
  pub each : length judged ≡ length rules
  pub is : text ≡ before ++ part_of x rules (length rules * index) trace judged

-- These traces were held against the rules, and their points come after a text. The counts say in how many of them each rule applied.
pub record Puts {S : Type 0} (opens : Opening S) (x : Expect) (rules : List Rule) (traces : List (Bor Text)) (old new : S) (before text : Text) (counts : List ℕ) (well : Bool) : Type 0 where
  pub all : List (List Judged)
  pub held : AreHeld opens x rules old new (map (λ t. t.now) traces) all
  pub are_well : all_well x all ≡ well
  pub counted : counts ≡ counts_of rules all
  pub is : text ≡ before ++ points_of x rules 0 traces all

abbrev pub PutsAll : {S : Type 0} → Opening S → Expect → List Rule → (old new : S) → (before text : Text) → (counts : List ℕ) → (well : Bool) → Type 0
PutsAll opens x rules old new before text counts well = Puts opens x rules x.traces.items old new before text counts well

-- ---- Ends

-- The rules and what is declared were read, and all traces are held against the rules. The note is one to a trace.
abbrev pub Holds : {S : Type 0} → Opening S → Expect → (old new : S) → Text → Option Given → (out-old out-new : Held) → Noted → End → Type 0
Holds opens x old new bytes declared a b note (Ok Met) =
    (rules : List Rule) × AreRules bytes declared rules × ((text : Text) × Reports opens x rules old new true text × Appends a b text) × IsUnnoted note
Holds opens x old new bytes declared a b note (Ok Unmet) =
    (rules : List Rule) × AreRules bytes declared rules × ((text : Text) × Reports opens x rules old new false text × Appends a b text) × IsUnnoted note
Holds opens x old new bytes declared a b note (Ok Helped) = ⊥
Holds opens x old new bytes declared a b note (Ok Explained) = ⊥
Holds opens x old new bytes declared a b note (Ok Accepted) = ⊥
Holds opens x old new bytes declared a b note (Ok Shown) = ⊥
Holds opens x old new bytes declared a b note (Ok Ended) = ⊥
Holds opens x old new bytes declared a b note (Ok Stopped) = ⊥
Holds opens x old new bytes declared a b note (Ok Same) = ⊥
Holds opens x old new bytes declared a b note (Ok Different) = ⊥
Holds opens x old new bytes declared a b note (Err (Refused refusal)) = RefusesRules bytes declared refusal × (new ≡ old) × (b ≡ a) × IsUnnoted note
Holds opens x old new bytes declared a b note (Err (RefusedTrace text)) =
    (rules : List Rule) × AreRules bytes declared rules × RefusesTrace opens x rules old new (string_bytes text) × (b ≡ a) × IsUnnoted note
Holds opens x old new bytes declared a b note (Err File) = (rules : List Rule) × AreRules bytes declared rules × LacksTrace opens x rules old new note × (b ≡ a)
Holds opens x old new bytes declared a b note (Err (Write n)) =
    (rules : List Rule) × AreRules bytes declared rules × ((well : Bool) × (text : Text) × Reports opens x rules old new well text × IsPartWritten a b text n) × IsUnnoted note
Holds opens x old new bytes declared a b note (Err Memory) = (b ≡ a) × IsUnnoted note
Holds opens x old new bytes declared a b note (Err (Line message)) = ⊥
Holds opens x old new bytes declared a b note (Err BadOption) = ⊥

-- ---- Notes

-- The bytes are refused with this number at a place that is known.
pub record IsLocationOf (bytes : Text) (number : ℕ) : Type 0 where
  pub location : RulesLocation
  pub is : IsLocation bytes location
  pub number_is : number_at location ≡ number

-- The note begins with a place in the file of the rules.
abbrev pub IsPlacedNote : (rules : Text) → (note : Text) → Type 0
IsPlacedNote rules note = (line : ℕ) × (column : ℕ) × IsPlacedText rules line column note

-- The bytes are rules, and what is declared is refused with this number, as the note of a check says.
pub record IsPlanNote (x : Expect) (lines : List FileLines) (declared : Option Given) (number : ℕ) (note : Text) : Type 0 where
  pub given : Given
  pub is : declared ≡ Some given
  pub noted : IsNoteOfNumber (types_of x) (own_of x.declaration) (input_names_of x) lines given number note

-- The bytes are rules, and what is declared does not have the pattern at a key of a rule.
pub record IsUnknownLocation (bytes : Text) (declared : Option Given) (rule : ℕ) (key : RuleKey) : Type 0 where
  pub rules : List Rule
  pub are : rules_of bytes ≡ Ok rules
  pub given : Given
  pub is : declared ≡ Some given
  pub inputs : Inputs
  pub declares : Declares given inputs
  pub unknown : IsUnknownAt (system_of inputs) rules rule key

-- there is a note exactly if the bytes are refused with this number
abbrev pub SaysLocation : (bytes : Text) → (number : ℕ) → Option Text → Type 0
SaysLocation bytes number None = refusal_of (rules_of bytes) ≡ Some number → ⊥
SaysLocation bytes number (Some note) = IsLocationOf bytes number

-- what is declared has each pattern, or it is refused
abbrev pub AreKnown : Given → List Rule → Type 0
AreKnown given rules = HasRefusal given ⊎ Names given rules true

-- there is a note exactly if the bytes are rules with a pattern that what is declared does not have
abbrev pub SaysUnknown : (bytes : Text) → Given → Option Text → Type 0
SaysUnknown bytes given None = (rules : List Rule) → rules_of bytes ≡ Ok rules → AreKnown given rules
SaysUnknown bytes given (Some note) = (rule : ℕ) × (key : RuleKey) × IsUnknownLocation bytes (Some given) rule key

-- The note is that of a place at which the refusal of this number applies.
abbrev pub IsNoteAt : Expect → (bytes : Text) → (lines : List FileLines) → Option Given → (number : ℕ) → Text → Type 0
IsNoteAt x bytes lines declared number note =
    IsLocationOf bytes number ⊎ IsPlanNote x lines declared number note ⊎ ((number ≡ 45) × ((rule : ℕ) × (key : RuleKey) × IsUnknownLocation bytes declared rule key))

-- nothing is shown for this number of what is declared, or of the rules
pub record HasNoNoteAt (bytes : Text) (declared : Option Given) (number : ℕ) : Type 0 where
  pub plan : (given : Given) → declared ≡ Some given → number < 40 → IsSilent given.declaration given.deploy given.stimuli number
  pub unknown : (given : Given) → declared ≡ Some given → number ≡ 45 → SaysUnknown bytes given None
  pub rules : 40 ≤ number → (number ≡ 45 → ⊥) → SaysLocation bytes number None

-- there is a note to a refusal of this number, unless nothing is shown for it
abbrev pub SaysNumber : Expect → (bytes : Text) → (lines : List FileLines) → Option Given → (number : ℕ) → Option Text → Type 0
SaysNumber x bytes lines declared number None = HasNoNoteAt bytes declared number
SaysNumber x bytes lines declared number (Some note) = IsNoteAt x bytes lines declared number note

-- there is a note to a failure that has a number, unless nothing is shown for it
abbrev pub SaysAt : Expect → (bytes : Text) → (lines : List FileLines) → Option Given → Failure → Option Text → Type 0
SaysAt x bytes lines declared failure None = IfSome (number_of failure) (HasNoNoteAt bytes declared)
SaysAt x bytes lines declared failure (Some note) = (number : ℕ) × (number_of failure ≡ Some number) × IsNoteAt x bytes lines declared number note

-- where a call that has read these files fails, such a note
abbrev pub NotesRules : Expect → (bytes : Text) → (lines : List FileLines) → Option Given → End → Option Text → Type 0
NotesRules x bytes lines declared (Ok d) note = note ≡ None
NotesRules x bytes lines declared (Err failure) note = Notes x.why (SaysAt x bytes lines declared failure) note

-- All is read, and all traces are held against the rules. A syntax fault of the declaration is one of the file that has it. The note is one
-- to a trace, or else to the rules.
pub record IsReadAndHeld {S : Type 0} (reads : Reading S) (opens : Opening S) (old new : S) (x : Expect) (a b : Held) (end : End) (note : Noted) : Type 0 where
  pub between : S
  pub bytes : Text
  pub lines : List FileLines
  pub declared : Option Given
  pub read : AreRulesRead reads x old between bytes lines declared
  pub inner : End
  pub of_trace : Noted
  pub done : Holds opens x between new bytes declared a b of_trace inner
  pub noted : Follows of_trace (NotesRules x bytes lines declared inner) note
  pub ends : EndsIn (types_of x) (own_of x.declaration) lines inner end

-- What a call that holds rules against traces does, from one state of the source to the next, and its note.
abbrev pub Expects : {S : Type 0} → Reading S → Opening S → (old new : S) → Expect → (a b : Held) → End → Noted → Type 0
Expects reads opens old new x a b end note =
    IsReadAndHeld reads opens old new x a b end note
    ⊎ ((fault : SourceFault) × AreUnread reads x old new fault note × (end ≡ Err (failure_of_source fault)) × (b ≡ a))
