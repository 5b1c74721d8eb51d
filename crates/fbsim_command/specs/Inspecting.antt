-- What a call that inspects a trace does (docs/FORMATS.md, "Inside a trace"; this project's own).
use Rattle.std.specs.Prelude.{◌≡◌, ◌⊎◌, ◌&&◌, ◌++◌, ◌∷◌, ◌≤◌, ℕ, Bool, true, false, List, All, map, Option, Some, None, IfOk, IfSome, Ok, Err, codes}
use Rattle.std.specs.Char.{to_ascii_uppercase}
use Rattle.clap.specs.Words.{Text}
use Rattle.fb_types.specs.Headline.{Inputs, system_of}
use Rattle.fb_types.specs.OfSystem.{IsInstance, path_at}
use Rattle.fb_types.specs.Text.{path_text}
use Rattle.fb_inspect.specs.Inspections.{IsShownBy, ShowsBefore, ShowsRead, most}
use Rattle.fb_inspect.specs.OfSystem.{IsNoInstance}
use Rattle.fb_inspect.specs.Selections.{Selection}
use Rattle.fb_inspect.specs.declared.filter.EventFilter.{EventFilter}
use Rattle.fb_wave.specs.declared.truncation.Cut.{Cut}
use Rattle.fb_sim.specs.Given.{Given}
use Rattle.fb_sim.specs.Serial.{Declares}
use Rattle.fbsim_command.specs.Failures.{failure_of_source}
use Rattle.fbsim_command.specs.InsideNotes.{NotesInside}
use Rattle.fbsim_command.specs.Nearest.{IsNearestPath}
use Rattle.fbsim_command.specs.Notes.{IsFirstOf, Noted, Notes, NotesInput, NotesOf, NotesRest, SaysUnread}
use Rattle.fbsim_command.specs.Outcomes.{End, HasRefusal, Held, IsRefused}
use Rattle.fbsim_command.specs.OwnLines.{EndsIn}
use Rattle.fbsim_command.specs.Reading.{Reading, AreRead, IsUnread, checked}
use Rattle.fbsim_command.specs.Showing.{Opening}
use Rattle.fbsim_command.specs.Texts.{may_be_cut}
use Rattle.fbsim_command.specs.UnknownNames.{is_unknown, unknown_line}
use Rattle.fbsim_command.specs.WrongLines.{IsRefusalIn}
use Rattle.fbsim_command.specs.declared.failure.RefusalLine.{RefusalLine}
use Rattle.fbsim_command.specs.declared.failure.RefusalLine.TheVariants.{Numbered, Syntax, Trace}
use Rattle.fbsim_command.specs.declared.failure.Failure.TheVariants.{Refused, RefusedTrace, File, Write, Memory, Line, BadOption}
use Rattle.fbsim_line.specs.declared.inspect_line.Inspect.{Inspect}
use Rattle.fbsim_line.specs.declared.line.Task.{Task}
use Rattle.fbsim_command.specs.declared.sources.SourceFault.{SourceFault}
use Rattle.fbsim_command.specs.declared.statuses.Done.TheVariants.{Helped, Explained, Accepted, Shown, Ended, Stopped, Met, Unmet, Same, Different}
use Rattle.fbsim_command.specs.declared.texts.Part.{Part}
use Rattle.fbsim_command.specs.declared.join.FileLines.{FileLines}

-- the call that checks what a trace is of
abbrev pub files_of : Inspect → Task
files_of x = checked x.declaration x.deploy x.why

-- whether the trace may be cut off
abbrev pub cut_of : Inspect → Cut
cut_of x = may_be_cut x.is_cut

-- the paths of the instances that are shown, in upper case
abbrev pub upper : Text → Text
upper text = map to_ascii_uppercase text

abbrev pub paths_of : Inspect → List Text
paths_of x = map (λ t. upper t.now) x.only.items

-- without a first tick, all events up to the end are shown
abbrev pub first_tick : Option ℕ → ℕ
first_tick None = 0
first_tick (Some tick) = tick

-- the events that are shown, by their ticks and by what they do
abbrev pub events_of : Inspect → EventFilter
events_of x = record { from = first_tick x.from; to = x.to; are_lost = x.lost }

-- what is shown of the trace: these events of these instances
abbrev pub selection_of : Inspect → Selection
selection_of x = record { only = paths_of x; events = events_of x }

-- ---- What is written

-- The inputs are accepted, and the writer got the first bytes of what is shown of takings of their system: those of the lines with
-- which the trace begins.
abbrev pub InspectsFront : Given → Inspect → (trace : Held) → (old new : Held) → Type 0
InspectsFront given x trace old new = (i : Inputs) × Declares given i × ShowsRead (system_of i) (selection_of x) x.steps trace old new

-- Where a line is refused, what the writer got is shown alike of each trace that has the lines before it (`fb_inspect::laws`).
abbrev pub IsShownBefore : Inputs → Inspect → (trace : Held) → (old new : Held) → RefusalLine → Type 0
IsShownBefore i x trace old new (Trace line) = x.steps ≤ most → IfSome trace (λ text. ShowsBefore (system_of i) (selection_of x) line text old new)
IsShownBefore i x trace old new (Numbered n) = Unit {0}
IsShownBefore i x trace old new (Syntax line) = Unit {0}

-- The inputs are accepted, the writer got such bytes, and the refusal is that of a line that is wrong, or of an unknown instance.
abbrev pub RefusesInside : Given → Inspect → (trace : Held) → (old new : Held) → RefusalLine → Type 0
RefusesInside given x trace old new refusal =
    (i : Inputs) × Declares given i × ShowsRead (system_of i) (selection_of x) x.steps trace old new × IsRefusalIn (cut_of x) i (selection_of x).only x.steps trace refusal
    × IsShownBefore i x trace old new refusal

-- a trace of what the inputs declare is read, of which these bytes are known, and it is written with what happens inside the blocks
abbrev pub Inspects : Given → Inspect → (trace : Held) → (old new : Held) → End → Type 0
Inspects given x trace old new (Ok Shown) = (i : Inputs) × Declares given i × IfSome trace (λ text. IsShownBy (cut_of x) (system_of i) (selection_of x) x.steps text old new)
Inspects given x trace old new (Ok Helped) = ⊥
Inspects given x trace old new (Ok Explained) = ⊥
Inspects given x trace old new (Ok Accepted) = ⊥
Inspects given x trace old new (Ok Ended) = ⊥
Inspects given x trace old new (Ok Stopped) = ⊥
Inspects given x trace old new (Ok Met) = ⊥
Inspects given x trace old new (Ok Unmet) = ⊥
Inspects given x trace old new (Ok Same) = ⊥
Inspects given x trace old new (Ok Different) = ⊥
Inspects given x trace old new (Err (Refused refusal)) = (IsRefused given refusal × (new ≡ old)) ⊎ RefusesInside given x trace old new refusal
Inspects given x trace old new (Err File) = InspectsFront given x trace old new
Inspects given x trace old new (Err (Write n)) = InspectsFront given x trace old new
Inspects given x trace old new (Err Memory) = (new ≡ old) ⊎ InspectsFront given x trace old new
Inspects given x trace old new (Err (Line message)) = ⊥
Inspects given x trace old new (Err BadOption) = ⊥
Inspects given x trace old new (Err (RefusedTrace text)) = ⊥

-- ---- Unknown paths

-- an instance has the path, in any letter case
abbrev pub HasPath : Inputs → (text : Text) → Type 0
HasPath i text = (k : ℕ) × IsInstance i k × (upper text ≡ path_text (path_at i k))

-- No instance has the path, and the line says so. It names the first of the nearest paths.
pub record IsPathLine (i : Inputs) (text line : Text) : Type 0 where
  pub unknown : IsNoInstance i (upper text)
  pub near : Option Text
  pub nearest : IsNearestPath i (upper text) near
  pub is : line ≡ unknown_line (codes "only") (codes "instance") text near

-- an instance has the path, or the line says that none has it
abbrev pub SaysPath : Inputs → (text : Text) → (line : Option Text) → Type 0
SaysPath i text None = HasPath i text
SaysPath i text (Some line) = IsPathLine i text line

-- The line is that of the first of the paths that no instance has.
pub record IsFirstLine (i : Inputs) (texts : List Text) (line : Text) : Type 0 where
  pub before : List Text
  pub text : Text
  pub following : List Text
  pub parts : texts ≡ before ++ text ∷ following
  pub known : All (HasPath i) before
  pub says : IsPathLine i text line

-- instances have all paths, or the line says which is the first that none has
abbrev pub SaysPaths : Inputs → (texts : List Text) → (line : Option Text) → Type 0
SaysPaths i texts None = All (HasPath i) texts
SaysPaths i texts (Some line) = IsFirstLine i texts line

-- the same for what is declared; there is no line where the inputs are refused
abbrev pub SaysPathsOf : Given → (texts : List Text) → (line : Option Text) → Type 0
SaysPathsOf given texts line = ((i : Inputs) × Declares given i × SaysPaths i texts line) ⊎ (HasRefusal given × (line ≡ None))

-- the paths as they are given
abbrev pub texts_of : Inspect → List Text
texts_of x = map (λ t. t.now) x.only.items

-- such a line is asked for: the call asks for locations, and ends because a name is unknown
abbrev pub asks_line : Inspect → End → Bool
asks_line x end = x.why && is_unknown end

-- The note is exactly the line of the paths, where it is asked for, and else there is none.
abbrev pub NotesPaths : Inspect → Given → End → (note : Option Text) → Type 0
NotesPaths x given end note =
    ((asks_line x end ≡ true) × SaysPathsOf given (texts_of x) note) ⊎ ((asks_line x end ≡ false) × (note ≡ None))

-- ---- What is read

-- All is read that the trace is of, the trace is opened, and it is inspected. A syntax fault is one of the file that has it.
-- The note says that a path is unknown, or that the trace can't be read to its end, or what is wrong with the line at which it is refused,
-- or it is that of a check.
pub record IsReadAndInspected {S : Type 0} (reads : Reading S) (opens : Opening S) (from to : S) (types : List Text) (x : Inspect) (old new : Held) (end : End) (note : Noted) : Type 0 where
  pub lines : List FileLines
  pub given : Given
  pub between : S
  pub read : AreRead reads types (files_of x) from between lines given
  pub trace : Held
  pub opened : opens between x.trace.now (Ok trace) to
  pub inner : End
  pub done : Inspects given x trace old new inner
  pub noted : IfOk note (IsFirstOf (IsFirstOf (NotesPaths x given inner) (IsFirstOf (NotesRest x.why x.trace.now inner) (NotesInside x.why given x.steps trace inner))) (NotesOf types (files_of x) lines given inner))
  pub ends : EndsIn types x.declaration.now lines inner end

-- All is read that the trace is of, and the trace is not opened.
pub record IsUnopened {S : Type 0} (reads : Reading S) (opens : Opening S) (from to : S) (types : List Text) (x : Inspect) (fault : SourceFault) (note : Noted) : Type 0 where
  pub lines : List FileLines
  pub given : Given
  pub between : S
  pub read : AreRead reads types (files_of x) from between lines given
  pub unread : opens between x.trace.now (Err fault) to
  pub noted : IfOk note (Notes x.why (SaysUnread (codes "trace") x.trace.now fault))

-- A file is not read that the trace is of.
pub record IsUnreadFor {S : Type 0} (reads : Reading S) (from to : S) (types : List Text) (x : Inspect) (fault : SourceFault) (note : Noted) : Type 0 where
  pub part : Part
  pub unread : IsUnread reads types (files_of x) from to part fault
  pub noted : IfOk note (NotesInput types (files_of x) part fault)

-- this fault keeps a file from being read
abbrev pub IsUninspected : {S : Type 0} → Reading S → Opening S → (from to : S) → (types : List Text) → Inspect → SourceFault → Noted → Type 0
IsUninspected reads opens from to types x fault note =
    IsUnreadFor reads from to types x fault note ⊎ IsUnopened reads opens from to types x fault note

abbrev pub ShowsInsides : {S : Type 0} → Reading S → Opening S → (from to : S) → (types : List Text) → Inspect → (old new : Held) → End → Noted → Type 0
ShowsInsides reads opens from to types x old new end note =
    IsReadAndInspected reads opens from to types x old new end note
    ⊎ ((fault : SourceFault) × IsUninspected reads opens from to types x fault note × (end ≡ Err (failure_of_source fault)) × (new ≡ old))
