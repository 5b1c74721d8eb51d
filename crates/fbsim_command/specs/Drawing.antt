-- What a call that draws what is declared does (docs/FORMATS.md, "Pictures (DOT)"; this project's own).
use Rattle.std.specs.Prelude.{◌≡◌, ◌⊎◌, ◌&&◌, ℕ, Bool, List, false, true, Option, Some, None, IfOk, codes, option_and_then, option_map, Ok, Err}
use Rattle.std.specs.Io.KnownBytes.{Appends}
use Rattle.clap.specs.Words.{Text}
use Rattle.fb_types.specs.Headline.{Inputs}
use Rattle.fb_draw.specs.Drawings.{graph_text}
use Rattle.fb_inputs.specs.Words.{name}
use Rattle.fb_sim.specs.Given.{Given}
use Rattle.fb_sim.specs.Serial.{Declares}
use Rattle.fbsim_command.specs.Failures.{IsPartWritten, failure_of_source}
use Rattle.fbsim_command.specs.Inspecting.{upper}
use Rattle.fbsim_command.specs.Nearest.{IsNearestType}
use Rattle.fbsim_command.specs.Notes.{IsFirstOf, Noted, NotesInput, NotesOf}
use Rattle.fbsim_command.specs.Outcomes.{End, HasRefusal, Held, IsRefused}
use Rattle.fbsim_command.specs.OwnLines.{EndsIn}
use Rattle.fbsim_command.specs.Reading.{Reading, AreRead, IsUnread, checked}
use Rattle.fbsim_command.specs.UnknownNames.{is_unknown, unknown_line}
use Rattle.fbsim_line.specs.declared.draw_line.Draw.{Draw}
use Rattle.fbsim_command.specs.declared.failure.Failure.{Failure}
use Rattle.fbsim_command.specs.declared.failure.Failure.TheVariants.{Refused, RefusedTrace, File, Write, Memory, Line, BadOption}
use Rattle.fbsim_command.specs.declared.failure.RefusalLine.TheVariants.{Numbered}
use Rattle.fbsim_line.specs.declared.line.Task.{Task}
use Rattle.fbsim_command.specs.declared.sources.SourceFault.{SourceFault}
use Rattle.fbsim_command.specs.declared.statuses.Done.TheVariants.{Helped, Explained, Accepted, Shown, Ended, Stopped, Met, Unmet, Same, Different}
use Rattle.fbsim_command.specs.declared.texts.Part.{Part}
use Rattle.fbsim_command.specs.declared.join.FileLines.{FileLines}

-- the call that checks what is drawn
abbrev pub files_of : Draw → Task
files_of d = checked d.declaration d.deploy d.why

-- the text that names a type, if one does
abbrev pub type_asked : Draw → Option Text
type_asked d = option_map (λ t. t.now) d.block_type

-- ---- What is written

-- the graph of the application, or of the declared type that a text names in any letter case, if there is one
abbrev pub graph_of : Inputs → Option Text → Option Text
graph_of i None = graph_text i.library i.plan None
graph_of i (Some text) = option_and_then (λ n. graph_text i.library i.plan (Some n)) (name text)

-- The inputs are accepted, and this is their graph.
pub record IsGraph (given : Given) (asked : Option Text) (text : Text) : Type 0 where
  pub inputs : Inputs
  pub declared : Declares given inputs
  pub graph : graph_of inputs asked ≡ Some text

-- The inputs are accepted, and the text names no declared type.
pub record NamesNoType (given : Given) (asked : Option Text) : Type 0 where
  pub inputs : Inputs
  pub declared : Declares given inputs
  pub none : graph_of inputs asked ≡ None

-- Nothing is drawn: the inputs are refused, as a check refuses them, or the name of the type is, or memory ran out.
abbrev pub IsUndrawn : Given → (asked : Option Text) → Failure → Type 0
IsUndrawn given asked (Refused refusal) = IsRefused given refusal ⊎ (NamesNoType given asked × (refusal ≡ Numbered 21))
IsUndrawn given asked Memory = Unit {0}
IsUndrawn given asked (RefusedTrace text) = ⊥
IsUndrawn given asked File = ⊥
IsUndrawn given asked (Write n) = ⊥
IsUndrawn given asked (Line message) = ⊥
IsUndrawn given asked BadOption = ⊥

-- the graph of what the inputs declare is written
abbrev pub WritesGraph : Given → (asked : Option Text) → (old new : Held) → End → Type 0
WritesGraph given asked old new (Ok Shown) = (text : Text) × IsGraph given asked text × Appends old new text
WritesGraph given asked old new (Ok Helped) = ⊥
WritesGraph given asked old new (Ok Explained) = ⊥
WritesGraph given asked old new (Ok Accepted) = ⊥
WritesGraph given asked old new (Ok Ended) = ⊥
WritesGraph given asked old new (Ok Stopped) = ⊥
WritesGraph given asked old new (Ok Met) = ⊥
WritesGraph given asked old new (Ok Unmet) = ⊥
WritesGraph given asked old new (Ok Same) = ⊥
WritesGraph given asked old new (Ok Different) = ⊥
WritesGraph given asked old new (Err (Refused refusal)) = IsUndrawn given asked (Refused refusal) × (new ≡ old)
WritesGraph given asked old new (Err (Write n)) = (text : Text) × IsGraph given asked text × IsPartWritten old new text n
WritesGraph given asked old new (Err Memory) = new ≡ old
WritesGraph given asked old new (Err File) = ⊥
WritesGraph given asked old new (Err (RefusedTrace text)) = ⊥
WritesGraph given asked old new (Err (Line message)) = ⊥
WritesGraph given asked old new (Err BadOption) = ⊥

-- ---- Unknown types

-- The text names no declared type, and the line says so. It names the first of the nearest types.
pub record IsTypeLine (i : Inputs) (text line : Text) : Type 0 where
  pub unknown : graph_of i (Some text) ≡ None
  pub near : Option Text
  pub nearest : IsNearestType i.library (upper text) near
  pub is : line ≡ unknown_line (codes "type") (codes "declared type") text near

-- there is a graph, or the line says that the text names no declared type
abbrev pub SaysType : Inputs → (asked : Option Text) → (line : Option Text) → Type 0
SaysType i None line = line ≡ None
SaysType i (Some text) None = (graph : Text) × (graph_of i (Some text) ≡ Some graph)
SaysType i (Some text) (Some line) = IsTypeLine i text line

-- the same for what is declared; there is no line where the inputs are refused
abbrev pub SaysTypeOf : Given → (asked : Option Text) → (line : Option Text) → Type 0
SaysTypeOf given asked line = ((i : Inputs) × Declares given i × SaysType i asked line) ⊎ (HasRefusal given × (line ≡ None))

-- such a line is asked for: the call asks for locations, and ends because a name is unknown
abbrev pub asks_line : Draw → End → Bool
asks_line d end = d.why && is_unknown end

-- The note is exactly the line of the type, where it is asked for, and else there is none.
abbrev pub NotesType : Draw → Given → End → (note : Option Text) → Type 0
NotesType d given end note =
    ((asks_line d end ≡ true) × SaysTypeOf given (type_asked d) note) ⊎ ((asks_line d end ≡ false) × (note ≡ None))

-- ---- What is read

-- The files are read, and the graph of what they declare is written. A syntax fault is one of the file that has it. The note says
-- that the type is unknown, or it is that of a check.
pub record IsReadAndDrawn {S : Type 0} (reads : Reading S) (from to : S) (types : List Text) (d : Draw) (old new : Held) (end : End) (note : Noted) : Type 0 where
  pub lines : List FileLines
  pub given : Given
  pub read : AreRead reads types (files_of d) from to lines given
  pub inner : End
  pub done : WritesGraph given (type_asked d) old new inner
  pub noted : IfOk note (IsFirstOf (NotesType d given inner) (NotesOf types (files_of d) lines given inner))
  pub ends : EndsIn types d.declaration.now lines inner end

-- A file is not read.
pub record IsNotRead {S : Type 0} (reads : Reading S) (from to : S) (types : List Text) (d : Draw) (old new : Held) (end : End) (note : Noted) : Type 0 where
  pub part : Part
  pub fault : SourceFault
  pub unread : IsUnread reads types (files_of d) from to part fault
  pub failed : end ≡ Err (failure_of_source fault)
  pub same : new ≡ old
  pub noted : IfOk note (NotesInput types (files_of d) part fault)

abbrev pub Draws : {S : Type 0} → Reading S → (from to : S) → (types : List Text) → Draw → (old new : Held) → End → Noted → Type 0
Draws reads from to types d old new end note = IsReadAndDrawn reads from to types d old new end note ⊎ IsNotRead reads from to types d old new end note
