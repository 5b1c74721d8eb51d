-- What a call for the waveforms of a trace does (this project's own).
use Rattle.std.specs.Prelude.{◌≡◌, ◌⊎◌, ℕ, Bool, true, false, List, Option, Result, Ok, Err, IfOk, IfSome, codes}
use Rattle.clap.specs.Words.{Text}
use Rattle.fb_types.specs.Headline.{Inputs, system_of}
use Rattle.fb_sim.specs.Given.{Given}
use Rattle.fb_sim.specs.Serial.{Declares}
use Rattle.fb_wave.specs.CutOff.{BlamesShown, FailsShown, IsShown}
use Rattle.fb_wave.specs.Fronts.{WritesBefore}
use Rattle.fb_wave.specs.Waves.{WritesFront}
use Rattle.fb_wave.specs.declared.error.WaveError.TheVariants as wave
use Rattle.fb_wave.specs.declared.truncation.Cut.{Cut}
use Rattle.fbsim_line.specs.declared.line.Task.{Task}
use Rattle.fbsim_line.specs.declared.line.Wave.{Wave}
use Rattle.fbsim_command.specs.Failures.{failure_of_source}
use Rattle.fbsim_command.specs.InsideNotes.{NotesInside}
use Rattle.fbsim_command.specs.LineNotes.{NotesLine}
use Rattle.fbsim_command.specs.Notes.{IsFirstOf, Noted, Notes, NotesInput, NotesOf, NotesRest, SaysUnread}
use Rattle.fbsim_command.specs.Outcomes.{End, Held, IsRefused}
use Rattle.fbsim_command.specs.OwnLines.{EndsIn}
use Rattle.fbsim_command.specs.Reading.{Reading, AreRead, IsUnread, checked}
use Rattle.fbsim_command.specs.StateDumping.{DumpsStates}
use Rattle.fbsim_command.specs.Texts.{may_be_cut}
use Rattle.fbsim_command.specs.declared.failure.Failure.TheVariants.{Refused, RefusedTrace, File, Write, Memory, Line, BadOption}
use Rattle.fbsim_command.specs.declared.failure.RefusalLine.{RefusalLine}
use Rattle.fbsim_command.specs.declared.failure.RefusalLine.TheVariants.{Trace}
use Rattle.fbsim_command.specs.declared.sources.SourceFault.{SourceFault}
use Rattle.fbsim_command.specs.declared.statuses.Done.TheVariants.{Helped, Explained, Accepted, Shown, Ended, Stopped, Met, Unmet, Same, Different}
use Rattle.fbsim_command.specs.declared.texts.Part.{Part}
use Rattle.fbsim_command.specs.declared.join.FileLines.{FileLines}

-- what opening a named file may give, from one state of the source to the next: its bytes, where they are known
abbrev pub Opening : Type 0 → Type 1
Opening S = S → Text → Result (Option Text) SourceFault → S → Type 0

-- the call that checks what a trace is of
abbrev pub files_of : Wave → Task
files_of w = checked w.declaration w.deploy w.why

-- whether the trace may be cut off
abbrev pub cut_of : Wave → Cut
cut_of w = may_be_cut w.is_cut

-- ---- What is written

-- The inputs are accepted, and the writer got the first bytes of the dump of lines of their system.
abbrev pub DumpsFront : Given → (old new : Held) → Type 0
DumpsFront given old new = (i : Inputs) × Declares given i × WritesFront (system_of i) old new

-- The inputs are accepted, and the writer got the first bytes of such a dump, but not all, and `written` is how many.
abbrev pub DumpsPart : Cut → Given → (old new : Held) → (written : ℕ) → Type 0
DumpsPart may given old new written = (i : Inputs) × Declares given i × FailsShown may (system_of i) old new (wave.Write written)

-- The inputs are accepted, the writer got the first bytes of the dump of lines of their system, and the line is the first that
-- no trace of it has after the lines before it. These bytes begin the dump of each trace that has the lines before it. No trace is
-- refused because it is cut off, where it may be.
abbrev pub RefusesTrace : Cut → Given → (trace : Held) → (old new : Held) → (line : ℕ) → Type 0
RefusesTrace may given trace old new line =
    (i : Inputs) × Declares given i × WritesFront (system_of i) old new × BlamesShown may (system_of i) trace (wave.Refused line)
    × WritesBefore (system_of i) trace old new (wave.Refused line)

-- the inputs are refused, as a check refuses them, or the trace is, in this line
abbrev pub IsRefusedFor : Cut → Given → (trace : Held) → (old new : Held) → RefusalLine → Type 0
IsRefusedFor may given trace old new refusal =
    (IsRefused given refusal × (new ≡ old)) ⊎ ((line : ℕ) × (refusal ≡ Trace line) × RefusesTrace may given trace old new line)

-- a trace of what the inputs declare is read, of which these bytes are known, and its dump is written
abbrev pub Dumps : Cut → Given → (trace : Held) → (old new : Held) → End → Type 0
Dumps may given trace old new (Ok Shown) = (i : Inputs) × Declares given i × IfSome trace (λ text. IsShown may (system_of i) text old new)
Dumps may given trace old new (Ok Helped) = ⊥
Dumps may given trace old new (Ok Explained) = ⊥
Dumps may given trace old new (Ok Accepted) = ⊥
Dumps may given trace old new (Ok Ended) = ⊥
Dumps may given trace old new (Ok Stopped) = ⊥
Dumps may given trace old new (Ok Met) = ⊥
Dumps may given trace old new (Ok Unmet) = ⊥
Dumps may given trace old new (Ok Same) = ⊥
Dumps may given trace old new (Ok Different) = ⊥
Dumps may given trace old new (Err (Refused refusal)) = IsRefusedFor may given trace old new refusal
Dumps may given trace old new (Err File) = DumpsFront given old new
Dumps may given trace old new (Err (Write n)) = DumpsPart may given old new n
Dumps may given trace old new (Err Memory) = (new ≡ old) ⊎ DumpsFront given old new
Dumps may given trace old new (Err (Line message)) = ⊥
Dumps may given trace old new (Err BadOption) = ⊥
Dumps may given trace old new (Err (RefusedTrace text)) = ⊥

-- What is written of a trace, with the inside of basic blocks or without it.
abbrev pub DumpsAs : (has_states : Bool) → (steps : ℕ) → Cut → Given → (trace : Held) → (old new : Held) → End → Type 0
DumpsAs true steps may given trace old new end = DumpsStates may steps given trace old new end
DumpsAs false steps may given trace old new end = Dumps may given trace old new end

-- What is reported of the line at which a trace is refused, with the inside of basic blocks or without it.
abbrev pub NotesAs : (has_states why : Bool) → (steps : ℕ) → Given → (trace : Held) → End → Option Text → Type 0
NotesAs true why steps given trace end note = NotesInside why given steps trace end note
NotesAs false why steps given trace end note = NotesLine why given trace end note

-- ---- What is read

-- the note to a trace that can't be opened, where one is asked for
abbrev pub NotesTraceFile : Wave → SourceFault → Option Text → Type 0
NotesTraceFile w fault note = Notes w.why (SaysUnread (codes "trace") w.trace.now fault) note

-- All is read that the trace is of, the trace is opened, and its dump is written. A syntax fault is one of the file that has it.
-- The note says that the trace can't be read to its end, or what is wrong with the line at which it is refused, or it is that of a check.
pub record IsReadAndShown {S : Type 0} (reads : Reading S) (opens : Opening S) (from to : S) (types : List Text) (w : Wave) (old new : Held) (end : End) (note : Noted) : Type 0 where
  pub lines : List FileLines
  pub given : Given
  pub between : S
  pub read : AreRead reads types (files_of w) from between lines given
  pub trace : Held
  pub opened : opens between w.trace.now (Ok trace) to
  pub inner : End
  pub done : DumpsAs w.has_states w.steps (cut_of w) given trace old new inner
  pub noted : IfOk note (IsFirstOf (IsFirstOf (NotesRest w.why w.trace.now inner) (NotesAs w.has_states w.why w.steps given trace inner)) (NotesOf types (files_of w) lines given inner))
  pub ends : EndsIn types w.declaration.now lines inner end

-- All is read that the trace is of, and the trace is not opened.
pub record IsUnopened {S : Type 0} (reads : Reading S) (opens : Opening S) (from to : S) (types : List Text) (w : Wave) (fault : SourceFault) (note : Noted) : Type 0 where
  pub lines : List FileLines
  pub given : Given
  pub between : S
  pub read : AreRead reads types (files_of w) from between lines given
  pub unread : opens between w.trace.now (Err fault) to
  pub noted : IfOk note (NotesTraceFile w fault)

-- A file is not read that the trace is of.
pub record IsUnreadFor {S : Type 0} (reads : Reading S) (from to : S) (types : List Text) (w : Wave) (fault : SourceFault) (note : Noted) : Type 0 where
  pub part : Part
  pub unread : IsUnread reads types (files_of w) from to part fault
  pub noted : IfOk note (NotesInput types (files_of w) part fault)

-- this fault keeps a file from being read
abbrev pub IsUnshown : {S : Type 0} → Reading S → Opening S → (from to : S) → (types : List Text) → Wave → SourceFault → Noted → Type 0
IsUnshown reads opens from to types w fault note = IsUnreadFor reads from to types w fault note ⊎ IsUnopened reads opens from to types w fault note

abbrev pub Shows : {S : Type 0} → Reading S → Opening S → (from to : S) → (types : List Text) → Wave → (old new : Held) → End → Noted → Type 0
Shows reads opens from to types w old new end note =
    IsReadAndShown reads opens from to types w old new end note
    ⊎ ((fault : SourceFault) × IsUnshown reads opens from to types w fault note × (end ≡ Err (failure_of_source fault)) × (new ≡ old))
