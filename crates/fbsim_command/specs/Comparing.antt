-- What a call that compares two traces does (docs/FORMATS.md, "Where two traces differ"; this project's own).
use Rattle.std.specs.Prelude.{◌≡◌, ◌⊎◌, ◌++◌, ℕ, IsTrue, IfOk, Option, Some, None, Ok, Err, codes}
use Rattle.std.specs.Io.KnownBytes.{Appends}
use Rattle.clap.specs.Words.{Text}
use Rattle.fb_expect.specs.Parting.{IsUnparted, MayPart}
use Rattle.fb_expect.specs.DifferenceReport.{ShowsDifference}
use Rattle.fb_expect.specs.declared.parting.Difference.{Difference}
use Rattle.fb_expect.specs.declared.parting.PartFault.{PartFault}
use Rattle.fb_expect.specs.declared.parting.PartFault.TheVariants as part_fault
use Rattle.fbsim_command.specs.Failures.{IsPartWritten, failure_of_part, failure_of_source}
use Rattle.fbsim_command.specs.Notes.{Noted, Notes, SaysUnread, rest_note}
use Rattle.fbsim_command.specs.Outcomes.{End, Held}
use Rattle.fbsim_command.specs.Showing.{Opening}
use Rattle.fbsim_command.specs.Shown.{shown_name}
use Rattle.fbsim_line.specs.declared.bench_line.Diff.{Diff}
use Rattle.fbsim_command.specs.declared.failure.Failure.TheVariants.{Refused, RefusedTrace, File, Write, Memory, Line, BadOption}
use Rattle.fbsim_command.specs.declared.sources.SourceFault.{SourceFault}
use Rattle.fbsim_command.specs.declared.statuses.Done.TheVariants.{Helped, Explained, Accepted, Shown, Ended, Stopped, Met, Unmet, Same, Different}

-- Two texts part first at two lines, and the text says in what these differ.
pub record IsReported (d : Diff) (first second : Held) (text : Text) : Type 0 where
  pub difference : Difference
  pub part : MayPart d.is_without_ticks first second (Some difference)
  pub shows : ShowsDifference (shown_name d.first.now) (shown_name d.second.now) d.is_without_ticks difference text

-- two files, of which these bytes are known, are compared
abbrev pub Differs : Diff → (first second : Held) → (old new : Held) → End → Type 0
Differs d first second old new (Ok Same) = MayPart d.is_without_ticks first second None × (new ≡ old)
Differs d first second old new (Ok Different) = (text : Text) × IsReported d first second text × Appends old new text
Differs d first second old new (Ok Helped) = ⊥
Differs d first second old new (Ok Explained) = ⊥
Differs d first second old new (Ok Accepted) = ⊥
Differs d first second old new (Ok Shown) = ⊥
Differs d first second old new (Ok Ended) = ⊥
Differs d first second old new (Ok Stopped) = ⊥
Differs d first second old new (Ok Met) = ⊥
Differs d first second old new (Ok Unmet) = ⊥
Differs d first second old new (Err (Refused refusal)) = ⊥
Differs d first second old new (Err (RefusedTrace text)) = ⊥
Differs d first second old new (Err File) = new ≡ old
Differs d first second old new (Err (Write n)) = (text : Text) × IsReported d first second text × IsPartWritten old new text n
Differs d first second old new (Err Memory) = new ≡ old
Differs d first second old new (Err (Line message)) = ⊥
Differs d first second old new (Err BadOption) = ⊥

-- The first is opened, and the second is not.
pub record IsSecondUnopened {S : Type 0} (opens : Opening S) (from to : S) (d : Diff) (fault : SourceFault) : Type 0 where
  pub between : S
  pub first : Held
  pub first_opened : opens from d.first.now (Ok first) between
  pub unopened : opens between d.second.now (Err fault) to

-- The note to the file of this name, which is not opened.
abbrev pub NotesFile : Diff → (name : Text) → SourceFault → Option Text → Type 0
NotesFile d name fault note = Notes d.why (SaysUnread (codes "trace") name fault) note

abbrev pub AreUnopened : {S : Type 0} → Opening S → (from to : S) → Diff → SourceFault → Noted → Type 0
AreUnopened opens from to d fault note =
    (opens from d.first.now (Err fault) to × IfOk note (NotesFile d d.first.now fault)) ⊎ (IsSecondUnopened opens from to d fault × IfOk note (NotesFile d d.second.now fault))

-- there is a note exactly to the one of the two that can't be read to its end
abbrev pub SaysPart : Diff → PartFault → Option Text → Type 0
SaysPart d part_fault.Memory note = note ≡ None
SaysPart d part_fault.First note = note ≡ Some (rest_note (codes "trace") d.first.now)
SaysPart d part_fault.Second note = note ≡ Some (rest_note (codes "trace") d.second.now)

-- such a note, where one is asked for
abbrev pub NotesUnread : Diff → PartFault → Option Text → Type 0
NotesUnread d fault note = Notes d.why (SaysPart d fault) note

-- what two readers have left
pub record Both : Type 0 where
  pub first : Held
  pub second : Held

-- There is a note exactly where one is asked for and one of the two can't be read to its end, and it says which: its reader stands in a
-- line, after lines that are alike.
abbrev pub NotesEither : Diff → (from to : Both) → End → Option Text → Type 0
NotesEither d from to end None = IsTrue d.why → end ≡ Err File → ⊥
NotesEither d from to end (Some note) =
    (fault : PartFault) × (end ≡ Err (failure_of_part fault)) × IsUnparted d.is_without_ticks from.first from.second to.first to.second fault × NotesUnread d fault (Some note)

-- Both files are opened, and compared.
pub record AreCompared {S : Type 0} (opens : Opening S) (from to : S) (d : Diff) (old new : Held) (end : End) (note : Noted) : Type 0 where
  pub between : S
  pub both : Both
  pub left : Both
  pub first_opened : opens from d.first.now (Ok both.first) between
  pub second_opened : opens between d.second.now (Ok both.second) to
  pub done : Differs d both.first both.second old new end
  pub noted : IfOk note (NotesEither d both left end)

-- What a call that compares two traces does, from one state of the source to the next, and its note.
abbrev pub Compares : {S : Type 0} → Opening S → (from to : S) → Diff → (old new : Held) → End → Noted → Type 0
Compares opens from to d old new end note =
    AreCompared opens from to d old new end note
    ⊎ ((fault : SourceFault) × AreUnopened opens from to d fault note × (end ≡ Err (failure_of_source fault)) × (new ≡ old))
