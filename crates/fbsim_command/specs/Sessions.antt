-- What a session does, as a call of the program (docs/FORMATS.md, "A session"; this project's own).
use Rattle.std.specs.Prelude.{◌≡◌, ◌⊎◌, ◌≤◌, ◌^◌, ℕ, List, Option, false, Result, Ok, Err, codes}
use Rattle.clap.specs.Words.{Text}
use Rattle.fb_types.specs.Headline.{Inputs}
use Rattle.fb_sim.specs.Given.{Given}
use Rattle.fb_sim.specs.Serial.{Declares}
use Rattle.fb_trace.specs.declared.last.Outcome.{Outcome}
use Rattle.fb_trace.specs.declared.last.Outcome.TheVariants as outcome
use Rattle.fb_types.specs.declared.run.StopMark.{StopMark}
use Rattle.fbsim_command.specs.Failures.{failure_of_source}
use Rattle.fbsim_command.specs.Outcomes.{End, Held, IsRefused}
use Rattle.fbsim_command.specs.OwnLines.{EndsIn}
use Rattle.fbsim_command.specs.Reading.{Reading, AreRead, IsUnread}
use Rattle.fbsim_command.specs.Showing.{Opening}
use Rattle.fbsim_command.specs.declared.failure.Failure.TheVariants.{Refused, RefusedTrace, File, Write, Memory, Line, BadOption}
use Rattle.fbsim_command.specs.declared.sources.SourceFault.{SourceFault}
use Rattle.fbsim_command.specs.declared.statuses.Done.TheVariants.{Helped, Explained, Accepted, Shown, Ended, Stopped, Met, Unmet, Same, Different}
use Rattle.fbsim_command.specs.declared.texts.Part.{Part}
use Rattle.fbsim_line.specs.declared.line.Action.TheVariants.{Check}
use Rattle.fbsim_line.specs.declared.line.Task.{Task}
use Rattle.fbsim_line.specs.declared.session_line.SessionCall.{SessionCall}
use Rattle.fbsim_session.specs.Talks.{Talks}
use Rattle.fbsim_session.specs.declared.talking.TalkFault.{TalkFault}
use Rattle.fbsim_session.specs.declared.talking.TalkFault.TheVariants as fault
use Rattle.fbsim_command.specs.declared.join.FileLines.{FileLines}

-- the call that checks what a session begins with
abbrev pub files_of : SessionCall → Task
files_of x = record { action = Check false; declaration = x.declaration; deploy = x.deploy; stimuli = x.stimuli; why = false }

-- how a call ends whose session ended so
abbrev pub end_of_talk : Result Outcome TalkFault → End
end_of_talk (Ok (outcome.End h)) = Ok Ended
end_of_talk (Ok (outcome.Stop m)) = Ok Stopped
end_of_talk (Err fault.Memory) = Err Memory
end_of_talk (Err fault.Read) = Err File
end_of_talk (Err (fault.Write n)) = Err (Write n)

-- A session of what the inputs declare is answered. Nothing is written before they are accepted.
abbrev pub Answers : Given → SessionCall → (old new : Held) → End → Type 0
Answers given x old new (Ok Ended) = (i : Inputs) × Declares given i × (h : ℕ) × Talks i x.steps x.form old new (Ok (outcome.End h))
Answers given x old new (Ok Stopped) = (i : Inputs) × Declares given i × (m : StopMark) × Talks i x.steps x.form old new (Ok (outcome.Stop m))
Answers given x old new (Ok Helped) = ⊥
Answers given x old new (Ok Explained) = ⊥
Answers given x old new (Ok Accepted) = ⊥
Answers given x old new (Ok Shown) = ⊥
Answers given x old new (Ok Met) = ⊥
Answers given x old new (Ok Unmet) = ⊥
Answers given x old new (Ok Same) = ⊥
Answers given x old new (Ok Different) = ⊥
Answers given x old new (Err (Refused refusal)) = IsRefused given refusal × (new ≡ old)
Answers given x old new (Err File) = (i : Inputs) × Declares given i × Talks i x.steps x.form old new (Err fault.Read)
Answers given x old new (Err (Write n)) = (i : Inputs) × Declares given i × Talks i x.steps x.form old new (Err (fault.Write n))
Answers given x old new (Err Memory) = (new ≡ old) ⊎ ((i : Inputs) × Declares given i × Talks i x.steps x.form old new (Err fault.Memory))
Answers given x old new (Err (Line message)) = ⊥
Answers given x old new (Err BadOption) = (1 ≤ x.steps → x.steps ≤ 10 ^ 7 → ⊥) × (new ≡ old)
Answers given x old new (Err (RefusedTrace text)) = ⊥

-- Standard input is opened, all files are read, and the commands are answered. A syntax fault is one of the file that has it.
pub record IsOpenAndAnswered {S : Type 0} (reads : Reading S) (opens : Opening S) (from to : S) (types : List Text) (x : SessionCall) (old new : Held) (end : End) : Type 0 where
  pub between : S
  pub commands : Held
  pub opened : opens from (codes "-") (Ok commands) between
  pub lines : List FileLines
  pub given : Given
  pub read : AreRead reads types (files_of x) between to lines given
  pub inner : End
  pub done : Answers given x old new inner
  pub ends : EndsIn types x.declaration.now lines inner end

-- Standard input is opened, and a file is not read.
pub record IsUnreadFor {S : Type 0} (reads : Reading S) (opens : Opening S) (from to : S) (types : List Text) (x : SessionCall) (fault : SourceFault) : Type 0 where
  pub between : S
  pub commands : Held
  pub opened : opens from (codes "-") (Ok commands) between
  pub part : Part
  pub unread : IsUnread reads types (files_of x) between to part fault

-- this fault keeps a session from its beginning
abbrev pub IsUnbegun : {S : Type 0} → Reading S → Opening S → (from to : S) → (types : List Text) → SessionCall → SourceFault → Type 0
IsUnbegun reads opens from to types x fault = opens from (codes "-") (Err fault) to ⊎ IsUnreadFor reads opens from to types x fault

abbrev pub TalksIn : {S : Type 0} → Reading S → Opening S → (from to : S) → (types : List Text) → SessionCall → (old new : Held) → End → Type 0
TalksIn reads opens from to types x old new end =
    IsOpenAndAnswered reads opens from to types x old new end
    ⊎ ((fault : SourceFault) × IsUnbegun reads opens from to types x fault × (end ≡ Err (failure_of_source fault)) × (new ≡ old))
