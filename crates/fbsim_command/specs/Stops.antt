-- Where a run stops, and how that is reported (this project's own).
use Rattle.std.specs.Prelude.{◌≡◌, ◌⊎◌, ◌^◌, ◌≤◌, ℕ, Bool, List, [], ◌++◌, IsTrue, true, false, ◌&&◌, if◌then◌else◌, Option, Some, None, Ok, codes}
use Rattle.fb_types.specs.Headline.{Inputs}
use Rattle.fb_read.specs.Blank.{Text}
use Rattle.fb_read_positions.specs.declared.position.Position.{Position}
use Rattle.fb_sim.specs.Given.{Given}
use Rattle.fb_sim.specs.Serial.{Declares}
use Rattle.fb_stop.specs.Found.{IsStop, NeverStops}
use Rattle.fb_stop.specs.Places.{HasNoPosition, IsStopPosition}
use Rattle.fb_stop.specs.Shown.{IsStopShown, IsUnshown, operation_at}
use Rattle.fb_stop.specs.declared.found.FoundStop.{FoundStop}
use Rattle.fb_stop.specs.declared.shown.Shown.{Shown}
use Rattle.fb_read_positions.specs.Places.{IsPlaceAt}
use Rattle.fb_read_positions.specs.Spans.{IsNowhere}
use Rattle.fb_read_positions.specs.Places.{IsPlace, IsStretch}
use Rattle.fb_read_positions.specs.declared.places.Place.{Place}
use Rattle.fbsim_command.specs.Outcomes.{End, HasRefusal}
use Rattle.fbsim_command.specs.OwnLines.{IsPlaced}
use Rattle.fbsim_line.specs.declared.line.Action.{Action}
use Rattle.fbsim_line.specs.declared.line.Action.TheVariants.{Check, Run}
use Rattle.fbsim_line.specs.declared.line.Task.{Task}
use Rattle.fbsim_command.specs.declared.statuses.Done.TheVariants.{Stopped}
use Rattle.fbsim_command.specs.declared.join.FileLines.{FileLines}

-- The place is that of the operator of the operation at which the simulation stops.
pub record IsOperatorPlace (text : Text) (i : Inputs) (stop : FoundStop) (at : Place) : Type 0 where
  pub shown : Shown
  pub is : IsStopShown text i stop shown
  pub there : IsStretch shown.operator.start shown.operator.end at
  pub located : IsPlace text at

-- Where the position of a stop is in the declaration. There is no place only if there is no position, or if nothing is at it.
abbrev pub IsPositionPlace : Text → Inputs → FoundStop → Option Place → Type 0
IsPositionPlace text i stop None = HasNoPosition i stop ⊎ ((p : Position) × IsStopPosition i stop p × IsNowhere text i.library p)
IsPositionPlace text i stop (Some at) = (p : Position) × IsStopPosition i stop p × IsPlaceAt text i.library p at

-- no operation of the stop is shown
abbrev pub IsUnshownStop : Text → Inputs → FoundStop → Type 0
IsUnshownStop text i stop = IsUnshown text i stop (operation_at stop.site)

-- The place of a stop is that of its operator, or, if no operation is shown, of its position in the declaration.
abbrev pub IsStopPlace : Text → Inputs → FoundStop → Option Place → Type 0
IsStopPlace text i stop None = IsUnshownStop text i stop × IsPositionPlace text i stop None
IsStopPlace text i stop (Some at) = IsOperatorPlace text i stop at ⊎ (IsUnshownStop text i stop × IsPositionPlace text i stop (Some at))

-- The note names the file, the line and the column of the place, or is the words.
abbrev pub IsNoteAtStop : (types : List (List ℕ)) → (own : List ℕ) → (lines : List FileLines) → Option Place → (words note : List ℕ) → Type 0
IsNoteAtStop types own lines (Some at) words note = IsPlaced types own lines at.line at.column note
IsNoteAtStop types own lines None words note = note ≡ words

-- The note of a stop names its place, or is its words.
abbrev pub IsNoteOfStop : (types : List (List ℕ)) → (own : List ℕ) → (lines : List FileLines) → Given → Inputs → FoundStop → (note : List ℕ) → Type 0
IsNoteOfStop types own lines given i stop note =
    (place : Option Place) × (words : List ℕ) × IsStopPlace given.declaration i stop place × IsNoteAtStop types own lines place words note

-- It is the note of the stop of the simulation.
abbrev pub IsNoteOfRun : (types : List (List ℕ)) → (own : List ℕ) → (lines : List FileLines) → Given → Inputs → (horizon steps : ℕ) → (note : List ℕ) → Type 0
IsNoteOfRun types own lines given i horizon steps note = (stop : FoundStop) × IsStop i horizon steps stop × IsNoteOfStop types own lines given i stop note

-- the note to a stop of a run of what is given
abbrev pub IsStopNote : (types : List (List ℕ)) → (own : List ℕ) → (lines : List FileLines) → Given → (horizon steps : ℕ) → (note : List ℕ) → Type 0
IsStopNote types own lines given horizon steps note = (i : Inputs) × Declares given i × IsNoteOfRun types own lines given i horizon steps note

-- there is such a note exactly if the simulation stops
abbrev pub NotesRun : (types : List (List ℕ)) → (own : List ℕ) → (lines : List FileLines) → Given → Inputs → (horizon steps : ℕ) → (note : Option (List ℕ)) → Type 0
NotesRun types own lines given i horizon steps None = NeverStops i horizon steps
NotesRun types own lines given i horizon steps (Some note) = IsNoteOfRun types own lines given i horizon steps note

-- the same of a run of what is given, whose numbers are in their ranges
abbrev pub NotesStop : (types : List (List ℕ)) → (own : List ℕ) → (lines : List FileLines) → Given → (horizon steps : ℕ) → (note : Option (List ℕ)) → Type 0
NotesStop types own lines given horizon steps None = horizon ≤ 10 ^ 12 → steps ≤ 10 ^ 7 → ((i : Inputs) × Declares given i × NeverStops i horizon steps) ⊎ HasRefusal given
NotesStop types own lines given horizon steps (Some note) = IsStopNote types own lines given horizon steps note

-- such a note on a line
abbrev pub SaysStop : (types : List (List ℕ)) → (own : List ℕ) → (lines : List FileLines) → Given → (horizon steps : ℕ) → (line : Option (List ℕ)) → Type 0
SaysStop types own lines given horizon steps None = NotesStop types own lines given horizon steps None
SaysStop types own lines given horizon steps (Some line) = (note : List ℕ) × IsStopNote types own lines given horizon steps note × (line ≡ note ++ codes "\n")

-- a run has stopped
abbrev pub has_stopped : End → Bool
has_stopped (Ok Stopped) = true
has_stopped _ = false

-- the horizon and the steps of a run
abbrev pub run_of : Action → Option (ℕ × ℕ)
run_of (Run n limit workers serial form progress) = Some (n, limit)
run_of (Check lint) = None

-- those of a run that has stopped, if it is asked where
abbrev pub asked_run : Task → End → Option (ℕ × ℕ)
asked_run c end = if c.why && has_stopped end then run_of c.action else None

-- it is asked, and such a note is reported
pub record ReportsNote (types : List (List ℕ)) (c : Task) (lines : List FileLines) (given : Given) (end : End) (report : List ℕ) : Type 0 where
  pub horizon : ℕ
  pub steps : ℕ
  pub asks : asked_run c end ≡ Some (horizon, steps)
  pub is : SaysStop types c.declaration.now lines given horizon steps (Some report)

-- it is not asked, or there is no such note
abbrev pub HasNoStop : (types : List (List ℕ)) → Task → (lines : List FileLines) → Given → End → Type 0
HasNoStop types c lines given end = (horizon steps : ℕ) → asked_run c end ≡ Some (horizon, steps) → NotesStop types c.declaration.now lines given horizon steps None

-- What is reported after a task: where it stopped, exactly if that is asked for, where all that is to be reported is.
abbrev pub ReportsStop : (types : List (List ℕ)) → Task → (lines : List FileLines) → Given → End → (is_whole : Bool) → (report : List ℕ) → Type 0
ReportsStop types c lines given end is_whole report = ((report ≡ []) × (IsTrue is_whole → HasNoStop types c lines given end)) ⊎ ReportsNote types c lines given end report
