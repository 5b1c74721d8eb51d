-- What is reported after the line of a failure (this project's own).
use Rattle.std.specs.Prelude.{◌≡◌, ◌≢◌, ◌⊎◌, ℕ, List, [], ◌∷◌, ◌++◌, All, Bool, true, false, IsTrue, IfOk, IfSome, Option, Some, None, Result, Ok, Err, String, option_map, slice_get, codes, string_bytes}
use Rattle.fbsim_line.specs.declared.line.Task.{Task}
use Rattle.fb_sim.specs.Given.{Given}
use Rattle.fb_why.specs.InputPlaces.{IsPlaceOf}
use Rattle.fb_why.specs.Findings.{IsSilent}
use Rattle.fb_why.specs.Listings.{AreFound}
use Rattle.fb_why.specs.declared.input_place.InputPlace.{InputPlace}
use Rattle.fb_why.specs.declared.listing.Findings.{Findings}
use Rattle.fb_why.specs.declared.place.PlacedFinding.{PlacedFinding}
use Rattle.fb_why.specs.Places.{IsPlacedFinding}
use Rattle.fb_why.specs.declared.location.FindingLocation.{FindingLocation}
use Rattle.fb_read_positions.specs.declared.places.Place.{Place}
use Rattle.fbsim_command.specs.InputNotes.{FileNames, IsNoteThere, names_of, types_in}
use Rattle.fbsim_command.specs.Texts.{given_of, lines_of}
use Rattle.fbsim_command.specs.declared.input_notes.RefusedInputs.{RefusedInputs}
use Rattle.fbsim_command.specs.OwnLines.{IsPlaced}
use Rattle.fbsim_command.specs.Shown.{shown_name}
use Rattle.fbsim_command.specs.declared.failure.Failure.{Failure}
use Rattle.fbsim_command.specs.declared.failure.Failure.TheVariants.{Refused, File}
use Rattle.fbsim_command.specs.declared.failure.RefusalLine.TheVariants.{Numbered, Syntax}
use Rattle.fbsim_command.specs.declared.sources.SourceFault.{SourceFault}
use Rattle.fbsim_command.specs.declared.sources.SourceFault.TheVariants as source
use Rattle.fbsim_command.specs.declared.texts.Part.{Part}
use Rattle.fbsim_command.specs.Outcomes.{End}
use Rattle.fbsim_command.specs.declared.texts.Part.TheVariants.{BlockTypes, Declaration, Deployment, Stimuli}
use Rattle.fbsim_command.specs.declared.join.FileLines.{FileLines}

-- ---- What is noted

-- the note of a call, if there is one; or memory for it ran out
abbrev pub Noted : Type 0
Noted = Result (Option (List ℕ)) (Unit {0})

abbrev pub noted_of : {A E : Type 0} → Result (Option (String A)) E → Noted
noted_of (Ok note) = Ok (option_map string_bytes note)
noted_of (Err e) = Err tt

-- There is a note exactly where one is asked for and there is something to say.
abbrev pub Notes : (why : Bool) → (says : Option (List ℕ) → Type 0) → Option (List ℕ) → Type 0
Notes why says None = IsTrue why → says None
Notes why says (Some note) = IsTrue why × says (Some note)

-- The note is the first one if there is one, or else the second one.
abbrev pub IsFirstOf : (first second : Option (List ℕ) → Type 0) → Option (List ℕ) → Type 0
IsFirstOf first second None = first None × second None
IsFirstOf first second (Some note) = first (Some note) ⊎ (first None × second (Some note))

-- what was noted before is the note, and where nothing was, it is the second one
abbrev pub Follows : (before : Noted) → (second : Option (List ℕ) → Type 0) → Noted → Type 0
Follows (Ok (Some note)) second noted = noted ≡ Ok (Some note)
Follows (Ok None) second noted = IfOk noted second
Follows (Err e) second noted = noted ≡ Err e

-- ---- Files

abbrev pub file_word : Part → List ℕ
file_word (BlockTypes index) = codes "types"
file_word Declaration = codes "declaration"
file_word Deployment = codes "deployment"
file_word Stimuli = codes "stimuli"

-- the name that a call gives to a file, where it gives one
abbrev pub name_of : (types : List (List ℕ)) → Task → Part → Option (List ℕ)
name_of types c (BlockTypes index) = slice_get types index
name_of types c Declaration = Some c.declaration.now
name_of types c Deployment = option_map (λ n. n.now) c.deploy
name_of types c Stimuli = option_map (λ n. n.now) c.stimuli

-- a file of this name can't be read
pub record IsUnreadable (name matter : List ℕ) : Type 0 where
  pub input : name ≡ codes "-" → matter ≡ codes "standard input can't be read, or was read before"
  pub others : name ≢ codes "-" → matter ≡ codes "no file of this name can be read"

-- what is the matter with a file of this name, which is not read; nothing is said where memory ran out
abbrev pub IsMatter : SourceFault → (name matter : List ℕ) → Type 0
IsMatter source.File name matter = IsUnreadable name matter
IsMatter source.Folder name matter = matter ≡ codes "this is a folder, not a file"
IsMatter source.Memory name matter = ⊥

-- what is the matter with a file of this name, which is called so
abbrev pub named_note : (word name matter : List ℕ) → List ℕ
named_note word name matter = word ++ codes " " ++ shown_name name ++ codes ": " ++ matter

-- the note of a file of this name, which is called so and is not read
pub record IsNoteOfName (word name : List ℕ) (fault : SourceFault) (note : List ℕ) : Type 0 where
  pub matter : List ℕ
  pub is_matter : IsMatter fault name matter
  pub text : note ≡ named_note word name matter

-- There is a note to a file of this name, unless the source ran out of memory.
abbrev pub SaysUnread : (word name : List ℕ) → SourceFault → Option (List ℕ) → Type 0
SaysUnread word name fault None = fault ≡ source.Memory
SaysUnread word name fault (Some note) = IsNoteOfName word name fault note

-- The note of a file that can't be read.
pub record IsFileNote (types : List (List ℕ)) (c : Task) (part : Part) (fault : SourceFault) (note : List ℕ) : Type 0 where
  pub name : List ℕ
  pub named : name_of types c part ≡ Some name
  pub is : IsNoteOfName (file_word part) name fault note

-- There is a note to a file of a call, unless the call names none or the source ran out of memory.
abbrev pub SaysFile : (types : List (List ℕ)) → Task → Part → SourceFault → Option (List ℕ) → Type 0
SaysFile types c part fault None = (name_of types c part ≡ None) ⊎ (fault ≡ source.Memory)
SaysFile types c part fault (Some note) = IsFileNote types c part fault note

-- the note to a file that is not read, where one is asked for
abbrev pub NotesInput : (types : List (List ℕ)) → Task → Part → SourceFault → Option (List ℕ) → Type 0
NotesInput types c part fault note = Notes c.why (SaysFile types c part fault) note

-- the note of a file of this name, which is called so and can't be read to its end
abbrev pub rest_note : (word name : List ℕ) → List ℕ
rest_note word name = named_note word name (codes "this file can't be read to its end")

-- There is a note exactly where one is asked for and a trace of this name can't be read to its end.
abbrev pub NotesRest : (why : Bool) → (name : List ℕ) → End → Option (List ℕ) → Type 0
NotesRest why name end None = IsTrue why → end ≡ Err File → ⊥
NotesRest why name end (Some note) = IsTrue why × (end ≡ Err File) × (note ≡ rest_note (codes "trace") name)

-- the note to a trace of this name that can't be read to its end, where one is asked for
abbrev pub NotesEnd : (why : Bool) → (name : List ℕ) → Option (List ℕ) → Type 0
NotesEnd why name note = Notes why (λ n. n ≡ Some (rest_note (codes "trace") name)) note

-- no note is given; or memory for it ran out
abbrev pub IsUnnoted : Noted → Type 0
IsUnnoted note = IfOk note (λ n. n ≡ None)

-- ---- Refusals

-- the number of a refusal of the inputs
abbrev pub number_of : Failure → Option ℕ
number_of (Refused (Numbered n)) = Some n
number_of (Refused (Syntax line)) = Some 3
number_of _ = None

-- The note names the file, the line and the column of the place in the declaration, or else in another input.
abbrev pub IsNoteBy : (types : List (List ℕ)) → (own : List ℕ) → FileNames → (lines : List FileLines) → Given → FindingLocation → Option Place → (text note : List ℕ) → Type 0
IsNoteBy types own names lines given location (Some at) text note = IsPlaced types own lines at.line at.column note
IsNoteBy types own names lines given location None text note = IsNoteThere names given location text note

-- The note of what was found is that of its place, or its text.
abbrev pub IsNoteIn : (types : List (List ℕ)) → (own : List ℕ) → FileNames → (lines : List FileLines) → Given → PlacedFinding → List ℕ → Type 0
IsNoteIn types own names lines given found note = IsNoteBy types own names lines given found.finding.location found.place (string_bytes found.finding.text) note

-- a note on a line of its own: each but the first begins by ending the line before
abbrev pub on_line : Bool → List ℕ → List ℕ
on_line true note = note
on_line false note = 10 ∷ note

-- the text is that of the notes of these findings, each on a line of its own; the first may be one among others
abbrev pub AreNotesFrom : (types : List (List ℕ)) → (own : List ℕ) → FileNames → (lines : List FileLines) → Given → Bool → List PlacedFinding → List ℕ → Type 0
AreNotesFrom types own names lines given is_first [] text = text ≡ []
AreNotesFrom types own names lines given is_first (found ∷ rest) text =
    (note : List ℕ) × (after : List ℕ) × IsNoteIn types own names lines given found note × AreNotesFrom types own names lines given false rest after × (text ≡ on_line is_first note ++ after)

abbrev pub AreNotesOf : (types : List (List ℕ)) → (own : List ℕ) → FileNames → (lines : List FileLines) → Given → List PlacedFinding → List ℕ → Type 0
AreNotesOf types own names lines given found text = AreNotesFrom types own names lines given true found text

-- there are more, or not
abbrev pub more_line : Bool → List ℕ
more_line true = 10 ∷ codes "and more"
more_line false = []

-- The note is that of these findings, of which there is one at least.
abbrev pub IsNoteOfFindings : (types : List (List ℕ)) → (own : List ℕ) → FileNames → (lines : List FileLines) → Given → Findings → List ℕ → Type 0
IsNoteOfFindings types own names lines given f note =
    (f.shown.items ≢ []) × ((text : List ℕ) × AreNotesOf types own names lines given f.shown.items text × (note ≡ text ++ more_line f.more))

-- there is a note exactly if something was found
abbrev pub NotesFindings : (types : List (List ℕ)) → (own : List ℕ) → FileNames → (lines : List FileLines) → Given → Findings → Option (List ℕ) → Type 0
NotesFindings types own names lines given f None = f.shown.items ≡ []
NotesFindings types own names lines given f (Some note) = IsNoteOfFindings types own names lines given f note

-- ---- The same of a refusal

-- The place, if there is one, is that of what was found, in another input than the declaration.
abbrev pub IsPlaceIn : RefusedInputs → PlacedFinding → Option InputPlace → Type 0
IsPlaceIn r found place = IsPlaceOf (given_of r.texts.now).deploy (given_of r.texts.now).stimuli found place

abbrev pub IsNoteOfOne : RefusedInputs → PlacedFinding → List ℕ → Type 0
IsNoteOfOne r found note = IsNoteIn (types_in r) r.own.now (names_of r.names) (lines_of r.texts.now) (given_of r.texts.now) found note

abbrev pub AreNotesOfAll : RefusedInputs → List PlacedFinding → List ℕ → Type 0
AreNotesOfAll r found text = AreNotesOf (types_in r) r.own.now (names_of r.names) (lines_of r.texts.now) (given_of r.texts.now) found text

abbrev pub NotesShown : RefusedInputs → Findings → Option (List ℕ) → Type 0
NotesShown r f note = NotesFindings (types_in r) r.own.now (names_of r.names) (lines_of r.texts.now) (given_of r.texts.now) f note

-- ---- Refusals by their number

-- The note is that of the findings of this number.
abbrev pub IsNoteOfNumber : (types : List (List ℕ)) → (own : List ℕ) → FileNames → (lines : List FileLines) → Given → (number : ℕ) → List ℕ → Type 0
IsNoteOfNumber types own names lines given number note =
    (f : Findings) × IsNoteOfFindings types own names lines given f note × All (IsPlacedFinding given.declaration) f.shown.items × AreFound given.declaration given.deploy given.stimuli number f

-- there is one, unless nothing is shown for the number
abbrev pub NotesNumber : (types : List (List ℕ)) → (own : List ℕ) → FileNames → (lines : List FileLines) → Given → (number : ℕ) → Option (List ℕ) → Type 0
NotesNumber types own names lines given number None = IsSilent given.declaration given.deploy given.stimuli number
NotesNumber types own names lines given number (Some note) = IsNoteOfNumber types own names lines given number note

-- The note is that of the number of the refusal.
abbrev pub IsNote : (types : List (List ℕ)) → (own : List ℕ) → FileNames → (lines : List FileLines) → Given → Failure → List ℕ → Type 0
IsNote types own names lines given failure note = (number : ℕ) × (number_of failure ≡ Some number) × IsNoteOfNumber types own names lines given number note

-- there is one, unless it has no number, or nothing is shown for it
abbrev pub SaysRefusal : (types : List (List ℕ)) → (own : List ℕ) → FileNames → (lines : List FileLines) → Given → Failure → Option (List ℕ) → Type 0
SaysRefusal types own names lines given failure None = IfSome (number_of failure) (IsSilent given.declaration given.deploy given.stimuli)
SaysRefusal types own names lines given failure (Some note) = IsNote types own names lines given failure note

-- the names of the inputs of a task
abbrev pub input_names : Task → FileNames
input_names c = record { deploy = option_map (λ d. d.now) c.deploy; stimuli = option_map (λ s. s.now) c.stimuli }

-- where a call has failed, such a note
abbrev pub NotesOf : (types : List (List ℕ)) → Task → (lines : List FileLines) → Given → End → Option (List ℕ) → Type 0
NotesOf types c lines given (Ok d) note = note ≡ None
NotesOf types c lines given (Err failure) note = Notes c.why (SaysRefusal types c.declaration.now (input_names c) lines given failure) note
