-- A row of stimuli, by the fields of its record (this project's profile).
use Rattle.std.specs.Prelude.{not, nat_eq, ◌==◌, List, length, filter, Option, Some, option_map, Ok}
use Rattle.std.specs.List.{slice_split}
use Rattle.fb_types.specs.declared.deploy.Setting.{Setting}
use Rattle.fb_inputs.specs.declared.row.Word.{Word}
use Rattle.fb_inputs.specs.declared.row.Draft.{Draft}
use Rattle.fb_inputs.specs.declared.location.RowFault.TheVariants as fault
use Rattle.fb_inputs.specs.Lists.{◌>>=◌, each_at}
use Rattle.fb_inputs.specs.Refusals.{and_then, or_refuse}
use Rattle.fb_inputs.specs.StimuliLocations.{InRow, word_at}
use Rattle.fb_inputs.specs.Words.{Text, name, parted}
use Rattle.fb_inputs.specs.Numbers.{value_of}

-- the fields of a record
abbrev pub Row : Type 0
Row = List Text

-- the event `INSTANCE.EVENT`
unfoldable pub event : Text → Option (Text × Text)
event z = do
  ends ← parted 46 z
  instance ← name ends.0
  event ← name ends.1
  Some (instance, event)

-- the words between spaces
unfoldable pub words : Text → List Text
words z = filter (λ w. not (length w == 0)) (slice_split (nat_eq 32) z)

-- the word `NAME=VALUE`, with its value, if that is one
unfoldable pub word : Text → Option Word
word z = do
  ends ← parted 61 z
  variable ← name ends.0
  Some (record { variable = variable; value = value_of ends.1 })

-- the shape of a row: its parts, each with its value, if that is one
unfoldable pub draft : Text → Text → InRow Draft
draft at values =
    and_then (or_refuse fault.Event (event at)) (λ ends. and_then (each_at word_at word 0 (words values)) (λ found.
    Ok (record { instance = ends.0; event = ends.1; words = found })))

abbrev pub setting : Word → Option Setting
setting w = option_map (λ v. record { variable = w.variable; value = v }) w.value
