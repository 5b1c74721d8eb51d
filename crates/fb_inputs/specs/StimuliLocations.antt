-- Where stimuli are refused, and by which number (this project's profile).
use Rattle.std.specs.Prelude.{ℕ, Option, Some, None, Result, Ok, Err}
use Rattle.fb_inputs.specs.declared.location.RowFault.{RowFault}
use Rattle.fb_inputs.specs.declared.location.RowFault.TheVariants as fault
use Rattle.fb_inputs.specs.declared.location.RowError.{RowError}
use Rattle.fb_inputs.specs.declared.location.RowError.TheVariants as row_error
use Rattle.fb_inputs.specs.declared.location.StimuliLocation.{StimuliLocation}
use Rattle.fb_inputs.specs.declared.location.StimuliLocation.TheVariants as location
use Rattle.fb_inputs.specs.declared.location.StimuliFault.{StimuliFault}
use Rattle.fb_inputs.specs.declared.location.StimuliFault.TheVariants as stimuli_fault
use Rattle.fb_inputs.specs.Refusals.{Outcome, AnswersBy, bad_row, bad_number, over_limit}

-- a value, or what is wrong with a row
abbrev pub InRow : Type 0 → Type 0
InRow A = Result A RowFault

-- a value, or where stimuli are refused
abbrev pub Located : Type 0 → Type 0
Located A = Result A StimuliLocation

-- the number of a refusal
abbrev pub number_of_row : RowFault → ℕ
number_of_row fault.Fields = bad_row
number_of_row fault.Event = bad_row
number_of_row (fault.Word k) = bad_row
number_of_row fault.Tick = bad_number
number_of_row (fault.Value k) = bad_number
number_of_row fault.Late = over_limit
number_of_row fault.Crowded = over_limit

abbrev pub number_at : StimuliLocation → ℕ
number_at location.Bytes = over_limit
number_at location.Heading = bad_row
number_at (location.Row k why) = number_of_row why

-- an element of the last field by its index
abbrev pub word_at : ℕ → RowFault
word_at k = fault.Word k

abbrev pub value_at : ℕ → RowFault
value_at k = fault.Value k

abbrev pub row_at : ℕ → RowFault → StimuliLocation
row_at k why = location.Row k why

-- what is wrong, unless memory ran out
abbrev pub fault_of : RowError → Option RowFault
fault_of row_error.Memory = None
fault_of (row_error.At why) = Some why

abbrev pub location_of : StimuliFault → Option StimuliLocation
location_of stimuli_fault.Memory = None
location_of (stimuli_fault.At p) = Some p

-- the result of a row at this index
abbrev pub at_row : {A : Type 0} → ℕ → InRow A → Located A
at_row k (Ok x) = Ok x
at_row k (Err why) = Err (row_at k why)

-- the result without the location
abbrev pub numbered : {A : Type 0} → Located A → Outcome A
numbered (Ok x) = Ok x
numbered (Err p) = Err (number_at p)

-- A function of a row, or of stimuli, returns this, as far as contracts see it, unless memory runs out.
abbrev pub AnswersInRow : {X Y : Type 0} → (X → Y) → InRow Y → Result X RowError → Type 0
AnswersInRow seen outcome result = AnswersBy fault_of seen outcome result

abbrev pub AnswersAt : {X Y : Type 0} → (X → Y) → Located Y → Result X StimuliFault → Type 0
AnswersAt seen outcome result = AnswersBy location_of seen outcome result
