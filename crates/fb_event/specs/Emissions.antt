-- What the program emits for an event block (this project's profile, in the manner of IEC 61499-1, Annex A).
use Rattle.std.specs.Prelude.{ℕ, List, map}
use Rattle.fb_types.specs.declared.run.Emission.{Emission}
use Rattle.fb_event.specs.Block.{values_of}
use Rattle.fb_event.specs.State.{State}
use Rattle.fb_event.specs.declared.step.Step.{Step}

-- the event output at an index, with the values of all data outputs
abbrev pub emission_at : State → ℕ → Emission
emission_at s index = record { event = index; values = values_of s }

-- what a block emits by a step, event after event
abbrev pub emitted_by : State → Step → List Emission
emitted_by s step = map (emission_at s) step.emits.now
