-- What the program's own form of an event block represents (this project's profile).
use Rattle.std.specs.Prelude.{◌≡◌, ◌<◌, ◌-◌, ◌^◌, pos, List, [], ◌∷◌, map}
use Rattle.std.specs.Int.{int_min}
use Rattle.fb_types.specs.Blocks.{ports_of_event_block, variable_names}
use Rattle.fb_types.specs.Values.{whole}
use Rattle.fb_types.specs.declared.library.Variable.{Variable}
use Rattle.fb_types.specs.declared.value.Value.{Value}
use Rattle.fb_types.specs.declared.value.Value.TheVariants as value
use Rattle.fb_types.specs.EventBlocks.{Memory, output_of}
use Rattle.fb_types.specs.declared.event_kind.EventKind.{EventKind}
use Rattle.fb_types.specs.declared.event_kind.EventKind.TheVariants.{Delay, Cycle}
use Rattle.fb_event.specs.State.{State}
use Rattle.fb_event.specs.Seen.{seen_memory}
use Rattle.fb_event.specs.declared.memory.EventMemory.{EventMemory}
use Rattle.fb_event.specs.declared.memory.EventMemory.TheVariants.{Flag, Running, Count}

-- an event block of this kind that remembers this
abbrev pub state : EventKind → Memory → State
state k m = record { kind = k; memory = m }

-- the state of an event block, made of the program's form of what it remembers
abbrev pub state_of : EventKind → EventMemory → State
state_of k m = state k (seen_memory m)

-- a running timer's time has the range of TIME
abbrev pub IsTimeInRange : EventMemory → Type 0
IsTimeInRange (Running time) = time < 2 ^ 63
IsTimeInRange _ = Unit {0}

-- the values of the data outputs
abbrev pub values_of : State → List Value
values_of s = map (output_of s.memory) (variable_names (ports_of_event_block s.kind).outputs)

-- Q, and CV of a block that counts
abbrev pub values_in : EventMemory → List Value
values_in (Flag q) = value.Bool q ∷ []
values_in (Count count reached) = value.Bool reached ∷ value.Whole (pos count) ∷ []
values_in _ = []

-- the values of the data outputs, if there are any
abbrev pub values_if_any : List Variable → EventMemory → List Value
values_if_any [] m = []
values_if_any (x ∷ xs) m = values_in m

-- What a block of a kind may remember: a time in range, and the values of its data outputs in their order.
pub record IsInRange (k : EventKind) (m : EventMemory) : Type 0 where
  pub time : IsTimeInRange m
  pub values : values_of (state_of k m) ≡ values_if_any (ports_of_event_block k).outputs m

-- a time past the range of TIME counts as the last in it
abbrev pub as_time : Value → Value
as_time dt = value.Whole (int_min (whole dt) (pos (2 ^ 63 - 1)))

-- the input that a block reacts to: the same but where it sets a timer
abbrev pub input_of : EventKind → Value → Value
input_of Delay dt = as_time dt
input_of Cycle dt = as_time dt
input_of _ input = input
