-- What a step of the program represents (this project's profile).
use Rattle.std.specs.Prelude.{◌≡◌, ℕ, [], map, All}
use Rattle.fb_types.specs.Blocks.{ports_of_event_block}
use Rattle.fb_types.specs.EventBlocks.{Memory, Reaction, reaction, timed}
use Rattle.fb_types.specs.Numbers.{event_at}
use Rattle.fb_types.specs.declared.value.Value.{Value}
use Rattle.fb_event.specs.State.{State}
use Rattle.fb_event.specs.Reactions.{IsEventOutput}
use Rattle.fb_types.specs.declared.event_kind.EventKind.TheVariants.{Delay}
use Rattle.fb_types.specs.declared.run.TimerAsk.{TimerAsk}
use Rattle.fb_event.specs.Block.{IsInRange, IsTimeInRange}
use Rattle.fb_event.specs.Seen.{seen_memory}
use Rattle.fb_event.specs.declared.memory.EventMemory.{EventMemory}
use Rattle.fb_event.specs.declared.step.Step.{Step}

-- What a block remembers then and the step are this reaction of a block in this state.
pub record Performs (s : State) (r : Reaction) (after : EventMemory) (step : Step) : Type 0 where
  pub memory : seen_memory after ≡ r.memory
  pub in_range : IsInRange s.kind after
  pub emits : map (event_at (ports_of_event_block s.kind).event_outputs) step.emits.now ≡ r.emits
  pub within : All (IsEventOutput s.kind) step.emits.now
  pub ask : step.ask ≡ r.timer

-- the reaction to the event input at an index, where every data input has this value
abbrev pub reaction_with : State → (event tick : ℕ) → Value → Reaction
reaction_with s event tick input =
    reaction s.kind s.memory (event_at (ports_of_event_block s.kind).event_inputs event) tick (λ n. input)

-- The timer and what is asked of it are those of this reaction, which emits nothing.
pub record IsTimerAfter (r : Reaction) (after : EventMemory) (asked : TimerAsk) : Type 0 where
  pub memory : seen_memory after ≡ r.memory
  pub in_range : IsTimeInRange after
  pub emits : r.emits ≡ []
  pub ask : asked ≡ r.timer

-- the reaction of E_DELAY or E_CYCLE to the event input at an index, with this DT
abbrev pub timed_with : Memory → (event tick : ℕ) → Value → Reaction
timed_with m event tick dt =
    timed m (event_at (ports_of_event_block Delay).event_inputs event) tick (λ n. dt)
