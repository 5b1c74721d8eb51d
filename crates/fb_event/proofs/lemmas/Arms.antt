-- What a block of each kind does at an event, by what the calls of its arm return.
use Rattle.fb_types.proofs.Common.{◌≡◌, ℕ, Bool, true, false, List, [], ◌∷◌, map, All, refl, sym, ap, ◌∙◌, subst, arith, if◌then◌else◌, codes, All-cons, All-nil, ports_of_event_block, Reaction, Name, event_at, truth}
use Rattle.fb_types.specs.declared.event_kind.EventKind.{EventKind}
use Rattle.fb_types.specs.declared.run.TimerAsk.{TimerAsk}
use Rattle.fb_types.specs.declared.run.TimerAsk.TheVariants.{Keep}
use Rattle.fb_types.specs.declared.value.Value.{Value}
use Rattle.fb_types.specs.EventBlocks.{emits, emits_if, stays}
use Rattle.fb_types.specs.declared.event_kind.EventKind.TheVariants as kind
use Rattle.fb_event.specs.Block.{as_time, input_of, state_of, IsInRange}
use Rattle.fb_event.specs.Reactions.{IsEventOutput}
use Rattle.fb_event.specs.Seen.{seen_memory}
use Rattle.fb_event.specs.Step.{IsTimerAfter, Performs, reaction_with, timed_with}
use Rattle.fb_event.specs.declared.memory.EventMemory.{EventMemory}
use Rattle.fb_event.specs.declared.step.Step.{Step}

-- what a block of this kind does at an event
abbrev pub Does : EventKind → EventMemory → (event tick : ℕ) → Value → EventMemory → Step → Type 0
Does k m event tick input after step = Performs (state_of k m) (reaction_with (state_of k m) event tick (input_of k input)) after step

pub at_kind :
    (k known : EventKind) (m after : EventMemory) (event tick : ℕ) (input : Value) (step : Step) → k ≡ known → Does known m event tick input after step
    → Does k m event tick input after step
at_kind k known m after event tick input step is does = subst (λ (k : EventKind). Does k m event tick input after step) (sym is) does

pub range_at : (k known : EventKind) (m : EventMemory) → k ≡ known → IsInRange k m → IsInRange known m
range_at k known m is range = subst (λ (k : EventKind). IsInRange k m) is range

-- ---- What is emitted

pub emitting :
    (k : EventKind) (m after : EventMemory) (r : Reaction) (step : Step) (indexes : List ℕ) → seen_memory after ≡ r.memory → IsInRange k after
    → map (event_at (ports_of_event_block k).event_outputs) indexes ≡ r.emits → All (IsEventOutput k) indexes → step.emits.now ≡ indexes → step.ask ≡ r.timer
    → Performs (state_of k m) r after step
emitting k m after r step indexes memory range names within are ask = record {
  memory = memory;
  in_range = range;
  emits = ap (map (event_at (ports_of_event_block k).event_outputs)) are ∙ names;
  within = subst (λ (ns : List ℕ). All (IsEventOutput k) ns) (sym are) within;
  ask = ask;
}

-- the first event output where a condition holds
pub choosing :
    (k : EventKind) (m after : EventMemory) (b : Bool) (e : Name) (step : Step) → IsInRange k after → event_at (ports_of_event_block k).event_outputs 0 ≡ e
    → IsEventOutput k 0 → step.emits.now ≡ (if b then 0 ∷ [] else []) → step.ask ≡ Keep → Performs (state_of k m) (emits_if b (seen_memory after) e) after step
choosing k m after true e step range first within are ask =
    emitting k m after (emits (seen_memory after) (e ∷ [])) step (0 ∷ []) refl range (ap (λ (n : Name). n ∷ []) first)
    (All-cons (IsEventOutput k) 0 [] within (All-nil (IsEventOutput k))) are ask
choosing k m after false e step range first within are ask =
    emitting k m after (stays (seen_memory after)) step [] refl range refl (All-nil (IsEventOutput k)) are ask

-- ---- The kinds

pub restart_does :
    (m : EventMemory) (event tick : ℕ) (input : Value) (step : Step) → IsInRange kind.Restart m → step.emits.now ≡ [] → step.ask ≡ Keep
    → Does kind.Restart m event tick input m step
restart_does m event tick input step range are ask =
    emitting kind.Restart m m (stays (seen_memory m)) step [] refl range refl (All-nil (IsEventOutput kind.Restart)) are ask

pub split_does :
    (m : EventMemory) (event tick : ℕ) (input : Value) (step : Step) → IsInRange kind.Split m → step.emits.now ≡ 0 ∷ 1 ∷ [] → step.ask ≡ Keep
    → Does kind.Split m event tick input m step
split_does m event tick input step range are ask =
    let IsOutput = IsEventOutput kind.Split in
    emitting kind.Split m m (emits (seen_memory m) (codes "EO1" ∷ codes "EO2" ∷ [])) step (0 ∷ 1 ∷ []) refl range refl
    (All-cons IsOutput 0 (1 ∷ []) (omega arith) (All-cons IsOutput 1 [] (omega arith) (All-nil IsOutput))) are ask

pub merge_does :
    (m : EventMemory) (event tick : ℕ) (input : Value) (step : Step) → IsInRange kind.Merge m → step.emits.now ≡ 0 ∷ [] → step.ask ≡ Keep
    → Does kind.Merge m event tick input m step
merge_does m event tick input step range are ask =
    let IsOutput = IsEventOutput kind.Merge in
    emitting kind.Merge m m (emits (seen_memory m) (codes "EO" ∷ [])) step (0 ∷ []) refl range refl (All-cons IsOutput 0 [] (omega arith) (All-nil IsOutput)) are ask

pub permit_does :
    (m : EventMemory) (event tick : ℕ) (input : Value) (step : Step) → IsInRange kind.Permit m → step.emits.now ≡ (if truth input then 0 ∷ [] else [])
    → step.ask ≡ Keep → Does kind.Permit m event tick input m step
permit_does m event tick input step range are ask = choosing kind.Permit m m (truth input) (codes "EO") step range refl (omega arith) are ask

-- E_DELAY and E_CYCLE
pub delay_does :
    (m after : EventMemory) (event tick : ℕ) (input : Value) (step : Step) (asked : TimerAsk)
    → IsTimerAfter (timed_with (seen_memory m) event tick (as_time input)) after asked → step.emits.now ≡ [] → step.ask ≡ asked
    → Does kind.Delay m event tick input after step
delay_does m after event tick input step asked timer are ask =
    emitting kind.Delay m after (timed_with (seen_memory m) event tick (as_time input)) step [] timer.memory
    (record { time = timer.in_range; values = refl }) (sym timer.emits) (All-nil (IsEventOutput kind.Delay)) are (ask ∙ timer.ask)

pub cycle_does :
    (m after : EventMemory) (event tick : ℕ) (input : Value) (step : Step) (asked : TimerAsk)
    → IsTimerAfter (timed_with (seen_memory m) event tick (as_time input)) after asked → step.emits.now ≡ [] → step.ask ≡ asked
    → Does kind.Cycle m event tick input after step
cycle_does m after event tick input step asked timer are ask =
    emitting kind.Cycle m after (timed_with (seen_memory m) event tick (as_time input)) step [] timer.memory
    (record { time = timer.in_range; values = refl }) (sym timer.emits) (All-nil (IsEventOutput kind.Cycle)) are (ask ∙ timer.ask)

-- ---- Kinds that remember a flag
