-- What single functions of the table return, and what the reaction is there.
use Rattle.fb_types.proofs.Common.{◌≡◌, ◌≢◌, ◌+◌, ◌≤◌, ℕ, zero, suc, ℤ, pos, negsuc, Bool, true, false, true≢false, List, [], ◌∷◌, length, get_or, refl, sym, ap, ◌∙◌, subst, arith, nat_eq, codes, ◌||◌, if◌then◌else◌, le-ltb, ne_eqb, All-cons, All-nil, Memory, Idle, Reaction, counted, started, whole}
use Rattle.fb_types.specs.declared.run.TimerAsk.TheVariants.{At, Clear, Keep}
use Rattle.fb_types.specs.declared.value.Value.{Value}
use Rattle.std.specs.Int.Signed.{lt_z}
use Rattle.fb_types.specs.EventBlocks.{again, emits, met, natural, stays, ticks}
use Rattle.fb_types.specs.EventBlocks as blocks
use Rattle.fb_types.specs.declared.event_kind.EventKind.TheVariants as kind
use Rattle.fb_types.specs.declared.value.Value.TheVariants as value
use Rattle.fb_event.specs.Block.{state_of, IsInRange, IsTimeInRange}
use Rattle.fb_event.specs.Reactions.{IsEventOutput, PassesTo, expiry_of, first_value}
use Rattle.fb_event.specs.Seen.{seen_memory}
use Rattle.fb_event.specs.Step.{IsTimerAfter, Performs, reaction_with, timed_with}
use Rattle.fb_event.specs.declared.memory.EventMemory.{EventMemory}
use Rattle.fb_event.specs.declared.memory.EventMemory.TheVariants as seen
use Rattle.fb_event.specs.declared.step.Step.{Step}
use Rattle.fb_event.proofs.lemmas.Arms.{emitting}
use Rattle.fb_event.proofs.lemmas.EventIndexes.{count-reset, rendezvous-first, rendezvous-reset, rendezvous-second, timer-start}

-- ---- E_DELAY and E_CYCLE

abbrev stopped : Reaction
stopped = record { memory = Idle; emits = []; timer = Clear }

-- any event but START stops the timer
stops : (m : Memory) (event tick : ℕ) (dt : Value) → event ≢ 0 → stopped ≡ timed_with m event tick dt
stops m event tick dt other =
    ap (λ b. if b then started m tick (ticks (whole dt)) else stopped) (sym (timer-start event ∙ ne_eqb event 0 other))

pub timer_stopped : (m : Memory) (event tick : ℕ) (dt : Value) → event ≢ 0 → IsTimerAfter (timed_with m event tick dt) seen.Idle Clear
timer_stopped m event tick dt other =
    subst (λ (r : Reaction). IsTimerAfter r seen.Idle Clear) (stops m event tick dt other) (record { memory = refl; in_range = tt; emits = refl; ask = refl })

starts : (m : Memory) (event tick : ℕ) (dt : Value) → event ≡ 0 → started m tick (ticks (whole dt)) ≡ timed_with m event tick dt
starts m event tick dt at =
    ap (λ b. if b then started m tick (ticks (whole dt)) else stopped) (sym (timer-start event ∙ ap (λ n. nat_eq n 0) at))

-- a timer that runs goes on
pub timer_kept :
    (m : EventMemory) (time event tick : ℕ) (dt : Value) → event ≡ 0 → m ≡ seen.Running time → IsTimeInRange m
    → IsTimerAfter (timed_with (seen_memory m) event tick dt) m Keep
timer_kept m time event tick dt at is range =
    subst (λ (m : EventMemory). IsTimerAfter (timed_with (seen_memory m) event tick dt) m Keep) (sym is)
    (subst (λ (r : Reaction). IsTimerAfter r (seen.Running time) Keep) (starts (blocks.Running time) event tick dt at)
    (record { memory = refl; in_range = subst IsTimeInRange is range; emits = refl; ask = refl }))

-- E_CYCLE begins its timer again
pub cycled :
    (m : EventMemory) (tick time : ℕ) (step : Step) → IsInRange kind.Cycle m → m ≡ seen.Running time → step.emits.now ≡ 0 ∷ [] → step.ask ≡ At (tick + time)
    → Performs (state_of kind.Cycle m) (expiry_of (state_of kind.Cycle m) tick) m step
cycled m tick time step range is are ask =
    let IsOutput = IsEventOutput kind.Cycle in
    subst (λ (m : EventMemory). Performs (state_of kind.Cycle m) (expiry_of (state_of kind.Cycle m) tick) m step) (sym is)
    (emitting kind.Cycle (seen.Running time) (seen.Running time) (again (blocks.Running time) tick) step (0 ∷ []) refl
    (subst (λ (m : EventMemory). IsInRange kind.Cycle m) is range) refl (All-cons IsOutput 0 [] (omega arith) (All-nil IsOutput)) are ask)

-- a time below one counts as one
pub below_one : (z : ℤ) → lt_z z (pos 1) ≡ true → 1 ≡ ticks z
below_one (pos zero) less = refl
below_one (pos (suc n)) less = absurd (true≢false (sym less ∙ le-ltb (suc n) 1 (omega arith)))
below_one (negsuc n) less = refl

-- ---- E_CTU

-- at the last count nothing happens
pub count_full :
    (m : EventMemory) (count event : ℕ) (reached : Bool) (input : Value) (step : Step) → event ≢ 1 → m ≡ seen.Count count reached → count ≡ 65535
    → IsInRange kind.CountUp m → step.emits.now ≡ [] → step.ask ≡ Keep
    → Performs (state_of kind.CountUp m) (reaction_with (state_of kind.CountUp m) event 0 input) (seen.Count count reached) step
count_full m count event reached input step other is full range are ask =
    let last : EventMemory = seen.Count 65535 reached in
    let at_last : seen.Count count reached ≡ last = ap (λ (n : ℕ). seen.Count n reached) full in
    let here : Performs (state_of kind.CountUp last) (stays (seen_memory last)) last step =
    emitting kind.CountUp last last (stays (seen_memory last)) step [] refl (subst (λ (m : EventMemory). IsInRange kind.CountUp m) (is ∙ at_last) range) refl
    (All-nil (IsEventOutput kind.CountUp)) are ask in
    let reacts : stays (seen_memory last) ≡ reaction_with (state_of kind.CountUp last) event 0 input =
    ap (λ (b : Bool). if b then emits (blocks.Count 0 false) (codes "RO" ∷ []) else counted (seen_memory last) (natural (whole input))) (sym (count-reset event ∙ ne_eqb event 1 other)) in
    let done : Performs (state_of kind.CountUp last) (reaction_with (state_of kind.CountUp last) event 0 input) last step =
    subst (λ (r : Reaction). Performs (state_of kind.CountUp last) r last step) reacts here in
    subst (λ (n : EventMemory). Performs (state_of kind.CountUp n) (reaction_with (state_of kind.CountUp n) event 0 input) (seen.Count count reached) step) (sym is)
    (subst (λ (n : EventMemory). Performs (state_of kind.CountUp n) (reaction_with (state_of kind.CountUp n) event 0 input) n step) (sym at_last) done)

-- ---- E_REND

-- both events have come
pub rendezvous_met :
    (first second : Bool) (event : ℕ) (step : Step) → event ≢ 2 → (first || nat_eq event 0) ≡ true → (second || nat_eq event 1) ≡ true
    → step.emits.now ≡ 0 ∷ [] → step.ask ≡ Keep
    → Performs (state_of kind.Rendezvous (seen.Marks first second)) (reaction_with (state_of kind.Rendezvous (seen.Marks first second)) event 0 (value.Bool false)) (seen.Marks false false) step
rendezvous_met first second event step other one two are ask =
    let m = seen.Marks first second in
    let IsOutput = IsEventOutput kind.Rendezvous in
    subst (λ (r : Reaction). Performs (state_of kind.Rendezvous m) r (seen.Marks false false) step)
    (λ i. if sym (rendezvous-reset event ∙ ne_eqb event 2 other) i then stays (blocks.Marks false false)
    else met (sym (ap (λ b. first || b) (rendezvous-first event) ∙ one) i) (sym (ap (λ b. second || b) (rendezvous-second event) ∙ two) i))
    (emitting kind.Rendezvous m (seen.Marks false false) (emits (blocks.Marks false false) (codes "EO" ∷ [])) step (0 ∷ []) refl
    (record { time = tt; values = refl }) refl (All-cons IsOutput 0 [] (omega arith) (All-nil IsOutput)) are ask)

-- ---- Inputs

pub first_there : (vs : List Value) (d : Value) → 1 ≤ length vs → get_or vs 0 d ≡ first_value vs
first_there [] d some = absurd (omega arith)
first_there (v ∷ vs) d some = refl

-- ---- Blocks that only pass events on

pub merge_passes : PassesTo kind.Merge 0
merge_passes = record {
  answers = λ m e tick vars. refl;
  well_formed = (omega arith, refl);
  no_outputs = refl;
  no_inputs = λ e. refl;
}
