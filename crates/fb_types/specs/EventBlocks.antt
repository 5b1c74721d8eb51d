-- The reactions of event blocks (this project's profile, in the manner of IEC 61499-1, Annex A).
use Rattle.std.specs.Prelude.{ℕ, ◌+◌, max, ℤ, pos, negsuc, List, [], ◌∷◌, Bool, false, not, ◌&&◌, ◌||◌, nat_lt, nat_le, if◌then◌else◌, codes}
use Rattle.fb_types.specs.Names.{Name, same_name}
use Rattle.fb_types.specs.Values.{Values, truth, whole}
use Rattle.fb_types.specs.declared.value.Value.{Value}
use Rattle.fb_types.specs.declared.value.Value.TheVariants as value
use Rattle.fb_types.specs.declared.event_kind.EventKind.{EventKind}
use Rattle.fb_types.specs.declared.event_kind.EventKind.TheVariants.{Restart, Split, Merge, Rendezvous, Permit, Select, Switch, Delay, Cycle, SetReset, DataLatch, RisingEdge, FallingEdge, CountUp}
use Rattle.fb_types.specs.declared.run.TimerAsk.{TimerAsk}
use Rattle.fb_types.specs.declared.run.TimerAsk.TheVariants.{Keep, Clear, At}

-- What an event block remembers.
pub data Memory : Type 0 where
  Idle : Memory
  -- which of the two events has come
  Marks : (first second : Bool) → Memory
  -- Q, or the QI before
  Flag : Bool → Memory
  -- the timer runs, with this time
  Running : (time : ℕ) → Memory
  -- CV and Q
  Count : ℕ → (reached : Bool) → Memory

-- The result of a reaction.
pub record Reaction : Type 0 where
  pub memory : Memory
  pub emits : List Name
  pub timer : TimerAsk

-- what a block remembers at the start
abbrev pub memory_at_start : EventKind → Memory
memory_at_start Rendezvous = Marks false false
memory_at_start SetReset = Flag false
memory_at_start DataLatch = Flag false
memory_at_start RisingEdge = Flag false
memory_at_start FallingEdge = Flag false
memory_at_start CountUp = Count 0 false
memory_at_start _ = Idle

-- the data outputs
abbrev pub output_of : Memory → Name → Value
output_of (Flag q) n = value.Bool q
output_of (Count cv q) n = if same_name n (codes "CV") then value.Whole (pos cv) else value.Bool q
output_of _ n = value.Bool false

-- a time in ticks; below 1 it counts as 1
abbrev pub ticks : ℤ → ℕ
ticks (pos n) = max 1 n
ticks (negsuc n) = 1

abbrev pub natural : ℤ → ℕ
natural (pos n) = n
natural (negsuc n) = 0

abbrev pub stays : Memory → Reaction
stays m = record { memory = m; emits = []; timer = Keep }

abbrev pub emits : Memory → List Name → Reaction
emits m es = record { memory = m; emits = es; timer = Keep }

abbrev pub emits_if : Bool → Memory → Name → Reaction
emits_if b m e = if b then emits m (e ∷ []) else stays m

-- whether the event has this name
abbrev pub is : Name → Name → Bool
is e name = same_name e name

abbrev pub differ : Bool → Bool → Bool
differ a b = (a && not b) || (b && not a)

-- ---- The blocks one by one

-- E_REND: when both events have come, both marks are cleared and EO is emitted.
abbrev pub met : Bool → Bool → Reaction
met first second = if first && second then emits (Marks false false) (codes "EO" ∷ []) else stays (Marks first second)

abbrev pub rendezvous : Memory → Name → Reaction
rendezvous (Marks first second) e =
    if is e (codes "R") then stays (Marks false false)
    else met (first || is e (codes "EI1")) (second || is e (codes "EI2"))
rendezvous m e = stays m

-- START while idle sets the timer, and while running changes nothing.
abbrev pub started : Memory → ℕ → ℕ → Reaction
started (Running before) tick time = stays (Running before)
started m tick time = record { memory = Running time; emits = []; timer = At (tick + time) }

-- E_DELAY and E_CYCLE
abbrev pub timed : Memory → Name → ℕ → Values → Reaction
timed m e tick vars =
    if is e (codes "START") then started m tick (ticks (whole (vars (codes "DT"))))
    else record { memory = Idle; emits = []; timer = Clear }

abbrev pub flag : Memory → Bool
flag (Flag q) = q
flag m = false

-- E_SR and E_D_FF: Q becomes the new value, and EO is emitted when it differs.
abbrev pub latched : Memory → Bool → Reaction
latched m new = emits_if (differ (flag m) new) (Flag new) (codes "EO")

-- E_CTU: at 65535 the count stays, and nothing is emitted.
abbrev pub counted : Memory → ℕ → Reaction
counted (Count cv q) pv =
    if nat_lt cv 65535 then emits (Count (cv + 1) (nat_le pv (cv + 1))) (codes "CUO" ∷ []) else stays (Count cv q)
counted m pv = stays m

-- ---- The table

-- The reaction to an event input, with the sampled values.
abbrev pub reaction : EventKind → Memory → Name → ℕ → Values → Reaction
reaction Restart m e tick vars = stays m
reaction Split m e tick vars = emits m (codes "EO1" ∷ codes "EO2" ∷ [])
reaction Merge m e tick vars = emits m (codes "EO" ∷ [])
reaction Rendezvous m e tick vars = rendezvous m e
reaction Permit m e tick vars = emits_if (truth (vars (codes "PERMIT"))) m (codes "EO")
reaction Select m e tick vars = emits_if (differ (is e (codes "EI0")) (truth (vars (codes "G")))) m (codes "EO")
reaction Switch m e tick vars = emits m ((if truth (vars (codes "G")) then codes "EO1" else codes "EO0") ∷ [])
reaction Delay m e tick vars = timed m e tick vars
reaction Cycle m e tick vars = timed m e tick vars
reaction SetReset m e tick vars = latched m (is e (codes "S"))
reaction DataLatch m e tick vars = latched m (truth (vars (codes "D")))
reaction RisingEdge m e tick vars =
    let now = truth (vars (codes "QI")) in emits_if (not (flag m) && now) (Flag now) (codes "EO")
reaction FallingEdge m e tick vars =
    let now = truth (vars (codes "QI")) in emits_if (flag m && not now) (Flag now) (codes "EO")
reaction CountUp m e tick vars =
    if is e (codes "R") then emits (Count 0 false) (codes "RO" ∷ [])
    else counted m (natural (whole (vars (codes "PV"))))

-- E_CYCLE: the timer is set again, after the time of the START that began it.
abbrev pub again : Memory → ℕ → Reaction
again (Running time) tick = record { memory = Running time; emits = codes "EO" ∷ []; timer = At (tick + time) }
again m tick = stays m

-- The reaction to the timer. It reads no input.
abbrev pub expiry : EventKind → Memory → ℕ → Reaction
expiry Restart m tick = emits m (codes "COLD" ∷ [])
expiry Delay m tick = emits Idle (codes "EO" ∷ [])
expiry Cycle m tick = again m tick
expiry _ m tick = stays m
