-- A timer that is set goes off with an emission.
use Rattle.fb_types.proofs.Common.{◌≡◌, ℕ, Bool, true, false, ◌||◌, ◌&&◌, List, [], ◌∷◌, refl, if◌then◌else◌, codes, nat_lt, Name, Values, Memory, Idle, Marks, Flag, Count, Reaction, reaction, expiry, started, counted, is}
use Rattle.fb_types.specs.declared.event_kind.EventKind.{EventKind}
use Rattle.fb_types.specs.declared.event_kind.EventKind.TheVariants.{Restart, Split, Merge, Rendezvous, Permit, Select, Switch, Delay, Cycle, SetReset, DataLatch, RisingEdge, FallingEdge, CountUp}
use Rattle.fb_types.specs.EventBlocks.{Running, emits_if, rendezvous}
use Rattle.fb_inspect.specs.walk.RunTakings.{MayRun, RunsAfter}

-- there is a first one
pub record AreSome (es : List Name) : Type 0 where
  pub first : Name
  pub rest : List Name
  pub are : es ≡ first ∷ rest

pub emits_some : (kind : EventKind) (m : Memory) (tick : ℕ) → MayRun kind m → AreSome (expiry kind m tick).emits
emits_some Restart m tick may = record { first = codes "COLD"; rest = []; are = refl }
emits_some Delay m tick may = record { first = codes "EO"; rest = []; are = refl }
emits_some Cycle Idle tick may = absurd may
emits_some Cycle (Marks a b) tick may = absurd may
emits_some Cycle (Flag b) tick may = absurd may
emits_some Cycle (Running time) tick may = record { first = codes "EO"; rest = []; are = refl }
emits_some Cycle (Count n b) tick may = absurd may
emits_some Split m tick may = absurd may
emits_some Merge m tick may = absurd may
emits_some Rendezvous m tick may = absurd may
emits_some Permit m tick may = absurd may
emits_some Select m tick may = absurd may
emits_some Switch m tick may = absurd may
emits_some SetReset m tick may = absurd may
emits_some DataLatch m tick may = absurd may
emits_some RisingEdge m tick may = absurd may
emits_some FallingEdge m tick may = absurd may
emits_some CountUp m tick may = absurd may

-- ---- After a reaction

abbrev pub KeepsRunning : EventKind → Memory → Reaction → Type 0
KeepsRunning kind old r = RunsAfter kind old r.memory r.timer

if_runs : (kind : EventKind) (old : Memory) (b : Bool) (x y : Reaction) → KeepsRunning kind old x → KeepsRunning kind old y → KeepsRunning kind old (if b then x else y)
if_runs kind old true x y h g = h
if_runs kind old false x y h g = g

emits_if_runs : (kind : EventKind) (old m : Memory) (b : Bool) (e : Name) → (MayRun kind old → MayRun kind m) → KeepsRunning kind old (emits_if b m e)
emits_if_runs kind old m b e h = if_runs kind old b _ _ h h

cycle_started : (m : Memory) (tick time : ℕ) → KeepsRunning Cycle m (started m tick time)
cycle_started Idle tick time = tt
cycle_started (Marks a b) tick time = tt
cycle_started (Flag b) tick time = tt
cycle_started (Running p) tick time = λ h. tt
cycle_started (Count n b) tick time = tt

delay_started : (m : Memory) (tick time : ℕ) → KeepsRunning Delay m (started m tick time)
delay_started Idle tick time = tt
delay_started (Marks a b) tick time = tt
delay_started (Flag b) tick time = tt
delay_started (Running p) tick time = λ h. tt
delay_started (Count n b) tick time = tt

rendezvous_runs : (m : Memory) (e : Name) → KeepsRunning Rendezvous m (rendezvous m e)
rendezvous_runs Idle e = λ h. h
rendezvous_runs (Marks a b) e =
    if_runs Rendezvous (Marks a b) (is e (codes "R")) _ _ (λ h. h)
    (if_runs Rendezvous (Marks a b) ((a || is e (codes "EI1")) && (b || is e (codes "EI2"))) _ _ (λ h. h) (λ h. h))
rendezvous_runs (Flag b) e = λ h. h
rendezvous_runs (Running p) e = λ h. h
rendezvous_runs (Count n b) e = λ h. h

counted_runs : (m : Memory) (pv : ℕ) → KeepsRunning CountUp m (counted m pv)
counted_runs Idle pv = λ h. h
counted_runs (Marks a b) pv = λ h. h
counted_runs (Flag b) pv = λ h. h
counted_runs (Running p) pv = λ h. h
counted_runs (Count n b) pv = if_runs CountUp (Count n b) (nat_lt n 65535) _ _ (λ h. h) (λ h. h)

pub reaction_runs : (kind : EventKind) (m : Memory) (e : Name) (tick : ℕ) (vars : Values) → KeepsRunning kind m (reaction kind m e tick vars)
reaction_runs Restart m e tick vars = λ h. h
reaction_runs Split m e tick vars = λ h. h
reaction_runs Merge m e tick vars = λ h. h
reaction_runs Rendezvous m e tick vars = rendezvous_runs m e
reaction_runs Permit m e tick vars = emits_if_runs Permit m m _ _ (λ h. h)
reaction_runs Select m e tick vars = emits_if_runs Select m m _ _ (λ h. h)
reaction_runs Switch m e tick vars = λ h. h
reaction_runs Delay m e tick vars = if_runs Delay m (is e (codes "START")) _ _ (delay_started m tick _) tt
reaction_runs Cycle m e tick vars = if_runs Cycle m (is e (codes "START")) _ _ (cycle_started m tick _) tt
reaction_runs SetReset m e tick vars = emits_if_runs SetReset m _ _ _ (λ h. h)
reaction_runs DataLatch m e tick vars = emits_if_runs DataLatch m _ _ _ (λ h. h)
reaction_runs RisingEdge m e tick vars = emits_if_runs RisingEdge m _ _ _ (λ h. h)
reaction_runs FallingEdge m e tick vars = emits_if_runs FallingEdge m _ _ _ (λ h. h)
reaction_runs CountUp m e tick vars = if_runs CountUp m (is e (codes "R")) _ _ (λ h. h) (counted_runs m _)

pub expiry_runs : (kind : EventKind) (m : Memory) (tick : ℕ) → KeepsRunning kind m (expiry kind m tick)
expiry_runs Restart m tick = λ h. h
expiry_runs Split m tick = λ h. h
expiry_runs Merge m tick = λ h. h
expiry_runs Rendezvous m tick = λ h. h
expiry_runs Permit m tick = λ h. h
expiry_runs Select m tick = λ h. h
expiry_runs Switch m tick = λ h. h
expiry_runs Delay m tick = λ h. h
expiry_runs Cycle Idle tick = λ h. h
expiry_runs Cycle (Marks a b) tick = λ h. h
expiry_runs Cycle (Flag b) tick = λ h. h
expiry_runs Cycle (Running time) tick = tt
expiry_runs Cycle (Count n b) tick = λ h. h
expiry_runs SetReset m tick = λ h. h
expiry_runs DataLatch m tick = λ h. h
expiry_runs RisingEdge m tick = λ h. h
expiry_runs FallingEdge m tick = λ h. h
expiry_runs CountUp m tick = λ h. h
