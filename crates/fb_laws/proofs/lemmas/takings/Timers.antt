-- A timer is set at the tick of its setting or later.
use Rattle.fb_types.proofs.Common.{ℕ, ◌≤◌, Bool, true, false, ◌||◌, ◌&&◌, arith, if◌then◌else◌, codes, nat_lt, Name, Values, Memory, Idle, Marks, Flag, Count, Reaction, reaction, expiry, started, counted, is}
use Rattle.fb_types.specs.declared.event_kind.EventKind.{EventKind}
use Rattle.fb_types.specs.declared.event_kind.EventKind.TheVariants.{Restart, Split, Merge, Rendezvous, Permit, Select, Switch, Delay, Cycle, SetReset, DataLatch, RisingEdge, FallingEdge, CountUp}
use Rattle.fb_types.specs.declared.run.TimerAsk.{TimerAsk}
use Rattle.fb_types.specs.declared.run.TimerAsk.TheVariants.{Keep, Clear, At}
use Rattle.fb_types.specs.EventBlocks.{Running, emits_if, timed, rendezvous, met, again}

abbrev pub IsLater : ℕ → TimerAsk → Type 0
IsLater tick (At t) = tick ≤ t
IsLater tick Keep = Unit {0}
IsLater tick Clear = Unit {0}

if_later : (tick : ℕ) (b : Bool) (x y : Reaction) → IsLater tick x.timer → IsLater tick y.timer → IsLater tick (if b then x else y).timer
if_later tick true x y h g = h
if_later tick false x y h g = g

started_later : (m : Memory) (tick time : ℕ) → IsLater tick (started m tick time).timer
started_later Idle tick time = omega arith
started_later (Marks a b) tick time = omega arith
started_later (Flag b) tick time = omega arith
started_later (Running p) tick time = tt
started_later (Count n b) tick time = omega arith

timed_later : (m : Memory) (e : Name) (tick : ℕ) (vars : Values) → IsLater tick (timed m e tick vars).timer
timed_later m e tick vars = if_later tick (is e (codes "START")) _ _ (started_later m tick _) tt

emits_if_later : (tick : ℕ) (b : Bool) (m : Memory) (e : Name) → IsLater tick (emits_if b m e).timer
emits_if_later tick b m e = if_later tick b _ _ tt tt

met_later : (tick : ℕ) (a b : Bool) → IsLater tick (met a b).timer
met_later tick a b = if_later tick (a && b) _ _ tt tt

rendezvous_later : (tick : ℕ) (m : Memory) (e : Name) → IsLater tick (rendezvous m e).timer
rendezvous_later tick Idle e = tt
rendezvous_later tick (Marks a b) e = if_later tick (is e (codes "R")) _ _ tt (met_later tick (a || is e (codes "EI1")) (b || is e (codes "EI2")))
rendezvous_later tick (Flag b) e = tt
rendezvous_later tick (Running p) e = tt
rendezvous_later tick (Count n b) e = tt

counted_later : (tick : ℕ) (m : Memory) (pv : ℕ) → IsLater tick (counted m pv).timer
counted_later tick Idle pv = tt
counted_later tick (Marks a b) pv = tt
counted_later tick (Flag b) pv = tt
counted_later tick (Running p) pv = tt
counted_later tick (Count n b) pv = if_later tick (nat_lt n 65535) _ _ tt tt

again_later : (m : Memory) (tick : ℕ) → IsLater tick (again m tick).timer
again_later Idle tick = tt
again_later (Marks a b) tick = tt
again_later (Flag b) tick = tt
again_later (Running time) tick = omega arith
again_later (Count n b) tick = tt

pub reaction_later : (kind : EventKind) (m : Memory) (e : Name) (tick : ℕ) (vars : Values) → IsLater tick (reaction kind m e tick vars).timer
reaction_later Restart m e tick vars = tt
reaction_later Split m e tick vars = tt
reaction_later Merge m e tick vars = tt
reaction_later Rendezvous m e tick vars = rendezvous_later tick m e
reaction_later Permit m e tick vars = emits_if_later tick _ m _
reaction_later Select m e tick vars = emits_if_later tick _ m _
reaction_later Switch m e tick vars = tt
reaction_later Delay m e tick vars = timed_later m e tick vars
reaction_later Cycle m e tick vars = timed_later m e tick vars
reaction_later SetReset m e tick vars = emits_if_later tick _ _ _
reaction_later DataLatch m e tick vars = emits_if_later tick _ _ _
reaction_later RisingEdge m e tick vars = emits_if_later tick _ _ _
reaction_later FallingEdge m e tick vars = emits_if_later tick _ _ _
reaction_later CountUp m e tick vars = if_later tick (is e (codes "R")) _ _ tt (counted_later tick m _)

pub expiry_later : (kind : EventKind) (m : Memory) (tick : ℕ) → IsLater tick (expiry kind m tick).timer
expiry_later Cycle m tick = again_later m tick
expiry_later _ m tick = tt
