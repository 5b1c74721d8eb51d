-- A running timer has a time of at least one tick, so a timer is set at a later tick than that of its setting.
use Rattle.fb_types.proofs.Common.{◌≡◌, ℕ, ◌+◌, ◌<◌, ◌≤◌, ℤ, pos, negsuc, sym, subst, List, [], ◌∷◌, Bool, true, false, ◌||◌, ◌&&◌, not, Option, Some, None, arith, if◌then◌else◌, codes, nat_lt, Name, Path, Port, same_path, Values, truth, Kind, Basic, Event, Composite, Emission, ports_of, is_event_input, bound, outputs_with, Position, Memory, Idle, Marks, Flag, Count, Reaction, reaction, expiry, started, counted, is, System, Block, Stimulated, Expired, Arrived, Raised, World, Outcome, memory_of, with_block, silent, taking, emitted, emitted_all, settled, remembered, emissions, answered, crossing_in, crossing_out, from_inside, expires, with_slots, hold_all, ReactsAt, Reacts}
use Rattle.fb_types.specs.declared.key.Key.{Key}
use Rattle.fb_types.specs.declared.library.Ports.{Ports}
use Rattle.fb_types.specs.declared.value.Reason.{Reason}
use Rattle.fb_types.specs.declared.event_kind.EventKind.{EventKind}
use Rattle.fb_types.specs.declared.event_kind.EventKind.TheVariants.{Restart, Split, Merge, Rendezvous, Permit, Select, Switch, Delay, Cycle, SetReset, DataLatch, RisingEdge, FallingEdge, CountUp}
use Rattle.fb_types.specs.declared.run.TimerAsk.{TimerAsk}
use Rattle.fb_types.specs.declared.run.TimerAsk.TheVariants.{Keep, Clear, At}
use Rattle.fb_types.specs.EventBlocks as blocks
use Rattle.fb_types.specs.EventBlocks.{Running, emits, emits_if, timed, rendezvous, met, again, ticks, differ, flag}
use Rattle.fb_types.specs.States.{Event as AnEvent}

-- a running timer has a time
abbrev pub IsLong : Memory → Type 0
IsLong Idle = Unit {0}
IsLong (Marks a b) = Unit {0}
IsLong (Flag b) = Unit {0}
IsLong (Running time) = 1 ≤ time
IsLong (Count n b) = Unit {0}

abbrev pub IsAhead : ℕ → TimerAsk → Type 0
IsAhead tick (At t) = tick < t
IsAhead tick Keep = Unit {0}
IsAhead tick Clear = Unit {0}

-- ---- Event blocks

pub record IsSteady (tick : ℕ) (x : Reaction) : Type 0 where
  pub long : IsLong x.memory
  pub ahead : IsAhead tick x.timer

if_steady : (tick : ℕ) (b : Bool) (x y : Reaction) → IsSteady tick x → IsSteady tick y → IsSteady tick (if b then x else y)
if_steady tick true x y h g = h
if_steady tick false x y h g = g

ticks_long : (z : ℤ) → 1 ≤ ticks z
ticks_long (pos n) = omega arith
ticks_long (negsuc n) = omega arith

begun : (tick time : ℕ) → 1 ≤ time → IsSteady tick (record { memory = Running time; emits = []; timer = At (tick + time) })
begun tick time h = record { long = h; ahead = omega arith }

started_steady : (m : Memory) (tick time : ℕ) → 1 ≤ time → IsLong m → IsSteady tick (started m tick time)
started_steady Idle tick time h g = begun tick time h
started_steady (Marks a b) tick time h g = begun tick time h
started_steady (Flag b) tick time h g = begun tick time h
started_steady (Running before) tick time h g = record { long = g; ahead = tt }
started_steady (Count n b) tick time h g = begun tick time h

timed_steady : (m : Memory) (e : Name) (tick : ℕ) (vars : Values) → IsLong m → IsSteady tick (timed m e tick vars)
timed_steady m e tick vars g =
    if_steady tick (is e (codes "START")) _ _ (started_steady m tick _ (ticks_long _) g) (record { long = tt; ahead = tt })

emits_if_steady : (tick : ℕ) (b : Bool) (m : Memory) (e : Name) → IsLong m → IsSteady tick (emits_if b m e)
emits_if_steady tick b m e h = if_steady tick b _ _ (record { long = h; ahead = tt }) (record { long = h; ahead = tt })

flag_steady : (tick : ℕ) (b new : Bool) → IsSteady tick (emits_if b (Flag new) (codes "EO"))
flag_steady tick b new = emits_if_steady tick b (Flag new) (codes "EO") tt

met_steady : (tick : ℕ) (a b : Bool) → IsSteady tick (met a b)
met_steady tick a b = if_steady tick (a && b) _ _ (record { long = tt; ahead = tt }) (record { long = tt; ahead = tt })

rendezvous_steady : (tick : ℕ) (m : Memory) (e : Name) → IsLong m → IsSteady tick (rendezvous m e)
rendezvous_steady tick Idle e h = record { long = h; ahead = tt }
rendezvous_steady tick (Marks a b) e h =
    if_steady tick (is e (codes "R")) _ _ (record { long = tt; ahead = tt }) (met_steady tick (a || is e (codes "EI1")) (b || is e (codes "EI2")))
rendezvous_steady tick (Flag b) e h = record { long = h; ahead = tt }
rendezvous_steady tick (Running p) e h = record { long = h; ahead = tt }
rendezvous_steady tick (Count n b) e h = record { long = h; ahead = tt }

counted_steady : (tick : ℕ) (m : Memory) (pv : ℕ) → IsLong m → IsSteady tick (counted m pv)
counted_steady tick Idle pv h = record { long = h; ahead = tt }
counted_steady tick (Marks a b) pv h = record { long = h; ahead = tt }
counted_steady tick (Flag b) pv h = record { long = h; ahead = tt }
counted_steady tick (Running p) pv h = record { long = h; ahead = tt }
counted_steady tick (Count n b) pv h = if_steady tick (nat_lt n 65535) _ _ (record { long = tt; ahead = tt }) (record { long = tt; ahead = tt })

again_steady : (m : Memory) (tick : ℕ) → IsLong m → IsSteady tick (again m tick)
again_steady Idle tick h = record { long = h; ahead = tt }
again_steady (Marks a b) tick h = record { long = h; ahead = tt }
again_steady (Flag b) tick h = record { long = h; ahead = tt }
again_steady (Running time) tick h = record { long = h; ahead = omega (arith, h) }
again_steady (Count n b) tick h = record { long = h; ahead = tt }

reaction_steady : (kind : EventKind) (m : Memory) (e : Name) (tick : ℕ) (vars : Values) → IsLong m → IsSteady tick (reaction kind m e tick vars)
reaction_steady Restart m e tick vars h = record { long = h; ahead = tt }
reaction_steady Split m e tick vars h = record { long = h; ahead = tt }
reaction_steady Merge m e tick vars h = record { long = h; ahead = tt }
reaction_steady Rendezvous m e tick vars h = rendezvous_steady tick m e h
reaction_steady Permit m e tick vars h = emits_if_steady tick _ m _ h
reaction_steady Select m e tick vars h = emits_if_steady tick _ m _ h
reaction_steady Switch m e tick vars h = record { long = h; ahead = tt }
reaction_steady Delay m e tick vars h = timed_steady m e tick vars h
reaction_steady Cycle m e tick vars h = timed_steady m e tick vars h
reaction_steady SetReset m e tick vars h = flag_steady tick (differ (flag m) (is e (codes "S"))) (is e (codes "S"))
reaction_steady DataLatch m e tick vars h = flag_steady tick (differ (flag m) (truth (vars (codes "D")))) (truth (vars (codes "D")))
reaction_steady RisingEdge m e tick vars h = flag_steady tick (not (flag m) && truth (vars (codes "QI"))) (truth (vars (codes "QI")))
reaction_steady FallingEdge m e tick vars h = flag_steady tick (flag m && not (truth (vars (codes "QI")))) (truth (vars (codes "QI")))
reaction_steady CountUp m e tick vars h = if_steady tick (is e (codes "R")) _ _ (record { long = tt; ahead = tt }) (counted_steady tick m _ h)

expiry_steady : (kind : EventKind) (m : Memory) (tick : ℕ) → IsLong m → IsSteady tick (expiry kind m tick)
expiry_steady Delay m tick h = record { long = tt; ahead = tt }
expiry_steady Cycle m tick h = again_steady m tick h
expiry_steady _ m tick h = record { long = h; ahead = tt }

-- ---- Reactions

abbrev pub AreLong : (Path → Block) → Type 0
AreLong blocks = (p : Path) → IsLong (memory_of (blocks p).memory)

pub record IsLongOutcome (tick : ℕ) (o : Outcome) : Type 0 where
  pub world : AreLong o.world.blocks
  pub ahead : IsAhead tick o.timer

block_long : (p : Path) (b : Block) (w : World) → IsLong (memory_of b.memory) → AreLong w.blocks → AreLong (with_block p b w).blocks
block_long p b w h g q = go (same_path q p)
  where
    go : (t : Bool) → IsLong (memory_of (if t then b else w.blocks q).memory)
    go true = h
    go false = g q

module _ (sys : System) (k : Key) where
  silent_long : (w : World) (left : ℕ) → AreLong w.blocks → IsLongOutcome k.tick (silent w left)
  silent_long w left h = record { world = h; ahead = tt }

  taking_long : (w : World) (q : Port) (ports : Ports) (left : ℕ) → AreLong w.blocks → IsLongOutcome k.tick (taking sys k w q ports left)
  taking_long w q ports left h = record { world = block_long q.at _ w (h q.at) h; ahead = tt }

  emitted_long : (p : Path) (e : Emission) (o : Outcome) → IsLongOutcome k.tick o → IsLongOutcome k.tick (emitted sys k p e o)
  emitted_long p e o h = record { world = block_long p _ o.world (h.world p) h.world; ahead = h.ahead }

  emitted_all_long : (p : Path) (es : List Emission) (o : Outcome) → IsLongOutcome k.tick o → IsLongOutcome k.tick (emitted_all sys k p es o)
  emitted_all_long p [] o h = h
  emitted_all_long p (e ∷ es) o h = emitted_all_long p es (emitted sys k p e o) (emitted_long p e o h)

  settled_long : (p : Path) (c : Position) (stop : Option Reason) (o : Outcome) → IsLongOutcome k.tick o → IsLongOutcome k.tick (settled p c stop o)
  settled_long p c stop o h = record { world = block_long p _ o.world tt h.world; ahead = h.ahead }

  answered_long : (p : Path) (kind : EventKind) (x : Reaction) (o : Outcome) → IsSteady k.tick x → IsLongOutcome k.tick o → IsLongOutcome k.tick (answered sys k p kind x o)
  answered_long p kind x o g h =
      emitted_all_long p (emissions (ports_of (Event kind)) (blocks.output_of x.memory) x.emits) (remembered p x o)
      (record { world = block_long p _ o.world g.long h.world; ahead = g.ahead })

  crossing_long : (w : World) (q : Port) (ports : Ports) (left : ℕ) (inward : Bool) → AreLong w.blocks
      → IsLongOutcome k.tick (if inward then crossing_in sys k q (taking sys k w q ports left) else crossing_out sys k w q ports left)
  crossing_long w q ports left true h = let t = taking_long w q ports left h in record { world = t.world; ahead = tt }
  crossing_long w q ports left false h =
      emitted_long q.at (record { event = q.name; values = bound (outputs_with ports q.name) (from_inside sys k.resource w q.at) }) (silent w left) (silent_long w left h)

  expires_long : (w : World) (p : Path) (left : ℕ) (kind : Option Kind) → AreLong w.blocks → IsLongOutcome k.tick (expires sys k w p left kind)
  expires_long w p left None h = silent_long w left h
  expires_long w p left (Some (Basic t)) h = silent_long w left h
  expires_long w p left (Some (Event kind)) h =
      answered_long p kind (blocks.expiry kind (memory_of (w.blocks p).memory) k.tick) (silent w left)
      (expiry_steady kind (memory_of (w.blocks p).memory) k.tick (h p)) (silent_long w left h)
  expires_long w p left (Some (Composite t)) h = silent_long w left h

  carry : {o a : Outcome} → o ≡ a → IsLongOutcome k.tick a → IsLongOutcome k.tick o
  carry e h = subst (λ (z : Outcome). IsLongOutcome k.tick z) (sym e) h

  reacts_at_long : (w : World) (q : Port) (left : ℕ) (kind : Option Kind) (o : Outcome) → AreLong w.blocks → ReactsAt sys k w q left kind o → IsLongOutcome k.tick o
  reacts_at_long w q left None o h y = carry y (silent_long w left h)
  reacts_at_long w q left (Some (Basic t)) o h y =
      carry y.3
      (emitted_all_long q.at y.1.emitted (settled q.at y.1 y.0 (taking sys k w q t.ports left))
      (settled_long q.at y.1 y.0 (taking sys k w q t.ports left) (taking_long w q t.ports left h)))
  reacts_at_long w q left (Some (Event kind)) o h y =
      let begun = taking sys k w q (ports_of (Event kind)) left in
      let b = begun.world.blocks q.at in
      let t = taking_long w q (ports_of (Event kind)) left h in
      carry y
      (answered_long q.at kind (blocks.reaction kind (memory_of b.memory) q.name k.tick b.variables) begun
      (reaction_steady kind (memory_of b.memory) q.name k.tick b.variables (t.world q.at)) t)
  reacts_at_long w q left (Some (Composite t)) o h y = carry y (crossing_long w q t.ports left (is_event_input t.ports q.name) h)

  pub reacts_long : (w : World) (e : AnEvent) (left : ℕ) (o : Outcome) → AreLong w.blocks → Reacts sys k w e left o → IsLongOutcome k.tick o
  reacts_long w (Stimulated q bs) left o h y = reacts_at_long (with_slots q.at bs w) q left (sys.kind q.at) o (block_long q.at _ w (h q.at) h) y
  reacts_long w (Expired p) left o h y = carry y (expires_long w p left (sys.kind p) h)
  reacts_long w (Arrived q cs) left o h y = reacts_at_long (record w { held = hold_all cs w.held }) q left (sys.kind q.at) o h y
  reacts_long w (Raised q) left o h y = reacts_at_long w q left (sys.kind q.at) o h y
