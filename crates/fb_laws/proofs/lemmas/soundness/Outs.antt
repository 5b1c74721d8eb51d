-- What a reaction emits: events to its own resource, messages over its links, lines under its key, timers of now or
-- later.
use Rattle.fb_types.proofs.Common.{◌≡◌, ℕ, refl, sym, subst, ⊎_elim, List, [], ◌∷◌, Bool, true, false, Option, Some, None, if◌then◌else◌, cases_eq, eq-eqb, ne_eqb, Path, Port, Kind, Basic, Event, Composite, ports_of, is_event_input, bound, outputs_with, Emission, Position, System, Stimulated, Expired, Arrived, Raised, path_of, World, Outcome, Out, Sends, emitted, emitted_all, charted, answered, taking, crossing_in, crossing_out, silent, expires, settled, remembered, from_inside, emissions, with_slots, hold_all, ReactsAt, Reacts, memory_of, spread, carried_from, Each}
use Rattle.fb_types.specs.declared.key.Key.{Key}
use Rattle.fb_types.specs.declared.value.Value.{Value}
use Rattle.fb_types.specs.declared.value.Reason.{Reason}
use Rattle.fb_types.specs.declared.library.Ports.{Ports}
use Rattle.fb_types.specs.declared.event_kind.EventKind.{EventKind}
use Rattle.fb_types.specs.EventBlocks as blocks
use Rattle.fb_types.specs.States.{Event as AnEvent, Line}
use Rattle.fb_types.specs.Reactions.{Local}
use Rattle.fb_laws.specs.Sound.{IsLink, IsLinked, IsSound}
use Rattle.fb_types.proofs.lemmas.lists.EachLaws.{each_append}
use Rattle.fb_laws.proofs.lemmas.takings.Timers.{IsLater, reaction_later, expiry_later}

module _ (sys : System) (sound : IsSound sys) (k : Key) where
  -- a local event is of the resource, and a message goes over a link from it
  abbrev pub IsGood : Out → Type 0
  IsGood (Local q) = sys.resource q.at ≡ k.resource
  IsGood (Sends q carried) = IsLink sys k.resource (sys.resource q.at)

  pub record GoodOutcome (o : Outcome) : Type 0 where
    pub outs : Each IsGood o.outs
    pub lines : Each (λ (l : Line). l.key ≡ k) o.lines
    pub timer : IsLater k.tick o.timer

  spread_good : (carried : List (Port × Value)) (qs : List Port) → Each (IsLinked sys k.resource) qs → Each IsGood (spread sys k.resource carried qs)
  spread_good carried [] h = tt
  spread_good carried (q ∷ qs) h =
      let rest = spread_good carried qs h.1 in
      ⊎_elim
      (λ (e : sys.resource q.at ≡ k.resource). (subst (λ (b : Bool). IsGood (if b then Local q else Sends q carried)) (sym (eq-eqb (sys.resource q.at) k.resource e)) e, rest))
      (λ (n : sys.resource q.at ≡ k.resource → ⊥). (subst (λ (b : Bool). IsGood (if b then Local q else Sends q carried)) (sym (ne_eqb (sys.resource q.at) k.resource n)) (h.0 n), rest))
      (cases_eq (sys.resource q.at) k.resource)

  targets_good : (carried : List (Port × Value)) (p : Port) → sys.resource p.at ≡ k.resource → Each IsGood (spread sys k.resource carried (sys.targets p))
  targets_good carried p home = spread_good carried (sys.targets p) (subst (λ (r : ℕ). Each (IsLinked sys r) (sys.targets p)) home (sound.linked p))

  emitted_good : (p : Path) (e : Emission) (o : Outcome) → sys.resource p ≡ k.resource → GoodOutcome o → GoodOutcome (emitted sys k p e o)
  emitted_good p e o home h = record {
    outs = each_append _ o.outs _ h.outs (targets_good (carried_from p e.values) (record { at = p; name = e.event }) home);
    lines = each_append _ o.lines _ h.lines (refl, tt);
    timer = h.timer;
  }

  emitted_all_good : (p : Path) (es : List Emission) (o : Outcome) → sys.resource p ≡ k.resource → GoodOutcome o → GoodOutcome (emitted_all sys k p es o)
  emitted_all_good p [] o home h = h
  emitted_all_good p (e ∷ es) o home h = emitted_all_good p es (emitted sys k p e o) home (emitted_good p e o home h)

  silent_good : (w : World) (left : ℕ) → GoodOutcome (silent w left)
  silent_good w left = record { outs = tt; lines = tt; timer = tt }

  taking_good : (w : World) (q : Port) (ports : Ports) (left : ℕ) → GoodOutcome (taking sys k w q ports left)
  taking_good w q ports left = record { outs = tt; lines = (refl, tt); timer = tt }

  settled_good : (p : Path) (c : Position) (stop : Option Reason) (o : Outcome) → GoodOutcome o → GoodOutcome (settled p c stop o)
  settled_good p c stop o h = record { outs = h.outs; lines = h.lines; timer = h.timer }

  remembered_good : (p : Path) (x : blocks.Reaction) (o : Outcome) → IsLater k.tick x.timer → GoodOutcome o → GoodOutcome (remembered p x o)
  remembered_good p x o t h = record { outs = h.outs; lines = h.lines; timer = t }

  charted_good : (p : Path) (o : Outcome) (c : Position) (stop : Option Reason) → sys.resource p ≡ k.resource → GoodOutcome o → GoodOutcome (charted sys k p o c stop)
  charted_good p o c stop home h = emitted_all_good p c.emitted (settled p c stop o) home (settled_good p c stop o h)

  answered_good : (p : Path) (kind : EventKind) (x : blocks.Reaction) (o : Outcome) → sys.resource p ≡ k.resource → IsLater k.tick x.timer → GoodOutcome o → GoodOutcome (answered sys k p kind x o)
  answered_good p kind x o home t h = emitted_all_good p (emissions (ports_of (Event kind)) (blocks.output_of x.memory) x.emits) (remembered p x o) home (remembered_good p x o t h)

  crossing_good : (w : World) (q : Port) (ports : Ports) (left : ℕ) (inward : Bool) → sys.resource q.at ≡ k.resource
      → GoodOutcome (if inward then crossing_in sys k q (taking sys k w q ports left) else crossing_out sys k w q ports left)
  crossing_good w q ports left true home = record { outs = targets_good [] q home; lines = (refl, tt); timer = tt }
  crossing_good w q ports left false home = emitted_good q.at (record { event = q.name; values = bound (outputs_with ports q.name) (from_inside sys k.resource w q.at) }) (silent w left) home (silent_good w left)

  expires_good : (w : World) (p : Path) (left : ℕ) (kind : Option Kind) → sys.resource p ≡ k.resource → GoodOutcome (expires sys k w p left kind)
  expires_good w p left None home = silent_good w left
  expires_good w p left (Some (Basic t)) home = silent_good w left
  expires_good w p left (Some (Event kind)) home =
      answered_good p kind (blocks.expiry kind (memory_of (w.blocks p).memory) k.tick) (silent w left) home (expiry_later kind (memory_of (w.blocks p).memory) k.tick) (silent_good w left)
  expires_good w p left (Some (Composite t)) home = silent_good w left

  carry : {o a : Outcome} → o ≡ a → GoodOutcome a → GoodOutcome o
  carry e h = subst (λ (z : Outcome). GoodOutcome z) (sym e) h

  reacts_at_good : (w : World) (q : Port) (left : ℕ) (kind : Option Kind) (o : Outcome) → sys.resource q.at ≡ k.resource → ReactsAt sys k w q left kind o → GoodOutcome o
  reacts_at_good w q left None o home y = carry y (silent_good w left)
  reacts_at_good w q left (Some (Basic t)) o home y =
      carry y.3 (charted_good q.at (taking sys k w q t.ports left) y.1 y.0 home (taking_good w q t.ports left))
  reacts_at_good w q left (Some (Event kind)) o home y =
      let begun = taking sys k w q (ports_of (Event kind)) left in
      let b = begun.world.blocks q.at in
      carry y (answered_good q.at kind (blocks.reaction kind (memory_of b.memory) q.name k.tick b.variables) begun home (reaction_later kind (memory_of b.memory) q.name k.tick b.variables) (taking_good w q (ports_of (Event kind)) left))
  reacts_at_good w q left (Some (Composite t)) o home y = carry y (crossing_good w q t.ports left (is_event_input t.ports q.name) home)

  pub reacts_good : (w : World) (e : AnEvent) (left : ℕ) (o : Outcome) → sys.resource (path_of e) ≡ k.resource → Reacts sys k w e left o → GoodOutcome o
  reacts_good w (Stimulated q bs) left o home y = reacts_at_good (with_slots q.at bs w) q left (sys.kind q.at) o home y
  reacts_good w (Expired p) left o home y = carry y (expires_good w p left (sys.kind p) home)
  reacts_good w (Arrived q cs) left o home y = reacts_at_good (record w { held = hold_all cs w.held }) q left (sys.kind q.at) o home y
  reacts_good w (Raised q) left o home y = reacts_at_good w q left (sys.kind q.at) o home y
