-- A reaction changes only the block of its event.
use Rattle.fb_types.proofs.Common.{◌≡◌, ℕ, refl, ap, ◌∙◌, List, [], ◌∷◌, Bool, true, false, Option, Some, None, if◌then◌else◌, Path, same_path, Port, Kind, Basic, Event, Composite, ports_of, is_event_input, bound, outputs_with, Emission, Position, System, Stimulated, Expired, Arrived, Raised, path_of, World, Outcome, emitted, emitted_all, charted, answered, taking, crossing_in, crossing_out, silent, expires, settled, remembered, from_inside, emissions, with_slots, hold_all, ReactsAt, Reacts, memory_of}
use Rattle.fb_types.specs.declared.key.Key.{Key}
use Rattle.fb_types.specs.declared.value.Reason.{Reason}
use Rattle.fb_types.specs.declared.library.Ports.{Ports}
use Rattle.fb_types.specs.declared.event_kind.EventKind.{EventKind}
use Rattle.fb_types.specs.EventBlocks as blocks
use Rattle.fb_types.specs.States.{Event as AnEvent}

module _ (sys : System) (k : Key) (q p : Path) (other : same_path q p ≡ false) where
  emitted_stays : (e : Emission) (o : Outcome) → (emitted sys k p e o).world.blocks q ≡ o.world.blocks q
  emitted_stays e o = rw other

  emitted_all_stays : (es : List Emission) (o : Outcome) → (emitted_all sys k p es o).world.blocks q ≡ o.world.blocks q
  emitted_all_stays [] o = refl
  emitted_all_stays (e ∷ es) o = emitted_all_stays es (emitted sys k p e o) ∙ emitted_stays e o

  settled_stays : (c : Position) (stop : Option Reason) (o : Outcome) → (settled p c stop o).world.blocks q ≡ o.world.blocks q
  settled_stays c stop o = rw other

  remembered_stays : (x : blocks.Reaction) (o : Outcome) → (remembered p x o).world.blocks q ≡ o.world.blocks q
  remembered_stays x o = rw other

  charted_stays : (o : Outcome) (c : Position) (stop : Option Reason) → (charted sys k p o c stop).world.blocks q ≡ o.world.blocks q
  charted_stays o c stop = emitted_all_stays c.emitted (settled p c stop o) ∙ settled_stays c stop o

  answered_stays : (kind : EventKind) (x : blocks.Reaction) (o : Outcome) → (answered sys k p kind x o).world.blocks q ≡ o.world.blocks q
  answered_stays kind x o =
      emitted_all_stays (emissions (ports_of (Event kind)) (blocks.output_of x.memory) x.emits) (remembered p x o) ∙ remembered_stays x o

  expires_stays : (w : World) (left : ℕ) (kind : Option Kind) → (expires sys k w p left kind).world.blocks q ≡ w.blocks q
  expires_stays w left None = refl
  expires_stays w left (Some (Basic t)) = refl
  expires_stays w left (Some (Event kind)) = answered_stays kind (blocks.expiry kind (memory_of (w.blocks p).memory) k.tick) (silent w left)
  expires_stays w left (Some (Composite t)) = refl

module _ (sys : System) (k : Key) where
  taking_stays : (w : World) (at : Port) (ports : Ports) (left : ℕ) (q : Path) → same_path q at.at ≡ false
      → (taking sys k w at ports left).world.blocks q ≡ w.blocks q
  taking_stays w at ports left q other = rw other

  -- what a composite does on one side or the other
  crossing_stays : (w : World) (at : Port) (ports : Ports) (left : ℕ) (q : Path) → same_path q at.at ≡ false → (inward : Bool)
      → (if inward then crossing_in sys k at (taking sys k w at ports left) else crossing_out sys k w at ports left).world.blocks q ≡ w.blocks q
  crossing_stays w at ports left q other true = taking_stays w at ports left q other
  crossing_stays w at ports left q other false =
      emitted_stays sys k q at.at other (record { event = at.name; values = bound (outputs_with ports at.name) (from_inside sys k.resource w at.at) }) (silent w left)

  reacts_at_stays : (w : World) (at : Port) (left : ℕ) (kind : Option Kind) (o : Outcome) (q : Path) → same_path q at.at ≡ false
      → ReactsAt sys k w at left kind o → o.world.blocks q ≡ w.blocks q
  reacts_at_stays w at left None o q other h = ap (λ x. x.world.blocks q) h
  reacts_at_stays w at left (Some (Basic t)) o q other h =
      ap (λ x. x.world.blocks q) h.3 ∙ (charted_stays sys k q at.at other (taking sys k w at t.ports left) h.1 h.0 ∙ taking_stays w at t.ports left q other)
  reacts_at_stays w at left (Some (Event kind)) o q other h =
      let begun = taking sys k w at (ports_of (Event kind)) left in
      let b = begun.world.blocks at.at in
      ap (λ x. x.world.blocks q) h ∙ (answered_stays sys k q at.at other kind (blocks.reaction kind (memory_of b.memory) at.name k.tick b.variables) begun ∙ taking_stays w at (ports_of (Event kind)) left q other)
  reacts_at_stays w at left (Some (Composite t)) o q other h =
      ap (λ x. x.world.blocks q) h ∙ crossing_stays w at t.ports left q other (is_event_input t.ports at.name)

  pub reacts_stays : (w : World) (e : AnEvent) (left : ℕ) (o : Outcome) (q : Path) → same_path q (path_of e) ≡ false
      → Reacts sys k w e left o → o.world.blocks q ≡ w.blocks q
  reacts_stays w (Stimulated at bs) left o q other h =
      reacts_at_stays (with_slots at.at bs w) at left (sys.kind at.at) o q other h ∙ rw other
  reacts_stays w (Expired p) left o q other h =
      ap (λ x. x.world.blocks q) h ∙ expires_stays sys k q p other w left (sys.kind p)
  reacts_stays w (Arrived at cs) left o q other h =
      reacts_at_stays (record w { held = hold_all cs w.held }) at left (sys.kind at.at) o q other h
  reacts_stays w (Raised at) left o q other h = reacts_at_stays w at left (sys.kind at.at) o q other h
