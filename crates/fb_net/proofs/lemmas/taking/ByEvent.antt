-- Taking an event is what the model makes of it, by what the event is.
use Rattle.fb_net.proofs.lemmas.Common.{◌≡◌, ℕ, List, map, refl, sym, ap, subst, ◌∙◌, None, Option, Some, Result, Ok, Err, append-nil, Bound, Emission, Event, ports_of, kind_of, Inputs, system_of, Path, Port, carried_of, emission_of, line_of, path_at, port_of, ports_at, Outcome, World, emissions, emitted_all, System, EventKind, Key, BlockType, Ports, Halt, Target, TimerAsk, Value, InputValue, RepresentsOutcome, asked, gathered, out_of, Outbox, EventCame, HoldsAll, Changes, InForest, IsForest, Forest, Arrives, ComesTo, HasReacted, AreKept}
use Rattle.fb_types.proofs.Common.{Reacts, ReactsAt, expires, hold_all, remembered, silent, with_slots, Stimulated, path_of}
use Rattle.fb_types.specs.declared.run.Message.{Message}
use Rattle.fb_types.specs.declared.value.Reason.{Reason}
use Rattle.std.specs.Option.{option_map}
use Rattle.fb_types.specs.EventBlocks as blocks
use Rattle.fb_types.specs.States as model
use Rattle.fb_types.specs.declared.library.BlockType.TheVariants as block
use Rattle.fb_types.specs.declared.run.Emission as run
use Rattle.fb_types.specs.declared.run.Halt.TheVariants as halt
use Rattle.fb_types.specs.declared.run.Event.{Event as Waiting}
use Rattle.fb_types.specs.declared.run.Event.TheVariants as waits
use Rattle.fb_net.specs.Outs.{Gathered}
use Rattle.fb_net.specs.Leaves.{expiry_reaction}
use Rattle.fb_net.specs.Samples.{slots_set}
use Rattle.fb_system.specs.Stimuli.{IsStimulusAt, set_of}
use Rattle.fb_system.specs.declared.stimulus.StimulusAt.{StimulusAt}
use Rattle.fb_laws.specs.Typed.{AreTyped, IsTypedEvent}
use Rattle.fb_laws.proofs.lemmas.typing.ReactionTypes.{held_typed, slots_typed}
use Rattle.fb_net.specs.Arrivals.{ReactedIn, AreTypedAt, expiring}
use Rattle.fb_net.specs.Events.{Came, HasTaken, event_of, stimulated}
use Rattle.fb_net.proofs.lemmas.taking.Crossing.{answered-left, answered-stop}
use Rattle.fb_net.proofs.lemmas.emitting.PortRows.{path-of_port}
use Rattle.fb_net.proofs.lemmas.values.Sampling.{ports-of_kind}

-- ---- From the arrival to the taking

-- An event is taken by what it brings first, and by its arrival then.
module _ (i : Inputs) (k : Key) (e : Waiting) (at : Target) (old mid new : Forest) (x y : Outbox) (left after : ℕ) (brings : World → World)
    (brought : (w : World) → IsForest i old w → IsForest i mid (brings w))
    (takes : (w : World) (o : Outcome) → Arrives i k at left (brings w) o → Reacts (system_of i) k w (event_of i e) left o) where
  came : (stop : Option Reason) → ReactedIn i (Arrives i k at left) mid x stop new after y → Came i k e old x left stop new after y
  came stop reacted w h =
      let r = reacted (brings w) (brought w h) in
      record { outcome = r.outcome; reacts = takes w r.outcome r.reacts; stops = r.stops; leaves = r.leaves; represents = r.represents }

  pub taken-by_arrival : (r : Result (Unit {0}) Halt) → HasReacted i (Arrives i k at left) mid x r new after y → HasTaken i k e old x left r new after y
  taken-by_arrival (Ok u) h = came None h
  taken-by_arrival (Err (halt.Stop r)) h = came (Some r) h
  taken-by_arrival (Err halt.Memory) h = tt

-- an arrival at a target, where its path is written out
arrives-at : (i : Inputs) (k : Key) (at : Target) (left : ℕ) (w : World) (o : Outcome) → Arrives i k at left w o
    → ReactsAt (system_of i) k w (port_of (system_of i) at) left ((system_of i).kind (port_of (system_of i) at).at) o
arrives-at i k at left w o h =
    subst (λ (p : Path). ReactsAt (system_of i) k w (port_of (system_of i) at) left ((system_of i).kind p) o) (sym (path-of_port (system_of i) at)) h

-- A local event is its arrival.
pub local-taken : (i : Inputs) (k : Key) (at : Target) (old new : Forest) (x y : Outbox) (left after : ℕ) (r : Result (Unit {0}) Halt)
    → HasReacted i (Arrives i k at left) old x r new after y → HasTaken i k (waits.Local at) old x left r new after y
local-taken i k at old new x y left after r h =
    taken-by_arrival i k (waits.Local at) at old old new x y left after (λ w. w) (λ w represents. represents) (arrives-at i k at left) r h

-- ---- Messages

module _ (i : Inputs) (k : Key) (m : Message) (old mid : Forest) (holds : HoldsAll i old m.values mid) where
  abbrev carried : List (Port × Value)
  carried = map (carried_of (system_of i)) m.values

  pub arrival-typed : AreTypedAt i old → IsTypedEvent (system_of i) (event_of i (waits.Arrival m)) → AreTypedAt i mid
  arrival-typed typed event =
      let w : World = typed.0 in
      (record w { held = hold_all carried w.held }, holds.represents w typed.1, held_typed (system_of i) w typed.2 carried event)

  pub arrival-taken : (new : Forest) (x y : Outbox) (left after : ℕ) (r : Result (Unit {0}) Halt)
      → HasReacted i (Arrives i k m.target left) mid x r new after y → HasTaken i k (waits.Arrival m) old x left r new after y
  arrival-taken new x y left after r h =
      taken-by_arrival i k (waits.Arrival m) m.target old mid new x y left after (λ w. record w { held = hold_all carried w.held }) holds.represents
      (λ w o. arrives-at i k m.target left (record w { held = hold_all carried w.held }) o) r h

-- ---- Stimuli

-- what a row of the system represents
pub stimulus-is : (i : Inputs) (row : ℕ) (s : StimulusAt) → IsStimulusAt i row s
    → event_of i (waits.Stimulus row) ≡ Stimulated (port_of (system_of i) s.target) (map (set_of (system_of i) s.target.instance) s.sets.now)
stimulus-is i row s is =
    ap stimulated is.is ∙ ap (λ (z : Port). Stimulated z is.stimulus.sets) (sym is.port)
    ∙ ap (λ (bs : List Bound). Stimulated (port_of (system_of i) s.target) bs) (sym is.sets)

-- An event that is a stimulus at this target, with these slots: one of the system by its row, or one that was given.
module _ (i : Inputs) (e : Waiting) (at : Target) (xs : List InputValue)
    (is : event_of i e ≡ Stimulated (port_of (system_of i) at) (map (set_of (system_of i) at.instance) xs)) where
  pub stimulus-lies : (old : Forest) → (system_of i).resource (path_of (event_of i e)) ≡ old.resource → InForest i old at.instance
  stimulus-lies old here = ap (system_of i).resource (sym (ap path_of is ∙ path-of_port (system_of i) at)) ∙ here

  module _ (k : Key) (old mid : Forest) (changes : Changes i old at.instance (slots_set (system_of i) at.instance xs) mid)
      (here : (system_of i).resource (path_of (event_of i e)) ≡ old.resource) where
    abbrev sys : System
    sys = system_of i

    abbrev p : Path
    p = path_at sys at.instance

    abbrev q : Port
    q = port_of sys at

    abbrev sets : List Bound
    sets = map (set_of sys at.instance) xs

    lies : InForest i old at.instance
    lies = stimulus-lies old here

    brought : (w : World) → IsForest i old w → IsForest i mid (with_slots p sets w)
    brought w h = changes.represents w h lies

    pub stimulus-kept : AreKept i old mid
    stimulus-kept = record { resource = changes.resource; whole = λ w h. (with_slots p sets w, brought w h) }

    pub stimulus-typed : AreTypedAt i old → IsTypedEvent sys (event_of i e) → AreTypedAt i mid
    stimulus-typed typed fits =
        let w : World = typed.0 in (
          with_slots p sets w,
          brought w typed.1,
          subst (λ (z : Path). AreTyped sys (with_slots z sets w)) (path-of_port sys at)
              (slots_typed sys w typed.2 q sets (subst (λ (z : model.Event). IsTypedEvent sys z) is fits)),
        )

    takes : (left : ℕ) (w : World) (o : Outcome) → Arrives i k at left (with_slots p sets w) o → Reacts sys k w (event_of i e) left o
    takes left w o h =
        subst (λ (z : model.Event). Reacts sys k w z left o) (sym is)
        (subst (λ (z : Path). ReactsAt sys k (with_slots z sets w) q left (sys.kind z) o) (sym (path-of_port sys at)) h)

    pub stimulus-taken : (new : Forest) (x y : Outbox) (left after : ℕ) (r : Result (Unit {0}) Halt)
        → HasReacted i (Arrives i k at left) mid x r new after y → HasTaken i k e old x left r new after y
    stimulus-taken new x y left after r h =
        taken-by_arrival i k e at old mid new x y left after (with_slots p sets) brought (takes left) r h

-- ---- Timers

-- nothing was put out yet
silent-represents : (i : Inputs) (f : Forest) (x : Outbox) (w : World) (left : ℕ) → IsForest i f w
    → RepresentsOutcome i (gathered i x) f x (silent w left)
silent-represents i f x w left h = record {
  world = h;
  lines = sym (append-nil (map (line_of (system_of i)) x.lines.items));
  outs = sym (append-nil (map (out_of (system_of i)) x.outs.items));
  timer = refl;
}

-- An event block has reacted to its timer, and what it emits was put out.
pub timer-expires : (i : Inputs) (k : Key) (kind : EventKind) (at : ℕ) (old late new : Forest) (x y : Outbox) (ask : TimerAsk) (emits : List run.Emission)
    → (system_of i).kind (path_at (system_of i) at) ≡ Some (Event kind) → InForest i old at
    → ((w : World) → IsForest i old w → InForest i old at → EventCame i at kind (expiry_reaction i kind at k.tick w) late ask emits w)
    → ((before : Gathered) (o : Outcome) → RepresentsOutcome i before late (record x { timer = asked x.timer ask }) o → RepresentsOutcome i before new y
    (emitted_all (system_of i) k (path_at (system_of i) at) (map (emission_of (ports_at (system_of i) (path_at (system_of i) at))) emits) o))
    → ComesTo i (expiring i k kind at) old x new y
timer-expires i k kind at old late new x y ask emits is here comes put_out w left h =
    let sys = system_of i in
    let p : Path = path_at sys at in
    let its : Ports = ports_of (Event kind) in
    let r : blocks.Reaction = expiry_reaction i kind at k.tick w in
    let s = silent-represents i old x w left h in
    let came = comes w h here in
    let settled : RepresentsOutcome i (gathered i x) late (record x { timer = asked x.timer ask }) (remembered p r (silent w left)) =
    record { world = came.represents; lines = s.lines; outs = s.outs; timer = ap (asked x.timer) came.timer } in
    let same : map (emission_of (ports_at sys p)) emits ≡ emissions its (blocks.output_of r.memory) r.emits =
    ap (λ (z : Ports). map (emission_of z) emits) (ports-of_kind sys p (Event kind) is) ∙ came.emitted in
    subst (λ (es : List Emission). RepresentsOutcome i (gathered i x) new y (emitted_all sys k p es (remembered p r (silent w left)))) same
    (put_out (gathered i x) (remembered p r (silent w left)) settled)

-- The timer of an event block was taken.
pub timer-taken : (i : Inputs) (k : Key) (kind : EventKind) (at : ℕ) (old new : Forest) (x y : Outbox)
    → (system_of i).kind (path_at (system_of i) at) ≡ Some (Event kind) → ComesTo i (expiring i k kind at) old x new y
    → (left : ℕ) → Came i k (waits.Timer at) old x left None new left y
timer-taken i k kind at old new x y is represents left w h =
    let sys = system_of i in
    let p : Path = path_at sys at in
    let r : blocks.Reaction = expiry_reaction i kind at k.tick w in
    record {
      outcome = expiring i k kind at w left;
      reacts = sym (ap (expires sys k w p left) is);
      stops = answered-stop sys k p kind r (silent w left);
      leaves = answered-left sys k p kind r (silent w left);
      represents = represents w left h;
    }

-- at the timer of an instance that is no event block nothing happens
rests : (i : Inputs) (k : Key) (p : Path) (w : World) (left : ℕ) (declared : Option BlockType) → expires (system_of i) k w p left (option_map kind_of declared) ≡ silent w left
rests i k p w left None = refl
rests i k p w left (Some (block.Basic t)) = refl
rests i k p w left (Some (block.Composite t)) = refl

pub timer-rests : (i : Inputs) (k : Key) (at : ℕ) (declared : Option BlockType) (f : Forest) (x : Outbox)
    → option_map kind_of declared ≡ (system_of i).kind (path_at (system_of i) at) → (left : ℕ) → Came i k (waits.Timer at) f x left None f left x
timer-rests i k at declared f x is left w h =
    let sys = system_of i in
    let p : Path = path_at sys at in
    record {
      outcome = silent w left;
      reacts = sym (rests i k p w left declared) ∙ ap (expires sys k w p left) is;
      stops = refl;
      leaves = refl;
      represents = silent-represents i f x w left h;
    }
