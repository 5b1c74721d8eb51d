-- A reaction leaves each variable with a value of its type, and what it emits carries such values.
use Rattle.fb_types.proofs.Common.{◌≡◌, ℕ, refl, sym, subst, Bool, true, false, List, [], ◌∷◌, Option, Some, None, All, if◌then◌else◌, All-nil, All-cons, Name, Path, Port, fits, Kind, Basic, Event, Composite, ports_of, variables_of, types_of, is_event_input, outputs_with, Bound, bound, RunsBody, Position, ChartReacts, algorithm_of, Block, InState, Stimulated, Expired, Arrived, Raised, System, World, Outcome, silent, taking, start_of, settled, charted, memory_of, emissions, remembered, answered, crossing_in, crossing_out, from_inside, shown, expires, with_slots, hold_all, ReactsAt}
use Rattle.fb_types.specs.declared.event_kind.EventKind.{EventKind}
use Rattle.fb_types.specs.declared.key.Key.{Key}
use Rattle.fb_types.specs.declared.library.BasicType.{BasicType}
use Rattle.fb_types.specs.declared.library.CompositeType.{CompositeType}
use Rattle.fb_types.specs.declared.library.Variable.{Variable}
use Rattle.fb_types.specs.declared.value.Reason.{Reason}
use Rattle.fb_types.specs.declared.value.Value.{Value}
use Rattle.fb_types.specs.EventBlocks as blocks
use Rattle.fb_types.specs.States.{Remembers}
use Rattle.fb_laws.specs.Typed.{variable_named, AllFit, FitsAt, IsTypedBlock, IsTypedMemory, IsTypedOut, AreTyped, KeepsTypes, IsTypedSystem, TypesAreKept}
use Rattle.fb_laws.proofs.lemmas.typing.Bodies.{Keeps, body-keeps}
use Rattle.fb_laws.proofs.lemmas.typing.Charts.{chart-stays}
use Rattle.fb_laws.proofs.lemmas.typing.Values.{with_value-fits, output-found}
use Rattle.fb_laws.proofs.lemmas.typing.Worlds as worlds
use Rattle.fb_laws.proofs.lemmas.typing.Worlds.{with_block-typed, at_kind, shown-fits}
use Rattle.fb_laws.proofs.lemmas.typing.Sampling as sampling
use Rattle.fb_laws.proofs.lemmas.typing.Emitting.{IsFittingAt, silent-typed, spread-typed, emitted-typed, emitted_all-typed, outputs-fitting}
use Rattle.fb_laws.proofs.lemmas.typing.EventBlocks.{outputs-fit, reaction-typed, expiry-typed}

-- A stimulus that sets slots to values of their types leaves all values typed.
pub slots_typed : (sys : System) (w : World) → AreTyped sys w → (q : Port) (bs : List Bound)
    → All (λ (b : Bound). FitsAt sys (record { at = q.at; name = b.variable }) b.value) bs → AreTyped sys (with_slots q.at bs w)
slots_typed = worlds.slots_typed

-- A message that sets held copies to values of their types leaves all values typed.
pub held_typed : (sys : System) (w : World) → AreTyped sys w → (cs : List (Port × Value)) → All (λ (c : Port × Value). FitsAt sys c.0 c.1) cs
    → AreTyped sys (record w { held = hold_all cs w.held })
held_typed = worlds.held_typed

-- Sampling leaves all values typed.
pub taking_typed : (sys : System) → IsTypedSystem sys → (k : Key) (w : World) → AreTyped sys w → (q : Port) (kind : Kind) → sys.kind q.at ≡ Some kind
    → (left : ℕ) → AreTyped sys (taking sys k w q (ports_of kind) left).world
taking_typed = sampling.taking_typed

-- ---- Basic blocks

-- the type of a declared variable
types-named : (t : BasicType) (n : Name) (v : Value) (x : Variable) → variable_named n (variables_of t) ≡ Some x → fits (types_of t n) v ≡ true → fits x.ty v ≡ true
types-named t n v x h fit = rw (h, types_of) at fit

algorithm-keeps : (t : BasicType) (a : Name) → Keeps (AllFit (variables_of t)) (RunsBody (types_of t) (algorithm_of t a))
algorithm-keeps t a =
    body-keeps (types_of t) (AllFit (variables_of t))
    (λ n v vars fit good. with_value-fits (variables_of t) n v vars (λ x h. types-named t n v x h fit) good) (algorithm_of t a)

module _ (sys : System) (sound : IsTypedSystem sys) (k : Key) where
  settled-typed : (p : Path) (t : BasicType) → sys.kind p ≡ Some (Basic t) → (c : Position) (stop : Option Reason) (o : Outcome)
      → AllFit (variables_of t) c.vars → KeepsTypes sys o → KeepsTypes sys (settled p c stop o)
  settled-typed p t is c stop o good kept = record {
    world = with_block-typed sys o.world kept.world p (record b { memory = InState c.state; variables = c.vars })
        (at_kind sys p (Basic t) _ is (record { memory = tt; variables = good; slots = typed.slots; published = typed.published }));
    outs = kept.outs;
  }
    where
      b : Block
      b = o.world.blocks p

      typed : IsTypedBlock (Basic t) b
      typed = kept.world.blocks p (Basic t) is

  chart-typed : (p : Path) (t : BasicType) → sys.kind p ≡ Some (Basic t) → (e : Name) (stop : Option Reason) (c : Position) (o : Outcome)
      → KeepsTypes sys o → ChartReacts t e (start_of o p) stop c → KeepsTypes sys (charted sys k p o c stop)
  chart-typed p t is e stop c o kept h =
      let good = chart-stays t (AllFit (variables_of t)) (IsFittingAt sys p) (algorithm-keeps t)
      (λ e vars fit. outputs-fitting sys sound p (Basic t) is vars (λ n x h. fit n x (sound.outputs p (Basic t) n x is h)) e)
      e (start_of o p) stop c h
      (record { vars = (kept.world.blocks p (Basic t) is).variables; emitted = All-nil (IsFittingAt sys p) }) in
      emitted_all-typed sys sound k p c.emitted (settled p c stop o) good.emitted (settled-typed p t is c stop o good.vars kept)

  -- ---- Event blocks

  remembered-typed : (p : Path) (kind : EventKind) → sys.kind p ≡ Some (Event kind) → (x : blocks.Reaction) (o : Outcome)
      → IsTypedMemory (Event kind) (Remembers x.memory) → KeepsTypes sys o → KeepsTypes sys (remembered p x o)
  remembered-typed p kind is x o memory kept = record {
    world = with_block-typed sys o.world kept.world p (record b { memory = Remembers x.memory })
        (at_kind sys p (Event kind) _ is (record { memory = memory; variables = typed.variables; slots = typed.slots; published = typed.published }));
    outs = kept.outs;
  }
    where
      b : Block
      b = o.world.blocks p

      typed : IsTypedBlock (Event kind) b
      typed = kept.world.blocks p (Event kind) is

  emissions-fitting : (p : Path) (kind : EventKind) → sys.kind p ≡ Some (Event kind) → (m : blocks.Memory) → IsTypedMemory (Event kind) (Remembers m)
      → (es : List Name) → All (IsFittingAt sys p) (emissions (ports_of (Event kind)) (blocks.output_of m) es)
  emissions-fitting p kind is m memory [] = All-nil (IsFittingAt sys p)
  emissions-fitting p kind is m memory (e ∷ es) =
      All-cons (IsFittingAt sys p) _ _ (outputs-fitting sys sound p (Event kind) is (blocks.output_of m) (outputs-fit kind m memory) e)
      (emissions-fitting p kind is m memory es)

  answered-typed : (p : Path) (kind : EventKind) → sys.kind p ≡ Some (Event kind) → (x : blocks.Reaction) (o : Outcome)
      → IsTypedMemory (Event kind) (Remembers x.memory) → KeepsTypes sys o → KeepsTypes sys (answered sys k p kind x o)
  answered-typed p kind is x o memory kept =
      emitted_all-typed sys sound k p _ (remembered p x o) (emissions-fitting p kind is x.memory memory x.emits)
      (remembered-typed p kind is x o memory kept)

  expires-typed : (p : Path) (w : World) (left : ℕ) → AreTyped sys w → (kind : Option Kind) → sys.kind p ≡ kind → KeepsTypes sys (expires sys k w p left kind)
  expires-typed p w left typed None is = silent-typed sys w left typed
  expires-typed p w left typed (Some (Basic t)) is = silent-typed sys w left typed
  expires-typed p w left typed (Some (Event kind)) is =
      answered-typed p kind is (blocks.expiry kind (memory_of (w.blocks p).memory) k.tick) (silent w left)
      (expiry-typed kind (w.blocks p).memory k.tick (typed.blocks p (Event kind) is).memory)
      (silent-typed sys w left typed)
  expires-typed p w left typed (Some (Composite t)) is = silent-typed sys w left typed

  -- ---- Composites

  from_inside-fits : (w : World) → AreTyped sys w → (p : Path) (t : CompositeType) → sys.kind p ≡ Some (Composite t)
      → AllFit t.ports.outputs (from_inside sys k.resource w p)
  from_inside-fits w typed p t is n x h = go (sys.source (record { at = p; name = n })) refl
    where
      go : (o : Option Port) → sys.source (record { at = p; name = n }) ≡ o
          → fits x.ty (elim o [ None ↦ (w.blocks p).published n | Some s ↦ shown sys k.resource w s ]) ≡ true
      go None e = (typed.blocks p (Composite t) is).published n x h
      go (Some s) e =
          shown-fits sys sound k.resource w typed (record { at = p; name = n }) s e (Composite t) x is (output-found sys sound p (Composite t) n x is h)

  begun-typed : (w : World) → AreTyped sys w → (q : Port) (kind : Kind) → sys.kind q.at ≡ Some kind → (left : ℕ)
      → KeepsTypes sys (taking sys k w q (ports_of kind) left)
  begun-typed w typed q kind is left = record { world = taking_typed sys sound k w typed q kind is left; outs = All-nil (IsTypedOut sys) }

  crossing-typed : (w : World) → AreTyped sys w → (q : Port) (t : CompositeType) → sys.kind q.at ≡ Some (Composite t) → (left : ℕ) (inward : Bool)
      → KeepsTypes sys (if inward then crossing_in sys k q (taking sys k w q t.ports left) else crossing_out sys k w q t.ports left)
  crossing-typed w typed q t is left true = record {
    world = taking_typed sys sound k w typed q (Composite t) is left;
    outs = spread-typed sys k.resource [] (sys.targets q) (All-nil _);
  }
  crossing-typed w typed q t is left false =
      emitted-typed sys sound k q.at (record { event = q.name; values = bound (outputs_with t.ports q.name) (from_inside sys k.resource w q.at) })
      (silent w left) (outputs-fitting sys sound q.at (Composite t) is (from_inside sys k.resource w q.at) (from_inside-fits w typed q.at t is) q.name)
      (silent-typed sys w left typed)

  -- ---- The reaction

  reacts_at-typed : (w : World) → AreTyped sys w → (q : Port) (left : ℕ) (kind : Option Kind) → sys.kind q.at ≡ kind → (o : Outcome)
      → ReactsAt sys k w q left kind o → KeepsTypes sys o
  reacts_at-typed w typed q left None is o h = subst (KeepsTypes sys) (sym h) (silent-typed sys w left typed)
  reacts_at-typed w typed q left (Some (Basic t)) is o h =
      subst (KeepsTypes sys) (sym h.3)
      (chart-typed q.at t is q.name h.0 h.1 (taking sys k w q t.ports left) (begun-typed w typed q (Basic t) is left) h.2)
  reacts_at-typed w typed q left (Some (Event kind)) is o h =
      let begun = taking sys k w q (ports_of (Event kind)) left in
      let b = begun.world.blocks q.at in
      let kept = begun-typed w typed q (Event kind) is left in
      subst (KeepsTypes sys) (sym h)
      (answered-typed q.at kind is (blocks.reaction kind (memory_of b.memory) q.name k.tick b.variables) begun
      (reaction-typed kind b.memory q.name k.tick b.variables (kept.world.blocks q.at (Event kind) is).memory) kept)
  reacts_at-typed w typed q left (Some (Composite t)) is o h =
      subst (KeepsTypes sys) (sym h) (crossing-typed w typed q t is left (is_event_input t.ports q.name))

-- If sources fit what they feed, each reaction to a typed event keeps the types.
pub reacts_typed : TypesAreKept
reacts_typed sys sound k w (Stimulated q bs) left o typed event h =
    reacts_at-typed sys sound k (with_slots q.at bs w) (slots_typed sys w typed q bs event) q left (sys.kind q.at) refl o h
reacts_typed sys sound k w (Expired p) left o typed event h =
    subst (KeepsTypes sys) (sym h) (expires-typed sys sound k p w left typed (sys.kind p) refl)
reacts_typed sys sound k w (Arrived q cs) left o typed event h =
    reacts_at-typed sys sound k (record w { held = hold_all cs w.held }) (held_typed sys w typed cs event) q left (sys.kind q.at) refl o h
reacts_typed sys sound k w (Raised q) left o typed event h = reacts_at-typed sys sound k w typed q left (sys.kind q.at) refl o h
