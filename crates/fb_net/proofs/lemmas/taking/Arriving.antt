-- The arrival of an event at an event block or a composite is what the model makes of it.
use Rattle.fb_net.proofs.lemmas.Common.{◌≡◌, ◌≤◌, ℕ, true, false, List, [], ◌∷◌, ◌++◌, length, map, refl, sym, ap, subst, ◌∙◌, arith, All, Some, append-nil, Event, Bound, Emission, ports_of, ports_of_event_block, variable_names, Inputs, system_of, Name, Path, Port, carried_of, emission_of, event_at, line_of, pair_up, path_at, port_of, ports_at, Outcome, World, emissions, emitted_all, memory_of, spread, taking, System, Values, EventKind, Key, Ports, Variable, Target, TimerAsk, Value, IsEmission, RepresentsOutcome, asked, gathered, out_of, Out, Outbox, EventCame, taken_reaction, InForest, IsForest, Forest, ComesTo, IsReady, entering, leaving, sampling}
use Rattle.fb_types.proofs.Common.{bound, outputs_with, answered, crossing_out, emitted, from_inside, remembered, silent}
use Rattle.fb_types.specs.EventBlocks as blocks
use Rattle.fb_types.specs.Reactions as reactions
use Rattle.fb_types.specs.States.{Line}
use Rattle.fb_types.specs.declared.run.Emission as run
use Rattle.fb_types.proofs.lemmas.names.NameLaws.{same_name-itself}
use Rattle.fb_types.proofs.lemmas.events.EventCounts.{one_input}
use Rattle.fb_net.specs.Outs.{Gathered}
use Rattle.fb_event.specs.Reactions.{FitInputs, FitTheirTypes}
use Rattle.fb_event.proofs.lemmas.Inputs.{all_fit}
use Rattle.fb_net.specs.Leaves.{HasTypedInputs}
use Rattle.fb_net.specs.Samples.{AreShown}
use Rattle.fb_laws.specs.Typed.{AllFit, AreTyped, IsTypedSystem, variable_named}
use Rattle.fb_laws.proofs.lemmas.typing.ReactionTypes.{taking_typed}
use Rattle.fb_net.specs.Arrivals.{AreTypedAt, WritesAndEmits, reacting}
use Rattle.fb_net.proofs.lemmas.values.Sampling.{bound-paired, input_port, output_port, port_named, ports-of_kind}

-- ---- Values of their types

first_named : (x : Variable) (vs : List Variable) → variable_named x.name (x ∷ vs) ≡ Some x
first_named x vs = rw (same_name-itself x.name) refl

one_fits : (vs ws : List Variable) (all : Values) → length vs ≤ 1 → AllFit (vs ++ ws) all → FitTheirTypes vs (map all (variable_names vs))
one_fits [] ws all few fit = tt
one_fits (x ∷ []) ws all few fit = (fit x.name x (first_named x ws), tt)
one_fits (x ∷ (y ∷ vs)) ws all few fit = absurd (omega arith)

-- where all variables hold values of their types, the data inputs of an event block do
pub inputs-typed : (i : Inputs) (k : EventKind) (at : ℕ) (w : World) → (system_of i).kind (path_at (system_of i) at) ≡ Some (Event k)
    → AreTyped (system_of i) w → HasTypedInputs i k at w
inputs-typed i k at w is typed =
    let sys = system_of i in
    let p : Path = path_at sys at in
    let its : Ports = ports_of_event_block k in
    let vars : Values = (w.blocks p).variables in
    subst (λ (x : Ports). FitInputs k (map vars (variable_names x.inputs))) (sym (ports-of_kind sys p (Event k) is))
    (all_fit k (map vars (variable_names its.inputs)) (one_fits its.inputs its.outputs vars (one_input k) (typed.blocks p (Event k) is).variables))

-- ---- Event blocks

-- what fits the interface of an event block fits that of its instance
pub ports-of_event : (i : Inputs) (kind : EventKind) (n : ℕ) → (system_of i).kind (path_at (system_of i) n) ≡ Some (Event kind) → (es : List run.Emission)
    → All (IsEmission (ports_of_event_block kind)) es → All (IsEmission (ports_at (system_of i) (path_at (system_of i) n))) es
ports-of_event i kind n is es fit =
    subst (λ (x : Ports). All (IsEmission x) es) (sym (ports-of_kind (system_of i) (path_at (system_of i) n) (Event kind) is)) fit

-- an event block reacts to an event at a port
abbrev reacting_at : System → Key → EventKind → Port → World → ℕ → Outcome
reacting_at sys k kind q w left =
    let begun = taking sys k w q (ports_of (Event kind)) left in
    let b = begun.world.blocks q.at in
    answered sys k q.at kind (blocks.reaction kind (memory_of b.memory) q.name k.tick b.variables) begun

module _ (i : Inputs) (k : Key) (kind : EventKind) (at : Target) (is : (system_of i).kind (path_at (system_of i) at.instance) ≡ Some (Event kind))
    (input : at.is_output ≡ false) where
  abbrev sys : System
  sys = system_of i

  abbrev p : Path
  p = path_at sys at.instance

  abbrev its : Ports
  its = ports_of (Event kind)

  abbrev q : Port
  q = port_named p (event_at its.event_inputs at.event)

  ports : ports_at sys p ≡ its
  ports = ports-of_kind sys p (Event kind) is

  port : port_of sys at ≡ q
  port = input_port sys at input ∙ ap (λ (x : Ports). port_named p (event_at x.event_inputs at.event)) ports

  abbrev begun : World → ℕ → Outcome
  begun w left = taking sys k w q its left

  begun-is : (w : World) (left : ℕ) → sampling i k at w left ≡ begun w left
  begun-is w left =
      ap (λ (x : Ports). taking sys k w (port_of sys at) x left) ports ∙ ap (λ (z : Port). taking sys k w z its left) port

  -- the blocks once the event is taken
  begun-represents : (old mid : Forest) (x y : Outbox) → ComesTo i (sampling i k at) old x mid y
      → (w : World) (left : ℕ) → IsForest i old w → RepresentsOutcome i (gathered i x) mid y (begun w left)
  begun-represents old mid x y taken w left h = subst (λ (o : Outcome). RepresentsOutcome i (gathered i x) mid y o) (begun-is w left) (taken w left h)

  -- the blocks hold values of their types once the event is taken
  pub event-typed : (old mid : Forest) (x y : Outbox) → ComesTo i (sampling i k at) old x mid y → IsTypedSystem sys → AreTypedAt i old → InForest i mid at.instance
      → (w : World) × IsForest i mid w × InForest i mid at.instance × HasTypedInputs i kind at.instance w
  event-typed old mid x y taken sound typed lies =
      let w : World = typed.0 in (
        (begun w 0).world,
        (begun-represents old mid x y taken w 0 typed.1).world,
        lies,
        inputs-typed i kind at.instance (begun w 0).world is (taking_typed sys sound k w typed.2 q (Event kind) is 0),
      )

  -- The event block has reacted, and what it emits was put out.
  pub event-reacts : (old mid late new : Forest) (x y z : Outbox) (ask : TimerAsk) (emits : List run.Emission)
      → ComesTo i (sampling i k at) old x mid y → InForest i mid at.instance
      → ((w : World) → IsForest i mid w → InForest i mid at.instance → EventCame i at.instance kind (taken_reaction i kind at k.tick w) late ask emits w)
      → ((before : Gathered) (o : Outcome) → RepresentsOutcome i before late (record y { timer = asked y.timer ask }) o
      → RepresentsOutcome i before new z (emitted_all sys k p (map (emission_of (ports_at sys p)) emits) o))
      → ComesTo i (reacting i k kind at) old x new z
  event-reacts old mid late new x y z ask emits taken lies comes put_out w left h =
      let s = begun-represents old mid x y taken w left h in
      let late_world : World = (begun w left).world in
      let r : blocks.Reaction = taken_reaction i kind at k.tick late_world in
      let came = comes late_world s.world lies in
      let settled : RepresentsOutcome i (gathered i x) late (record y { timer = asked y.timer ask }) (remembered p r (begun w left)) =
      record { world = came.represents; lines = s.lines; outs = s.outs; timer = λ n. asked (s.timer n) (came.timer n) } in
      let same : map (emission_of (ports_at sys p)) emits ≡ emissions its (blocks.output_of r.memory) r.emits =
      ap (λ (x : Ports). map (emission_of x) emits) ports ∙ came.emitted in
      subst (λ (t : Port). RepresentsOutcome i (gathered i x) new z (reacting_at sys k kind t w left)) (sym port)
      (subst (λ (es : List Emission). RepresentsOutcome i (gathered i x) new z (emitted_all sys k p es (remembered p r (begun w left)))) same
      (put_out (gathered i x) (remembered p r (begun w left)) settled))

-- ---- Basic blocks

-- The line of an event at a leaf and what the leaf emits were put out.
pub wrote-so : (i : Inputs) (k : Key) (at : ℕ) (line : Line) (es : List Emission) (old new : Forest) (x y z : Outbox)
    → map (line_of (system_of i)) y.lines.items ≡ map (line_of (system_of i)) x.lines.items ++ line ∷ []
    → y.outs.items ≡ x.outs.items → y.timer ≡ x.timer
    → ((before : Gathered) (o : Outcome) → RepresentsOutcome i before old y o → RepresentsOutcome i before new z (emitted_all (system_of i) k (path_at (system_of i) at) es o))
    → WritesAndEmits i k at line es old x new z
wrote-so i k at line es old new x y z written outs timer put_out o begun =
    let sys = system_of i in
    put_out (gathered i x) o
    (record {
      world = begun.world;
      lines = written ∙ ap (λ (ls : List Line). map (line_of sys) x.lines.items ++ ls) (sym begun.lines);
      outs = ap (map (out_of sys)) outs ∙ sym (append-nil (map (out_of sys) x.outs.items)) ∙ ap (λ (os : List reactions.Out). map (out_of sys) x.outs.items ++ os) (sym begun.outs);
      timer = timer ∙ sym (ap (asked x.timer) begun.timer);
    })

-- ---- Composites

-- what goes out of a composite that an event enters, after what went out before
abbrev pub sent-of : Inputs → (resource : ℕ) → Target → (before after : List Out) → Type 0
sent-of i r at before after =
    map (out_of (system_of i)) after ≡ map (out_of (system_of i)) before
    ++ spread (system_of i) r (map (carried_of (system_of i)) []) ((system_of i).targets (port_of (system_of i) at))

-- An event has gone on inside.
pub enters : (i : Inputs) (k : Key) (at : Target) (old mid : Forest) (x y z : Outbox) → ComesTo i (sampling i k at) old x mid y → IsReady k mid
    → z.lines.items ≡ y.lines.items → z.timer ≡ y.timer
    → sent-of i mid.resource at y.outs.items z.outs.items → ComesTo i (entering i k at) old x mid z
enters i k at old mid x y z taken ready lines timer sent w left h =
    let sys = system_of i in
    let s = taken w left h in
    let leads : List Port = sys.targets (port_of sys at) in
    record {
      world = s.world;
      lines = ap (map (line_of sys)) lines ∙ s.lines;
      outs = sent ∙ ap (λ (os : List reactions.Out). os ++ spread sys mid.resource [] leads) (s.outs ∙ append-nil (map (out_of sys) x.outs.items))
          ∙ ap (λ (r : ℕ). map (out_of sys) x.outs.items ++ spread sys r [] leads) (sym ready.resource);
      timer = timer ∙ s.timer;
    }

-- An event has left, with what the composite shows.
pub leaves : (i : Inputs) (k : Key) (at : Target) (old new : Forest) (x y : Outbox) (values : List Value) (emits : List run.Emission)
    → IsReady k old → at.is_output ≡ true → InForest i old at.instance → AreShown i old at values
    → emits ≡ record { event = at.event; values = values } ∷ []
    → ((before : Gathered) (o : Outcome) → RepresentsOutcome i before old x o → RepresentsOutcome i before new y
    (emitted_all (system_of i) k (path_at (system_of i) at.instance) (map (emission_of (ports_at (system_of i) (path_at (system_of i) at.instance))) emits) o))
    → ComesTo i (leaving i k at) old x new y
leaves i k at old new x y values emits ready output here shown one put_out w left h =
    let sys = system_of i in
    let p : Path = path_at sys at.instance in
    let its : Ports = ports_at sys p in
    let n : Name = event_at its.event_outputs at.event in
    let ns : List Name = outputs_with its n in
    let start : RepresentsOutcome i (gathered i x) old x (silent w left) = record {
      world = h;
      lines = sym (append-nil (map (line_of sys) x.lines.items));
      outs = sym (append-nil (map (out_of sys) x.outs.items));
      timer = refl;
    } in
    let all = subst (λ (es : List run.Emission). RepresentsOutcome i (gathered i x) new y (emitted_all sys k p (map (emission_of its) es) (silent w left))) one
    (put_out (gathered i x) (silent w left) start) in
    let wrote : pair_up ns values ≡ bound ns (from_inside sys k.resource w p) =
    ap (pair_up ns) (subst (λ (r : ℕ). values ≡ map (from_inside sys r w p) ns) (sym ready.resource) (shown w h here))
    ∙ bound-paired (from_inside sys k.resource w p) ns in
    subst (λ (t : Port). RepresentsOutcome i (gathered i x) new y (crossing_out sys k w t its left)) (sym (output_port sys at output))
    (subst (λ (bs : List Bound). RepresentsOutcome i (gathered i x) new y (emitted sys k p (record { event = n; values = bs }) (silent w left))) wrote all)
