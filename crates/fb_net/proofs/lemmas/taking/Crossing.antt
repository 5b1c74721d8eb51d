-- What arrives at an instance is taken as its kind says.
use Rattle.fb_net.proofs.lemmas.Common.{◌≡◌, ◌<◌, inl, inr, ℕ, Bool, true, false, cond, List, [], ◌∷◌, ◌++◌, length, Contains, refl, sym, ap, subst, ◌∙◌, None, Option, Some, Result, Ok, Err, slice_get, slice_get_within, Kind, Composite, Event, ports_of, variable_names, AreAccepted, Inputs, system_of, Name, Path, Port, event_at, path_at, port_of, ports_at, Outcome, World, emissions, memory_of, taking, Twice, System, EventKind, Key, BlockType, CompositeType, Ports, Halt, Target, Outbox, Forest, Arrives, ComesTo, HasReacted, entering, leaving, Remembered}
use Rattle.fb_types.proofs.Common.{⊎_elim, IfErr, OnOk, false_from_ne_true, length-map, Contains-append_right, Contains-get_or, get_or_from_slice_get, unwrap_or-slice_get, event_names, is_event_input, ReactsAt, answered, crossing_in, crossing_out, remembered}
use Rattle.fb_types.specs.declared.library.EventPort.{EventPort}
use Rattle.fb_types.specs.EventBlocks as blocks
use Rattle.fb_types.specs.declared.library.BlockType.TheVariants as block
use Rattle.fb_types.specs.declared.run.Halt.TheVariants as halt
use Rattle.fb_types.proofs.lemmas.names.NameLaws.{any_from_contains, contains_from_any}
use Rattle.fb_types.proofs.lemmas.lists.TwiceLaws.{Twice-append_left}
use Rattle.fb_types.proofs.lemmas.lists.Elements.{Contains-cons_cases, Contains-nil}
use Rattle.fb_check_names.proofs.lemmas.twice.NameTwice.{block_twice}
use Rattle.fb_system.specs.Ports.{IsPort}
use Rattle.fb_net.specs.Arrivals.{ReactedIn, reacting}
use Rattle.fb_net.proofs.lemmas.taking.Charting.{emitted_all-left, emitted_all-stop}
use Rattle.fb_net.proofs.lemmas.values.Sampling.{input_port, output_port, ports-of_kind}

-- ---- How a reaction ended

-- A step that did not stop is a reaction of the model.
pub done-reacted : (i : Inputs) (step : World → ℕ → Outcome) (Comes : World → Outcome → Type 0) (old new : Forest) (x y : Outbox) (left : ℕ)
    → ((w : World) → Comes w (step w left)) → ((w : World) → (step w left).stop ≡ None) → ((w : World) → (step w left).left ≡ left)
    → ComesTo i step old x new y → ReactedIn i Comes old x None new left y
done-reacted i step Comes old new x y left comes stops leaves represents w h = record {
  outcome = step w left;
  reacts = comes w;
  stops = stops w;
  leaves = leaves w;
  represents = represents w left h;
}

-- However a reaction ended that nothing stops, its result is what it says.
pub reacted-ended : (i : Inputs) (Comes : World → Outcome → Type 0) (old new : Forest) (x y : Outbox) (left : ℕ) (r : Result (Unit {0}) Halt)
    → IfErr r (λ h. h ≡ halt.Memory) → OnOk r (ReactedIn i Comes old x None new left y) → HasReacted i Comes old x r new left y
reacted-ended i Comes old new x y left (Ok u) memory done = done
reacted-ended i Comes old new x y left (Err (halt.Stop s)) memory done = absurd cc
reacted-ended i Comes old new x y left (Err halt.Memory) memory done = tt

pub remembered-ended : (Holds : Type 0) (r : Result (Unit {0}) Halt) → IfErr r (λ h. h ≡ halt.Memory) → OnOk r Holds → Remembered r Holds
remembered-ended Holds (Ok u) memory holds = holds
remembered-ended Holds (Err (halt.Stop s)) memory holds = absurd cc
remembered-ended Holds (Err halt.Memory) memory holds = tt

-- ---- Event blocks

pub event-arrives : (i : Inputs) (k : Key) (kind : EventKind) (at : Target) → (system_of i).kind (path_at (system_of i) at.instance) ≡ Some (Event kind)
    → (left : ℕ) (w : World) → Arrives i k at left w (reacting i k kind at w left)
event-arrives i k kind at is left w =
    subst (λ (z : Option Kind). ReactsAt (system_of i) k w (port_of (system_of i) at) left z (reacting i k kind at w left)) (sym is) refl

-- what an event block answers costs no step and stops nothing
pub answered-left : (sys : System) (k : Key) (p : Path) (kind : EventKind) (r : blocks.Reaction) (o : Outcome) → (answered sys k p kind r o).left ≡ o.left
answered-left sys k p kind r o = emitted_all-left sys k p (emissions (ports_of (Event kind)) (blocks.output_of r.memory) r.emits) (remembered p r o)

pub answered-stop : (sys : System) (k : Key) (p : Path) (kind : EventKind) (r : blocks.Reaction) (o : Outcome) → (answered sys k p kind r o).stop ≡ o.stop
answered-stop sys k p kind r o = emitted_all-stop sys k p (emissions (ports_of (Event kind)) (blocks.output_of r.memory) r.emits) (remembered p r o)

module _ (i : Inputs) (k : Key) (kind : EventKind) (at : Target) (left : ℕ) (w : World) where
  abbrev port : Port
  port = port_of (system_of i) at

  abbrev begun : Outcome
  begun = taking (system_of i) k w port (ports_of (Event kind)) left

  abbrev reaction : blocks.Reaction
  reaction = let b = begun.world.blocks port.at in blocks.reaction kind (memory_of b.memory) port.name k.tick b.variables

  pub reacting-left : (reacting i k kind at w left).left ≡ left
  reacting-left = answered-left (system_of i) k port.at kind reaction begun

  pub reacting-stop : (reacting i k kind at w left).stop ≡ None
  reacting-stop = answered-stop (system_of i) k port.at kind reaction begun

-- ---- Events among the ports of a composite

-- the event at an index is among the events
event-among : (es : List EventPort) (e : ℕ) → e < length es → Contains (event_names es) (event_at es e)
event-among es e h =
    let within : e < length (event_names es) = rw length-map h in
    subst (λ (n : Name). Contains (event_names es) n) (sym (unwrap_or-slice_get (event_names es) e [])) (Contains-get_or (event_names es) e [] within)

both-twice : (ns ms : List Name) (n : Name) → Contains ns n → Contains ms n → Twice (ns ++ ms)
both-twice [] ms n a b = absurd (Contains-nil n a)
both-twice (x ∷ ns) ms n a b =
    ⊎_elim (λ e. inl (subst (λ (z : Name). Contains (ns ++ ms) z) (sym e) (Contains-append_right ns ms n b)))
    (λ c. inr (both-twice ns ms n c b)) (Contains-cons_cases x ns n a)

element-at : (ts : List BlockType) (e : ℕ) (t : BlockType) → slice_get ts e ≡ Some t → Contains ts t
element-at ts e t is =
    subst (λ (z : BlockType). Contains ts z) (get_or_from_slice_get ts e t t is) (Contains-get_or ts e t (slice_get_within ts e t is))

-- In accepted inputs an event output of a composite type has not the name of an event input.
outputs-apart : (i : Inputs) → AreAccepted i → (index : ℕ) (t : CompositeType) → slice_get i.library.blocks index ≡ Some (block.Composite t)
    → (e : ℕ) → e < length t.ports.event_outputs → is_event_input t.ports (event_at t.ports.event_outputs e) ≡ false
outputs-apart i accepted index t is e within =
    let n : Name = event_at t.ports.event_outputs e in
    let ins : List Name = event_names t.ports.event_inputs in
    let outs : List Name = event_names t.ports.event_outputs in
    false_from_ne_true (is_event_input t.ports n) (λ both.
    let two : Twice (ins ++ outs) = both-twice ins outs n (contains_from_any n ins both) (event-among t.ports.event_outputs e within) in
    let named = Twice-append_left (ins ++ outs ++ variable_names t.ports.inputs ++ variable_names t.ports.outputs) []
    (Twice-append_left (ins ++ outs ++ variable_names t.ports.inputs) (variable_names t.ports.outputs)
    (Twice-append_left (ins ++ outs) (variable_names t.ports.inputs) two)) in
    accepted 20 (inl (refl, block_twice i.library i.plan (block.Composite t) (element-at i.library.blocks index (block.Composite t) is) (inl (inl named)))))

-- ---- Composites

module _ (i : Inputs) (k : Key) (at : Target) (t : CompositeType) (is : (system_of i).kind (path_at (system_of i) at.instance) ≡ Some (Composite t))
    (port : IsPort (system_of i) at) where
  abbrev sys : System
  sys = system_of i

  abbrev p : Path
  p = path_at sys at.instance

  ports : ports_at sys p ≡ t.ports
  ports = ports-of_kind sys p (Composite t) is

  -- what the model makes of an event at a composite
  abbrev crossing : World → ℕ → Ports → Bool → Outcome
  crossing w left its b = cond b (crossing_in sys k (port_of sys at) (taking sys k w (port_of sys at) its left)) (crossing_out sys k w (port_of sys at) its left)

  crossing-arrives : (left : ℕ) (w : World) (b : Bool) → is_event_input t.ports (port_of sys at).name ≡ b → Arrives i k at left w (crossing w left (ports_at sys p) b)
  crossing-arrives left w b e =
      subst (λ (z : Option Kind). ReactsAt sys k w (port_of sys at) left z (crossing w left (ports_at sys p) b)) (sym is)
      (ap (λ (x : Ports). crossing w left x b) ports ∙ ap (crossing w left t.ports) (sym e))

  pub composite-enters : at.is_output ≡ false → (left : ℕ) (w : World) → Arrives i k at left w (entering i k at w left)
  composite-enters input left w =
      let its : Ports = ports_at sys p in
      let within : at.event < length its.event_inputs = subst (λ (b : Bool). at.event < length (cond b its.event_outputs its.event_inputs)) input port.event in
      crossing-arrives left w true
      (ap (λ (q : Port). is_event_input t.ports q.name) (input_port sys at input)
      ∙ subst (λ (x : Ports). at.event < length x.event_inputs → is_event_input t.ports (event_at x.event_inputs at.event) ≡ true) (sym ports)
      (λ h. any_from_contains (event_at t.ports.event_inputs at.event) (event_names t.ports.event_inputs) (event-among t.ports.event_inputs at.event h)) within)

  pub composite-leaves : AreAccepted i → (index : ℕ) → slice_get i.library.blocks index ≡ Some (block.Composite t)
      → at.is_output ≡ true → (left : ℕ) (w : World) → Arrives i k at left w (leaving i k at w left)
  composite-leaves accepted index declared output left w =
      let its : Ports = ports_at sys p in
      let within : at.event < length its.event_outputs = subst (λ (b : Bool). at.event < length (cond b its.event_outputs its.event_inputs)) output port.event in
      crossing-arrives left w false
      (ap (λ (q : Port). is_event_input t.ports q.name) (output_port sys at output)
      ∙ subst (λ (x : Ports). at.event < length x.event_outputs → is_event_input t.ports (event_at x.event_outputs at.event) ≡ false) (sym ports)
      (outputs-apart i accepted index t declared at.event) within)
