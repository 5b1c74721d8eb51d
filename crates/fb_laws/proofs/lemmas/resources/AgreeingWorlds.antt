-- A reaction reads only the part of its resource: if two worlds agree on it, the outcomes agree.
use Rattle.fb_types.proofs.Common.{◌≡◌, ℕ, refl, sym, subst, List, [], ◌∷◌, ◌++◌, Bool, true, false, Option, Some, None, if◌then◌else◌, ◌==◌, eqb-true, Name, Path, same_path, same_port, Port, Kind, Basic, Event, Composite, ports_of, is_event_input, inputs_with, outputs_with, bound, Bound, Emission, among, Position, ChartReacts, System, Block, InState, Stimulated, Expired, Arrived, Raised, path_of, World, Outcome, with_block, shown, sampled_from, sampled, emitted, emitted_all, settled, remembered, charted, answered, emissions, taking, crossing_in, crossing_out, from_inside, silent, expires, with_slots, with_values, hold_all, ReactsAt, Reacts, memory_of, state_of, start_of, spread, carried_from}
use Rattle.fb_types.specs.declared.key.Key.{Key}
use Rattle.fb_types.specs.declared.value.Value.{Value}
use Rattle.fb_types.specs.declared.value.Reason.{Reason}
use Rattle.fb_types.specs.declared.library.Ports.{Ports}
use Rattle.fb_types.specs.declared.event_kind.EventKind.{EventKind}
use Rattle.fb_types.specs.EventBlocks as blocks
use Rattle.fb_types.specs.States.{Remembers, Event as AnEvent}
use Rattle.fb_types.specs.Reactions.{with_held, seen, is_input_of}

-- Two worlds agree on a resource.
pub record SameWorld (sys : System) (r : ℕ) (v w : World) : Type 0 where
  pub blocks : (p : Path) → sys.resource p ≡ r → v.blocks p ≡ w.blocks p
  pub held : (q : Port) → v.held q ≡ w.held q

pub record SameOutcome (sys : System) (r : ℕ) (o x : Outcome) : Type 0 where
  pub world : SameWorld sys r o.world x.world
  pub lines : o.lines ≡ x.lines
  pub outs : o.outs ≡ x.outs
  pub timer : o.timer ≡ x.timer
  pub left : o.left ≡ x.left
  pub stop : o.stop ≡ x.stop

module _ (sys : System) (r : ℕ) where
  with_block_same : (p : Path) (b c : Block) (v w : World) → b ≡ c → SameWorld sys r v w → SameWorld sys r (with_block p b v) (with_block p c w)
  with_block_same p b c v w e h =
      record { blocks = λ q home i. if same_path q p then e i else h.blocks q home i; held = h.held }

  seen_same : (v w : World) (s : Port) → sys.resource s.at ≡ r → SameWorld sys r v w → seen sys v s ≡ seen sys w s
  seen_same v w s home h =
      λ i. if is_input_of (sys.kind s.at) s.name then (h.blocks s.at home i).variables s.name else (h.blocks s.at home i).published s.name

  shown_same : (v w : World) (s : Port) → SameWorld sys r v w → shown sys r v s ≡ shown sys r w s
  shown_same v w s h =
      elim (sys.resource s.at == r) as (λ b. sys.resource s.at == r ≡ b → (if b then seen sys v s else v.held s) ≡ (if b then seen sys w s else w.held s)) [
        | true ↦ λ e. seen_same v w s (eqb-true (sys.resource s.at) r e) h
        | false ↦ λ e. h.held s
      ] refl

  sampled_from_same : (v w : World) (q : Port) → sys.resource q.at ≡ r → SameWorld sys r v w → sampled_from sys r v q ≡ sampled_from sys r w q
  sampled_from_same v w q home h =
      elim (sys.source q) as (λ s. (elim s as (λ _. Value) [ None ↦ (v.blocks q.at).slots q.name | Some x ↦ shown sys r v x ]) ≡ (elim s as (λ _. Value) [ None ↦ (w.blocks q.at).slots q.name | Some x ↦ shown sys r w x ])) [
        | None ↦ λ i. (h.blocks q.at home i).slots q.name
        | Some x ↦ shown_same v w x h
      ]

  sampled_same : (v w : World) (p : Path) (ns : List Name) → sys.resource p ≡ r → SameWorld sys r v w → sampled sys r v p ns ≡ sampled sys r w p ns
  sampled_same v w p ns home h =
      λ i n. if among ns n then sampled_from_same v w (record { at = p; name = n }) home h i else (h.blocks p home i).variables n

  from_inside_same : (v w : World) (p : Path) → sys.resource p ≡ r → SameWorld sys r v w → from_inside sys r v p ≡ from_inside sys r w p
  from_inside_same v w p home h =
      λ i n. (elim (sys.source (record { at = p; name = n })) as (λ s. (elim s as (λ _. Value) [ None ↦ (v.blocks p).published n | Some x ↦ shown sys r v x ]) ≡ (elim s as (λ _. Value) [ None ↦ (w.blocks p).published n | Some x ↦ shown sys r w x ])) [
        | None ↦ λ j. (h.blocks p home j).published n
        | Some x ↦ shown_same v w x h
      ]) i

module _ (sys : System) (k : Key) where
  carry : {o a x : Outcome} → o ≡ a → SameOutcome sys k.resource a x → SameOutcome sys k.resource o x
  carry {x = x} e h = subst (λ z. SameOutcome sys k.resource z x) (sym e) h

  emitted_same : (p : Path) (e f : Emission) (o x : Outcome) → e ≡ f → sys.resource p ≡ k.resource → SameOutcome sys k.resource o x
      → SameOutcome sys k.resource (emitted sys k p e o) (emitted sys k p f x)
  emitted_same p e f o x same home h =
      let b = h.world.blocks p home in
      record {
        world = with_block_same sys k.resource p _ _ o.world x.world (λ i. record { memory = (b i).memory; variables = (b i).variables; slots = (b i).slots; published = with_values (same i).values ((b i).published) }) h.world;
        lines = λ i. h.lines i ++ record { key = k; taken = false; at = p; event = (same i).event; values = (same i).values } ∷ [];
        outs = λ i. h.outs i ++ spread sys k.resource (carried_from p (same i).values) (sys.targets (record { at = p; name = (same i).event }));
        timer = h.timer;
        left = h.left;
        stop = h.stop;
      }

  emitted_all_same : (p : Path) (es : List Emission) (o x : Outcome) → sys.resource p ≡ k.resource → SameOutcome sys k.resource o x
      → SameOutcome sys k.resource (emitted_all sys k p es o) (emitted_all sys k p es x)
  emitted_all_same p [] o x home h = h
  emitted_all_same p (e ∷ es) o x home h =
      emitted_all_same p es (emitted sys k p e o) (emitted sys k p e x) home (emitted_same p e e o x refl home h)

  taking_same : (v w : World) (q : Port) (ports : Ports) (left : ℕ) → sys.resource q.at ≡ k.resource → SameWorld sys k.resource v w
      → SameOutcome sys k.resource (taking sys k v q ports left) (taking sys k w q ports left)
  taking_same v w q ports left home h =
      let b = h.blocks q.at home in
      let vars = sampled_same sys k.resource v w q.at (inputs_with ports q.name) home h in
      record {
        world = with_block_same sys k.resource q.at _ _ v w (λ i. record { memory = (b i).memory; variables = vars i; slots = (b i).slots; published = (b i).published }) h;
        lines = λ i. record { key = k; taken = true; at = q.at; event = q.name; values = bound (inputs_with ports q.name) (vars i) } ∷ [];
        outs = refl;
        timer = refl;
        left = refl;
        stop = refl;
      }

  settled_same : (p : Path) (c : Position) (stop : Option Reason) (o x : Outcome) → sys.resource p ≡ k.resource → SameOutcome sys k.resource o x
      → SameOutcome sys k.resource (settled p c stop o) (settled p c stop x)
  settled_same p c stop o x home h =
      let b = h.world.blocks p home in
      record {
        world = with_block_same sys k.resource p _ _ o.world x.world (λ i. record { memory = InState c.state; variables = c.vars; slots = (b i).slots; published = (b i).published }) h.world;
        lines = h.lines;
        outs = h.outs;
        timer = h.timer;
        left = refl;
        stop = refl;
      }

  remembered_same : (p : Path) (y : blocks.Reaction) (o x : Outcome) → sys.resource p ≡ k.resource → SameOutcome sys k.resource o x
      → SameOutcome sys k.resource (remembered p y o) (remembered p y x)
  remembered_same p y o x home h =
      let b = h.world.blocks p home in
      record {
        world = with_block_same sys k.resource p _ _ o.world x.world (λ i. record { memory = Remembers y.memory; variables = (b i).variables; slots = (b i).slots; published = (b i).published }) h.world;
        lines = h.lines;
        outs = h.outs;
        timer = refl;
        left = h.left;
        stop = h.stop;
      }

  answered_same : (p : Path) (kind : EventKind) (y z : blocks.Reaction) (o x : Outcome) → y ≡ z → sys.resource p ≡ k.resource → SameOutcome sys k.resource o x
      → SameOutcome sys k.resource (answered sys k p kind y o) (answered sys k p kind z x)
  answered_same p kind y z o x e home h =
      subst (λ u. SameOutcome sys k.resource (answered sys k p kind y o) (answered sys k p kind u x)) e
      (emitted_all_same p (emissions (ports_of (Event kind)) (blocks.output_of y.memory) y.emits) (remembered p y o) (remembered p y x) home (remembered_same p y o x home h))

  silent_same : (v w : World) (left : ℕ) → SameWorld sys k.resource v w → SameOutcome sys k.resource (silent v left) (silent w left)
  silent_same v w left h = record { world = h; lines = refl; outs = refl; timer = refl; left = refl; stop = refl }

  crossing_same : (v w : World) (q : Port) (ports : Ports) (left : ℕ) (inward : Bool) → sys.resource q.at ≡ k.resource → SameWorld sys k.resource v w
      → SameOutcome sys k.resource (if inward then crossing_in sys k q (taking sys k v q ports left) else crossing_out sys k v q ports left)
      (if inward then crossing_in sys k q (taking sys k w q ports left) else crossing_out sys k w q ports left)
  crossing_same v w q ports left true home h =
      let t = taking_same v w q ports left home h in
      record { world = t.world; lines = t.lines; outs = refl; timer = t.timer; left = t.left; stop = t.stop }
  crossing_same v w q ports left false home h =
      emitted_same q.at _ _ (silent v left) (silent w left) (λ i. record { event = q.name; values = bound (outputs_with ports q.name) (from_inside_same sys k.resource v w q.at home h i) }) home (silent_same v w left h)

  expires_same : (v w : World) (p : Path) (left : ℕ) (kind : Option Kind) → sys.resource p ≡ k.resource → SameWorld sys k.resource v w
      → SameOutcome sys k.resource (expires sys k v p left kind) (expires sys k w p left kind)
  expires_same v w p left None home h = silent_same v w left h
  expires_same v w p left (Some (Basic t)) home h = silent_same v w left h
  expires_same v w p left (Some (Event kind)) home h =
      answered_same p kind _ _ (silent v left) (silent w left) (λ i. blocks.expiry kind (memory_of (h.blocks p home i).memory) k.tick) home (silent_same v w left h)
  expires_same v w p left (Some (Composite t)) home h = silent_same v w left h

  reacts_at_same : (v w : World) (q : Port) (left : ℕ) (kind : Option Kind) (o : Outcome) → sys.resource q.at ≡ k.resource → SameWorld sys k.resource v w
      → ReactsAt sys k v q left kind o → (x : Outcome) × ReactsAt sys k w q left kind x × SameOutcome sys k.resource o x
  reacts_at_same v w q left None o home h y = (_, refl, carry y (silent_same v w left h))
  reacts_at_same v w q left (Some (Basic t)) o home h y =
      let s = taking_same v w q t.ports left home h in
      let b = s.world.blocks q.at home in
      let a = taking sys k v q t.ports left in
      let c = taking sys k w q t.ports left in
      let e : start_of a q.at ≡ start_of c q.at = λ i. record { state = state_of (b i).memory; vars = (b i).variables; left = left; emitted = [] } in (
        charted sys k q.at c y.1 y.0,
        (y.0, y.1, subst (λ z. ChartReacts t q.name z y.0 y.1) e y.2, refl),
        subst (λ z. SameOutcome sys k.resource z (charted sys k q.at c y.1 y.0)) (sym y.3) (emitted_all_same q.at y.1.emitted (settled q.at y.1 y.0 a) (settled q.at y.1 y.0 c) home (settled_same q.at y.1 y.0 a c home s)),
      )
  reacts_at_same v w q left (Some (Event kind)) o home h y =
      let s = taking_same v w q (ports_of (Event kind)) left home h in
      let b = s.world.blocks q.at home in
      let a = taking sys k v q (ports_of (Event kind)) left in
      let c = taking sys k w q (ports_of (Event kind)) left in
      (_, refl, carry y (answered_same q.at kind _ _ a c (λ i. blocks.reaction kind (memory_of (b i).memory) q.name k.tick (b i).variables) home s))
  reacts_at_same v w q left (Some (Composite t)) o home h y =
      (_, refl, carry y (crossing_same v w q t.ports left (is_event_input t.ports q.name) home h))

  slots_same : (v w : World) (p : Path) (bs : List Bound) → sys.resource p ≡ k.resource → SameWorld sys k.resource v w → SameWorld sys k.resource (with_slots p bs v) (with_slots p bs w)
  slots_same v w p bs home h =
      let b = h.blocks p home in
      with_block_same sys k.resource p _ _ v w (λ i. record { memory = (b i).memory; variables = (b i).variables; slots = with_values bs ((b i).slots); published = (b i).published }) h

  hold_same : (cs : List (Port × Value)) (f g : Port → Value) → ((q : Port) → f q ≡ g q) → (q : Port) → hold_all cs f q ≡ hold_all cs g q
  hold_same [] f g e q = e q
  hold_same (c ∷ cs) f g e q = hold_same cs (with_held c.0 c.1 f) (with_held c.0 c.1 g) (λ p i. if same_port p c.0 then c.1 else e p i) q

  -- A reaction to an event of the resource.
  pub reacts_same : (v w : World) (e : AnEvent) (left : ℕ) (o : Outcome) → sys.resource (path_of e) ≡ k.resource → SameWorld sys k.resource v w
      → Reacts sys k v e left o → (x : Outcome) × Reacts sys k w e left x × SameOutcome sys k.resource o x
  reacts_same v w (Stimulated q bs) left o home h y =
      reacts_at_same (with_slots q.at bs v) (with_slots q.at bs w) q left (sys.kind q.at) o home (slots_same v w q.at bs home h) y
  reacts_same v w (Expired p) left o home h y =
      (_, refl, carry y (expires_same v w p left (sys.kind p) home h))
  reacts_same v w (Arrived q cs) left o home h y =
      reacts_at_same (record v { held = hold_all cs v.held }) (record w { held = hold_all cs w.held }) q left (sys.kind q.at) o home
      (record { blocks = h.blocks; held = hold_same cs v.held w.held h.held }) y
  reacts_same v w (Raised q) left o home h y = reacts_at_same v w q left (sys.kind q.at) o home h y
