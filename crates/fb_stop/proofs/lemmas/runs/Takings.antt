-- What taking one event does to the memory of a basic block.
use Rattle.fb_types.proofs.Common.{◌≡◌, ℕ, zero, suc, Bool, true, false, cond, List, [], ◌∷◌, map, Option, Some, None, refl, sym, ap, subst, ◌∙◌, if◌then◌else◌, same_Some, Basic, Composite, Event, Kind, bound, inputs_with, is_event_input, ports_of, ChartReacts, Position, Path, Port, same_path, Outcome, Reacts, ReactsAt, World, answered, crossing_in, crossing_out, emissions, expires, memory_of, remembered, sampled, settled, silent, start_of, state_of, taking, with_values, Block, InState, Meter, State, Stimulated, Expired, Arrived, Raised, path_of, System, Effect, Takes, TakesWith, begun, effect_of, world_of, Values}
use Rattle.fb_types.specs.declared.event_kind.EventKind.{EventKind}
use Rattle.fb_types.specs.declared.key.Key.{Key}
use Rattle.fb_types.specs.declared.library.BasicType.{BasicType}
use Rattle.fb_types.specs.declared.library.Ports.{Ports}
use Rattle.fb_types.specs.declared.value.Reason.{Reason}
use Rattle.fb_types.specs.declared.value.Reason.TheVariants.{Steps}
use Rattle.fb_types.specs.EventBlocks as blocks
use Rattle.fb_types.specs.Posted.{emission_line}
use Rattle.fb_types.specs.States.{Event as AnEvent, Line, Memory}
use Rattle.fb_types.proofs.lemmas.names.PathLaws.{same_path_is, same_path_itself}
use Rattle.fb_types.proofs.lemmas.events.ReactionLaws.{emitted_all-lines, emitted_all-publishes, emitted_all-stop}
use Rattle.fb_laws.proofs.lemmas.takings.OneBlockChanges.{reacts_stays}
use Rattle.fb_stop.specs.Found.{port_in, start_at, world_at}

module _ (sys : System) (k : Key) (s : State) where
  abbrev before : World
  before = world_of s k.resource

  -- ---- The port

  -- The event reacts at its port, in a world in which the block has what it had.
  record AtPort (e : AnEvent) (q : Port) (left : ℕ) (o : Outcome) : Type 0 where
    memory : ((world_at e before).blocks q.at).memory ≡ (s.blocks q.at).memory
    reacts : ReactsAt sys k (world_at e before) q left (sys.kind q.at) o

  at_port : (e : AnEvent) (q : Port) (left : ℕ) (o : Outcome) → port_in e ≡ Some q → Reacts sys k before e left o → AtPort e q left o
  at_port (Stimulated p bs) q left o is h =
      subst (λ (z : Port). AtPort (Stimulated p bs) z left o) (same_Some p q is)
      (record {
        memory = ap (λ (same : Bool). (cond same (record (s.blocks p.at) { slots = with_values bs (s.blocks p.at).slots }) (s.blocks p.at)).memory) (same_path_itself p.at);
        reacts = h;
      })
  at_port (Expired p) q left o is h = absurd (cc)
  at_port (Arrived p cs) q left o is h = subst (λ (z : Port). AtPort (Arrived p cs) z left o) (same_Some p q is) (record { memory = refl; reacts = h })
  at_port (Raised p) q left o is h = subst (λ (z : Port). AtPort (Raised p) z left o) (same_Some p q is) (record { memory = refl; reacts = h })

  -- ---- A basic block

  -- What the event does at a basic block.
  pub record BasicTaking (e : AnEvent) (q : Port) (t : BasicType) (left : ℕ) (x : Effect) : Type 0 where
    pub stop : Option Reason
    pub position : Position
    pub reacts : ChartReacts t q.name (start_at sys k s e t q left) stop position
    pub stops : x.stop ≡ stop
    pub memory : (x.state.blocks q.at).memory ≡ InState position.state
    pub variables : (x.state.blocks q.at).variables ≡ position.vars
    pub rest : List Line
    pub lines : x.lines ≡ record { key = k; taken = true; at = q.at; event = q.name; values = bound (inputs_with t.ports q.name) (start_at sys k s e t q left).vars } ∷ rest

  module _ (e : AnEvent) (q : Port) (t : BasicType) (left : ℕ) (o : Outcome) (there : AtPort e q left o) where
    abbrev w : World
    w = world_at e before

    abbrev begins : Outcome
    begins = taking sys k w q t.ports left

    abbrev vars : Values
    vars = sampled sys k.resource w q.at (inputs_with t.ports q.name)

    -- the block once its variables are sampled
    here : begins.world.blocks q.at ≡ record (w.blocks q.at) { variables = vars }
    here = ap (λ (same : Bool). cond same (record (w.blocks q.at) { variables = vars }) (w.blocks q.at)) (same_path_itself q.at)

    abbrev from_block : Memory → Values → Position
    from_block m vs = record { state = state_of m; vars = vs; left = left; emitted = [] }

    starts : start_of begins q.at ≡ start_at sys k s e t q left
    starts = ap (λ (b : Block). from_block b.memory b.variables) here ∙ ap (λ (m : Memory). from_block m vars) there.memory

    settled_here : (c : Position) (stop : Option Reason) → ((settled q.at c stop begins).world.blocks q.at).memory ≡ InState c.state
    settled_here c stop =
        ap (λ (same : Bool). (cond same (record (begins.world.blocks q.at) { memory = InState c.state; variables = c.vars }) (begins.world.blocks q.at)).memory) (same_path_itself q.at)

    settled_vars : (c : Position) (stop : Option Reason) → ((settled q.at c stop begins).world.blocks q.at).variables ≡ c.vars
    settled_vars c stop =
        ap (λ (same : Bool). (cond same (record (begins.world.blocks q.at) { memory = InState c.state; variables = c.vars }) (begins.world.blocks q.at)).variables) (same_path_itself q.at)

    taking_at : (m : Meter) → ReactsAt sys k w q left (Some (Basic t)) o → BasicTaking e q t left (effect_of sys k e m s o)
    taking_at m (stop, c, chart, is) =
        let mid : Outcome = settled q.at c stop begins in
        record {
          stop = stop;
          position = c;
          reacts = subst (λ (p : Position). ChartReacts t q.name p stop c) starts chart;
          stops = ap (λ (z : Outcome). z.stop) is ∙ emitted_all-stop sys k q.at c.emitted mid;
          memory = ap (λ (z : Outcome). (z.world.blocks q.at).memory) is ∙ (emitted_all-publishes sys k q.at c.emitted mid).memory q.at ∙ settled_here c stop;
          variables = ap (λ (z : Outcome). (z.world.blocks q.at).variables) is ∙ (emitted_all-publishes sys k q.at c.emitted mid).variables q.at ∙ settled_vars c stop;
          rest = map (emission_line k q.at) c.emitted;
          lines = ap (λ (z : Outcome). z.lines) is ∙ emitted_all-lines sys k q.at c.emitted mid;
        }

  basic_with : (e : AnEvent) (q : Port) (t : BasicType) (m : Meter) (left : ℕ) (x : Effect) → port_in e ≡ Some q → sys.kind q.at ≡ Some (Basic t)
      → TakesWith sys s k e m (suc left) x → BasicTaking e q t left x
  basic_with e q t m left x port kind (o, reacts, is) =
      let there = at_port e q left o port reacts in
      subst (λ (z : Effect). BasicTaking e q t left z) (sym is)
      (taking_at e q t left o there m (subst (λ (z : Option Kind). ReactsAt sys k (world_at e before) q left z o) kind there.reacts))

  -- ---- Only a basic block stops

  -- The event is at a basic block.
  pub record AtBasic (e : AnEvent) : Type 0 where
    pub port : Port
    pub is : port_in e ≡ Some port
    pub block : BasicType
    pub kind : sys.kind port.at ≡ Some (Basic block)

  answered-goes : (p : Path) (kind : EventKind) (x : blocks.Reaction) (o : Outcome) → (answered sys k p kind x o).stop ≡ o.stop
  answered-goes p kind x o = emitted_all-stop sys k p (emissions (ports_of (Event kind)) (blocks.output_of x.memory) x.emits) (remembered p x o)

  expires-goes : (w : World) (p : Path) (left : ℕ) (kind : Option Kind) → (expires sys k w p left kind).stop ≡ None
  expires-goes w p left None = refl
  expires-goes w p left (Some (Basic t)) = refl
  expires-goes w p left (Some (Event kind)) = answered-goes p kind (blocks.expiry kind (memory_of (w.blocks p).memory) k.tick) (silent w left)
  expires-goes w p left (Some (Composite t)) = refl

  crossing-goes : (w : World) (q : Port) (ports : Ports) (left : ℕ) (inward : Bool)
      → (if inward then crossing_in sys k q (taking sys k w q ports left) else crossing_out sys k w q ports left).stop ≡ None
  crossing-goes w q ports left true = refl
  crossing-goes w q ports left false = refl

  -- a port of an instance of this kind
  stops_at : (w : World) (q : Port) (left : ℕ) (kind : Option Kind) (o : Outcome) (r : Reason) → ReactsAt sys k w q left kind o → o.stop ≡ Some r → (t : BasicType) × (kind ≡ Some (Basic t))
  stops_at w q left None o r is stops = absurd (let e : None ≡ Some r = sym (ap (λ (z : Outcome). z.stop) is) ∙ stops in cc)
  stops_at w q left (Some (Basic t)) o r h stops = (t, refl)
  stops_at w q left (Some (Event kind)) o r is stops =
      let begins = taking sys k w q (ports_of (Event kind)) left in
      let b = begins.world.blocks q.at in
      absurd (let e : None ≡ Some r = sym (ap (λ (z : Outcome). z.stop) is ∙ answered-goes q.at kind (blocks.reaction kind (memory_of b.memory) q.name k.tick b.variables) begins) ∙ stops in cc)
  stops_at w q left (Some (Composite t)) o r is stops =
      absurd (let e : None ≡ Some r = sym (ap (λ (z : Outcome). z.stop) is ∙ crossing-goes w q t.ports left (is_event_input t.ports q.name)) ∙ stops in cc)

  stops_basic : (w : World) (e : AnEvent) (left : ℕ) (o : Outcome) (r : Reason) → Reacts sys k w e left o → o.stop ≡ Some r → AtBasic e
  stops_basic w (Stimulated q bs) left o r h stops = let x = stops_at _ q left (sys.kind q.at) o r h stops in record { port = q; is = refl; block = x.0; kind = x.1 }
  stops_basic w (Expired p) left o r is stops = absurd (let e : None ≡ Some r = sym (ap (λ (z : Outcome). z.stop) is ∙ expires-goes w p left (sys.kind p)) ∙ stops in cc)
  stops_basic w (Arrived q cs) left o r h stops = let x = stops_at _ q left (sys.kind q.at) o r h stops in record { port = q; is = refl; block = x.0; kind = x.1 }
  stops_basic w (Raised q) left o r h stops = let x = stops_at _ q left (sys.kind q.at) o r h stops in record { port = q; is = refl; block = x.0; kind = x.1 }

  stops_with : (e : AnEvent) (m : Meter) (left : ℕ) (x : Effect) (r : Reason) → x.stop ≡ Some r → TakesWith sys s k e m (suc left) x → AtBasic e
  stops_with e m left x r stops (o, reacts, is) =
      stops_basic before e left o r reacts (sym (ap (λ (z : Effect). z.stop) is) ∙ stops)

  none_with : (e : AnEvent) (m : Meter) (x : Effect) → TakesWith sys s k e m zero x → x.stop ≡ Some Steps
  none_with e m x is = ap (λ (z : Effect). z.stop) is

  -- ---- Other blocks

  -- the timer of a basic block, which it has not, changes nothing
  expired_keeps : (w : World) (p : Path) (left : ℕ) (kind : Option Kind) (t : BasicType) → kind ≡ Some (Basic t) → (expires sys k w p left kind).world ≡ w
  expired_keeps w p left None t is = absurd (cc)
  expired_keeps w p left (Some (Basic u)) t is = refl
  expired_keeps w p left (Some (Event kind)) t is = absurd (cc)
  expired_keeps w p left (Some (Composite u)) t is = absurd (cc)

  keeps_at : (e : AnEvent) (p : Path) (t : BasicType) (left : ℕ) (o : Outcome) → sys.kind p ≡ Some (Basic t) → ((q : Port) → port_in e ≡ Some q → ¬ (q.at ≡ p))
      → path_of e ≡ p → Reacts sys k before e left o → o.world.blocks p ≡ s.blocks p
  keeps_at (Stimulated q bs) p t left o kind apart same h = absurd (apart q refl same)
  keeps_at (Expired r) p t left o kind apart same is =
      ap (λ (z : Outcome). z.world.blocks p) is ∙ ap (λ (z : World). z.blocks p) (expired_keeps before r left (sys.kind r) t (ap sys.kind same ∙ kind))
  keeps_at (Arrived q cs) p t left o kind apart same h = absurd (apart q refl same)
  keeps_at (Raised q) p t left o kind apart same h = absurd (apart q refl same)

  keeps_one : (e : AnEvent) (p : Path) (t : BasicType) (left : ℕ) (o : Outcome) → sys.kind p ≡ Some (Basic t) → ((q : Port) → port_in e ≡ Some q → ¬ (q.at ≡ p))
      → Reacts sys k before e left o → o.world.blocks p ≡ s.blocks p
  keeps_one e p t left o kind apart h = go (same_path p (path_of e)) refl
    where
      go : (b : Bool) → same_path p (path_of e) ≡ b → o.world.blocks p ≡ s.blocks p
      go true same = keeps_at e p t left o kind apart (sym (same_path_is p (path_of e) same)) h
      go false other = reacts_stays sys k before e left o p other h

  keeps_with : (e : AnEvent) (p : Path) (t : BasicType) (m : Meter) (left : ℕ) (x : Effect) → sys.kind p ≡ Some (Basic t) → ((q : Port) → port_in e ≡ Some q → ¬ (q.at ≡ p))
      → TakesWith sys s k e m left x → x.state.blocks p ≡ s.blocks p
  keeps_with e p t m zero x kind apart is = ap (λ (z : Effect). z.state.blocks p) is
  keeps_with e p t m (suc left) x kind apart (o, reacts, is) = ap (λ (z : Effect). z.state.blocks p) is ∙ keeps_one e p t left o kind apart reacts

  -- ---- The taking

  module _ (limit : ℕ) (e : AnEvent) (x : Effect) where
    abbrev meter : Meter
    meter = begun limit k.tick (s.meters k.resource)

    pub basic_taking : (q : Port) (t : BasicType) (left : ℕ) → port_in e ≡ Some q → sys.kind q.at ≡ Some (Basic t) → meter.left ≡ suc left → Takes sys limit s k e x
        → BasicTaking e q t left x
    unfolding Takes
    basic_taking q t left port kind is h = basic_with e q t meter left x port kind (subst (λ (n : ℕ). TakesWith sys s k e meter n x) is h)

    pub stopping_basic : (left : ℕ) (r : Reason) → meter.left ≡ suc left → x.stop ≡ Some r → Takes sys limit s k e x → AtBasic e
    unfolding Takes
    stopping_basic left r is stops h = stops_with e meter left x r stops (subst (λ (n : ℕ). TakesWith sys s k e meter n x) is h)

    pub stops_before : meter.left ≡ zero → Takes sys limit s k e x → x.stop ≡ Some Steps
    unfolding Takes
    stops_before is h = none_with e meter x (subst (λ (n : ℕ). TakesWith sys s k e meter n x) is h)

    pub keeps_block : (p : Path) (t : BasicType) → sys.kind p ≡ Some (Basic t) → ((q : Port) → port_in e ≡ Some q → ¬ (q.at ≡ p)) → Takes sys limit s k e x
        → x.state.blocks p ≡ s.blocks p
    unfolding Takes
    keeps_block p t kind apart h = keeps_with e p t meter meter.left x kind apart h
