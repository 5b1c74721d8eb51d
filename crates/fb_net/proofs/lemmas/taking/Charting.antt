-- The arrival of an event at a basic block is what the model makes of it, also where a reason stops it.
use Rattle.fb_net.proofs.lemmas.Common.{◌≡◌, ℕ, Bool, true, false, cond, List, [], ◌∷◌, map, refl, sym, ap, subst, ◌∙◌, None, Option, Some, Result, Ok, Err, fun_ext, Kind, Basic, Emission, inputs_with, Inputs, system_of, Path, Port, same_path, emission_of, event_at, line_of, path_at, ports_at, Outcome, World, emitted_all, taking, with_block, System, Values, Key, BasicType, Ports, Halt, Target, Value, gathered, RepresentsOutcome, Outbox, InForest, IsForest, Forest, Arrives, HasReacted, IsReady}
use Rattle.fb_types.proofs.Common.{ChartReacts, Position, ReactsAt, charted, emitted, sampled, settled, start_of, state_of}
use Rattle.fb_types.specs.declared.value.Reason.{Reason}
use Rattle.fb_types.specs.States as model
use Rattle.fb_types.specs.declared.run.Emission as run
use Rattle.fb_types.specs.declared.run.Halt.TheVariants as halt
use Rattle.fb_types.proofs.lemmas.names.PathLaws.{same_path_itself}
use Rattle.fb_net.specs.Leaves.{ChartCame, ChartEnded, EachWorld, chart_start, charted_block}
use Rattle.fb_net.specs.Samples.{AreSampled}
use Rattle.fb_net.specs.Arrivals.{IsBegun, ReactedIn, WritesAndEmits}
use Rattle.fb_net.proofs.lemmas.values.Sampling.{line-sampled, port-here, port_named, ports-of_kind, taken_line, variables-sampled}

-- ---- Emissions

-- emissions cost no step and stop nothing
pub emitted_all-left : (sys : System) (k : Key) (p : Path) (es : List Emission) (o : Outcome) → (emitted_all sys k p es o).left ≡ o.left
emitted_all-left sys k p [] o = refl
emitted_all-left sys k p (e ∷ es) o = emitted_all-left sys k p es (emitted sys k p e o)

pub emitted_all-stop : (sys : System) (k : Key) (p : Path) (es : List Emission) (o : Outcome) → (emitted_all sys k p es o).stop ≡ o.stop
emitted_all-stop sys k p [] o = refl
emitted_all-stop sys k p (e ∷ es) o = emitted_all-stop sys k p es (emitted sys k p e o)

-- ---- Worlds with another block

with_block-here : (p : Path) (b : model.Block) (w : World) → (with_block p b w).blocks p ≡ b
with_block-here p b w = ap (λ (same : Bool). cond same b (w.blocks p)) (same_path_itself p)

-- the later of two choices at one index is kept
chosen_twice : {A : Type 0} (b : Bool) (x y z : A) → cond b x (cond b y z) ≡ cond b x z
chosen_twice true x y z = refl
chosen_twice false x y z = refl

with_block-twice : (p : Path) (b c : model.Block) (w : World) → with_block p c (with_block p b w) ≡ with_block p c w
with_block-twice p b c w =
    ap (λ (blocks : Path → model.Block). record w { blocks = blocks }) (fun_ext (λ q. chosen_twice (same_path q p) c b (w.blocks q)))

-- what is made of a block that was put there
with_block-next : (p : Path) (b : model.Block) (g : model.Block → model.Block) (w : World)
    → with_block p (g ((with_block p b w).blocks p)) (with_block p b w) ≡ with_block p (g b) w
with_block-next p b g w =
    ap (λ (x : model.Block). with_block p (g x) (with_block p b w)) (with_block-here p b w) ∙ with_block-twice p b (g b) w

-- ---- Charts

abbrev start_at : model.Block → ℕ → Position
start_at b left = record { state = state_of b.memory; vars = b.variables; left = left; emitted = [] }

-- A basic block t has reacted to an event with values that it sampled, and line and emissions were written.
module _ (i : Inputs) (k : Key) (at : Target) (t : BasicType) (is : (system_of i).kind (path_at (system_of i) at.instance) ≡ Some (Basic t))
    (input : at.is_output ≡ false) (old mid new : Forest) (x y : Outbox) (ready : IsReady k old) (here : InForest i old at.instance)
    (values : List Value) (are : AreSampled i old at values) (before after : ℕ) (emits : List run.Emission)
    (wrote : WritesAndEmits i k at.instance (line_of (system_of i) (taken_line k at values))
    (map (emission_of (ports_at (system_of i) (path_at (system_of i) at.instance))) emits) mid x new y) where
  abbrev sys : System
  sys = system_of i

  abbrev p : Path
  p = path_at sys at.instance

  abbrev q : Port
  q = port_named p (event_at t.ports.event_inputs at.event)

  ports : ports_at sys p ≡ t.ports
  ports = ports-of_kind sys p (Basic t) is

  abbrev begun : World → Outcome
  begun w = taking sys k w q t.ports before

  abbrev sampled_block : World → model.Block
  sampled_block w = record (w.blocks p) { variables = sampled sys k.resource w p (inputs_with t.ports q.name) }

  -- where the model's chart begins
  starts : (w : World) → IsForest i old w → chart_start t (w.blocks p) at.event values before ≡ start_of (begun w) p
  starts w h =
      ap (λ (vs : Values). record (start_at (w.blocks p) before) { vars = vs })
      (variables-sampled i k at t.ports ports input old ready.resource here values are w h)
      ∙ ap (λ (b : model.Block). start_at b before) (sym (with_block-here p (sampled_block w) w))

  -- the world where it is
  settles : (w : World) (c : Position) (stop : Option Reason) → with_block p (charted_block c (w.blocks p)) w ≡ (settled p c stop (begun w)).world
  settles w c stop = sym (with_block-next p (sampled_block w) (charted_block c) w)

  came : (stop : Option Reason) → EachWorld i old at (ChartCame i old at t values before stop mid after emits)
      → ReactedIn i (Arrives i k at before) old x stop new after y
  came stop chart w h =
      let c = chart w h here in
      let o : Outcome = settled p c.index stop (begun w) in
      let out : Outcome = charted sys k p (begun w) c.index stop in
      let first : IsBegun i mid (line_of sys (taken_line k at values)) o = record {
        world = subst (λ (z : World). IsForest i mid z) (settles w c.index stop) c.represents;
        lines = sym (line-sampled i k at t.ports ports input old ready.resource here values are w h before);
        outs = refl;
        timer = refl;
      } in
      let same : map (emission_of (ports_at sys p)) emits ≡ c.index.emitted = ap (λ (z : Ports). map (emission_of z) emits) ports ∙ c.emitted in
      let reacts : ReactsAt sys k w q before (Some (Basic t)) out =
      (stop, c.index, subst (λ (s : Position). ChartReacts t q.name s stop c.index) (starts w h) c.reacts, refl) in
      record {
        outcome = out;
        reacts = subst (λ (z : Port). ReactsAt sys k w z before (sys.kind p) out) (sym (port-here i k at t.ports ports input old ready.resource here values are))
            (subst (λ (z : Option Kind). ReactsAt sys k w q before z out) (sym is) reacts);
        stops = emitted_all-stop sys k p c.index.emitted o;
        leaves = emitted_all-left sys k p c.index.emitted o ∙ sym c.left;
        represents = subst (λ (es : List Emission). RepresentsOutcome i (gathered i x) new y (emitted_all sys k p es o)) same (wrote o first);
      }

  -- however the reaction ended
  pub chart-reacts : (r : Result (Unit {0}) Halt) → ChartEnded i old at t values before r mid after emits
      → HasReacted i (Arrives i k at before) old x r new after y
  chart-reacts (Ok u) h = came None h
  chart-reacts (Err (halt.Stop r)) h = came (Some r) h
  chart-reacts (Err halt.Memory) h = tt
