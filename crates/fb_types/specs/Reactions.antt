-- What taking one event does in its resource (IEC 61499-1, 5.2.2 and 5.3.2; sampling, crossings and held copies are this project's profile).
use Rattle.std.specs.Prelude.{◌≡◌, ℕ, List, [], ◌∷◌, ◌++◌, map, Bool, true, false, ◌==◌, if◌then◌else◌, Option, Some, None}
use Rattle.fb_types.specs.Names.{Name, with_value, Path, same_path, Port, same_port}
use Rattle.fb_types.specs.Values.{Values}
use Rattle.fb_types.specs.Blocks.{Kind, Basic, Event, Composite, ports_of, inputs_with, outputs_with, is_event_input, is_input, Bound, bound, Emission, among}
use Rattle.fb_types.specs.Charts.{Position, ChartReacts}
use Rattle.fb_types.specs.EventBlocks as blocks
use Rattle.fb_types.specs.Systems.{System}
use Rattle.fb_types.specs.States.{Memory, InState, Remembers, Block, Event as AnEvent, Stimulated, Expired, Arrived, Raised, Line}
use Rattle.fb_types.specs.declared.key.Key.{Key}
use Rattle.fb_types.specs.declared.value.Value.{Value}
use Rattle.fb_types.specs.declared.value.Reason.{Reason}
use Rattle.fb_types.specs.declared.library.Ports.{Ports}
use Rattle.fb_types.specs.declared.event_kind.EventKind.{EventKind}
use Rattle.fb_types.specs.declared.run.TimerAsk.{TimerAsk}
use Rattle.fb_types.specs.declared.run.TimerAsk.TheVariants.{Keep}

-- What a reaction reads and changes: the blocks, and the held copies of its resource.
pub record World : Type 0 where
  pub blocks : Path → Block
  pub held : Port → Value

-- What a reaction emits, in order: a local event, or a message to another resource, with the values that it carries.
pub data Out : Type 0 where
  Local : Port → Out
  Sends : Port → List (Port × Value) → Out

pub record Outcome : Type 0 where
  pub world : World
  pub lines : List Line
  pub outs : List Out
  pub timer : TimerAsk
  pub left : ℕ
  pub stop : Option Reason

abbrev pub silent : World → ℕ → Outcome
silent w left = record { world = w; lines = []; outs = []; timer = Keep; left = left; stop = None }

-- ---- Sampling

abbrev pub with_block : Path → Block → World → World
with_block p b w = record w { blocks = λ q. if same_path q p then b else w.blocks q }

abbrev pub with_held : Port → Value → (Port → Value) → Port → Value
with_held q v held p = if same_port p q then v else held p

abbrev pub is_input_of : Option Kind → Name → Bool
is_input_of None v = false
is_input_of (Some k) v = is_input (ports_of k) v

-- what connections see at a port: a published output, or from inside a composite its copy of an input
abbrev pub seen : System → World → Port → Value
seen sys w q =
    if is_input_of (sys.kind q.at) q.name then (w.blocks q.at).variables q.name else (w.blocks q.at).published q.name

-- what a source shows in a resource: itself, or its held copy if it is in another resource
abbrev pub shown : System → (resource : ℕ) → World → Port → Value
shown sys r w s = if sys.resource s.at == r then seen sys w s else w.held s

-- what a data input samples: its slot, or what its source shows
abbrev pub sampled_from : System → (resource : ℕ) → World → Port → Value
sampled_from sys r w q = elim (sys.source q) [ None ↦ (w.blocks q.at).slots q.name | Some s ↦ shown sys r w s ]

-- the variables of an instance, once those WITH an event are sampled
abbrev pub sampled : System → (resource : ℕ) → World → Path → List Name → Values
sampled sys r w p ns n =
    if among ns n then sampled_from sys r w (record { at = p; name = n }) else (w.blocks p).variables n

-- the event is taken: its variables are sampled, and its line shows their values
abbrev pub taking : System → Key → World → Port → Ports → ℕ → Outcome
taking sys k w q ports left =
    let ns = inputs_with ports q.name in
    let vars = sampled sys k.resource w q.at ns in
    let b = w.blocks q.at in
    record (silent (with_block q.at (record b { variables = vars }) w) left) {
      lines = record { key = k; taken = true; at = q.at; event = q.name; values = bound ns vars } ∷ [];
    }

-- ---- Emission

-- where an event goes from a port: a local event, or a message if the target is in another resource
abbrev pub spread : System → (resource : ℕ) → List (Port × Value) → List Port → List Out
spread sys r carried [] = []
spread sys r carried (q ∷ qs) =
    (if sys.resource q.at == r then Local q else Sends q carried) ∷ spread sys r carried qs

abbrev pub carried_from : Path → List Bound → List (Port × Value)
carried_from p bs = map (λ b. (record { at = p; name = b.variable }, b.value)) bs

-- the values of some variables changed
abbrev pub with_values : List Bound → Values → Values
with_values [] vars = vars
with_values (b ∷ bs) vars = with_values bs (with_value b.variable b.value vars)

-- The emission of an output event of an instance: its WITH variables are published, it has a line, and it goes where its connections lead, in their order.
abbrev pub emitted : System → Key → Path → Emission → Outcome → Outcome
emitted sys k p e o =
    let b = o.world.blocks p in
    record o {
      world = with_block p (record b { published = with_values e.values b.published }) o.world;
      lines = o.lines ++ record { key = k; taken = false; at = p; event = e.event; values = e.values } ∷ [];
      outs = o.outs ++ spread sys k.resource (carried_from p e.values) (sys.targets (record { at = p; name = e.event }));
    }

abbrev pub emitted_all : System → Key → Path → List Emission → Outcome → Outcome
emitted_all sys k p [] o = o
emitted_all sys k p (e ∷ es) o = emitted_all sys k p es (emitted sys k p e o)

-- ---- Basic blocks

abbrev pub state_of : Memory → Name
state_of (InState s) = s
state_of _ = []

-- where a chart begins its reaction
abbrev pub start_of : Outcome → Path → Position
start_of o p =
    let b = o.world.blocks p in record { state = state_of b.memory; vars = b.variables; left = o.left; emitted = [] }

-- a basic block whose chart has reached a position
abbrev pub settled : Path → Position → Option Reason → Outcome → Outcome
settled p c stop o =
    let b = o.world.blocks p in
    record o { world = with_block p (record b { memory = InState c.state; variables = c.vars }) o.world; left = c.left; stop = stop }

-- a chart has come to rest, and what it emitted on the way goes out
abbrev pub charted : System → Key → Path → Outcome → Position → Option Reason → Outcome
charted sys k p o c stop = emitted_all sys k p c.emitted (settled p c stop o)

-- ---- Event blocks

abbrev pub memory_of : Memory → blocks.Memory
memory_of (Remembers m) = m
memory_of _ = blocks.Idle

abbrev pub emissions : Ports → Values → List Name → List Emission
emissions ports vars es = map (λ e. record { event = e; values = bound (outputs_with ports e) vars }) es

-- an event block, with what it remembers after its reaction
abbrev pub remembered : Path → blocks.Reaction → Outcome → Outcome
remembered p x o =
    let b = o.world.blocks p in
    record o { world = with_block p (record b { memory = Remembers x.memory }) o.world; timer = x.timer }

-- an event block has reacted, and what it emits goes out
abbrev pub answered : System → Key → Path → EventKind → blocks.Reaction → Outcome → Outcome
answered sys k p kind x o =
    emitted_all sys k p (emissions (ports_of (Event kind)) (blocks.output_of x.memory) x.emits) (remembered p x o)

-- ---- Composites

-- An event that arrives at an event input of a composite continues inside.
abbrev pub crossing_in : System → Key → Port → Outcome → Outcome
crossing_in sys k q o = record o { outs = spread sys k.resource [] (sys.targets q) }

-- the output of a composite: what its inner source shows, else it stays
abbrev pub from_inside : System → (resource : ℕ) → World → Path → Values
from_inside sys r w p n =
    elim (sys.source (record { at = p; name = n })) [ None ↦ (w.blocks p).published n | Some s ↦ shown sys r w s ]

-- An event that arrives from inside at an event output copies the WITH outputs and is emitted to the outside.
abbrev pub crossing_out : System → Key → World → Port → Ports → ℕ → Outcome
crossing_out sys k w q ports left =
    emitted sys k q.at (record { event = q.name; values = bound (outputs_with ports q.name) (from_inside sys k.resource w q.at) }) (silent w left)

-- ---- The reaction

-- an event at a port of an instance of that kind
abbrev pub ReactsAt : System → Key → World → Port → ℕ → Option Kind → Outcome → Type 0
ReactsAt sys k w q left None o = o ≡ silent w left
ReactsAt sys k w q left (Some (Basic t)) o =
    let begun = taking sys k w q t.ports left in
    (stop : Option Reason) × (c : Position) × ChartReacts t q.name (start_of begun q.at) stop c × (o ≡ charted sys k q.at begun c stop)
ReactsAt sys k w q left (Some (Event kind)) o =
    let begun = taking sys k w q (ports_of (Event kind)) left in
    let b = begun.world.blocks q.at in
    o ≡ answered sys k q.at kind (blocks.reaction kind (memory_of b.memory) q.name k.tick b.variables) begun
ReactsAt sys k w q left (Some (Composite t)) o =
    o ≡ (if is_event_input t.ports q.name then crossing_in sys k q (taking sys k w q t.ports left)
    else crossing_out sys k w q t.ports left)

-- the timer of an event block
abbrev pub expires : System → Key → World → Path → ℕ → Option Kind → Outcome
expires sys k w p left (Some (Event kind)) =
    answered sys k p kind (blocks.expiry kind (memory_of (w.blocks p).memory) k.tick) (silent w left)
expires sys k w p left _ = silent w left

-- a stimulus sets slots, and a message held copies, before the event samples
abbrev pub with_slots : Path → List Bound → World → World
with_slots p bs w = let b = w.blocks p in with_block p (record b { slots = with_values bs b.slots }) w

abbrev pub hold_all : List (Port × Value) → (Port → Value) → Port → Value
hold_all [] held = held
hold_all (c ∷ cs) held = hold_all cs (with_held c.0 c.1 held)

-- An event is taken under its key, with this number of steps left after that of the event itself.
abbrev pub Reacts : System → Key → World → AnEvent → ℕ → Outcome → Type 0
Reacts sys k w (Stimulated q bs) left o = ReactsAt sys k (with_slots q.at bs w) q left (sys.kind q.at) o
Reacts sys k w (Expired p) left o = o ≡ expires sys k w p left (sys.kind p)
Reacts sys k w (Arrived q cs) left o = ReactsAt sys k (record w { held = hold_all cs w.held }) q left (sys.kind q.at) o
Reacts sys k w (Raised q) left o = ReactsAt sys k w q left (sys.kind q.at) o
