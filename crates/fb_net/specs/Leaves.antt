-- How a leaf reacts among the blocks of its resource (IEC 61499-1, 5.2.2; event blocks are this project's profile).
use Rattle.std.specs.Prelude.{◌≡◌, ℕ, List, [], map, Option, Some, None, Result, Ok, Err, OnOk, All}
use Rattle.fb_types.specs.Blocks.{inputs_with, ports_of_event_block}
use Rattle.fb_types.specs.Charts.{Position, ChartReacts}
use Rattle.fb_types.specs.EventBlocks.{Reaction, reaction, expiry, output_of}
use Rattle.fb_types.specs.Headline.{Inputs, system_of}
use Rattle.fb_types.specs.Numbers.{path_at, event_at, emission_of, pair_up}
use Rattle.fb_types.specs.Reactions.{World, state_of, memory_of, emissions, with_values}
use Rattle.fb_types.specs.States.{InState, Remembers}
use Rattle.fb_types.specs.States as model
use Rattle.fb_types.specs.declared.event_kind.EventKind.{EventKind}
use Rattle.fb_types.specs.declared.library.BasicType.{BasicType}
use Rattle.fb_types.specs.declared.run.Emission as run
use Rattle.fb_types.specs.declared.run.Halt.{Halt}
use Rattle.fb_types.specs.declared.run.Halt.TheVariants as halt
use Rattle.fb_types.specs.declared.run.Target.{Target}
use Rattle.fb_types.specs.declared.run.TimerAsk.{TimerAsk}
use Rattle.fb_types.specs.declared.value.Reason.{Reason}
use Rattle.fb_types.specs.declared.value.Value.{Value}
use Rattle.fb_st.specs.Frames.{values_of}
use Rattle.fb_ecc.specs.Indexes.{Ended, IsBlockOf, sampled, index as chart_at}
use Rattle.fb_ecc.specs.declared.state.BasicState.{BasicState}
use Rattle.fb_event.specs.Reactions.{FitInputs, IsWellFormed, emissions_of, meanings}
use Rattle.fb_event.specs.State.{State}
use Rattle.fb_net.specs.Changes.{block_in, with_instance}
use Rattle.fb_net.specs.Trees.{block_at}
use Rattle.fb_net.specs.Worlds.{InForest, IsForest, input_names}
use Rattle.fb_net.specs.declared.block.Block.{Block}
use Rattle.fb_net.specs.declared.block.Block.TheVariants as block
use Rattle.fb_net.specs.declared.resource.Forest.{Forest}

-- The blocks represent a world, in which the instance is in the resource.
abbrev pub IsOne : Inputs → Forest → (instance : ℕ) → Type 0
IsOne i f k = (w : World) × IsForest i f w × InForest i f k

-- ---- Basic blocks

-- where a chart begins, with the sampled values of the variables WITH the event
abbrev pub chart_start : BasicType → model.Block → (event : ℕ) → List Value → (left : ℕ) → Position
chart_start t b e values left =
    record {
      state = state_of b.memory;
      vars = with_values (pair_up (inputs_with t.ports (event_at t.ports.event_inputs e)) values) b.variables;
      left = left;
      emitted = [];
    }

-- the block where its chart is at a position
abbrev pub charted_block : Position → model.Block → model.Block
charted_block c b = record b { memory = InState c.state; variables = c.vars }

-- A basic block has reacted: its chart came to a position, for a reason to stop or none, and emitted so.
pub record ChartCame (i : Inputs) (old : Forest) (at : Target) (t : BasicType) (values : List Value) (before : ℕ) (stop : Option Reason) (new : Forest) (after : ℕ) (emits : List run.Emission) (w : World) : Type 0 where
  pub index : Position
  pub reacts : ChartReacts t (event_at t.ports.event_inputs at.event) (chart_start t (block_in i w at.instance) at.event values before) stop index
  pub represents : IsForest i new (with_instance i at.instance (charted_block index (block_in i w at.instance)) w)
  pub left : after ≡ index.left
  pub emitted : map (emission_of t.ports) emits ≡ index.emitted

abbrev pub EachWorld : Inputs → Forest → Target → (World → Type 0) → Type 0
EachWorld i f at holds = (w : World) → IsForest i f w → InForest i f at.instance → holds w

-- How the reaction of a basic block ended. If memory ran out, nothing is said.
abbrev pub ChartEnded : Inputs → Forest → Target → BasicType → List Value → (before : ℕ) → Result (Unit {0}) Halt → Forest → (after : ℕ) → List run.Emission → Type 0
ChartEnded i old at t values before (Ok _) new after emits = EachWorld i old at (ChartCame i old at t values before None new after emits)
ChartEnded i old at t values before (Err (halt.Stop r)) new after emits = EachWorld i old at (ChartCame i old at t values before (Some r) new after emits)
ChartEnded i old at t values before (Err halt.Memory) new after emits = Unit {0}

-- A basic block of a type rests on a way, in a state from which its chart can go on.
pub record IsReadyAt (t : BasicType) (blocks : List Block) (way : List ℕ) : Type 0 where
  pub basic : BasicState
  pub stood : block_at blocks way ≡ Some (block.Basic basic)
  pub ready : IsBlockOf t basic

-- A block has reacted by the chart of its type.
pub record HasCharted (t : BasicType) (event : ℕ) (values : List Value) (before : ℕ) (emitted : List run.Emission) (after : ℕ) (emits : List run.Emission) (was : Block) (r : Result (Unit {0}) Halt) (is : Block) : Type 0 where
  pub basic : BasicState
  pub state : BasicState
  pub was_basic : was ≡ block.Basic basic
  pub is_basic : is ≡ block.Basic state
  pub reacted : Ended r (ChartReacts t (event_at t.ports.event_inputs event)) (record (chart_at t basic.state basic.frame before emitted) { vars = sampled t event values (values_of basic.frame) })
      (chart_at t state.state state.frame after emits)
  pub ready : IsBlockOf t state

-- ---- Event blocks

-- An event block rests on a way.
abbrev pub IsEventAt : List Block → (way : List ℕ) → Type 0
IsEventAt blocks way = (s : State) × (block_at blocks way ≡ Some (block.Event s))

-- An event block rests on a way, and the samples of its data inputs are of their types.
pub record IsTypedAt (inputs : List Value) (blocks : List Block) (way : List ℕ) : Type 0 where
  pub state : State
  pub stood : block_at blocks way ≡ Some (block.Event state)
  pub typed : FitInputs state.kind inputs

-- An event block remembers, asks and emits what a reaction says.
pub record HasAnswered (kind : EventKind) (x : Reaction) (s : State) (ask : TimerAsk) (emits : List run.Emission) : Type 0 where
  pub memory : s.memory ≡ x.memory
  pub timer : ask ≡ x.timer
  pub sent : meanings kind emits ≡ emissions_of kind x

-- An event block has reacted. How it turns says what the reaction is, by what it remembered.
pub record HasTurned (turn : State → Reaction) (ask : TimerAsk) (emits : List run.Emission) (was : Block) (r : Result (Unit {0}) Halt) (is : Block) : Type 0 where
  pub event : State
  pub state : State
  pub was_event : was ≡ block.Event event
  pub is_event : is ≡ block.Event state
  pub answered : OnOk r (HasAnswered event.kind (turn event) state ask emits)
  pub kind : state.kind ≡ event.kind
  pub well_formed : All (IsWellFormed event.kind) emits

abbrev pub remembering_block : Reaction → model.Block → model.Block
remembering_block x b = record b { memory = Remembers x.memory }

-- An event block has reacted so, and asks this of its timer.
pub record EventCame (i : Inputs) (k : ℕ) (kind : EventKind) (x : Reaction) (new : Forest) (ask : TimerAsk) (emits : List run.Emission) (w : World) : Type 0 where
  pub represents : IsForest i new (with_instance i k (remembering_block x (block_in i w k)) w)
  pub timer : ask ≡ x.timer
  pub emitted : map (emission_of (ports_of_event_block kind)) emits ≡ emissions (ports_of_event_block kind) (output_of x.memory) x.emits

abbrev pub taken_reaction : Inputs → EventKind → Target → (tick : ℕ) → World → Reaction
taken_reaction i kind at tick w =
    let b = block_in i w at.instance in
    reaction kind (memory_of b.memory) (event_at (ports_of_event_block kind).event_inputs at.event) tick b.variables

abbrev pub expiry_reaction : Inputs → EventKind → (instance tick : ℕ) → World → Reaction
expiry_reaction i kind k tick w = expiry kind (memory_of (block_in i w k).memory) tick

-- The values of the data inputs of an event block are of their types.
abbrev pub HasTypedInputs : Inputs → EventKind → (instance : ℕ) → World → Type 0
HasTypedInputs i kind k w =
    FitInputs kind (map (block_in i w k).variables (input_names (system_of i) (path_at (system_of i) k)))
