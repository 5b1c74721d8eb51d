-- What the blocks of a system remember at a line of a trace, as far as the lines before it show it. That is the memory and the
-- variables of the model's blocks, the ticks at which timers go off, and the steps that each resource has made in its last tick.
use Rattle.std.specs.Prelude.{◌≡◌, ◌≤◌, ◌^◌, ◌⊎◌, ℕ, zero, suc, min, nat_eq, ◌&&◌, List, [], ◌∷◌, ◌++◌, map, Bool, true, false, if◌then◌else◌, Option, Some, None}
use Rattle.fb_types.specs.Names.{Name, Path, same_path}
use Rattle.fb_types.specs.Values.{Values, same_truth}
use Rattle.fb_types.specs.Blocks.{Kind, Basic, Event, Composite, Emission, ports_of}
use Rattle.fb_types.specs.Charts.{Position}
use Rattle.fb_types.specs.EventBlocks as blocks
use Rattle.fb_types.specs.Reactions.{state_of, memory_of, emissions, with_values}
use Rattle.fb_types.specs.Simulation.{opening_block}
use Rattle.fb_types.specs.States.{Memory, InState, Remembers, Line}
use Rattle.fb_types.specs.Systems.{System}
use Rattle.fb_types.specs.Takes.{with_at, is_tick}
use Rattle.fb_types.specs.Text.{line_text}
use Rattle.fb_types.specs.declared.event_kind.EventKind.{EventKind}
use Rattle.fb_types.specs.declared.event_kind.EventKind.TheVariants.{Restart}
use Rattle.fb_types.specs.declared.key.Key.{Key}
use Rattle.fb_types.specs.declared.library.BasicType.{BasicType}
use Rattle.fb_types.specs.declared.run.Form.{Form}
use Rattle.fb_types.specs.declared.run.TimerAsk.{TimerAsk}
use Rattle.fb_types.specs.declared.run.TimerAsk.TheVariants.{Keep, Clear, At}
use Rattle.fb_types.specs.declared.value.Reason.{Reason}
use Rattle.fb_inspect.specs.walk.Chains.{Piece, Clears_by, Is_lost, Ran, Stops_by, Has, Emits, ShowsReaction}
use Rattle.fb_inspect.specs.walk.Notes.{cleared_note, lost_note, ran_note, stopped_note, memory_note}

-- what one block remembers
pub record Seen : Type 0 where
  pub memory : Memory
  pub variables : Values
  pub due : Option ℕ

-- the greatest limit of steps of a resource in a tick that a run may have
abbrev pub most : ℕ
most = 10000000

-- the tick in which a resource was last, with the steps that are left there, and the fewest that were left after a taking
pub record Left : Type 0 where
  pub tick : Option ℕ
  pub left : ℕ
  pub least : ℕ

pub record Look : Type 0 where
  pub blocks : Path → Seen
  pub steps : (resource : ℕ) → Left

-- ---- Before the first event

abbrev pub first_due : Option Kind → Option ℕ
first_due (Some (Event Restart)) = Some 0
first_due _ = None

abbrev pub opening_look : System → Look
opening_look sys =
    record {
      blocks = λ p. let b = opening_block sys p in record { memory = b.memory; variables = b.variables; due = first_due (sys.kind p) };
      steps = λ r. record { tick = None; left = 0; least = most };
    }

-- ---- Changes

abbrev pub with_seen : Path → Seen → Look → Look
with_seen p b look = record look { blocks = λ q. if same_path q p then b else look.blocks q }

-- the steps that are left of a limit before an event is taken at a tick
abbrev pub left_at : (limit tick : ℕ) → Left → ℕ
left_at limit tick l = if is_tick l.tick tick then l.left else limit

abbrev pub with_left : Key → (left : ℕ) → Look → Look
with_left k left look =
    record look { steps = with_at k.resource (record { tick = Some k.tick; left = left; least = min (look.steps k.resource).least left }) look.steps }

abbrev pub due_after : TimerAsk → Option ℕ → Option ℕ
due_after Keep due = due
due_after Clear due = None
due_after (At t) due = Some t

-- ---- Texts

-- the line of an emission of the block that has this line
abbrev pub emission_line : Line → Emission → Line
emission_line l e = record l { taken = false; event = e.event; values = e.values }

abbrev pub ran_by : Option Kind → Name → (before after : Values) → List ℕ
ran_by (Some (Basic t)) a before after = ran_note t a before after
ran_by _ a before after = []

-- a piece of what is reported of the block that has this line
abbrev pub piece_text : Form → System → Line → Piece → List ℕ
piece_text form sys l (Clears_by t) = cleared_note t
piece_text form sys l (Is_lost s) = lost_note s
piece_text form sys l (Ran a before after) = ran_by (sys.kind l.at) a before after
piece_text form sys l (Stops_by r) = stopped_note r
piece_text form sys l (Has m due) = memory_note m due
piece_text form sys l (Emits e) = line_text form sys (emission_line l e)

abbrev pub pieces_text : Form → System → Line → List Piece → List ℕ
pieces_text form sys l [] = []
pieces_text form sys l (x ∷ xs) = piece_text form sys l x ++ pieces_text form sys l xs

-- ---- What an event block shows

abbrev pub same_memory : blocks.Memory → blocks.Memory → Bool
same_memory blocks.Idle blocks.Idle = true
same_memory (blocks.Marks a b) (blocks.Marks c d) = same_truth a c && same_truth b d
same_memory (blocks.Flag a) (blocks.Flag b) = same_truth a b
same_memory (blocks.Running s) (blocks.Running t) = nat_eq s t
same_memory (blocks.Count n p) (blocks.Count m q) = nat_eq n m && same_truth p q
same_memory m n = false

abbrev pub same_tick : Option ℕ → Option ℕ → Bool
same_tick None None = true
same_tick (Some s) (Some t) = nat_eq s t
same_tick s t = false

-- the tick at which the timer goes off, where it runs
abbrev pub due_of : blocks.Memory → (due : Option ℕ) → Option ℕ
due_of (blocks.Running time) due = due
due_of m due = None

-- what an event block remembers, where that is not what it remembered before
abbrev pub memory_pieces : (before after : Seen) → List Piece
memory_pieces before after =
    let m = memory_of before.memory in
    let n = memory_of after.memory in
    if same_memory m n && same_tick (due_of m before.due) (due_of n after.due) then [] else Has n (due_of n after.due) ∷ []

abbrev pub emits_pieces : List Emission → List Piece
emits_pieces es = map (λ e. Emits e) es

-- ---- One taking

-- A taking, by the lines that it gives: the first, and those after it. It goes from one look to another, and this is reported.
pub record Taking : Type 0 where
  pub first : Line
  pub emits : List Emission
  pub pieces : List Piece
  pub stop : Option Reason
  pub after : Look

-- a basic block reacts: its variables WITH the event are what the line says
pub record IsTakingByChart (left : ℕ) (look : Look) (t : BasicType) (x : Taking) : Type 0 where
  pub taken : x.first.taken ≡ true
  pub end : Position
  pub shown :
      ShowsReaction t x.first.event
      (record {
        state = state_of (look.blocks x.first.at).memory;
        vars = with_values x.first.values (look.blocks x.first.at).variables;
        left = left;
        emitted = [];
      })
      x.stop end x.pieces
  pub emitted : x.emits ≡ end.emitted
  pub is :
      x.after ≡ with_seen x.first.at (record (look.blocks x.first.at) { memory = InState end.state; variables = end.vars }) (with_left x.first.key end.left look)

-- an event block with what it remembers after a reaction
abbrev pub reacted : Seen → blocks.Reaction → Values → (due : Option ℕ) → Seen
reacted b r vars due = record b { memory = Remembers r.memory; variables = vars; due = due_after r.timer due }

abbrev pub emissions_by : EventKind → blocks.Reaction → List Emission
emissions_by kind r = emissions (ports_of (Event kind)) (blocks.output_of r.memory) r.emits

-- an event block reacts to an event
pub record IsTakingByBlock (left : ℕ) (look : Look) (kind : EventKind) (x : Taking) : Type 0 where
  pub taken : x.first.taken ≡ true
  pub goes_on : x.stop ≡ None
  pub is :
      let b = look.blocks x.first.at in
      let vars = with_values x.first.values b.variables in
      let r = blocks.reaction kind (memory_of b.memory) x.first.event x.first.key.tick vars in
      let c = reacted b r vars b.due in
      (x.emits ≡ emissions_by kind r) × (x.pieces ≡ memory_pieces b c ++ emits_pieces x.emits)
      × (x.after ≡ with_seen x.first.at c (with_left x.first.key left look))

-- The timer of an event block goes off: its first line is that of an emission.
pub record IsTakingByTimer (left : ℕ) (look : Look) (kind : EventKind) (x : Taking) : Type 0 where
  pub emitted : x.first.taken ≡ false
  pub due : (look.blocks x.first.at).due ≡ Some x.first.key.tick
  pub goes_on : x.stop ≡ None
  pub is :
      let b = look.blocks x.first.at in
      let r = blocks.expiry kind (memory_of b.memory) x.first.key.tick in
      let c = reacted b r b.variables None in
      (record { event = x.first.event; values = x.first.values } ∷ x.emits ≡ emissions_by kind r) × (x.pieces ≡ memory_pieces b c ++ emits_pieces x.emits)
      × (x.after ≡ with_seen x.first.at c (with_left x.first.key left look))

-- an event comes to a composite or leaves one: no block reacts
pub record IsTakingByComposite (left : ℕ) (look : Look) (x : Taking) : Type 0 where
  pub none : x.emits ≡ []
  pub silent : x.pieces ≡ []
  pub goes_on : x.stop ≡ None
  pub is : x.after ≡ with_left x.first.key left look

abbrev pub IsTakingAt : (left : ℕ) → Look → Option Kind → Taking → Type 0
IsTakingAt left look None x = ⊥
IsTakingAt left look (Some (Basic t)) x = IsTakingByChart left look t x
IsTakingAt left look (Some (Event kind)) x = IsTakingByBlock left look kind x ⊎ IsTakingByTimer left look kind x
IsTakingAt left look (Some (Composite t)) x = IsTakingByComposite left look x

-- Each taking costs a step, and no tick is later than the latest one that a run may have.
abbrev pub IsTakingWith : System → Look → (left : ℕ) → Taking → Type 0
IsTakingWith sys look zero x = ⊥
IsTakingWith sys look (suc left) x = (x.first.key.tick ≤ 10 ^ 12) × IsTakingAt left look (sys.kind x.first.at) x

abbrev pub IsTaking : System → (limit : ℕ) → Look → Taking → Type 0
IsTaking sys limit look x = IsTakingWith sys look (left_at limit x.first.key.tick (look.steps x.first.key.resource)) x

-- the lines of a taking, and its text
abbrev pub taking_lines : Taking → List Line
taking_lines x = x.first ∷ map (emission_line x.first) x.emits

abbrev pub taking_text : Form → System → Taking → List ℕ
taking_text form sys x = line_text form sys x.first ++ pieces_text form sys x.first x.pieces
