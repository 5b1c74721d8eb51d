-- Where a stop is shown in the declaration (this project's own).
use Rattle.std.specs.Prelude.{◌≡◌, ◌<◌, ◌≤◌, ℕ, length, take, true, false, Option, Some, None, slice_get}
use Rattle.std.specs.List.{filter}
use Rattle.fb_types.specs.Blocks.{Basic}
use Rattle.fb_types.specs.Headline.{Inputs, system_of}
use Rattle.fb_types.specs.Names.{Name, same_name}
use Rattle.fb_types.specs.Numbers.{path_at}
use Rattle.fb_types.specs.declared.library.Action.{Action}
use Rattle.fb_types.specs.declared.library.Algorithm.{Algorithm}
use Rattle.fb_types.specs.declared.library.BasicType.{BasicType}
use Rattle.fb_types.specs.declared.library.BlockType.TheVariants as type
use Rattle.fb_types.specs.declared.library.State.{State}
use Rattle.fb_types.specs.declared.library.Transition.{Transition}
use Rattle.fb_types.specs.declared.run.Target.{Target}
use Rattle.fb_ecc.specs.Indexes.{state_at}
use Rattle.fb_read_positions.specs.declared.position.BasicPart.{BasicPart}
use Rattle.fb_read_positions.specs.declared.position.BasicPart.TheVariants as part
use Rattle.fb_read_positions.specs.declared.position.Position.{Position}
use Rattle.fb_read_positions.specs.declared.position.Position.TheVariants as position
use Rattle.fb_stop.specs.declared.operation.Operation.{Operation}
use Rattle.fb_stop.specs.declared.statement.Anchor.{Anchor}
use Rattle.fb_stop.specs.declared.statement.Anchor.TheVariants.{Beginning, Elsif, Until}
use Rattle.fb_stop.specs.declared.statement.Placed.{Placed}
use Rattle.fb_read_positions.specs.declared.position.TransitionPart.{TransitionPart}
use Rattle.fb_read_positions.specs.declared.position.TransitionPart.TheVariants.{Condition, Guard}
use Rattle.fb_stop.specs.declared.found.EventSite.TheVariants.{Port}
use Rattle.fb_stop.specs.declared.found.FoundStop.{FoundStop}
use Rattle.fb_stop.specs.declared.found.StopSite.TheVariants.{InReaction}
use Rattle.fb_stop.specs.declared.site.Inside.{Inside}
use Rattle.fb_stop.specs.declared.site.Site.{Site}
use Rattle.fb_stop.specs.declared.site.Site.TheVariants as site

-- The transition at an index of the text leaves the state, and this many do before it.
pub record IsNth (t : BasicType) (state : Name) (nth index : ℕ) : Type 0 where
  pub transition : Transition
  pub at : slice_get t.transitions index ≡ Some transition
  pub leaves : same_name transition.from state ≡ true
  pub before : length (filter (λ x. same_name x.from state) (take index t.transitions)) ≡ nth

-- The part of the algorithm at an index from which the tokens of an operation are counted: the statement, or its clause
-- after ELSIF or UNTIL.
abbrev pub part_from : (index statement : ℕ) → Anchor → BasicPart
part_from index n Beginning = part.Statement index n
part_from index n (Elsif k) = part.Clause index n k
part_from index n Until = part.Clause index n 1

-- the part at an operation, or at the statement if no operation is given
abbrev pub part_with : (index statement : ℕ) → Option Placed → BasicPart
part_with index n None = part.Statement index n
part_with index n (Some x) = part_from index n x.anchor

-- The part is the one of the statement of the algorithm at an index, or the algorithm if no statement is said.
abbrev pub IsShown : Option Inside → (index : ℕ) → BasicPart → Type 0
IsShown None index x = x ≡ part.Algorithm index
IsShown (Some i) index x = x ≡ part_with index i.statement i.operation

-- the algorithm at the index is the first that has this name
pub record IsAlgorithmAt (t : BasicType) (n : Name) (index : ℕ) : Type 0 where
  pub algorithm : Algorithm
  pub at : slice_get t.algorithms index ≡ Some algorithm
  pub named : same_name n algorithm.name ≡ true
  pub first : (j : ℕ) (a : Algorithm) → j < index → slice_get t.algorithms j ≡ Some a → same_name n a.name ≡ false

-- no algorithm has this name
abbrev pub HasNoAlgorithm : BasicType → Name → Type 0
HasNoAlgorithm t n = (j : ℕ) (a : Algorithm) → slice_get t.algorithms j ≡ Some a → same_name n a.name ≡ false

-- the part of the algorithm of this name
pub record IsAlgorithmPart (t : BasicType) (n : Name) (inside : Option Inside) (x : BasicPart) : Type 0 where
  pub index : ℕ
  pub there : IsAlgorithmAt t n index
  pub is : IsShown inside index x

-- The part is in the algorithm of the action at an index of a state, or is its event, if it has no algorithm.
abbrev pub IsPartOf : BasicType → (state index : ℕ) → Option Inside → Option Name → BasicPart → Type 0
IsPartOf t s j inside None x = x ≡ part.OutputAlone s j
IsPartOf t s j inside (Some n) x = IsAlgorithmPart t n inside x

pub record IsActionPart (t : BasicType) (s j : ℕ) (inside : Option Inside) (x : BasicPart) : Type 0 where
  pub state : State
  pub there : slice_get t.states s ≡ Some state
  pub action : Action
  pub at : slice_get state.actions j ≡ Some action
  pub is : IsPartOf t s j inside action.algorithm x

-- There is no such action, or its algorithm is none of the type's.
abbrev pub LacksAction : BasicType → (state index : ℕ) → Type 0
LacksAction t s j = (state : State) (action : Action) → slice_get t.states s ≡ Some state → slice_get state.actions j ≡ Some action
    → (n : Name) × (action.algorithm ≡ Some n) × HasNoAlgorithm t n

-- There is no such state, or no such transition leaves it.
abbrev pub LacksTransition : BasicType → (state index : ℕ) → Type 0
LacksTransition t s j = (state : State) → slice_get t.states s ≡ Some state → length (filter (λ x. same_name x.from state.name) t.transitions) ≤ j

-- The site is none of the type's.
abbrev pub LacksSite : BasicType → Site → Type 0
LacksSite t (site.Transition s j operation) = LacksTransition t s j
LacksSite t (site.Action s j inside) = LacksAction t s j

-- a transition is shown at its guard if an operation of it is said, or else at its condition
abbrev pub shown_part : Option Operation → TransitionPart
shown_part None = Condition
shown_part (Some x) = Guard

-- The part of a basic type is the condition of the transition of the site, or the statement, a clause of it, or the
-- algorithm of its action.
abbrev pub IsSitePart : BasicType → Site → BasicPart → Type 0
IsSitePart t (site.Transition s j operation) x = (index : ℕ) × (x ≡ part.Transition index (shown_part operation)) × IsNth t (state_at t s) j index
IsSitePart t (site.Action s j inside) x = IsActionPart t s j inside x

-- The position is that of the site in the type of the block at whose port the event arrives.
pub record IsStopPosition (i : Inputs) (stop : FoundStop) (x : Position) : Type 0 where
  pub target : Target
  pub port : stop.at ≡ Port target
  pub site : Site
  pub reaction : stop.site ≡ InReaction site
  pub index : ℕ
  pub block : BasicType
  pub declared : slice_get i.library.blocks index ≡ Some (type.Basic block)
  pub kind : (system_of i).kind (path_at (system_of i) target.instance) ≡ Some (Basic block)
  pub in_part : BasicPart
  pub is : x ≡ position.InBasic index in_part
  pub part_is : IsSitePart block site in_part

-- Where a stop has no position: its event does not arrive at an instance of a basic type, it is in no reaction, or the site is none of the type's.
abbrev pub HasNoPosition : Inputs → FoundStop → Type 0
HasNoPosition i stop = (target : Target) (site : Site) (index : ℕ) (block : BasicType) → stop.at ≡ Port target → stop.site ≡ InReaction site
    → slice_get i.library.blocks index ≡ Some (type.Basic block) → (system_of i).kind (path_at (system_of i) target.instance) ≡ Some (Basic block) → LacksSite block site
