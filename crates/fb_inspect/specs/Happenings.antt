-- What takings do in charts and at ports, and the marks that say so.
use Rattle.std.specs.Prelude.{◌≡◌, ℕ, List, [], ◌∷◌, ◌++◌, slice_get, Contains, Bool, true, false, Some}
use Rattle.fb_types.specs.Blocks.{Basic}
use Rattle.fb_types.specs.Headline.{Inputs, system_of}
use Rattle.fb_types.specs.Systems.{System}
use Rattle.fb_types.specs.declared.library.BasicType.{BasicType}
use Rattle.fb_types.specs.declared.library.BlockType.{BlockType}
use Rattle.fb_types.specs.declared.library.BlockType.TheVariants as block
use Rattle.fb_types.specs.declared.run.Line as run
use Rattle.fb_coverage.specs.Additions.{AddsFlags}
use Rattle.fb_coverage.specs.declared.marks.ChartMarks.{ChartMarks}
use Rattle.fb_coverage.specs.declared.marks.Marks.{Marks}
use Rattle.fb_coverage.specs.declared.marks.PortMarks.{PortMarks}
use Rattle.fb_inspect.specs.walk.Chains.{Piece, Clears_by, Is_lost, Ran, Stops_by, Has, Emits}
use Rattle.fb_inspect.specs.walk.Looks.{Taking}
use Rattle.fb_inspect.specs.Markings.{IsFirstLike, algorithm_number, event_number, state_number}

-- ---- What a piece of a reaction does

-- the state at an index is entered
abbrev pub Enters : BasicType → Piece → ℕ → Type 0
Enters t (Clears_by y) k = state_number t y.to ≡ k
Enters t (Is_lost s) k = ⊥
Enters t (Ran a before after) k = ⊥
Enters t (Stops_by r) k = ⊥
Enters t (Has memory due) k = ⊥
Enters t (Emits emission) k = ⊥

-- the transition at an index clears: of several that are alike, the first
abbrev pub Clears : BasicType → Piece → ℕ → Type 0
Clears t (Clears_by y) k = IsFirstLike t.transitions y k
Clears t (Is_lost s) k = ⊥
Clears t (Ran a before after) k = ⊥
Clears t (Stops_by r) k = ⊥
Clears t (Has memory due) k = ⊥
Clears t (Emits emission) k = ⊥

-- the algorithm at an index runs
abbrev pub Runs : BasicType → Piece → ℕ → Type 0
Runs t (Clears_by y) k = ⊥
Runs t (Is_lost s) k = ⊥
Runs t (Ran a before after) k = algorithm_number t a ≡ k
Runs t (Stops_by r) k = ⊥
Runs t (Has memory due) k = ⊥
Runs t (Emits emission) k = ⊥

-- a transition clears
abbrev pub ClearsSome : Piece → Type 0
ClearsSome (Clears_by y) = Unit {0}
ClearsSome (Is_lost s) = ⊥
ClearsSome (Ran a before after) = ⊥
ClearsSome (Stops_by r) = ⊥
ClearsSome (Has memory due) = ⊥
ClearsSome (Emits emission) = ⊥

-- ---- What a taking does

abbrev pub EntersState : BasicType → Taking → ℕ → Type 0
EntersState t x k = (p : Piece) × Contains x.pieces p × Enters t p k

abbrev pub ClearsTransition : BasicType → Taking → ℕ → Type 0
ClearsTransition t x k = (p : Piece) × Contains x.pieces p × Clears t p k

abbrev pub RunsAlgorithm : BasicType → Taking → ℕ → Type 0
RunsAlgorithm t x k = (p : Piece) × Contains x.pieces p × Runs t p k

abbrev pub TakesEvent : BasicType → Taking → ℕ → Type 0
TakesEvent t x k = event_number t x.first.event ≡ k

-- the event at an index is not lost: it clears a transition
abbrev pub KeepsEvent : BasicType → Taking → ℕ → Type 0
KeepsEvent t x k = (event_number t x.first.event ≡ k) × ((p : Piece) × Contains x.pieces p × ClearsSome p)

-- A taking by a basic block of the declared type at an index does such a thing.
abbrev pub Does : List BlockType → System → (BasicType → Taking → ℕ → Type 0) → Taking → (number part : ℕ) → Type 0
Does blocks sys does x i k =
    (t : BasicType) × (slice_get blocks i ≡ Some (block.Basic t)) × (sys.kind x.first.at ≡ Some (Basic t)) × does t x k

-- One of the takings does.
abbrev pub Happens : List BlockType → System → (BasicType → Taking → ℕ → Type 0) → List Taking → (number part : ℕ) → Type 0
Happens blocks sys does xs i k = (x : Taking) × Contains xs x × Does blocks sys does x i k

-- the line is one of the event input of an instance, where it is taken, or of the event output
abbrev pub IsOfPort : (taken : Bool) → run.Line → (instance event : ℕ) → Type 0
IsOfPort taken l i k = (l.taken ≡ taken) × (l.instance ≡ i) × (l.event ≡ k)

-- one of these lines is of the event input of an instance, where it is taken, or of the event output
abbrev pub IsAtPort : (taken : Bool) → List run.Line → (instance event : ℕ) → Type 0
IsAtPort taken ls i k = (l : run.Line) × Contains ls l × IsOfPort taken l i k

-- ---- Marks

-- Marks of charts are set exactly for what takings do, next to those that were set.
pub record MarkCharts (blocks : List BlockType) (sys : System) (xs : List Taking) (old new : ChartMarks) : Type 0 where
  pub states : AddsFlags (Happens blocks sys EntersState xs) old.states new.states
  pub transitions : AddsFlags (Happens blocks sys ClearsTransition xs) old.transitions new.transitions
  pub algorithms : AddsFlags (Happens blocks sys RunsAlgorithm xs) old.algorithms new.algorithms
  pub taken : AddsFlags (Happens blocks sys TakesEvent xs) old.taken new.taken
  pub clearing : AddsFlags (Happens blocks sys KeepsEvent xs) old.clearing new.clearing

-- Marks of ports are set exactly for these lines, next to those that were set.
pub record MarkPorts (ls : List run.Line) (old new : PortMarks) : Type 0 where
  pub inputs : AddsFlags (IsAtPort true ls) old.inputs new.inputs
  pub outputs : AddsFlags (IsAtPort false ls) old.outputs new.outputs

-- what is gone through: takings, and the lines that they give
pub record History : Type 0 where
  pub takings : List Taking
  pub lines : List run.Line

pub record AreMarkedBy (i : Inputs) (h : History) (old new : Marks) : Type 0 where
  pub charts : MarkCharts i.library.blocks (system_of i) h.takings old.charts new.charts
  pub ports : MarkPorts h.lines old.ports new.ports

-- one after the other
abbrev pub together : List History → History
together [] = record { takings = []; lines = [] }
together (h ∷ hs) = record { takings = h.takings ++ (together hs).takings; lines = h.lines ++ (together hs).lines }
