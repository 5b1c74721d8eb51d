-- What is marked as covered while a trace is gone through.
use Rattle.std.specs.Prelude.{◌≡◌, ◌≢◌, ◌<◌, ℕ, zero, suc, List, [], ◌∷◌, length, slice_get, unwrap_or, Option, Some, None}
use Rattle.std.specs.List.{position}
use Rattle.fb_types.specs.Blocks.{Kind, Basic, Event, Composite}
use Rattle.fb_types.specs.Names.{Name, same_name}
use Rattle.fb_types.specs.Systems.{System}
use Rattle.fb_types.specs.declared.library.BasicType.{BasicType}
use Rattle.fb_types.specs.declared.library.BlockType.{BlockType}
use Rattle.fb_types.specs.declared.library.BlockType.TheVariants as block
use Rattle.fb_types.specs.declared.library.Transition.{Transition}
use Rattle.fb_types.specs.declared.run.Line.{Line}
use Rattle.fb_ecc.specs.Numbered.{number_in}
use Rattle.fb_coverage.specs.Sets.{with_cleared, with_lost, with_port, with_ran, with_taken}
use Rattle.fb_coverage.specs.declared.marks.ChartMarks.{ChartMarks}
use Rattle.fb_coverage.specs.declared.marks.PortMarks.{PortMarks}
use Rattle.fb_inspect.specs.walk.Chains.{Piece, Clears_by, Is_lost, Ran, Stops_by, Has, Emits}
use Rattle.fb_inspect.specs.walk.Looks.{Taking}

-- ---- Ports

-- the ports of lines
abbrev pub lines_marked : List Line → PortMarks → PortMarks
lines_marked [] m = m
lines_marked (l ∷ ls) m = lines_marked ls (with_port l.instance l.taken l.event m)

-- ---- Charts

-- the index of a state, or the number of them where none has this name
abbrev pub state_number : BasicType → Name → ℕ
state_number t n = number_in (λ s. s.name) t.states n

-- the index of an event input, or the number of them where none has this name
abbrev pub event_number : BasicType → Name → ℕ
event_number t n = number_in (λ p. p.name) t.ports.event_inputs n

-- The transition is at this index, and none before it is like it.
abbrev pub IsFirstLike : List Transition → Transition → ℕ → Type 0
IsFirstLike xs y k = (slice_get xs k ≡ Some y) × ((j : ℕ) → j < k → slice_get xs j ≢ Some y)

-- the index of an algorithm, or the number of them where none has this name
abbrev pub algorithm_number : BasicType → Name → ℕ
algorithm_number t a = unwrap_or (position (λ g. same_name g.name a) t.algorithms) (length t.algorithms)

-- the algorithm of an action, which may have none, and of which no more is done where no step is left
abbrev pub with_ran_by : BasicType → (number : ℕ) → Option Name → (left : ℕ) → ChartMarks → ChartMarks
with_ran_by t i None left m = m
with_ran_by t i (Some a) zero m = m
with_ran_by t i (Some a) (suc left) m = with_ran i (algorithm_number t a) m

-- the end of a chain: an event is lost where one was present
abbrev pub with_lost_if : {A : Type 0} → (present : Option A) → ChartMarks → ChartMarks
with_lost_if None m = m
with_lost_if (Some e) m = with_lost m

-- A piece of what a block of the type does, which has this number, after it took the event at this index. A transition is
-- marked by its index: of several that are alike it is the first that clears.
abbrev pub PieceMarks : BasicType → (number event : ℕ) → Piece → ChartMarks → ChartMarks → Type 0
PieceMarks t i e (Clears_by y) m n = (k : ℕ) × IsFirstLike t.transitions y k × (n ≡ with_cleared i k (state_number t y.to) e m)
PieceMarks t i e (Is_lost s) m n = n ≡ with_lost m
PieceMarks t i e (Ran a before after) m n = n ≡ with_ran i (algorithm_number t a) m
PieceMarks t i e (Stops_by r) m n = n ≡ m
PieceMarks t i e (Has memory due) m n = n ≡ m
PieceMarks t i e (Emits emission) m n = n ≡ m

abbrev pub PiecesMark : BasicType → (number event : ℕ) → List Piece → ChartMarks → ChartMarks → Type 0
PiecesMark t i e [] m n = n ≡ m
PiecesMark t i e (p ∷ ps) m n = (o : ChartMarks) × PieceMarks t i e p m o × PiecesMark t i e ps o n

-- a basic block of a declared type took an event
pub record ChartMarked (blocks : List BlockType) (t : BasicType) (x : Taking) (m n : ChartMarks) : Type 0 where
  pub number : ℕ
  pub type_is : slice_get blocks number ≡ Some (block.Basic t)
  pub pieces : let e = event_number t x.first.event in PiecesMark t number e x.pieces (with_taken number e m) n

abbrev pub TakingMarksAt : List BlockType → Option Kind → Taking → ChartMarks → ChartMarks → Type 0
TakingMarksAt blocks None x m n = n ≡ m
TakingMarksAt blocks (Some (Basic t)) x m n = ChartMarked blocks t x m n
TakingMarksAt blocks (Some (Event k)) x m n = n ≡ m
TakingMarksAt blocks (Some (Composite t)) x m n = n ≡ m

abbrev pub TakingMarks : List BlockType → System → Taking → ChartMarks → ChartMarks → Type 0
TakingMarks blocks sys x m n = TakingMarksAt blocks (sys.kind x.first.at) x m n

abbrev pub TakingsMark : List BlockType → System → List Taking → ChartMarks → ChartMarks → Type 0
TakingsMark blocks sys [] m n = n ≡ m
TakingsMark blocks sys (x ∷ xs) m n = (o : ChartMarks) × TakingMarks blocks sys x m o × TakingsMark blocks sys xs o n
