-- How the reaction of a basic block is gone through in a trace (this project's own).
use Rattle.std.specs.Prelude.{◌≡◌, ◌<◌, ℕ, List, [], ◌++◌, map, length, slice_get, true, Option, Some, None}
use Rattle.fb_types.specs.Blocks.{Basic, Emission, variable_names}
use Rattle.fb_types.specs.Charts.{Position}
use Rattle.fb_types.specs.Headline.{system_of}
use Rattle.fb_types.specs.Names.{Name}
use Rattle.fb_types.specs.Numbers.{line_of, path_at}
use Rattle.fb_types.specs.Systems.{System}
use Rattle.fb_types.specs.declared.library.BasicType.{BasicType}
use Rattle.fb_types.specs.declared.library.BlockType.TheVariants as block
use Rattle.fb_types.specs.declared.run.Line.{Line}
use Rattle.fb_types.specs.declared.value.Reason.{Reason}
use Rattle.fb_ecc.specs.Indexes.{IsBlockOf, index}
use Rattle.fb_ecc.specs.Sound.{IsSound}
use Rattle.fb_wave.specs.Lines.{IsLineOf}
use Rattle.fb_inspect.specs.walk.Chains.{Piece, Showing, ShowsChain}
use Rattle.fb_inspect.specs.walk.Looks.{emission_line, pieces_text}
use Rattle.fb_inspect.specs.Markings.{PiecesMark}
use Rattle.fb_inspect.specs.walk.Moves.{Goes, StaysAlone, shown_text}
use Rattle.fb_inspect.specs.walk.Notes.{hidden_variables, own_variables}
use Rattle.fb_inspect.specs.declared.walk.blocks.Chart.{Chart}
use Rattle.fb_inspect.specs.declared.walk.charts.ChartTaking.{ChartTaking}
use Rattle.fb_inspect.specs.declared.walk.charts.Linked.{Linked}
use Rattle.fb_inspect.specs.declared.walk.charts.Linked.TheVariants.{Went, Rested, Stopped}
use Rattle.fb_inspect.specs.declared.walk.trail.Trail.{Trail}

-- the system of a taking
abbrev pub sys_of : ChartTaking → System
sys_of x = system_of x.fixed.table.now.system.now

-- A block of the type takes an event in a line of the system.
pub record IsChartTaking (x : ChartTaking) : Type 0 where
  pub line : IsLineOf (sys_of x) x.line.now
  pub taken : x.line.now.taken ≡ true
  pub kind : (sys_of x).kind (path_at (sys_of x) x.line.now.instance) ≡ Some (Basic x.block.now)
  pub sound : IsSound x.block.now
  pub number : slice_get x.fixed.table.now.system.now.library.blocks x.number ≡ Some (block.Basic x.block.now)
  pub event : x.line.now.event < length x.block.now.ports.event_inputs

-- What is kept of a basic block is a block of the type, with the variables that its algorithms change, and those that no line carries.
pub record IsChartOf (t : BasicType) (c : Chart) : Type 0 where
  pub block : IsBlockOf t c.state
  pub own : c.own.items ≡ own_variables t
  pub hidden : c.hidden.items ≡ variable_names (hidden_variables t)

-- the position of a chart with these steps left, with nothing emitted
abbrev pub place : BasicType → Chart → (left : ℕ) → Position
place t c left = index t c.state.state c.state.frame left []

-- A movement of the chart was gone through: what it emits is in the lines that were read, what is shown of it was added, and what it
-- covers was marked.
pub record ChartGoes (x : ChartTaking) (S : Showing) (p : Position) (stop : Option Reason) (q : Position) (old new : Trail) (left after : Option (List ℕ)) : Type 0 where
  pub emits : List Emission
  pub pieces : List Piece
  pub shows : S p stop (record q { emitted = emits }) pieces
  pub lines : List Line
  pub are : map (line_of (sys_of x)) lines ≡ map (emission_line (line_of (sys_of x) x.line.now)) emits
  pub goes : Goes (sys_of x) x.fixed.form x.line.now.key.tick lines (shown_text old.is_shown (pieces_text x.fixed.form (sys_of x) (line_of (sys_of x) x.line.now) pieces)) old new left after
  pub marked : PiecesMark x.block.now x.number x.line.now.event pieces old.marks.charts new.marks.charts
  pub alone : StaysAlone old.reading new.reading left after

-- ---- Links

-- A part of a movement was gone through: what goes on from there as the second, goes on from here as the first.
pub record StepGoes (x : ChartTaking) (S : Showing) (p : Position) (R : Showing) (m : Position) (old new : Trail) (left after : Option (List ℕ)) : Type 0 where
  pub emits : List Emission
  pub pieces : List Piece
  pub shows :
      (stop : Option Reason) (q : Position) (fs : List Emission) (qs : List Piece) → R m stop (record q { emitted = fs }) qs
      → S p stop (record q { emitted = emits ++ fs }) (pieces ++ qs)
  pub lines : List Line
  pub are : map (line_of (sys_of x)) lines ≡ map (emission_line (line_of (sys_of x) x.line.now)) emits
  pub goes : Goes (sys_of x) x.fixed.form x.line.now.key.tick lines (shown_text old.is_shown (pieces_text x.fixed.form (sys_of x) (line_of (sys_of x) x.line.now) pieces)) old new left after
  pub marked : PiecesMark x.block.now x.number x.line.now.event pieces old.marks.charts new.marks.charts
  pub alone : StaysAlone old.reading new.reading left after

abbrev pub HasLinked : ChartTaking → (present : Option Name) → (p m : Position) → (old new : Trail) → (left after : Option (List ℕ)) → Linked → Type 0
HasLinked x present p m old new left after Went = StepGoes x (ShowsChain x.block.now present) p (ShowsChain x.block.now None) m old new left after
HasLinked x present p m old new left after Rested = ChartGoes x (ShowsChain x.block.now present) p None m old new left after
HasLinked x present p m old new left after (Stopped r) = ChartGoes x (ShowsChain x.block.now present) p (Some r) m old new left after
