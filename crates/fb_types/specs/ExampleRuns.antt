-- Worked examples: the runs of a chart and a loop, step by step (IEC 61499-1, 5.2.2 and IEC 61131-3, 7.3.3; the count of
-- steps is this project's profile).
use Rattle.std.specs.Prelude.{◌≡◌, ℕ, ◌+◌, List, [], ◌∷◌, Option, Some, pos, codes}
use Rattle.fb_types.specs.Names.{Name, with_value}
use Rattle.fb_types.specs.Syntax.{Whole, For, Empty, Stmts, no_stmt, then_stmts}
use Rattle.fb_types.specs.Values.{Values, Types}
use Rattle.fb_types.specs.Bodies.{Point, End, Went, Stopped, RunsBody}
use Rattle.fb_types.specs.Blocks.{types_of, Emission}
use Rattle.fb_types.specs.Charts.{Position, ChartReacts}
use Rattle.fb_types.specs.Examples.{looper_type}
use Rattle.fb_types.specs.ExampleBodies.{calc_type, counting}
use Rattle.fb_types.specs.declared.library.BasicType.{BasicType}
use Rattle.fb_types.specs.declared.value.Reason.{Reason}
use Rattle.fb_types.specs.declared.value.Reason.TheVariants.{Steps}
use Rattle.fb_types.specs.declared.value.Value.TheVariants as value

-- ---- FOR X := 32766 TO 32767 DO ; END_FOR, where X is an INT: the loop ends at the greatest value of the type

abbrev pub counting_loop : Stmts
counting_loop =
    then_stmts (For (codes "X") (Whole (pos 32766)) (Whole (pos 32767)) (Whole (pos 1)) (then_stmts Empty no_stmt)) no_stmt

abbrev pub calc_types : Types
calc_types = types_of (calc_type counting)

abbrev pub point : Values → ℕ → Point
point vars left = record { vars = vars; left = left }

-- X is 32766 and then 32767
abbrev pub counted : Values → Values
counted vars = with_value (codes "X") (value.Whole (pos 32767)) (with_value (codes "X") (value.Whole (pos 32766)) vars)

-- A run of a body from one point ends this way at another, and every run from that point does.
abbrev pub IsOnlyRun : Types → Stmts → Point → End → Point → Type 0
IsOnlyRun types body p e q =
    RunsBody types body p e q × ((f : End) (s : Point) → RunsBody types body p f s → (f ≡ e) × (s ≡ q))

-- It takes five steps: the statement, and twice an iteration and the empty statement.
abbrev pub CountsInFive : Type 0
CountsInFive = (vars : Values) (left : ℕ) → IsOnlyRun calc_types counting_loop (point vars (left + 5)) Went (point (counted vars) left)

-- Four steps are not enough: the second iteration begins, and its statement would be the fifth.
abbrev pub StopsInFour : Type 0
StopsInFour = (vars : Values) → IsOnlyRun calc_types counting_loop (point vars 4) (Stopped Steps) (point (counted vars) 0)

-- ---- The chart without a resting state

abbrev pub index : Name → Values → ℕ → List Emission → Position
index s vars left es = record { state = s; vars = vars; left = left; emitted = es }

abbrev pub ticked : Emission
ticked = record { event = codes "TICKED"; values = [] }

-- A chart moves from one position to another by an event, and every reaction from there does.
abbrev pub IsOnlyReaction : BasicType → Name → Position → Option Reason → Position → Type 0
IsOnlyReaction t e p stop q =
    ChartReacts t e p stop q × ((s : Option Reason) (r : Position) → ChartReacts t e p s r → (s ≡ stop) × (r ≡ q))

-- With nine steps left after that of the event it clears five transitions and emits four times. The fifth action would be
-- the tenth step.
abbrev pub EmitsFourTimes : Type 0
EmitsFourTimes =
    (vars : Values) → IsOnlyReaction looper_type (codes "GO") (index (codes "IDLE") vars 9 []) (Some Steps)
    (index (codes "BUSY") vars 0 (ticked ∷ ticked ∷ ticked ∷ ticked ∷ []))
