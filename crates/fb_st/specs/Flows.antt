-- What the answer of a run says, and where a run is (this project's profile).
use Rattle.std.specs.Prelude.{suc, List, Result, Ok, Err, map}
use Rattle.fb_types.specs.Syntax.{Stmt, Stmts, stmts, stmt_of, stmt_step, branch_step, choice_step, expr_of, choices, branches, Choices, Branches}
use Rattle.fb_types.specs.Syntax as syntax
use Rattle.fb_types.specs.Bodies.{Point, End, Went, Left, Returned, Stopped}
use Rattle.fb_types.specs.declared.text.Label.{Label}
use Rattle.fb_types.specs.declared.text.Stmt as read_stmt
use Rattle.fb_types.specs.declared.text.Choice.{Choice, fold-Choice}
use Rattle.fb_types.specs.declared.text.Branch.{Branch, fold-Branch}
use Rattle.fb_types.specs.declared.value.Reason.{Reason}
use Rattle.fb_st.specs.Frames.{values_of}
use Rattle.fb_st.specs.declared.frame.Slot.{Slot}
use Rattle.fb_st.specs.declared.meter.Meter.{Meter}
use Rattle.fb_st.specs.declared.meter.Flow.{Flow}
use Rattle.fb_st.specs.declared.meter.Flow.TheVariants as flow

abbrev pub end_of : Result Flow Reason → End
end_of (Ok flow.Went) = Went
end_of (Ok flow.Left) = Left
end_of (Ok flow.Returned) = Returned
end_of (Err r) = Stopped r

-- where a run is
abbrev pub point : List Slot → Meter → Point
point slots m = record { vars = values_of slots; left = m.left }

-- where the run was before the step that began the statement
abbrev pub before_step : List Slot → Meter → Point
before_step slots m = record { vars = values_of slots; left = suc m.left }

-- what IF or ELSIF says, and what the labels and statements of a CASE say
abbrev pub choice_of : Choice → syntax.Expr × Stmts
choice_of = fold-Choice Stmt (List Label × Stmts) (syntax.Expr × Stmts) stmt_step branch_step choice_step

abbrev pub branch_of : Branch → List Label × Stmts
branch_of = fold-Branch Stmt (List Label × Stmts) (syntax.Expr × Stmts) stmt_step branch_step choice_step

abbrev pub all_of : List read_stmt.Stmt → Stmts
all_of ss = stmts (map stmt_of ss)

abbrev pub choices_of : List Choice → Choices
choices_of cs = choices (map choice_of cs)

abbrev pub branches_of : List Branch → Branches
branches_of bs = branches (map branch_of bs)
