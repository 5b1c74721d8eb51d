use Rattle.fb_types.proofs.Common.{List, subst, ◌≡◌, ℕ, sym, ◌∙◌, ap, not, Bool, ℤ, refl, Result, Ok, Err, Some, false, true, arith, err_from_is_err_and, Name, Stmt, Stmts, Assign, If, Case, For, While, Repeat, expr_of, stmt_of, step_of, Types, Values, whole, Point, passed}
use Rattle.fb_types.specs.declared.text.Branch.{Branch}
use Rattle.fb_types.specs.declared.text.Choice.{Choice}
use Rattle.fb_types.specs.declared.text.Stmt as read
use Rattle.fb_st.specs.declared.meter.Flow.TheVariants as flow
use Rattle.fb_st.specs.Frames.{Declared, declared_in, types_in, values_of}
use Rattle.fb_st.specs.Flows.{point, before_step, all_of, branches_of, choices_of}
use Rattle.fb_st.proofs.lemmas.Runs.{assign_says, if_says, case_says, for_says, while_says, repeat_says, all_known, nothing_left, choices_known, branches_known}
use Rattle.fb_stop.specs.Numbers.{next, after_branches, after_choices}
use Rattle.fb_stop.specs.Blamed.{End, Running, Went, Left, Returned, Stopped, RunsAll, RunsChoice, RunsBranch, Runs, Advances, holds_in, counts_on}
use Rattle.fb_stop.specs.Ends.{end_of}
use Rattle.fb_stop.specs.declared.fault.Fault.{Fault}
use Rattle.fb_stop.proofs.lemmas.numbers.Runs.{case_runs, began, stopped_by, ended_by, ok_by, turn_in, turn_as, turned, counted_turn, counted_on, whole_as, counts_as, all_goes_on, all_ends, all_as, runs_as, ends_at, choice_holds, choice_ran, choice_taken, choice_passed, choice_stops, choice_counted, choices_counted, branch_fits, branch_ran, branch_taken, branch_passed, branch_counted, branches_counted, loop_over, loop_stops, loop_left, loop_returned, loop_stopped, loop_goes_on, repeat_goes_on, repeat_over, repeat_stops, repeat_left, repeat_returned, repeat_stopped}
use Rattle.fb_stop.proofs.running.+run.Goals as goal

-- ---- FOR

pub run_for-returns-in_err-count-clause-run : goal.run_for-returns-in_err-count-clause-run
run_for-returns-in_err-count-clause-run t c =
    let x = err_from_is_err_and c.from_residual.result c.from_residual.ensures.1 in
    rw (x.1, x.2) (c.in_err-count.ensures.failed c.args.around (all_of c.args.body.now) c.args.meter.now.left)

pub run_for-returns-clause-run : goal.run_for-returns-clause-run
run_for-returns-clause-run t c =
    c.in_ok-count.ensures.begun c.args.around (all_of c.args.body.now) c.args.meter.now.left (end_of c.run_counts.result) (point c.run_counts.new.frame c.run_counts.new.meter)
    (counts_as (declared_in c.begin_for.new.frame) (declared_in c.args.frame.now) c.args.number c.args.variable.now (whole c.in_ok-count.count.end) (whole c.in_ok-count.count.step) (all_of c.args.body.now)
    (point c.begin_for.new.frame c.args.meter.now) (point c.run_counts.new.frame c.run_counts.new.meter) (end_of c.run_counts.result) c.begin_for.ensures.declared c.run_counts.ensures.run)

-- ---- A statement, once its step is begun

pub run-returns-in-Assign-clause-run : goal.run-returns-in-Assign-clause-run
run-returns-in-Assign-clause-run t c =
    began (types_in (declared_in c.args.frame.now)) c.args.around c.args.number (stmt_of c.args.statement.now) (Assign c.in-Assign.variable (expr_of c.in-Assign.expr))
    (values_of c.args.frame.now) c.args.meter.now.left c.begin.new.meter.left (end_of c.run_assignment.result) (point c.run_assignment.new.frame c.begin.new.meter)
    (ap stmt_of c.in-Assign.is ∙ assign_says c.in-Assign.variable c.in-Assign.expr) c.in_ok-begin.ensures.ok (c.run_assignment.ensures.run c.begin.new.meter.left)

pub run-returns-in-If-clause-run : goal.run-returns-in-If-clause-run
run-returns-in-If-clause-run t c =
    let cs = c.as_slice.result.now in
    let others = c.as_slice-in-If.result.now in
    let said : stmt_of c.args.statement.now ≡ If (choices_of cs) (all_of others) =
    ap stmt_of c.in-If.is ∙ if_says c.in-If.choices c.in-If.others
    ∙ ap (λ (l : List Choice). If (choices_of l) (all_of c.in-If.others)) (sym c.as_slice.ensures)
    ∙ ap (λ (l : List read.Stmt). If (choices_of cs) (all_of l)) (sym c.as_slice-in-If.ensures) in
    began (types_in (declared_in c.args.frame.now)) c.args.around c.args.number (stmt_of c.args.statement.now) (If (choices_of cs) (all_of others))
    (values_of c.args.frame.now) c.args.meter.now.left c.begin.new.meter.left (end_of c.run_choice.result) (point c.run_choice.new.frame c.run_choice.new.meter)
    said c.in_ok-begin.ensures.ok c.run_choice.ensures.run

pub run-returns-in_ok-value-in-Case-clause-run : goal.run-returns-in_ok-value-in-Case-clause-run
run-returns-in_ok-value-in-Case-clause-run t c =
    let T : Types = types_in (declared_in c.args.frame.now) in
    let e = expr_of c.in-Case.selector in
    let bs = c.as_slice-in-Case.result.now in
    let others = c.as_slice-in-Case-2.result.now in
    let said : stmt_of c.args.statement.now ≡ Case e (branches_of bs) (all_of others) =
    ap stmt_of c.in-Case.is ∙ case_says c.in-Case.selector c.in-Case.branches c.in-Case.others
    ∙ ap (λ (l : List Branch). Case e (branches_of l) (all_of c.in-Case.others)) (sym c.as_slice-in-Case.ensures)
    ∙ ap (λ (l : List read.Stmt). Case e (branches_of bs) (all_of l)) (sym c.as_slice-in-Case-2.ensures) in
    began T c.args.around c.args.number (stmt_of c.args.statement.now) (Case e (branches_of bs) (all_of others))
    (values_of c.args.frame.now) c.args.meter.now.left c.begin.new.meter.left (end_of c.run_branch.result) (point c.run_branch.new.frame c.run_branch.new.meter)
    said c.in_ok-begin.ensures.ok
    (case_runs T c.args.around c.args.number c.next-inside.result e (branches_of bs) (all_of others) (values_of c.args.frame.now) c.begin.new.meter.left c.in_ok-value-in-Case.value (end_of c.run_branch.result)
    (point c.run_branch.new.frame c.run_branch.new.meter) (sym c.eval.ensures ∙ c.in_ok-value-in-Case.was) c.next-inside.ensures c.run_branch.ensures.run)

pub run-returns-in-For-clause-run : goal.run-returns-in-For-clause-run
run-returns-in-For-clause-run t c =
    let n : Name = c.in-For.variable in
    let first = expr_of c.in-For.start in
    let last = expr_of c.in-For.end in
    let by = step_of c.in-For.step in
    let body = c.as_slice-in-For.result.now in
    let said : stmt_of c.args.statement.now ≡ For n first last by (all_of body) =
    ap stmt_of c.in-For.is ∙ for_says n c.in-For.start c.in-For.end c.in-For.step c.in-For.body
    ∙ ap (λ (l : List read.Stmt). For n first last by (all_of l)) (sym c.as_slice-in-For.ensures) in
    began (types_in (declared_in c.args.frame.now)) c.args.around c.args.number (stmt_of c.args.statement.now) (For n first last by (all_of body))
    (values_of c.args.frame.now) c.args.meter.now.left c.begin.new.meter.left (end_of c.run_for.result) (point c.run_for.new.frame c.run_for.new.meter)
    said c.in_ok-begin.ensures.ok c.run_for.ensures.run

pub run-returns-in-While-clause-run : goal.run-returns-in-While-clause-run
run-returns-in-While-clause-run t c =
    let test = expr_of c.in-While.condition in
    let body = c.as_slice-in-While.result.now in
    let said : stmt_of c.args.statement.now ≡ While test (all_of body) =
    ap stmt_of c.in-While.is ∙ while_says c.in-While.condition c.in-While.body ∙ ap (λ (l : List read.Stmt). While test (all_of l)) (sym c.as_slice-in-While.ensures) in
    began (types_in (declared_in c.args.frame.now)) c.args.around c.args.number (stmt_of c.args.statement.now) (While test (all_of body))
    (values_of c.args.frame.now) c.args.meter.now.left c.begin.new.meter.left (end_of c.run_while.result) (point c.run_while.new.frame c.run_while.new.meter)
    said c.in_ok-begin.ensures.ok c.run_while.ensures.run

-- ---- REPEAT

pub run-returns-in-Repeat-clause-run : goal.run-returns-in-Repeat-clause-run
run-returns-in-Repeat-clause-run t c =
    let other : Stmt = Repeat (all_of c.as_slice-in-Repeat.result.now) (expr_of c.in-Repeat.condition) in
    let said : stmt_of c.args.statement.now ≡ other =
    ap stmt_of c.in-Repeat.is ∙ repeat_says c.in-Repeat.body c.in-Repeat.condition
    ∙ ap (λ l. Repeat (all_of l) (expr_of c.in-Repeat.condition)) (sym c.as_slice-in-Repeat.ensures) in
    began (types_in (declared_in c.args.frame.now)) c.args.around c.args.number (stmt_of c.args.statement.now) other
    (values_of c.args.frame.now) c.args.meter.now.left c.begin.new.meter.left (end_of c.run_repeat.result) (point c.run_repeat.new.frame c.run_repeat.new.meter)
    said c.in_ok-begin.ensures.ok c.run_repeat.ensures.run

pub run_repeat-returns-in_err-turn-clause-run : goal.run_repeat-returns-in_err-turn-clause-run
run_repeat-returns-in_err-turn-clause-run t c =
    let body : Stmts = all_of c.args.body.now in
    let turn : Running = turn_in (types_in (declared_in c.args.frame.now)) c.args.number body in
    let p : Point = point c.loop-frame.frame c.loop-frame.meter in
    let m : Point = point c.turn.new.frame c.turn.new.meter in
    let r : Fault = c.in_err-turn.field-0.0 in
    let ran = turn_as (declared_in c.loop-frame.frame) (declared_in c.args.frame.now) c.args.number body p m (end_of c.turn.result) (Stopped r) c.loop-frame.invariant.declared
    (stopped_by c.turn.result r c.in_err-turn.was) c.turn.ensures.run in
    let x = err_from_is_err_and c.from_residual.result c.from_residual.ensures.1 in
    rw (x.1, x.2) (c.loop-frame.invariant.run (Stopped r) m (repeat_stopped c.args.number (expr_of c.args.condition.now) turn p m r ran))

pub run_repeat-returns-in-Left-clause-run : goal.run_repeat-returns-in-Left-clause-run
run_repeat-returns-in-Left-clause-run t c =
    let body : Stmts = all_of c.args.body.now in
    let turn : Running = turn_in (types_in (declared_in c.args.frame.now)) c.args.number body in
    let p : Point = point c.loop-frame.frame c.loop-frame.meter in
    let m : Point = point c.turn.new.frame c.turn.new.meter in
    let ran = turn_as (declared_in c.loop-frame.frame) (declared_in c.args.frame.now) c.args.number body p m (end_of c.turn.result) Left c.loop-frame.invariant.declared
    (ended_by c.turn.result c.in_ok-turn.field-0 flow.Left c.in_ok-turn.was c.in-Left.is) c.turn.ensures.run in
    c.loop-frame.invariant.run Went m (repeat_left c.args.number (expr_of c.args.condition.now) turn p m ran)

pub run_repeat-returns-in-Returned-clause-run : goal.run_repeat-returns-in-Returned-clause-run
run_repeat-returns-in-Returned-clause-run t c =
    let body : Stmts = all_of c.args.body.now in
    let turn : Running = turn_in (types_in (declared_in c.args.frame.now)) c.args.number body in
    let p : Point = point c.loop-frame.frame c.loop-frame.meter in
    let m : Point = point c.turn.new.frame c.turn.new.meter in
    let ran = turn_as (declared_in c.loop-frame.frame) (declared_in c.args.frame.now) c.args.number body p m (end_of c.turn.result) Returned c.loop-frame.invariant.declared
    (ended_by c.turn.result c.in_ok-turn.field-0 flow.Returned c.in_ok-turn.was c.in-Returned.is) c.turn.ensures.run in
    c.loop-frame.invariant.run Returned m (repeat_returned c.args.number (expr_of c.args.condition.now) turn p m ran)

pub run_repeat-returns-in_err-holds-clause-run : goal.run_repeat-returns-in_err-holds-clause-run
run_repeat-returns-in_err-holds-clause-run t c =
    let body : Stmts = all_of c.args.body.now in
    let turn : Running = turn_in (types_in (declared_in c.args.frame.now)) c.args.number body in
    let p : Point = point c.loop-frame.frame c.loop-frame.meter in
    let m : Point = point c.turn.new.frame c.turn.new.meter in
    let r : Fault = c.in_err-holds.field-0.0 in
    let ran = turn_as (declared_in c.loop-frame.frame) (declared_in c.args.frame.now) c.args.number body p m (end_of c.turn.result) Went c.loop-frame.invariant.declared
    (ended_by c.turn.result c.in_ok-turn.field-0 flow.Went c.in_ok-turn.was c.in-Went.is) c.turn.ensures.run in
    let x = err_from_is_err_and c.from_residual-in_err-holds.result c.from_residual-in_err-holds.ensures.1 in
    rw (x.1, x.2) (c.loop-frame.invariant.run (Stopped r) m (repeat_stops c.args.number (expr_of c.args.condition.now) turn p m r ran (sym c.holds.ensures ∙ c.in_err-holds.was)))

pub run_repeat-returns-then-branch-clause-run : goal.run_repeat-returns-then-branch-clause-run
run_repeat-returns-then-branch-clause-run t c =
    let body : Stmts = all_of c.args.body.now in
    let turn : Running = turn_in (types_in (declared_in c.args.frame.now)) c.args.number body in
    let p : Point = point c.loop-frame.frame c.loop-frame.meter in
    let m : Point = point c.turn.new.frame c.turn.new.meter in
    let ran = turn_as (declared_in c.loop-frame.frame) (declared_in c.args.frame.now) c.args.number body p m (end_of c.turn.result) Went c.loop-frame.invariant.declared
    (ended_by c.turn.result c.in_ok-turn.field-0 flow.Went c.in_ok-turn.was c.in-Went.is) c.turn.ensures.run in
    let holds = sym c.holds.ensures ∙ ok_by c.holds.result c.in_ok-holds.field-0 true c.in_ok-holds.was c.if-branch.true in
    c.loop-frame.invariant.run Went m (repeat_over c.args.number (expr_of c.args.condition.now) turn p m ran holds)

pub run_repeat-loop-frame-preserved : goal.run_repeat-loop-frame-preserved
run_repeat-loop-frame-preserved t c =
    let body : Stmts = all_of c.args.body.now in
    let turn : Running = turn_in (types_in (declared_in c.args.frame.now)) c.args.number body in
    let p : Point = point c.loop-frame.frame c.loop-frame.meter in
    let m : Point = point c.turn.new.frame c.turn.new.meter in
    let ran = turn_as (declared_in c.loop-frame.frame) (declared_in c.args.frame.now) c.args.number body p m (end_of c.turn.result) Went c.loop-frame.invariant.declared
    (ended_by c.turn.result c.in_ok-turn.field-0 flow.Went c.in_ok-turn.was c.in-Went.is) c.turn.ensures.run in
    let fails = sym c.holds.ensures ∙ ok_by c.holds.result c.in_ok-holds.field-0 false c.in_ok-holds.was c.if-branch.false in
    record {
      run = λ e q rest. c.loop-frame.invariant.run e q (repeat_goes_on c.args.number (expr_of c.args.condition.now) turn p m ran fails e q rest);
      declared = c.turn.ensures.kept.declared ∙ c.loop-frame.invariant.declared;
      fewer = let a = c.turn.ensures.kept.fewer in let b = c.loop-frame.invariant.fewer in omega arith;
    }

-- ---- WHILE

pub run_while-loop-frame-preserved : goal.run_while-loop-frame-preserved
run_while-loop-frame-preserved t c =
    let body : Stmts = all_of c.args.body.now in
    let turn : Running = turn_in (types_in (declared_in c.args.frame.now)) c.args.number body in
    let test : Values → Result Bool Fault = holds_in c.args.number (expr_of c.args.condition.now) in
    let p : Point = point c.loop-frame.frame c.loop-frame.meter in
    let m : Point = point c.turn.new.frame c.turn.new.meter in
    let ran = turn_as (declared_in c.loop-frame.frame) (declared_in c.args.frame.now) c.args.number body p m (end_of c.turn.result) Went c.loop-frame.invariant.declared
    (ended_by c.turn.result c.in_ok-turn.field-0 flow.Went c.in_ok-turn.was c.in-Went.is) c.turn.ensures.run in
    let holds = sym c.holds.ensures ∙ ok_by c.holds.result c.in_ok-holds.field-0 true c.in_ok-holds.was c.if-branch.true in
    record {
      run = λ e q rest. c.loop-frame.invariant.run e q (loop_goes_on test turn p m holds ran e q rest);
      declared = c.turn.ensures.kept.declared ∙ c.loop-frame.invariant.declared;
      fewer = let a = c.turn.ensures.kept.fewer in let b = c.loop-frame.invariant.fewer in omega arith;
    }

pub run_while-returns-in_err-holds-clause-run : goal.run_while-returns-in_err-holds-clause-run
run_while-returns-in_err-holds-clause-run t c =
    let turn : Running = turn_in (types_in (declared_in c.args.frame.now)) c.args.number (all_of c.args.body.now) in
    let test : Values → Result Bool Fault = holds_in c.args.number (expr_of c.args.condition.now) in
    let p : Point = point c.loop-frame.frame c.loop-frame.meter in
    let r : Fault = c.in_err-holds.field-0.0 in
    let x = err_from_is_err_and c.from_residual.result c.from_residual.ensures.1 in
    rw (x.1, x.2) (c.loop-frame.invariant.run (Stopped r) p (loop_stops test turn p r (sym c.holds.ensures ∙ c.in_err-holds.was)))

pub run_while-returns-in_err-turn-clause-run : goal.run_while-returns-in_err-turn-clause-run
run_while-returns-in_err-turn-clause-run t c =
    let body : Stmts = all_of c.args.body.now in
    let turn : Running = turn_in (types_in (declared_in c.args.frame.now)) c.args.number body in
    let test : Values → Result Bool Fault = holds_in c.args.number (expr_of c.args.condition.now) in
    let p : Point = point c.loop-frame.frame c.loop-frame.meter in
    let m : Point = point c.turn.new.frame c.turn.new.meter in
    let r : Fault = c.in_err-turn.field-0.0 in
    let ran = turn_as (declared_in c.loop-frame.frame) (declared_in c.args.frame.now) c.args.number body p m (end_of c.turn.result) (Stopped r) c.loop-frame.invariant.declared
    (stopped_by c.turn.result r c.in_err-turn.was) c.turn.ensures.run in
    let holds = sym c.holds.ensures ∙ ok_by c.holds.result c.in_ok-holds.field-0 true c.in_ok-holds.was c.if-branch.true in
    let x = err_from_is_err_and c.from_residual-in_err-turn.result c.from_residual-in_err-turn.ensures.1 in
    rw (x.1, x.2) (c.loop-frame.invariant.run (Stopped r) m (loop_stopped test turn p m r holds ran))

pub run_while-returns-in-Left-clause-run : goal.run_while-returns-in-Left-clause-run
run_while-returns-in-Left-clause-run t c =
    let body : Stmts = all_of c.args.body.now in
    let turn : Running = turn_in (types_in (declared_in c.args.frame.now)) c.args.number body in
    let test : Values → Result Bool Fault = holds_in c.args.number (expr_of c.args.condition.now) in
    let p : Point = point c.loop-frame.frame c.loop-frame.meter in
    let m : Point = point c.turn.new.frame c.turn.new.meter in
    let ran = turn_as (declared_in c.loop-frame.frame) (declared_in c.args.frame.now) c.args.number body p m (end_of c.turn.result) Left c.loop-frame.invariant.declared
    (ended_by c.turn.result c.in_ok-turn.field-0 flow.Left c.in_ok-turn.was c.in-Left.is) c.turn.ensures.run in
    let holds = sym c.holds.ensures ∙ ok_by c.holds.result c.in_ok-holds.field-0 true c.in_ok-holds.was c.if-branch.true in
    c.loop-frame.invariant.run Went m (loop_left test turn p m holds ran)

pub run_while-returns-in-Returned-clause-run : goal.run_while-returns-in-Returned-clause-run
run_while-returns-in-Returned-clause-run t c =
    let body : Stmts = all_of c.args.body.now in
    let turn : Running = turn_in (types_in (declared_in c.args.frame.now)) c.args.number body in
    let test : Values → Result Bool Fault = holds_in c.args.number (expr_of c.args.condition.now) in
    let p : Point = point c.loop-frame.frame c.loop-frame.meter in
    let m : Point = point c.turn.new.frame c.turn.new.meter in
    let ran = turn_as (declared_in c.loop-frame.frame) (declared_in c.args.frame.now) c.args.number body p m (end_of c.turn.result) Returned c.loop-frame.invariant.declared
    (ended_by c.turn.result c.in_ok-turn.field-0 flow.Returned c.in_ok-turn.was c.in-Returned.is) c.turn.ensures.run in
    let holds = sym c.holds.ensures ∙ ok_by c.holds.result c.in_ok-holds.field-0 true c.in_ok-holds.was c.if-branch.true in
    c.loop-frame.invariant.run Returned m (loop_returned test turn p m holds ran)

pub run_while-returns-clause-run : goal.run_while-returns-clause-run
run_while-returns-clause-run t c =
    let turn : Running = turn_in (types_in (declared_in c.args.frame.now)) c.args.number (all_of c.args.body.now) in
    let test : Values → Result Bool Fault = holds_in c.args.number (expr_of c.args.condition.now) in
    let p : Point = point c.loop-frame.frame c.loop-frame.meter in
    let fails = sym c.holds.ensures ∙ ok_by c.holds.result c.in_ok-holds.field-0 false c.in_ok-holds.was c.if-branch.false in
    c.loop-frame.invariant.run Went p (loop_over test turn p fails)

-- ---- The iterations of FOR

pub run_counts-returns-then-has_passed-clause-run : goal.run_counts-returns-then-has_passed-clause-run
run_counts-returns-then-has_passed-clause-run t c =
    let n : Name = c.args.variable.now in
    let T : Types = types_in (declared_in c.args.frame.now) in
    let end : ℤ = whole c.args.count.end in
    let step : ℤ = whole c.args.count.step in
    let turn : Running = counted_turn T c.args.number n end step (all_of c.args.body.now) in
    let test : Values → Result Bool Fault = counts_on c.args.number n end step in
    let here : passed end step (whole (values_of c.args.frame.now n)) ≡ true =
    ap (λ v. passed end step (whole v)) (sym c.value.ensures) ∙ sym c.has_passed.ensures ∙ c.if-has_passed.true in
    loop_over test turn (point c.args.frame.now c.args.meter.now) (ap (λ b. Ok (not b)) here)

pub run_counts-loop-init : goal.run_counts-loop-init
run_counts-loop-init t c =
    let end : ℤ = whole c.args.count.end in
    let step : ℤ = whole c.args.count.step in
    record {
      run = λ e q rest. rest;
      declared = refl;
      fewer = omega arith;
      within = ap (λ v. passed end step (whole v)) (sym c.value.ensures) ∙ sym c.has_passed.ensures ∙ c.if-has_passed.false;
    }

pub run_counts-loop-preserved : goal.run_counts-loop-preserved
run_counts-loop-preserved t c =
    let n : Name = c.args.variable.now in
    let body : Stmts = all_of c.args.body.now in
    let T : Types = types_in (declared_in c.args.frame.now) in
    let end : ℤ = whole c.args.count.end in
    let step : ℤ = whole c.args.count.step in
    let turn : Running = counted_turn T c.args.number n end step body in
    let test : Values → Result Bool Fault = counts_on c.args.number n end step in
    let p : Point = point c.loop.frame c.loop.meter in
    let m : Point = point c.turn_of_for.new.frame c.turn_of_for.new.meter in
    let ran = whole_as (declared_in c.loop.frame) (declared_in c.args.frame.now) c.args.number n end step body p m (end_of c.turn_of_for.result) Went c.loop.invariant.declared
    (ended_by c.turn_of_for.result c.in_ok-turn_of_for.field-0 flow.Went c.in_ok-turn_of_for.was c.in-Went.is) c.turn_of_for.ensures.run in
    let here : passed end step (whole (values_of c.loop.frame n)) ≡ false = c.loop.invariant.within in
    record {
      run = λ e q rest. c.loop.invariant.run e q (loop_goes_on test turn p m (ap (λ b. Ok (not b)) here) ran e q rest);
      declared = c.turn_of_for.ensures.kept.declared ∙ c.loop.invariant.declared;
      fewer = let a = c.turn_of_for.ensures.kept.fewer in let b = c.loop.invariant.fewer in omega arith;
      within = c.in_ok-turn_of_for.ensures.within c.in-Went.is;
    }

pub run_counts-returns-in_err-turn_of_for-clause-run : goal.run_counts-returns-in_err-turn_of_for-clause-run
run_counts-returns-in_err-turn_of_for-clause-run t c =
    let n : Name = c.args.variable.now in
    let body : Stmts = all_of c.args.body.now in
    let T : Types = types_in (declared_in c.args.frame.now) in
    let end : ℤ = whole c.args.count.end in
    let step : ℤ = whole c.args.count.step in
    let turn : Running = counted_turn T c.args.number n end step body in
    let test : Values → Result Bool Fault = counts_on c.args.number n end step in
    let p : Point = point c.loop.frame c.loop.meter in
    let r : Fault = c.in_err-turn_of_for.field-0.0 in
    let here : passed end step (whole (values_of c.loop.frame n)) ≡ false = c.loop.invariant.within in
    let m : Point = point c.turn_of_for.new.frame c.turn_of_for.new.meter in
    let ran = whole_as (declared_in c.loop.frame) (declared_in c.args.frame.now) c.args.number n end step body p m (end_of c.turn_of_for.result) (Stopped r) c.loop.invariant.declared
    (stopped_by c.turn_of_for.result r c.in_err-turn_of_for.was) c.turn_of_for.ensures.run in
    let x = err_from_is_err_and c.from_residual.result c.from_residual.ensures.1 in
    rw (x.1, x.2) (c.loop.invariant.run (Stopped r) m (loop_stopped test turn p m r (ap (λ b. Ok (not b)) here) ran))

pub run_counts-returns-in-Left-clause-run : goal.run_counts-returns-in-Left-clause-run
run_counts-returns-in-Left-clause-run t c =
    let n : Name = c.args.variable.now in
    let body : Stmts = all_of c.args.body.now in
    let T : Types = types_in (declared_in c.args.frame.now) in
    let end : ℤ = whole c.args.count.end in
    let step : ℤ = whole c.args.count.step in
    let turn : Running = counted_turn T c.args.number n end step body in
    let test : Values → Result Bool Fault = counts_on c.args.number n end step in
    let p : Point = point c.loop.frame c.loop.meter in
    let here : passed end step (whole (values_of c.loop.frame n)) ≡ false = c.loop.invariant.within in
    let m : Point = point c.turn_of_for.new.frame c.turn_of_for.new.meter in
    let ran = whole_as (declared_in c.loop.frame) (declared_in c.args.frame.now) c.args.number n end step body p m (end_of c.turn_of_for.result) Left c.loop.invariant.declared
    (ended_by c.turn_of_for.result c.in_ok-turn_of_for.field-0 flow.Left c.in_ok-turn_of_for.was c.in-Left.is) c.turn_of_for.ensures.run in
    c.loop.invariant.run Went m (loop_left test turn p m (ap (λ b. Ok (not b)) here) ran)

pub run_counts-returns-in-Returned-clause-run : goal.run_counts-returns-in-Returned-clause-run
run_counts-returns-in-Returned-clause-run t c =
    let n : Name = c.args.variable.now in
    let body : Stmts = all_of c.args.body.now in
    let T : Types = types_in (declared_in c.args.frame.now) in
    let end : ℤ = whole c.args.count.end in
    let step : ℤ = whole c.args.count.step in
    let turn : Running = counted_turn T c.args.number n end step body in
    let test : Values → Result Bool Fault = counts_on c.args.number n end step in
    let p : Point = point c.loop.frame c.loop.meter in
    let here : passed end step (whole (values_of c.loop.frame n)) ≡ false = c.loop.invariant.within in
    let m : Point = point c.turn_of_for.new.frame c.turn_of_for.new.meter in
    let ran = whole_as (declared_in c.loop.frame) (declared_in c.args.frame.now) c.args.number n end step body p m (end_of c.turn_of_for.result) Returned c.loop.invariant.declared
    (ended_by c.turn_of_for.result c.in_ok-turn_of_for.field-0 flow.Returned c.in_ok-turn_of_for.was c.in-Returned.is) c.turn_of_for.ensures.run in
    c.loop.invariant.run Returned m (loop_returned test turn p m (ap (λ b. Ok (not b)) here) ran)

-- ---- Statements, one after the other

pub run_each-loop-statement-preserved : goal.run_each-loop-statement-preserved
run_each-loop-statement-preserved t c =
    let T : Types = types_in (declared_in c.args.frame.now) in
    let s : read.Stmt = c.statement-item.result in
    let p : Point = point c.loop-statement.frame c.loop-statement.meter in
    let m : Point = point c.run.new.frame c.run.new.meter in
    let ran = runs_as (declared_in c.loop-statement.frame) (declared_in c.args.frame.now) c.args.around c.loop-statement.number (stmt_of s) p m (end_of c.run.result) Went c.loop-statement.invariant.declared
    (ended_by c.run.result c.in_ok-run.field-0 flow.Went c.in_ok-run.was c.in-Went.is) c.run.ensures.run in
    record {
      run = λ e q rest. c.loop-statement.invariant.run e q
          (all_goes_on T c.args.around c.args.statements.now c.loop-statement.statement-index c.loop-statement.number c.after-number.result s p m c.loop-statement-test.true c.statement-item.is c.after-number.ensures ran e q rest);
      known = (all_known (declared_in c.args.frame.now) c.args.statements.now c.loop-statement.statement-index s c.loop-statement-test.true c.statement-item.is c.loop-statement.invariant.known).1;
      declared = c.run.ensures.kept.declared ∙ c.loop-statement.invariant.declared;
      fewer = let a = c.run.ensures.kept.fewer in let b = c.loop-statement.invariant.fewer in omega arith;
    }

pub run_each-returns-in_err-run-clause-run : goal.run_each-returns-in_err-run-clause-run
run_each-returns-in_err-run-clause-run t c =
    let T : Types = types_in (declared_in c.args.frame.now) in
    let s : read.Stmt = c.statement-item.result in
    let p : Point = point c.loop-statement.frame c.loop-statement.meter in
    let m : Point = point c.run.new.frame c.run.new.meter in
    let r : Fault = c.in_err-run.field-0.0 in
    let ran = runs_as (declared_in c.loop-statement.frame) (declared_in c.args.frame.now) c.args.around c.loop-statement.number (stmt_of s) p m (end_of c.run.result) (Stopped r) c.loop-statement.invariant.declared
    (stopped_by c.run.result r c.in_err-run.was) c.run.ensures.run in
    let x = err_from_is_err_and c.from_residual.result c.from_residual.ensures.1 in
    rw (x.1, x.2) (c.loop-statement.invariant.run (Stopped r) m
    (all_ends T c.args.around c.args.statements.now c.loop-statement.statement-index c.loop-statement.number s p m (Stopped r) c.loop-statement-test.true c.statement-item.is ran (refl, refl)))

pub run_each-returns-in-Left-clause-run : goal.run_each-returns-in-Left-clause-run
run_each-returns-in-Left-clause-run t c =
    let T : Types = types_in (declared_in c.args.frame.now) in
    let s : read.Stmt = c.statement-item.result in
    let p : Point = point c.loop-statement.frame c.loop-statement.meter in
    let m : Point = point c.run.new.frame c.run.new.meter in
    let ran = runs_as (declared_in c.loop-statement.frame) (declared_in c.args.frame.now) c.args.around c.loop-statement.number (stmt_of s) p m (end_of c.run.result) Left c.loop-statement.invariant.declared
    (ended_by c.run.result c.in_ok-run.field-0 flow.Left c.in_ok-run.was c.in-Left.is) c.run.ensures.run in
    c.loop-statement.invariant.run Left m
    (all_ends T c.args.around c.args.statements.now c.loop-statement.statement-index c.loop-statement.number s p m Left c.loop-statement-test.true c.statement-item.is ran (refl, refl))

pub run_each-returns-in-Returned-clause-run : goal.run_each-returns-in-Returned-clause-run
run_each-returns-in-Returned-clause-run t c =
    let T : Types = types_in (declared_in c.args.frame.now) in
    let s : read.Stmt = c.statement-item.result in
    let p : Point = point c.loop-statement.frame c.loop-statement.meter in
    let m : Point = point c.run.new.frame c.run.new.meter in
    let ran = runs_as (declared_in c.loop-statement.frame) (declared_in c.args.frame.now) c.args.around c.loop-statement.number (stmt_of s) p m (end_of c.run.result) Returned c.loop-statement.invariant.declared
    (ended_by c.run.result c.in_ok-run.field-0 flow.Returned c.in_ok-run.was c.in-Returned.is) c.run.ensures.run in
    c.loop-statement.invariant.run Returned m
    (all_ends T c.args.around c.args.statements.now c.loop-statement.statement-index c.loop-statement.number s p m Returned c.loop-statement-test.true c.statement-item.is ran (refl, refl))

pub run_each-returns-clause-run : goal.run_each-returns-clause-run
run_each-returns-clause-run t c =
    let T : Types = types_in (declared_in c.args.frame.now) in
    let p : Point = point c.loop-statement.frame c.loop-statement.meter in
    c.loop-statement.invariant.run Went p
    (subst (λ (l : List read.Stmt). RunsAll T c.args.around c.loop-statement.number (all_of l) p Went p) (sym (nothing_left c.args.statements.now c.loop-statement.statement-index c.loop-statement-test.false)) (refl, refl))

-- ---- IF

pub run_choice-loop-choice-init : goal.run_choice-loop-choice-init
run_choice-loop-choice-init t c =
    let T : Types = types_in (declared_in c.args.frame.now) in
    let cs : List Choice = c.args.choices.now in
    let others : Running = RunsAll T c.args.around (after_choices (choices_of cs) (next c.args.number)) (all_of c.args.others.now) in
    record {
      run = λ e q rest. subst (λ (k : ℕ). RunsChoice T c.args.around c.args.number k (choices_of cs) others (point c.args.frame.now c.args.meter.now) e q) c.next-inside.ensures rest;
      known = c.requires.known;
      counted = ap (λ (k : ℕ). after_choices (choices_of cs) k) c.next-inside.ensures;
      same_frame = refl;
      same_meter = refl;
    }

pub run_choice-loop-choice-preserved : goal.run_choice-loop-choice-preserved
run_choice-loop-choice-preserved t c =
    let T : Types = types_in (declared_in c.args.frame.now) in
    let cs : List Choice = c.args.choices.now in
    let i = c.loop-choice.choice-index in
    let one : Choice = c.choice-item.result in
    let n : ℕ = c.args.number in
    let all : ℕ = after_choices (choices_of cs) (next n) in
    let others : Running = RunsAll T c.args.around all (all_of c.args.others.now) in
    let p : Point = point c.args.frame.now c.args.meter.now in
    let fails = choice_holds n one c.loop-choice.frame c.args.frame.now c.holds.result (Ok false) c.loop-choice.invariant.same_frame c.holds.ensures
    (ok_by c.holds.result c.in_ok-holds.field-0 false c.in_ok-holds.was c.if-branch.false) in
    let counted = choice_counted one c.as_slice-in-loop-choice.result.now c.loop-choice.inside c.after_all-inside.result c.as_slice-in-loop-choice.ensures c.after_all-inside.ensures in
    record {
      run = λ e q rest. c.loop-choice.invariant.run e q
          (choice_passed T c.args.around n c.loop-choice.inside c.after_all-inside.result cs i one others p c.loop-choice-test.true c.choice-item.is counted fails e q rest);
      known = (choices_known (declared_in c.args.frame.now) cs i one c.loop-choice-test.true c.choice-item.is c.loop-choice.invariant.known).1;
      counted = choices_counted cs i c.loop-choice.inside c.after_all-inside.result one all c.loop-choice-test.true c.choice-item.is counted c.loop-choice.invariant.counted;
      same_frame = c.loop-choice.invariant.same_frame;
      same_meter = c.loop-choice.invariant.same_meter;
    }

pub run_choice-returns-in_err-holds-clause-run : goal.run_choice-returns-in_err-holds-clause-run
run_choice-returns-in_err-holds-clause-run t c =
    let T : Types = types_in (declared_in c.args.frame.now) in
    let cs : List Choice = c.args.choices.now in
    let i = c.loop-choice.choice-index in
    let one : Choice = c.choice-item.result in
    let n : ℕ = c.args.number in
    let others : Running = RunsAll T c.args.around (after_choices (choices_of cs) (next n)) (all_of c.args.others.now) in
    let p : Point = point c.args.frame.now c.args.meter.now in
    let r : Fault = c.in_err-holds.field-0.0 in
    let stops = choice_holds n one c.loop-choice.frame c.args.frame.now c.holds.result (Err r) c.loop-choice.invariant.same_frame c.holds.ensures c.in_err-holds.was in
    let x = err_from_is_err_and c.from_residual.result c.from_residual.ensures.1 in
    rw (x.1, x.2)
    (ends_at (Runs T c.args.around n (If (choices_of cs) (all_of c.args.others.now))) (before_step c.args.frame.now c.args.meter.now) (Stopped r)
    c.loop-choice.frame c.args.frame.now c.loop-choice.meter c.args.meter.now c.loop-choice.invariant.same_frame c.loop-choice.invariant.same_meter
    (c.loop-choice.invariant.run (Stopped r) p (choice_stops T c.args.around n c.loop-choice.inside cs i one others p r c.loop-choice-test.true c.choice-item.is stops)))

pub run_choice-returns-then-branch-clause-run : goal.run_choice-returns-then-branch-clause-run
run_choice-returns-then-branch-clause-run t c =
    let T : Types = types_in (declared_in c.args.frame.now) in
    let cs : List Choice = c.args.choices.now in
    let i = c.loop-choice.choice-index in
    let one : Choice = c.choice-item.result in
    let n : ℕ = c.args.number in
    let others : Running = RunsAll T c.args.around (after_choices (choices_of cs) (next n)) (all_of c.args.others.now) in
    let p : Point = point c.args.frame.now c.args.meter.now in
    let q : Point = point c.run_each.new.frame c.run_each.new.meter in
    let holds = choice_holds n one c.loop-choice.frame c.args.frame.now c.holds.result (Ok true) c.loop-choice.invariant.same_frame c.holds.ensures
    (ok_by c.holds.result c.in_ok-holds.field-0 true c.in_ok-holds.was c.if-branch.true) in
    let ran = choice_ran c.args.around c.loop-choice.inside one c.loop-choice.frame c.args.frame.now c.loop-choice.meter c.args.meter.now c.as_slice.result.now (end_of c.run_each.result) q
    c.loop-choice.invariant.same_frame c.loop-choice.invariant.same_meter c.as_slice.ensures c.run_each.ensures.run in
    c.loop-choice.invariant.run (end_of c.run_each.result) q
    (choice_taken T c.args.around n c.loop-choice.inside cs i one others p c.loop-choice-test.true c.choice-item.is holds (end_of c.run_each.result) q ran)

pub run_choice-returns-clause-run : goal.run_choice-returns-clause-run
run_choice-returns-clause-run t c =
    let T : Types = types_in (declared_in c.args.frame.now) in
    let cs : List Choice = c.args.choices.now in
    let n : ℕ = c.args.number in
    let all : ℕ = after_choices (choices_of cs) (next n) in
    let others : Running = RunsAll T c.args.around all (all_of c.args.others.now) in
    let p : Point = point c.args.frame.now c.args.meter.now in
    let q : Point = point c.run_each-2.new.frame c.run_each-2.new.meter in
    let e : End = end_of c.run_each-2.result in
    let none = nothing_left cs c.loop-choice.choice-index c.loop-choice-test.false in
    let counted : c.loop-choice.inside ≡ all = subst (λ (l : List Choice). after_choices (choices_of l) c.loop-choice.inside ≡ all) none c.loop-choice.invariant.counted in
    let ran = all_as c.args.around c.loop-choice.inside all c.loop-choice.frame c.args.frame.now c.loop-choice.meter c.args.meter.now c.args.others.now c.args.others.now e q
    counted c.loop-choice.invariant.same_frame c.loop-choice.invariant.same_meter refl c.run_each-2.ensures.run in
    c.loop-choice.invariant.run e q
    (subst (λ (l : List Choice). RunsChoice T c.args.around n c.loop-choice.inside (choices_of l) others p e q) (sym none) ran)

-- ---- CASE

pub run_branch-loop-branch-preserved : goal.run_branch-loop-branch-preserved
run_branch-loop-branch-preserved t c =
    let T : Types = types_in (declared_in c.args.frame.now) in
    let bs : List Branch = c.args.branches.now in
    let z : ℤ = whole c.args.value in
    let one : Branch = c.branch-item.result in
    let all : ℕ = after_branches (branches_of bs) c.args.first in
    let others : Running = RunsAll T c.args.around all (all_of c.args.others.now) in
    let p : Point = point c.args.frame.now c.args.meter.now in
    let fails = branch_fits one c.as_slice.result.now z c.has_label.result false c.as_slice.ensures c.has_label.ensures c.if-has_label.false in
    let counted = branch_counted one c.as_slice-in-loop-branch.result.now c.loop-branch.inside c.after_all-inside.result c.as_slice-in-loop-branch.ensures c.after_all-inside.ensures in
    record {
      run = λ e q rest. c.loop-branch.invariant.run e q
          (branch_passed T c.args.around c.loop-branch.inside c.after_all-inside.result bs c.loop-branch.branch-index one z others p c.loop-branch-test.true c.branch-item.is counted fails e q rest);
      known = (branches_known (declared_in c.args.frame.now) bs c.loop-branch.branch-index one c.loop-branch-test.true c.branch-item.is c.loop-branch.invariant.known).1;
      counted = branches_counted bs c.loop-branch.branch-index c.loop-branch.inside c.after_all-inside.result one all c.loop-branch-test.true c.branch-item.is counted c.loop-branch.invariant.counted;
      same_frame = c.loop-branch.invariant.same_frame;
      same_meter = c.loop-branch.invariant.same_meter;
    }

pub run_branch-returns-then-has_label-clause-run : goal.run_branch-returns-then-has_label-clause-run
run_branch-returns-then-has_label-clause-run t c =
    let T : Types = types_in (declared_in c.args.frame.now) in
    let bs : List Branch = c.args.branches.now in
    let z : ℤ = whole c.args.value in
    let one : Branch = c.branch-item.result in
    let others : Running = RunsAll T c.args.around (after_branches (branches_of bs) c.args.first) (all_of c.args.others.now) in
    let p : Point = point c.args.frame.now c.args.meter.now in
    let q : Point = point c.run_each.new.frame c.run_each.new.meter in
    let fits = branch_fits one c.as_slice.result.now z c.has_label.result true c.as_slice.ensures c.has_label.ensures c.if-has_label.true in
    let ran = branch_ran c.args.around c.loop-branch.inside one c.loop-branch.frame c.args.frame.now c.loop-branch.meter c.args.meter.now c.as_slice-then-has_label.result.now (end_of c.run_each.result) q
    c.loop-branch.invariant.same_frame c.loop-branch.invariant.same_meter c.as_slice-then-has_label.ensures c.run_each.ensures.run in
    c.loop-branch.invariant.run (end_of c.run_each.result) q
    (branch_taken T c.args.around c.loop-branch.inside bs c.loop-branch.branch-index one z others p c.loop-branch-test.true c.branch-item.is fits (end_of c.run_each.result) q ran)

pub run_branch-returns-clause-run : goal.run_branch-returns-clause-run
run_branch-returns-clause-run t c =
    let T : Types = types_in (declared_in c.args.frame.now) in
    let bs : List Branch = c.args.branches.now in
    let all : ℕ = after_branches (branches_of bs) c.args.first in
    let others : Running = RunsAll T c.args.around all (all_of c.args.others.now) in
    let p : Point = point c.args.frame.now c.args.meter.now in
    let q : Point = point c.run_each-2.new.frame c.run_each-2.new.meter in
    let e : End = end_of c.run_each-2.result in
    let none = nothing_left bs c.loop-branch.branch-index c.loop-branch-test.false in
    let counted : c.loop-branch.inside ≡ all = subst (λ (l : List Branch). after_branches (branches_of l) c.loop-branch.inside ≡ all) none c.loop-branch.invariant.counted in
    let ran = all_as c.args.around c.loop-branch.inside all c.loop-branch.frame c.args.frame.now c.loop-branch.meter c.args.meter.now c.args.others.now c.args.others.now e q
    counted c.loop-branch.invariant.same_frame c.loop-branch.invariant.same_meter refl c.run_each-2.ensures.run in
    c.loop-branch.invariant.run e q
    (subst (λ (l : List Branch). RunsBranch T c.args.around c.loop-branch.inside (branches_of l) (whole c.args.value) others p e q) (sym none) ran)

-- ---- An iteration

pub turn-returns-clause-run : goal.turn-returns-clause-run
turn-returns-clause-run t c =
    turned (types_in (declared_in c.args.frame.now)) c.args.number c.next.result (all_of c.args.body.now) (values_of c.args.frame.now) c.args.meter.now.left c.begin.new.meter.left
    (end_of c.run_each.result) (point c.run_each.new.frame c.run_each.new.meter) c.in_ok-begin.ensures.ok c.next.ensures c.run_each.ensures.run

pub turn_of_for-returns-in-Went-clause-run : goal.turn_of_for-returns-in-Went-clause-run
turn_of_for-returns-in-Went-clause-run t c =
    let T : Types = types_in (declared_in c.args.frame.now) in
    let n : Name = c.args.variable.now in
    let end : ℤ = whole c.args.count.end in
    let step : ℤ = whole c.args.count.step in
    let m : Point = point c.run_each.new.frame c.run_each.new.meter in
    let q : Point = point c.advance.new.frame c.run_each.new.meter in
    let went : RunsAll T (Some c.args.number) c.next.result (all_of c.args.body.now) (point c.args.frame.now c.begin.new.meter) Went m =
    subst (λ (e : End). RunsAll T (Some c.args.number) c.next.result (all_of c.args.body.now) (point c.args.frame.now c.begin.new.meter) e m)
    (ended_by c.run_each.result c.in_ok-run_each.field-0 flow.Went c.in_ok-run_each.was c.in-Went.is) c.run_each.ensures.run in
    let advanced : Advances T c.args.number n end step m (end_of c.advance.result) q =
    subst (λ (ds : List Declared). Advances (types_in ds) c.args.number n end step m (end_of c.advance.result) q) c.run_each.ensures.kept.declared (c.advance.ensures.run c.run_each.new.meter.left) in
    counted_on T c.args.number c.next.result n end step (all_of c.args.body.now) (values_of c.args.frame.now) c.args.meter.now.left c.begin.new.meter.left m (end_of c.advance.result) q
    c.in_ok-begin.ensures.ok c.next.ensures went advanced
