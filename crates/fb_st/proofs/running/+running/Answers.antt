use Rattle.fb_st.proofs.lemmas.Common.{List, ◌<◌, length, subst, ◌≡◌, sym, ◌∙◌, ap, not, Bool, ℤ, refl, Result, Ok, Err, false, true, arith, ints, rules, to_z-of_z, slice_get, slice_set, err_from_is_err_and, Name, Stmts, Assign, If, Case, While, Repeat, Types, Values, truth_of, whole, fits, Point, End, Running, Went, Left, Stopped, Step, RunsAll, RunsChoice, RunsBranch, Runs, Advances, passed, Reason, as_whole, CountExpr, CompiledChoice, CompiledStmt, types_in, end_of, number_said, truth_said, fits_truth, fits_number, spot, values_at, name_at, expr_of_number, expr_of_truth, codes_said, code_right, codes_right, arm_right, kinds_truth, kinds_number, ty_or, value_of_word}
use Rattle.fb_types.proofs.Common.{Returned, Then}
use Rattle.std.specs.Prelude.{◌≤ℤ◌}
use mir.Syntax.{w64, w128}
use mir.Val.{SFits}
use Rattle.fb_types.specs.declared.value.Value.TheVariants as value
use Rattle.fb_st.specs.declared.compiled.CompiledBranch.{CompiledBranch}
use Rattle.fb_st.specs.declared.meter.Flow.TheVariants as flow
use Rattle.fb_st.specs.Fitting.{begun, code_said, arms_said, forks_said, count_right, fork_right}
use Rattle.fb_st.proofs.lemmas.Assigning.{assign_writes, long_slot, long_slot_there, within_slot, within_slot_there}
use Rattle.fb_st.proofs.lemmas.Comes.{both_true, condition_comes, number_comes}
use Rattle.fb_st.proofs.lemmas.Sizes.{statement_size, body_of_arm_size, body_of_for_size, body_of_repeat_size, body_of_while_size}
use Rattle.fb_st.proofs.lemmas.Words.{word_type}
use Rattle.fb_st.proofs.lemmas.CodeRuns.{one_right, codes_go_on, codes_end, codes_as, ends_here, long_right, within_right, long_says, within_says, truth_says, if_says, case_says, for_says, while_says, repeat_says, case_part, case_stops, count_parts, within_there, counted, for_no_start, for_no_end, for_no_step, first_set, first_read, arm_parts, for_right, while_right, repeat_right, arm_holds, arm_ran, arm_taken, arm_passed, arm_stops, fork_fits, fork_ran, fork_taken, fork_passed}
use Rattle.fb_st.proofs.lemmas.Runs.{began, case_runs, for_counts, for_not_begun, stopped_by, ended_by, ok_by, ends_as, nothing_left, loop_over, loop_stops, loop_left, loop_returned, loop_stopped, loop_goes_on, repeat_goes_on, repeat_over, repeat_stops, repeat_left, repeat_returned, repeat_stopped}
use Rattle.fb_st.proofs.running.+running.Goals as goal

pub run_repeat-returns-in_err-turn-clause-run : goal.run_repeat-returns-in_err-turn-clause-run
run_repeat-returns-in_err-turn-clause-run t c =
    let ds = c.args.layout.now in
    let body : Stmts = codes_said ds c.args.body.now in
    let turn : Running = Step (RunsAll (types_in ds) body) in
    let p : Point = spot ds c.loop-words.words c.loop-words.meter in
    let m : Point = spot ds c.turn.new.words c.turn.new.meter in
    let r : Reason = c.in_err-turn.field-0.0 in
    let ran = ends_as turn p m (Stopped r) (end_of c.turn.result) (sym (stopped_by c.turn.result r c.in_err-turn.was)) c.turn.ensures.run in
    let x = err_from_is_err_and c.from_residual.result c.from_residual.ensures.1 in
    rw (x.1, x.2) (c.loop-words.invariant.run (Stopped r) m (repeat_stopped (expr_of_truth ds (truth_said c.args.condition.now)) turn p m r ran))

pub run_repeat-returns-in-Left-clause-run : goal.run_repeat-returns-in-Left-clause-run
run_repeat-returns-in-Left-clause-run t c =
    let ds = c.args.layout.now in
    let body : Stmts = codes_said ds c.args.body.now in
    let turn : Running = Step (RunsAll (types_in ds) body) in
    let p : Point = spot ds c.loop-words.words c.loop-words.meter in
    let m : Point = spot ds c.turn.new.words c.turn.new.meter in
    let ran = ends_as turn p m Left (end_of c.turn.result) (sym (ended_by c.turn.result c.in_ok-turn.field-0 flow.Left c.in_ok-turn.was c.in-Left.is)) c.turn.ensures.run in
    c.loop-words.invariant.run Went m (repeat_left (expr_of_truth ds (truth_said c.args.condition.now)) turn p m ran)

pub run_repeat-returns-in-Returned-clause-run : goal.run_repeat-returns-in-Returned-clause-run
run_repeat-returns-in-Returned-clause-run t c =
    let ds = c.args.layout.now in
    let body : Stmts = codes_said ds c.args.body.now in
    let turn : Running = Step (RunsAll (types_in ds) body) in
    let p : Point = spot ds c.loop-words.words c.loop-words.meter in
    let m : Point = spot ds c.turn.new.words c.turn.new.meter in
    let ran = ends_as turn p m Returned (end_of c.turn.result) (sym (ended_by c.turn.result c.in_ok-turn.field-0 flow.Returned c.in_ok-turn.was c.in-Returned.is)) c.turn.ensures.run in
    c.loop-words.invariant.run Returned m (repeat_returned (expr_of_truth ds (truth_said c.args.condition.now)) turn p m ran)

pub run_repeat-returns-in_err-is_true-clause-run : goal.run_repeat-returns-in_err-is_true-clause-run
run_repeat-returns-in_err-is_true-clause-run t c =
    let ds = c.args.layout.now in
    let kinds = (both_true (fits_truth (length ds) (truth_said c.args.condition.now)) (kinds_truth ds (truth_said c.args.condition.now)) c.requires.condition_right).1 in
    let here = condition_comes ds c.turn.new.words (c.turn.ensures.kept.same_length ∙ c.loop-words.invariant.same_length ∙ c.requires.frame.fit) c.requires.frame.once (truth_said c.args.condition.now) kinds in
    let body : Stmts = codes_said ds c.args.body.now in
    let turn : Running = Step (RunsAll (types_in ds) body) in
    let p : Point = spot ds c.loop-words.words c.loop-words.meter in
    let m : Point = spot ds c.turn.new.words c.turn.new.meter in
    let r : Reason = c.in_err-is_true.field-0.0 in
    let ran = ends_as turn p m Went (end_of c.turn.result) (sym (ended_by c.turn.result c.in_ok-turn.field-0 flow.Went c.in_ok-turn.was c.in-Went.is)) c.turn.ensures.run in
    let x = err_from_is_err_and c.from_residual-in_err-is_true.result c.from_residual-in_err-is_true.ensures.1 in
    rw (x.1, x.2) (c.loop-words.invariant.run (Stopped r) m (repeat_stops (expr_of_truth ds (truth_said c.args.condition.now)) turn p m r ran (here ∙ sym c.is_true.ensures ∙ c.in_err-is_true.was)))

pub run_repeat-returns-then-branch-clause-run : goal.run_repeat-returns-then-branch-clause-run
run_repeat-returns-then-branch-clause-run t c =
    let ds = c.args.layout.now in
    let kinds = (both_true (fits_truth (length ds) (truth_said c.args.condition.now)) (kinds_truth ds (truth_said c.args.condition.now)) c.requires.condition_right).1 in
    let here = condition_comes ds c.turn.new.words (c.turn.ensures.kept.same_length ∙ c.loop-words.invariant.same_length ∙ c.requires.frame.fit) c.requires.frame.once (truth_said c.args.condition.now) kinds in
    let body : Stmts = codes_said ds c.args.body.now in
    let turn : Running = Step (RunsAll (types_in ds) body) in
    let p : Point = spot ds c.loop-words.words c.loop-words.meter in
    let m : Point = spot ds c.turn.new.words c.turn.new.meter in
    let ran = ends_as turn p m Went (end_of c.turn.result) (sym (ended_by c.turn.result c.in_ok-turn.field-0 flow.Went c.in_ok-turn.was c.in-Went.is)) c.turn.ensures.run in
    let holds = here ∙ sym c.is_true.ensures ∙ ok_by c.is_true.result c.in_ok-is_true.field-0 true c.in_ok-is_true.was c.if-branch.true in
    c.loop-words.invariant.run Went m (repeat_over (expr_of_truth ds (truth_said c.args.condition.now)) turn p m ran holds)

pub run_repeat-loop-words-preserved : goal.run_repeat-loop-words-preserved
run_repeat-loop-words-preserved t c =
    let ds = c.args.layout.now in
    let kinds = (both_true (fits_truth (length ds) (truth_said c.args.condition.now)) (kinds_truth ds (truth_said c.args.condition.now)) c.requires.condition_right).1 in
    let here = condition_comes ds c.turn.new.words (c.turn.ensures.kept.same_length ∙ c.loop-words.invariant.same_length ∙ c.requires.frame.fit) c.requires.frame.once (truth_said c.args.condition.now) kinds in
    let body : Stmts = codes_said ds c.args.body.now in
    let turn : Running = Step (RunsAll (types_in ds) body) in
    let p : Point = spot ds c.loop-words.words c.loop-words.meter in
    let m : Point = spot ds c.turn.new.words c.turn.new.meter in
    let ran = ends_as turn p m Went (end_of c.turn.result) (sym (ended_by c.turn.result c.in_ok-turn.field-0 flow.Went c.in_ok-turn.was c.in-Went.is)) c.turn.ensures.run in
    let fails = here ∙ sym c.is_true.ensures ∙ ok_by c.is_true.result c.in_ok-is_true.field-0 false c.in_ok-is_true.was c.if-branch.false in
    record {
      run = λ e q rest. c.loop-words.invariant.run e q (repeat_goes_on (expr_of_truth ds (truth_said c.args.condition.now)) turn p m ran fails e q rest);
      same_length = c.turn.ensures.kept.same_length ∙ c.loop-words.invariant.same_length;
      fewer = let a = c.turn.ensures.kept.fewer in let b = c.loop-words.invariant.fewer in omega arith;
    }

pub run_while-loop-words-preserved : goal.run_while-loop-words-preserved
run_while-loop-words-preserved t c =
    let ds = c.args.layout.now in
    let kinds = (both_true (fits_truth (length ds) (truth_said c.args.condition.now)) (kinds_truth ds (truth_said c.args.condition.now)) c.requires.condition_right).1 in
    let here = condition_comes ds c.loop-words.words (c.loop-words.invariant.same_length ∙ c.requires.frame.fit) c.requires.frame.once (truth_said c.args.condition.now) kinds in
    let body : Stmts = codes_said ds c.args.body.now in
    let turn : Running = Step (RunsAll (types_in ds) body) in
    let test : Values → Result Bool Reason = truth_of (expr_of_truth ds (truth_said c.args.condition.now)) in
    let p : Point = spot ds c.loop-words.words c.loop-words.meter in
    let m : Point = spot ds c.turn.new.words c.turn.new.meter in
    let ran = ends_as turn p m Went (end_of c.turn.result) (sym (ended_by c.turn.result c.in_ok-turn.field-0 flow.Went c.in_ok-turn.was c.in-Went.is)) c.turn.ensures.run in
    let holds = here ∙ sym c.is_true.ensures ∙ ok_by c.is_true.result c.in_ok-is_true.field-0 true c.in_ok-is_true.was c.if-branch.true in
    record {
      run = λ e q rest. c.loop-words.invariant.run e q (loop_goes_on test turn p m holds ran e q rest);
      same_length = c.turn.ensures.kept.same_length ∙ c.loop-words.invariant.same_length;
      fewer = let a = c.turn.ensures.kept.fewer in let b = c.loop-words.invariant.fewer in omega arith;
    }

pub run_while-returns-in_err-is_true-clause-run : goal.run_while-returns-in_err-is_true-clause-run
run_while-returns-in_err-is_true-clause-run t c =
    let ds = c.args.layout.now in
    let kinds = (both_true (fits_truth (length ds) (truth_said c.args.condition.now)) (kinds_truth ds (truth_said c.args.condition.now)) c.requires.condition_right).1 in
    let here = condition_comes ds c.loop-words.words (c.loop-words.invariant.same_length ∙ c.requires.frame.fit) c.requires.frame.once (truth_said c.args.condition.now) kinds in
    let turn : Running = Step (RunsAll (types_in ds) (codes_said ds c.args.body.now)) in
    let test : Values → Result Bool Reason = truth_of (expr_of_truth ds (truth_said c.args.condition.now)) in
    let p : Point = spot ds c.loop-words.words c.loop-words.meter in
    let r : Reason = c.in_err-is_true.field-0.0 in
    let x = err_from_is_err_and c.from_residual.result c.from_residual.ensures.1 in
    rw (x.1, x.2) (c.loop-words.invariant.run (Stopped r) p (loop_stops test turn p r (here ∙ sym c.is_true.ensures ∙ c.in_err-is_true.was)))

pub run_while-returns-in_err-turn-clause-run : goal.run_while-returns-in_err-turn-clause-run
run_while-returns-in_err-turn-clause-run t c =
    let ds = c.args.layout.now in
    let kinds = (both_true (fits_truth (length ds) (truth_said c.args.condition.now)) (kinds_truth ds (truth_said c.args.condition.now)) c.requires.condition_right).1 in
    let here = condition_comes ds c.loop-words.words (c.loop-words.invariant.same_length ∙ c.requires.frame.fit) c.requires.frame.once (truth_said c.args.condition.now) kinds in
    let body : Stmts = codes_said ds c.args.body.now in
    let turn : Running = Step (RunsAll (types_in ds) body) in
    let test : Values → Result Bool Reason = truth_of (expr_of_truth ds (truth_said c.args.condition.now)) in
    let p : Point = spot ds c.loop-words.words c.loop-words.meter in
    let m : Point = spot ds c.turn.new.words c.turn.new.meter in
    let r : Reason = c.in_err-turn.field-0.0 in
    let ran = ends_as turn p m (Stopped r) (end_of c.turn.result) (sym (stopped_by c.turn.result r c.in_err-turn.was)) c.turn.ensures.run in
    let holds = here ∙ sym c.is_true.ensures ∙ ok_by c.is_true.result c.in_ok-is_true.field-0 true c.in_ok-is_true.was c.if-branch.true in
    let x = err_from_is_err_and c.from_residual-in_err-turn.result c.from_residual-in_err-turn.ensures.1 in
    rw (x.1, x.2) (c.loop-words.invariant.run (Stopped r) m (loop_stopped test turn p m r holds ran))

pub run_while-returns-in-Left-clause-run : goal.run_while-returns-in-Left-clause-run
run_while-returns-in-Left-clause-run t c =
    let ds = c.args.layout.now in
    let kinds = (both_true (fits_truth (length ds) (truth_said c.args.condition.now)) (kinds_truth ds (truth_said c.args.condition.now)) c.requires.condition_right).1 in
    let here = condition_comes ds c.loop-words.words (c.loop-words.invariant.same_length ∙ c.requires.frame.fit) c.requires.frame.once (truth_said c.args.condition.now) kinds in
    let body : Stmts = codes_said ds c.args.body.now in
    let turn : Running = Step (RunsAll (types_in ds) body) in
    let test : Values → Result Bool Reason = truth_of (expr_of_truth ds (truth_said c.args.condition.now)) in
    let p : Point = spot ds c.loop-words.words c.loop-words.meter in
    let m : Point = spot ds c.turn.new.words c.turn.new.meter in
    let ran = ends_as turn p m Left (end_of c.turn.result) (sym (ended_by c.turn.result c.in_ok-turn.field-0 flow.Left c.in_ok-turn.was c.in-Left.is)) c.turn.ensures.run in
    let holds = here ∙ sym c.is_true.ensures ∙ ok_by c.is_true.result c.in_ok-is_true.field-0 true c.in_ok-is_true.was c.if-branch.true in
    c.loop-words.invariant.run Went m (loop_left test turn p m holds ran)

pub run_while-returns-in-Returned-clause-run : goal.run_while-returns-in-Returned-clause-run
run_while-returns-in-Returned-clause-run t c =
    let ds = c.args.layout.now in
    let kinds = (both_true (fits_truth (length ds) (truth_said c.args.condition.now)) (kinds_truth ds (truth_said c.args.condition.now)) c.requires.condition_right).1 in
    let here = condition_comes ds c.loop-words.words (c.loop-words.invariant.same_length ∙ c.requires.frame.fit) c.requires.frame.once (truth_said c.args.condition.now) kinds in
    let body : Stmts = codes_said ds c.args.body.now in
    let turn : Running = Step (RunsAll (types_in ds) body) in
    let test : Values → Result Bool Reason = truth_of (expr_of_truth ds (truth_said c.args.condition.now)) in
    let p : Point = spot ds c.loop-words.words c.loop-words.meter in
    let m : Point = spot ds c.turn.new.words c.turn.new.meter in
    let ran = ends_as turn p m Returned (end_of c.turn.result) (sym (ended_by c.turn.result c.in_ok-turn.field-0 flow.Returned c.in_ok-turn.was c.in-Returned.is)) c.turn.ensures.run in
    let holds = here ∙ sym c.is_true.ensures ∙ ok_by c.is_true.result c.in_ok-is_true.field-0 true c.in_ok-is_true.was c.if-branch.true in
    c.loop-words.invariant.run Returned m (loop_returned test turn p m holds ran)

pub run_while-returns-clause-run : goal.run_while-returns-clause-run
run_while-returns-clause-run t c =
    let ds = c.args.layout.now in
    let kinds = (both_true (fits_truth (length ds) (truth_said c.args.condition.now)) (kinds_truth ds (truth_said c.args.condition.now)) c.requires.condition_right).1 in
    let here = condition_comes ds c.loop-words.words (c.loop-words.invariant.same_length ∙ c.requires.frame.fit) c.requires.frame.once (truth_said c.args.condition.now) kinds in
    let turn : Running = Step (RunsAll (types_in ds) (codes_said ds c.args.body.now)) in
    let test : Values → Result Bool Reason = truth_of (expr_of_truth ds (truth_said c.args.condition.now)) in
    let p : Point = spot ds c.loop-words.words c.loop-words.meter in
    let fails = here ∙ sym c.is_true.ensures ∙ ok_by c.is_true.result c.in_ok-is_true.field-0 false c.in_ok-is_true.was c.if-branch.false in
    c.loop-words.invariant.run Went p (loop_over test turn p fails)

pub run_counts-loop-init : goal.run_counts-loop-init
run_counts-loop-init t c =
    let ds = c.args.layout.now in
    let end : ℤ = c.args.span.end in
    let step : ℤ = c.args.span.step in
    record {
      run = λ e q rest. rest;
      same_length = refl;
      fewer = omega arith;
      within = c.requires.within;
    }

pub run_counts-loop-preserved : goal.run_counts-loop-preserved
run_counts-loop-preserved t c =
    let ds = c.args.layout.now in
    let n : Name = (name_at ds c.args.count.now.slot) in
    let body : Stmts = codes_said ds c.args.body.now in
    let T : Types = types_in ds in
    let end : ℤ = c.args.span.end in
    let step : ℤ = c.args.span.step in
    let turn : Running = Step (Then (RunsAll T body) (Advances T n end step)) in
    let test : Values → Result Bool Reason = λ vars. Ok (not (passed end step (whole (vars n)))) in
    let p : Point = spot ds c.loop.words c.loop.meter in
    let m : Point = spot ds c.turn_of_for.new.words c.turn_of_for.new.meter in
    let ran = ends_as turn p m Went (end_of c.turn_of_for.result) (sym (ended_by c.turn_of_for.result c.in_ok-turn_of_for.field-0 flow.Went c.in_ok-turn_of_for.was c.in-Went.is)) c.turn_of_for.ensures.run in
    let here : passed end step (whole (values_at ds c.loop.words n)) ≡ false = c.loop.invariant.within in
    record {
      run = λ e q rest. c.loop.invariant.run e q (loop_goes_on test turn p m (ap (λ b. Ok (not b)) here) ran e q rest);
      same_length = c.turn_of_for.ensures.kept.same_length ∙ c.loop.invariant.same_length;
      fewer = let a = c.turn_of_for.ensures.kept.fewer in let b = c.loop.invariant.fewer in omega arith;
      within = c.in_ok-turn_of_for.ensures.within c.in-Went.is;
    }

pub run_counts-returns-in_err-turn_of_for-clause-run : goal.run_counts-returns-in_err-turn_of_for-clause-run
run_counts-returns-in_err-turn_of_for-clause-run t c =
    let ds = c.args.layout.now in
    let n : Name = (name_at ds c.args.count.now.slot) in
    let body : Stmts = codes_said ds c.args.body.now in
    let T : Types = types_in ds in
    let end : ℤ = c.args.span.end in
    let step : ℤ = c.args.span.step in
    let turn : Running = Step (Then (RunsAll T body) (Advances T n end step)) in
    let test : Values → Result Bool Reason = λ vars. Ok (not (passed end step (whole (vars n)))) in
    let p : Point = spot ds c.loop.words c.loop.meter in
    let r : Reason = c.in_err-turn_of_for.field-0.0 in
    let here : passed end step (whole (values_at ds c.loop.words n)) ≡ false = c.loop.invariant.within in
    let m : Point = spot ds c.turn_of_for.new.words c.turn_of_for.new.meter in
    let ran = ends_as turn p m (Stopped r) (end_of c.turn_of_for.result) (sym (stopped_by c.turn_of_for.result r c.in_err-turn_of_for.was)) c.turn_of_for.ensures.run in
    let x = err_from_is_err_and c.from_residual.result c.from_residual.ensures.1 in
    rw (x.1, x.2) (c.loop.invariant.run (Stopped r) m (loop_stopped test turn p m r (ap (λ b. Ok (not b)) here) ran))

pub run_counts-returns-in-Left-clause-run : goal.run_counts-returns-in-Left-clause-run
run_counts-returns-in-Left-clause-run t c =
    let ds = c.args.layout.now in
    let n : Name = (name_at ds c.args.count.now.slot) in
    let body : Stmts = codes_said ds c.args.body.now in
    let T : Types = types_in ds in
    let end : ℤ = c.args.span.end in
    let step : ℤ = c.args.span.step in
    let turn : Running = Step (Then (RunsAll T body) (Advances T n end step)) in
    let test : Values → Result Bool Reason = λ vars. Ok (not (passed end step (whole (vars n)))) in
    let p : Point = spot ds c.loop.words c.loop.meter in
    let here : passed end step (whole (values_at ds c.loop.words n)) ≡ false = c.loop.invariant.within in
    let m : Point = spot ds c.turn_of_for.new.words c.turn_of_for.new.meter in
    let ran = ends_as turn p m Left (end_of c.turn_of_for.result) (sym (ended_by c.turn_of_for.result c.in_ok-turn_of_for.field-0 flow.Left c.in_ok-turn_of_for.was c.in-Left.is)) c.turn_of_for.ensures.run in
    c.loop.invariant.run Went m (loop_left test turn p m (ap (λ b. Ok (not b)) here) ran)

pub run_counts-returns-in-Returned-clause-run : goal.run_counts-returns-in-Returned-clause-run
run_counts-returns-in-Returned-clause-run t c =
    let ds = c.args.layout.now in
    let n : Name = (name_at ds c.args.count.now.slot) in
    let body : Stmts = codes_said ds c.args.body.now in
    let T : Types = types_in ds in
    let end : ℤ = c.args.span.end in
    let step : ℤ = c.args.span.step in
    let turn : Running = Step (Then (RunsAll T body) (Advances T n end step)) in
    let test : Values → Result Bool Reason = λ vars. Ok (not (passed end step (whole (vars n)))) in
    let p : Point = spot ds c.loop.words c.loop.meter in
    let here : passed end step (whole (values_at ds c.loop.words n)) ≡ false = c.loop.invariant.within in
    let m : Point = spot ds c.turn_of_for.new.words c.turn_of_for.new.meter in
    let ran = ends_as turn p m Returned (end_of c.turn_of_for.result) (sym (ended_by c.turn_of_for.result c.in_ok-turn_of_for.field-0 flow.Returned c.in_ok-turn_of_for.was c.in-Returned.is)) c.turn_of_for.ensures.run in
    c.loop.invariant.run Returned m (loop_returned test turn p m (ap (λ b. Ok (not b)) here) ran)

pub run_all-run-requires : goal.run_all-run-requires
run_all-run-requires t c = (
  omega (arith, statement_size c.args.statements.now c.loop-statement.statement-index c.statement-item.result c.loop-statement-test.true c.statement-item.is),
  (
    record { fit = c.loop-statement.invariant.same_length ∙ c.requires.frame.fit; once = c.requires.frame.once },
    (one_right (code_right c.args.layout.now) c.args.statements.now c.loop-statement.statement-index c.statement-item.result c.loop-statement-test.true c.statement-item.is c.loop-statement.invariant.right).0,
  ),
)

pub run_all-loop-statement-preserved : goal.run_all-loop-statement-preserved
run_all-loop-statement-preserved t c =
    let ds = c.args.layout.now in
    let T : Types = types_in ds in
    let s : CompiledStmt = c.statement-item.result in
    let p : Point = spot ds c.loop-statement.words c.loop-statement.meter in
    let m : Point = spot ds c.run.new.words c.run.new.meter in
    let ran = ends_as (Runs T (code_said ds s)) p m Went (end_of c.run.result) (sym (ended_by c.run.result c.in_ok-run.field-0 flow.Went c.in_ok-run.was c.in-Went.is)) c.run.ensures.run in
    record {
      run = λ e q rest. c.loop-statement.invariant.run e q
          (codes_go_on ds T c.args.statements.now c.loop-statement.statement-index s p m c.loop-statement-test.true c.statement-item.is ran e q rest);
      right = (one_right (code_right ds) c.args.statements.now c.loop-statement.statement-index s c.loop-statement-test.true c.statement-item.is c.loop-statement.invariant.right).1;
      same_length = c.run.ensures.kept.same_length ∙ c.loop-statement.invariant.same_length;
      fewer = let a = c.run.ensures.kept.fewer in let b = c.loop-statement.invariant.fewer in omega arith;
    }

pub run_all-returns-in_err-run-clause-run : goal.run_all-returns-in_err-run-clause-run
run_all-returns-in_err-run-clause-run t c =
    let ds = c.args.layout.now in
    let T : Types = types_in ds in
    let s : CompiledStmt = c.statement-item.result in
    let p : Point = spot ds c.loop-statement.words c.loop-statement.meter in
    let m : Point = spot ds c.run.new.words c.run.new.meter in
    let r : Reason = c.in_err-run.field-0.0 in
    let ran = ends_as (Runs T (code_said ds s)) p m (Stopped r) (end_of c.run.result) (sym (stopped_by c.run.result r c.in_err-run.was)) c.run.ensures.run in
    let x = err_from_is_err_and c.from_residual.result c.from_residual.ensures.1 in
    rw (x.1, x.2) (c.loop-statement.invariant.run (Stopped r) m
    (codes_end ds T c.args.statements.now c.loop-statement.statement-index s p m (Stopped r) c.loop-statement-test.true c.statement-item.is ran (refl, refl)))

pub run_all-returns-in-Left-clause-run : goal.run_all-returns-in-Left-clause-run
run_all-returns-in-Left-clause-run t c =
    let ds = c.args.layout.now in
    let T : Types = types_in ds in
    let s : CompiledStmt = c.statement-item.result in
    let p : Point = spot ds c.loop-statement.words c.loop-statement.meter in
    let m : Point = spot ds c.run.new.words c.run.new.meter in
    let ran = ends_as (Runs T (code_said ds s)) p m Left (end_of c.run.result) (sym (ended_by c.run.result c.in_ok-run.field-0 flow.Left c.in_ok-run.was c.in-Left.is)) c.run.ensures.run in
    c.loop-statement.invariant.run Left m
    (codes_end ds T c.args.statements.now c.loop-statement.statement-index s p m Left c.loop-statement-test.true c.statement-item.is ran (refl, refl))

pub run_all-returns-in-Returned-clause-run : goal.run_all-returns-in-Returned-clause-run
run_all-returns-in-Returned-clause-run t c =
    let ds = c.args.layout.now in
    let T : Types = types_in ds in
    let s : CompiledStmt = c.statement-item.result in
    let p : Point = spot ds c.loop-statement.words c.loop-statement.meter in
    let m : Point = spot ds c.run.new.words c.run.new.meter in
    let ran = ends_as (Runs T (code_said ds s)) p m Returned (end_of c.run.result) (sym (ended_by c.run.result c.in_ok-run.field-0 flow.Returned c.in_ok-run.was c.in-Returned.is)) c.run.ensures.run in
    c.loop-statement.invariant.run Returned m
    (codes_end ds T c.args.statements.now c.loop-statement.statement-index s p m Returned c.loop-statement-test.true c.statement-item.is ran (refl, refl))

pub run_all-returns-clause-run : goal.run_all-returns-clause-run
run_all-returns-clause-run t c =
    let ds = c.args.layout.now in
    let T : Types = types_in ds in
    let p : Point = spot ds c.loop-statement.words c.loop-statement.meter in
    c.loop-statement.invariant.run Went p
    (subst (λ (l : List CompiledStmt). RunsAll T (codes_said ds l) p Went p) (sym (nothing_left c.args.statements.now c.loop-statement.statement-index c.loop-statement-test.false)) (refl, refl))

-- ---- IF

pub run_choice-run_all-requires : goal.run_choice-run_all-requires
run_choice-run_all-requires t c =
    let ds = c.args.layout.now in
    let inv = c.loop-choice.invariant in
    let one : CompiledChoice = c.choice-item.result in
    let right = (arm_parts ds one (one_right (arm_right ds) c.args.choices.now c.loop-choice.choice-index one c.loop-choice-test.true c.choice-item.is inv.right).0).2 in (
      omega (arith, body_of_arm_size c.args.choices.now c.loop-choice.choice-index one c.as_slice.result.now c.loop-choice-test.true c.choice-item.is c.as_slice.ensures),
      (record { fit = ap length inv.same_words ∙ c.requires.frame.fit; once = c.requires.frame.once }, ap (codes_right ds) c.as_slice.ensures ∙ right),
    )

pub run_choice-loop-choice-preserved : goal.run_choice-loop-choice-preserved
run_choice-loop-choice-preserved t c =
    let ds = c.args.layout.now in
    let T : Types = types_in ds in
    let cs : List CompiledChoice = c.args.choices.now in
    let others : Running = RunsAll T (codes_said ds c.args.others.now) in
    let p : Point = spot ds c.args.words.now c.args.meter.now in
    let inv = c.loop-choice.invariant in
    let one : CompiledChoice = c.choice-item.result in
    let right = one_right (arm_right ds) cs c.loop-choice.choice-index one c.loop-choice-test.true c.choice-item.is inv.right in
    let kinds = (arm_parts ds one right.0).1 in
    let fails = arm_holds ds one c.loop-choice.words c.args.words.now c.is_true.result (Ok false) (ap length inv.same_words ∙ c.requires.frame.fit) c.requires.frame.once inv.same_words kinds c.is_true.ensures
    (ok_by c.is_true.result c.in_ok-is_true.field-0 false c.in_ok-is_true.was c.if-branch.false) in
    record {
      run = λ e q rest. inv.run e q (arm_passed ds T cs c.loop-choice.choice-index one others p c.loop-choice-test.true c.choice-item.is fails e q rest);
      right = right.1;
      same_words = inv.same_words;
      same_meter = inv.same_meter;
    }

pub run_choice-returns-in_err-is_true-clause-run : goal.run_choice-returns-in_err-is_true-clause-run
run_choice-returns-in_err-is_true-clause-run t c =
    let ds = c.args.layout.now in
    let T : Types = types_in ds in
    let cs : List CompiledChoice = c.args.choices.now in
    let others : Running = RunsAll T (codes_said ds c.args.others.now) in
    let p : Point = spot ds c.args.words.now c.args.meter.now in
    let inv = c.loop-choice.invariant in
    let one : CompiledChoice = c.choice-item.result in
    let right = one_right (arm_right ds) cs c.loop-choice.choice-index one c.loop-choice-test.true c.choice-item.is inv.right in
    let kinds = (arm_parts ds one right.0).1 in
    let r : Reason = c.in_err-is_true.field-0.0 in
    let stops = arm_holds ds one c.loop-choice.words c.args.words.now c.is_true.result (Err r) (ap length inv.same_words ∙ c.requires.frame.fit) c.requires.frame.once inv.same_words kinds c.is_true.ensures
    c.in_err-is_true.was in
    let x = err_from_is_err_and c.from_residual.result c.from_residual.ensures.1 in
    rw (x.1, x.2)
    (ends_here ds (Runs T (If (arms_said ds cs) (codes_said ds c.args.others.now))) (begun ds c.args.words.now c.args.meter.now) (Stopped r)
    c.loop-choice.words c.args.words.now c.loop-choice.meter c.args.meter.now inv.same_words inv.same_meter
    (inv.run (Stopped r) p (arm_stops ds T cs c.loop-choice.choice-index one others p r c.loop-choice-test.true c.choice-item.is stops)))

pub run_choice-returns-then-branch-clause-run : goal.run_choice-returns-then-branch-clause-run
run_choice-returns-then-branch-clause-run t c =
    let ds = c.args.layout.now in
    let T : Types = types_in ds in
    let cs : List CompiledChoice = c.args.choices.now in
    let others : Running = RunsAll T (codes_said ds c.args.others.now) in
    let p : Point = spot ds c.args.words.now c.args.meter.now in
    let inv = c.loop-choice.invariant in
    let one : CompiledChoice = c.choice-item.result in
    let right = one_right (arm_right ds) cs c.loop-choice.choice-index one c.loop-choice-test.true c.choice-item.is inv.right in
    let kinds = (arm_parts ds one right.0).1 in
    let q : Point = spot ds c.run_all.new.words c.run_all.new.meter in
    let holds = arm_holds ds one c.loop-choice.words c.args.words.now c.is_true.result (Ok true) (ap length inv.same_words ∙ c.requires.frame.fit) c.requires.frame.once inv.same_words kinds c.is_true.ensures
    (ok_by c.is_true.result c.in_ok-is_true.field-0 true c.in_ok-is_true.was c.if-branch.true) in
    let ran = arm_ran ds T one c.loop-choice.words c.args.words.now c.loop-choice.meter c.args.meter.now c.as_slice.result.now (end_of c.run_all.result) q
    inv.same_words inv.same_meter c.as_slice.ensures c.run_all.ensures.run in
    inv.run (end_of c.run_all.result) q (arm_taken ds T cs c.loop-choice.choice-index one others p c.loop-choice-test.true c.choice-item.is holds (end_of c.run_all.result) q ran)

pub run_choice-returns-clause-run : goal.run_choice-returns-clause-run
run_choice-returns-clause-run t c =
    let ds = c.args.layout.now in
    let T : Types = types_in ds in
    let cs : List CompiledChoice = c.args.choices.now in
    let others : Running = RunsAll T (codes_said ds c.args.others.now) in
    let p : Point = spot ds c.args.words.now c.args.meter.now in
    let inv = c.loop-choice.invariant in
    let q : Point = spot ds c.run_all-2.new.words c.run_all-2.new.meter in
    let e : End = end_of c.run_all-2.result in
    let ran = codes_as ds T c.loop-choice.words c.args.words.now c.loop-choice.meter c.args.meter.now c.args.others.now c.args.others.now e q inv.same_words inv.same_meter refl c.run_all-2.ensures.run in
    inv.run e q
    (subst (λ (l : List CompiledChoice). RunsChoice T (arms_said ds l) others p e q) (sym (nothing_left cs c.loop-choice.choice-index c.loop-choice-test.false)) ran)

-- ---- CASE

pub run_branch-loop-branch-preserved : goal.run_branch-loop-branch-preserved
run_branch-loop-branch-preserved t c =
    let ds = c.args.layout.now in
    let T : Types = types_in ds in
    let bs : List CompiledBranch = c.args.branches.now in
    let z : ℤ = c.args.number in
    let others : Running = RunsAll T (codes_said ds c.args.others.now) in
    let p : Point = spot ds c.args.words.now c.args.meter.now in
    let wide : SFits w128 z = search rules in
    let inv = rw (to_z-of_z wide) at c.loop-branch.invariant in
    let one : CompiledBranch = c.branch-item.result in
    let fails = fork_fits ds one c.as_slice.result.now z c.has_label.result false c.as_slice.ensures (rw (to_z-of_z wide) at c.has_label.ensures) c.if-has_label.false in
    rw (to_z-of_z wide) (record {
      run = λ e q rest. inv.run e q (fork_passed ds T bs c.loop-branch.branch-index one z others p c.loop-branch-test.true c.branch-item.is fails e q rest);
      right = (one_right (fork_right ds) bs c.loop-branch.branch-index one c.loop-branch-test.true c.branch-item.is inv.right).1;
      same_words = inv.same_words;
      same_meter = inv.same_meter;
    })

pub run_branch-returns-then-has_label-clause-run : goal.run_branch-returns-then-has_label-clause-run
run_branch-returns-then-has_label-clause-run t c =
    let ds = c.args.layout.now in
    let T : Types = types_in ds in
    let bs : List CompiledBranch = c.args.branches.now in
    let z : ℤ = c.args.number in
    let others : Running = RunsAll T (codes_said ds c.args.others.now) in
    let p : Point = spot ds c.args.words.now c.args.meter.now in
    let wide : SFits w128 z = search rules in
    let inv = rw (to_z-of_z wide) at c.loop-branch.invariant in
    let one : CompiledBranch = c.branch-item.result in
    let q : Point = spot ds c.run_all.new.words c.run_all.new.meter in
    let fits = fork_fits ds one c.as_slice.result.now z c.has_label.result true c.as_slice.ensures (rw (to_z-of_z wide) at c.has_label.ensures) c.if-has_label.true in
    let ran = fork_ran ds T one c.loop-branch.words c.args.words.now c.loop-branch.meter c.args.meter.now c.as_slice-then-has_label.result.now (end_of c.run_all.result) q
    inv.same_words inv.same_meter c.as_slice-then-has_label.ensures c.run_all.ensures.run in
    inv.run (end_of c.run_all.result) q
    (fork_taken ds T bs c.loop-branch.branch-index one z others p c.loop-branch-test.true c.branch-item.is fits (end_of c.run_all.result) q ran)

pub run_branch-returns-clause-run : goal.run_branch-returns-clause-run
run_branch-returns-clause-run t c =
    let ds = c.args.layout.now in
    let T : Types = types_in ds in
    let bs : List CompiledBranch = c.args.branches.now in
    let z : ℤ = c.args.number in
    let others : Running = RunsAll T (codes_said ds c.args.others.now) in
    let p : Point = spot ds c.args.words.now c.args.meter.now in
    let wide : SFits w128 z = search rules in
    let inv = rw (to_z-of_z wide) at c.loop-branch.invariant in
    let q : Point = spot ds c.run_all-2.new.words c.run_all-2.new.meter in
    let e : End = end_of c.run_all-2.result in
    let ran = codes_as ds T c.loop-branch.words c.args.words.now c.loop-branch.meter c.args.meter.now c.args.others.now c.args.others.now e q inv.same_words inv.same_meter refl c.run_all-2.ensures.run in
    inv.run e q
    (subst (λ (l : List CompiledBranch). RunsBranch T (forks_said ds l) z others p e q) (sym (nothing_left bs c.loop-branch.branch-index c.loop-branch-test.false)) ran)

-- ---- A statement, once its step is begun

-- the expression of an assignment fits the words, and so does its slot
pub run-number-requires : goal.run-number-requires
run-number-requires t c =
    let ds = c.args.layout.now in
    let right = long_right ds c.in-AssignLong.slot c.in-AssignLong.expr (ap (code_right ds) (sym c.in-AssignLong.is) ∙ c.requires.right) in
    rw (c.requires.frame.fit) right.2

pub run-bounds-words-slot : goal.run-bounds-words-slot
run-bounds-words-slot t c =
    let ds = c.args.layout.now in
    let right = long_right ds c.in-AssignLong.slot c.in-AssignLong.expr (ap (code_right ds) (sym c.in-AssignLong.is) ∙ c.requires.right) in
    rw (c.requires.frame.fit) (long_slot_there ds c.in-AssignLong.slot right.0)

pub run-offset_bounds-words-slot : goal.run-offset_bounds-words-slot
run-offset_bounds-words-slot t c =
    let right = long_right c.args.layout.now c.in-AssignLong.slot c.in-AssignLong.expr (ap (code_right c.args.layout.now) (sym c.in-AssignLong.is) ∙ c.requires.right) in
    let at : c.in-AssignLong.slot < length c.args.words.now = rw (c.requires.frame.fit) (long_slot_there c.args.layout.now c.in-AssignLong.slot right.0) in
    search rules

pub run-assign_exact-requires-clause-slot : goal.run-assign_exact-requires-clause-slot
run-assign_exact-requires-clause-slot t c =
    let ds = c.args.layout.now in
    let right = long_right ds c.in-AssignLong.slot c.in-AssignLong.expr (ap (code_right ds) (sym c.in-AssignLong.is) ∙ c.requires.right) in
    long_slot_there ds c.in-AssignLong.slot right.0

pub run-assign_exact-requires-clause-right : goal.run-assign_exact-requires-clause-right
run-assign_exact-requires-clause-right t c =
    let ds = c.args.layout.now in
    let right = long_right ds c.in-AssignLong.slot c.in-AssignLong.expr (ap (code_right ds) (sym c.in-AssignLong.is) ∙ c.requires.right) in
    right.1

pub run-returns-in-Some-clause-run : goal.run-returns-in-Some-clause-run
run-returns-in-Some-clause-run t c =
    let ds = c.args.layout.now in
    let ws = c.args.words.now in
    let slot = c.in-AssignLong.slot in
    let e = number_said c.in-AssignLong.expr in
    let left = c.step.new.self.left in
    let right = long_right ds c.in-AssignLong.slot c.in-AssignLong.expr (ap (code_right ds) (sym c.in-AssignLong.is) ∙ c.requires.right) in
    let fit : SFits w64 c.in-Some.number = search rules in
    let at = long_slot (slice_get ds slot) right.0 c.in-Some.number fit in
    let comes = number_comes ds ws c.requires.frame.fit c.requires.frame.once e right.3 ∙ ap as_whole c.in-Some.ensures in
    rw (to_z-of_z fit)
    (began (types_in ds) (code_said ds c.args.statement.now) (Assign (name_at ds slot) (expr_of_number ds e))
    (values_at ds ws) c.args.meter.now.left left Went (spot ds (slice_set ws slot c.in-Some.number) c.step.new.self)
    (ap (code_said ds) c.in-AssignLong.is ∙ long_says ds slot c.in-AssignLong.expr) c.in_ok-step.ensures.ok
    (assign_writes ds ws c.requires.frame.fit c.requires.frame.once slot at.0 at.1 (expr_of_number ds e) c.in-Some.number _ comes at.2 at.3 left))

pub run-returns-in-None-clause-run : goal.run-returns-in-None-clause-run
run-returns-in-None-clause-run t c =
    let ds = c.args.layout.now in
    began (types_in ds) (code_said ds c.args.statement.now) (Assign (name_at ds c.in-AssignLong.slot) (expr_of_number ds (number_said c.in-AssignLong.expr)))
    (values_at ds c.args.words.now) c.args.meter.now.left c.step.new.self.left (end_of c.assign_exact.result) (spot ds c.assign_exact.new.words c.step.new.self)
    (ap (code_said ds) c.in-AssignLong.is ∙ long_says ds c.in-AssignLong.slot c.in-AssignLong.expr) c.in_ok-step.ensures.ok (c.assign_exact.ensures.run c.step.new.self.left)

-- a type that holds fewer numbers: one that it does not hold is left to the exact assignment
pub run-number-requires-in-AssignWithin : goal.run-number-requires-in-AssignWithin
run-number-requires-in-AssignWithin t c =
    let ds = c.args.layout.now in
    let right = within_right ds c.in-AssignWithin.slot c.in-AssignWithin.least c.in-AssignWithin.most c.in-AssignWithin.expr (ap (code_right ds) (sym c.in-AssignWithin.is) ∙ c.requires.right) in
    rw (c.requires.frame.fit) right.2

pub run-bounds-words-slot-in-Some-number : goal.run-bounds-words-slot-in-Some-number
run-bounds-words-slot-in-Some-number t c =
    let ds = c.args.layout.now in
    let right = within_right ds c.in-AssignWithin.slot c.in-AssignWithin.least c.in-AssignWithin.most c.in-AssignWithin.expr (ap (code_right ds) (sym c.in-AssignWithin.is) ∙ c.requires.right) in
    rw (c.requires.frame.fit) (within_slot_there ds c.in-AssignWithin.slot c.in-AssignWithin.least c.in-AssignWithin.most right.0)

pub run-offset_bounds-words-slot-in-Some-number : goal.run-offset_bounds-words-slot-in-Some-number
run-offset_bounds-words-slot-in-Some-number t c =
    let right = within_right c.args.layout.now c.in-AssignWithin.slot c.in-AssignWithin.least c.in-AssignWithin.most c.in-AssignWithin.expr (ap (code_right c.args.layout.now) (sym c.in-AssignWithin.is) ∙ c.requires.right) in
    let at : c.in-AssignWithin.slot < length c.args.words.now = rw (c.requires.frame.fit) (within_slot_there c.args.layout.now c.in-AssignWithin.slot c.in-AssignWithin.least c.in-AssignWithin.most right.0) in
    search rules

pub run-assign_exact-requires-in_default-clause-slot : goal.run-assign_exact-requires-in_default-clause-slot
run-assign_exact-requires-in_default-clause-slot t c =
    let ds = c.args.layout.now in
    let right = within_right ds c.in-AssignWithin.slot c.in-AssignWithin.least c.in-AssignWithin.most c.in-AssignWithin.expr (ap (code_right ds) (sym c.in-AssignWithin.is) ∙ c.requires.right) in
    within_slot_there ds c.in-AssignWithin.slot c.in-AssignWithin.least c.in-AssignWithin.most right.0

pub run-assign_exact-requires-in_default-clause-right : goal.run-assign_exact-requires-in_default-clause-right
run-assign_exact-requires-in_default-clause-right t c =
    let ds = c.args.layout.now in
    let right = within_right ds c.in-AssignWithin.slot c.in-AssignWithin.least c.in-AssignWithin.most c.in-AssignWithin.expr (ap (code_right ds) (sym c.in-AssignWithin.is) ∙ c.requires.right) in
    right.1

pub run-returns-in-Some-number-clause-run : goal.run-returns-in-Some-number-clause-run
run-returns-in-Some-number-clause-run t c =
    let ds = c.args.layout.now in
    let ws = c.args.words.now in
    let slot = c.in-AssignWithin.slot in
    let least = c.in-AssignWithin.least in
    let most = c.in-AssignWithin.most in
    let e = number_said c.in-AssignWithin.expr in
    let left = c.step.new.self.left in
    let number = c.in-Some-number.number in
    let right = within_right ds c.in-AssignWithin.slot c.in-AssignWithin.least c.in-AssignWithin.most c.in-AssignWithin.expr (ap (code_right ds) (sym c.in-AssignWithin.is) ∙ c.requires.right) in
    let fit : SFits w64 number = search rules in
    let fit_least : SFits w64 least = search rules in
    let fit_most : SFits w64 most = search rules in
    let low : least ≤ℤ number = let h = rw (to_z-of_z fit_least, to_z-of_z fit) at c.if-least-number.true in grind (arith, ints) in
    let high : number ≤ℤ most = let h = rw (to_z-of_z fit, to_z-of_z fit_most) at c.if-number-most.true in grind (arith, ints) in
    let at = within_slot (slice_get ds slot) least most right.0 number low high in
    let comes = number_comes ds ws c.requires.frame.fit c.requires.frame.once e right.3 ∙ ap as_whole c.in-Some-number.ensures in
    rw (to_z-of_z fit)
    (began (types_in ds) (code_said ds c.args.statement.now) (Assign (name_at ds slot) (expr_of_number ds e))
    (values_at ds ws) c.args.meter.now.left left Went (spot ds (slice_set ws slot number) c.step.new.self)
    (ap (code_said ds) c.in-AssignWithin.is ∙ within_says ds slot least most c.in-AssignWithin.expr) c.in_ok-step.ensures.ok
    (assign_writes ds ws c.requires.frame.fit c.requires.frame.once slot at.0 at.1 (expr_of_number ds e) number _ comes at.2 at.3 left))

pub run-returns-in_default-clause-run : goal.run-returns-in_default-clause-run
run-returns-in_default-clause-run t c =
    let ds = c.args.layout.now in
    began (types_in ds) (code_said ds c.args.statement.now) (Assign (name_at ds c.in-AssignWithin.slot) (expr_of_number ds (number_said c.in-AssignWithin.expr)))
    (values_at ds c.args.words.now) c.args.meter.now.left c.step.new.self.left (end_of c.assign_exact-in_default.result) (spot ds c.assign_exact-in_default.new.words c.step.new.self)
    (ap (code_said ds) c.in-AssignWithin.is ∙ within_says ds c.in-AssignWithin.slot c.in-AssignWithin.least c.in-AssignWithin.most c.in-AssignWithin.expr) c.in_ok-step.ensures.ok
    (c.assign_exact-in_default.ensures.run c.step.new.self.left)

pub run-returns-in-AssignTruth-clause-run : goal.run-returns-in-AssignTruth-clause-run
run-returns-in-AssignTruth-clause-run t c =
    let ds = c.args.layout.now in
    began (types_in ds) (code_said ds c.args.statement.now) (Assign (name_at ds c.in-AssignTruth.slot) (expr_of_truth ds (truth_said c.in-AssignTruth.expr)))
    (values_at ds c.args.words.now) c.args.meter.now.left c.step.new.self.left (end_of c.assign_truth.result) (spot ds c.assign_truth.new.words c.step.new.self)
    (ap (code_said ds) c.in-AssignTruth.is ∙ truth_says ds c.in-AssignTruth.slot c.in-AssignTruth.expr) c.in_ok-step.ensures.ok (c.assign_truth.ensures.run c.step.new.self.left)

pub run-returns-in-If-clause-run : goal.run-returns-in-If-clause-run
run-returns-in-If-clause-run t c =
    let ds = c.args.layout.now in
    let cs = c.as_slice.result.now in
    let others = c.as_slice-in-If.result.now in
    let said : code_said ds c.args.statement.now ≡ If (arms_said ds cs) (codes_said ds others) =
    ap (code_said ds) c.in-If.is ∙ if_says ds c.in-If.choices c.in-If.others
    ∙ ap (λ (l : List CompiledChoice). If (arms_said ds l) (codes_said ds c.in-If.others)) (sym c.as_slice.ensures)
    ∙ ap (λ (l : List CompiledStmt). If (arms_said ds cs) (codes_said ds l)) (sym c.as_slice-in-If.ensures) in
    began (types_in ds) (code_said ds c.args.statement.now) (If (arms_said ds cs) (codes_said ds others))
    (values_at ds c.args.words.now) c.args.meter.now.left c.step.new.self.left (end_of c.run_choice.result) (spot ds c.run_choice.new.words c.run_choice.new.meter)
    said c.in_ok-step.ensures.ok c.run_choice.ensures.run

pub run-returns-in_err-number-in-Case-clause-run : goal.run-returns-in_err-number-in-Case-clause-run
run-returns-in_err-number-in-Case-clause-run t c =
    let ds = c.args.layout.now in
    let T : Types = types_in ds in
    let e = expr_of_number ds (number_said c.in-Case.selector) in
    let kinds = (both_true (fits_number (length ds) (number_said c.in-Case.selector)) (kinds_number ds (number_said c.in-Case.selector)) (case_part ds c.in-Case.selector c.in-Case.branches c.in-Case.others
    (ap (code_right ds) (sym c.in-Case.is) ∙ c.requires.right))).1 in
    let comes = number_comes ds c.args.words.now c.requires.frame.fit c.requires.frame.once (number_said c.in-Case.selector) kinds ∙ ap as_whole (sym c.number-in-Case.ensures ∙ c.in_err-number-in-Case.was) in
    let x = err_from_is_err_and c.from_residual-in_err-number-in-Case.result c.from_residual-in_err-number-in-Case.ensures.1 in
    let said = ap (code_said ds) c.in-Case.is ∙ case_says ds c.in-Case.selector c.in-Case.branches c.in-Case.others in
    rw (x.1, x.2)
    (began T (code_said ds c.args.statement.now) (Case e (forks_said ds c.in-Case.branches) (codes_said ds c.in-Case.others))
    (values_at ds c.args.words.now) c.args.meter.now.left c.step.new.self.left (Stopped c.in_err-number-in-Case.field-0.0) (spot ds c.args.words.now c.step.new.self)
    said c.in_ok-step.ensures.ok
    (case_stops T e (forks_said ds c.in-Case.branches) (codes_said ds c.in-Case.others) (values_at ds c.args.words.now) c.step.new.self.left c.in_err-number-in-Case.field-0.0 comes))

pub run-returns-in_ok-number-in-Case-clause-run : goal.run-returns-in_ok-number-in-Case-clause-run
run-returns-in_ok-number-in-Case-clause-run t c =
    let ds = c.args.layout.now in
    let T : Types = types_in ds in
    let e = expr_of_number ds (number_said c.in-Case.selector) in
    let bs = c.as_slice-in-Case.result.now in
    let others = c.as_slice-in-Case-2.result.now in
    let wide : SFits w128 c.in_ok-number-in-Case.number = search rules in
    let kinds = (both_true (fits_number (length ds) (number_said c.in-Case.selector)) (kinds_number ds (number_said c.in-Case.selector)) (case_part ds c.in-Case.selector c.in-Case.branches c.in-Case.others
    (ap (code_right ds) (sym c.in-Case.is) ∙ c.requires.right))).1 in
    let comes = number_comes ds c.args.words.now c.requires.frame.fit c.requires.frame.once (number_said c.in-Case.selector) kinds ∙ ap as_whole (sym c.number-in-Case.ensures ∙ c.in_ok-number-in-Case.was) in
    let said : code_said ds c.args.statement.now ≡ Case e (forks_said ds bs) (codes_said ds others) =
    ap (code_said ds) c.in-Case.is ∙ case_says ds c.in-Case.selector c.in-Case.branches c.in-Case.others
    ∙ ap (λ (l : List CompiledBranch). Case e (forks_said ds l) (codes_said ds c.in-Case.others)) (sym c.as_slice-in-Case.ensures)
    ∙ ap (λ (l : List CompiledStmt). Case e (forks_said ds bs) (codes_said ds l)) (sym c.as_slice-in-Case-2.ensures) in
    began T (code_said ds c.args.statement.now) (Case e (forks_said ds bs) (codes_said ds others))
    (values_at ds c.args.words.now) c.args.meter.now.left c.step.new.self.left (end_of c.run_branch.result) (spot ds c.run_branch.new.words c.run_branch.new.meter)
    said c.in_ok-step.ensures.ok
    (case_runs T e (forks_said ds bs) (codes_said ds others) (values_at ds c.args.words.now) c.step.new.self.left (value.Whole c.in_ok-number-in-Case.number) (end_of c.run_branch.result)
    (spot ds c.run_branch.new.words c.run_branch.new.meter) comes (rw (to_z-of_z wide) at c.run_branch.ensures.run))

pub run-run_for-requires : goal.run-run_for-requires
run-run_for-requires t c =
    let ds = c.args.layout.now in
    let right = for_right ds c.in-For.count c.in-For.body (ap (code_right ds) (sym c.in-For.is) ∙ c.requires.right) in (
      omega (arith, body_of_for_size c.args.statement.now c.in-For.count c.in-For.body c.as_slice-in-For.result.now c.in-For.is c.as_slice-in-For.ensures),
      (c.requires.frame, (ap (codes_right ds) c.as_slice-in-For.ensures ∙ right.1, ap (count_right ds) c.get.ensures ∙ right.0)),
    )

pub run-returns-in-For-clause-run : goal.run-returns-in-For-clause-run
run-returns-in-For-clause-run t c =
    let ds = c.args.layout.now in
    let k : CountExpr = c.get.result.now in
    let body = c.as_slice-in-For.result.now in
    let said : code_said ds c.args.statement.now ≡ counted ds k body =
    ap (code_said ds) c.in-For.is ∙ for_says ds c.in-For.count c.in-For.body
    ∙ ap (λ (x : CountExpr). counted ds x c.in-For.body) (sym c.get.ensures)
    ∙ ap (λ (l : List CompiledStmt). counted ds k l) (sym c.as_slice-in-For.ensures) in
    began (types_in ds) (code_said ds c.args.statement.now) (counted ds k body)
    (values_at ds c.args.words.now) c.args.meter.now.left c.step.new.self.left (end_of c.run_for.result) (spot ds c.run_for.new.words c.run_for.new.meter)
    said c.in_ok-step.ensures.ok c.run_for.ensures.run

pub run-returns-in-While-clause-run : goal.run-returns-in-While-clause-run
run-returns-in-While-clause-run t c =
    let ds = c.args.layout.now in
    let test = expr_of_truth ds (truth_said c.in-While.condition) in
    let body = c.as_slice-in-While.result.now in
    let said : code_said ds c.args.statement.now ≡ While test (codes_said ds body) =
    ap (code_said ds) c.in-While.is ∙ while_says ds c.in-While.condition c.in-While.body ∙ ap (λ (l : List CompiledStmt). While test (codes_said ds l)) (sym c.as_slice-in-While.ensures) in
    began (types_in ds) (code_said ds c.args.statement.now) (While test (codes_said ds body))
    (values_at ds c.args.words.now) c.args.meter.now.left c.step.new.self.left (end_of c.run_while.result) (spot ds c.run_while.new.words c.run_while.new.meter)
    said c.in_ok-step.ensures.ok c.run_while.ensures.run

pub run-returns-in-Repeat-clause-run : goal.run-returns-in-Repeat-clause-run
run-returns-in-Repeat-clause-run t c =
    let ds = c.args.layout.now in
    let test = expr_of_truth ds (truth_said c.in-Repeat.condition) in
    let body = c.as_slice-in-Repeat.result.now in
    let said : code_said ds c.args.statement.now ≡ Repeat (codes_said ds body) test =
    ap (code_said ds) c.in-Repeat.is ∙ repeat_says ds c.in-Repeat.body c.in-Repeat.condition
    ∙ ap (λ (l : List CompiledStmt). Repeat (codes_said ds l) test) (sym c.as_slice-in-Repeat.ensures) in
    began (types_in ds) (code_said ds c.args.statement.now) (Repeat (codes_said ds body) test)
    (values_at ds c.args.words.now) c.args.meter.now.left c.step.new.self.left (end_of c.run_repeat.result) (spot ds c.run_repeat.new.words c.run_repeat.new.meter)
    said c.in_ok-step.ensures.ok c.run_repeat.ensures.run

-- ---- FOR

pub run_for-returns-in_err-first-clause-run : goal.run_for-returns-in_err-first-clause-run
run_for-returns-in_err-first-clause-run t c =
    let ds = c.args.layout.now in
    let ws = c.args.words.now in
    let k = c.args.count.now in
    let parts = count_parts ds k c.requires.count_right in
    let ha = number_comes ds ws c.requires.frame.fit c.requires.frame.once (number_said k.start) parts.start ∙ ap as_whole (sym c.number.ensures ∙ c.in_err-first.was) in
    let x = err_from_is_err_and c.from_residual.result c.from_residual.ensures.1 in
    rw (x.1, x.2) (for_no_start (types_in ds) ds k (codes_said ds c.args.body.now) (values_at ds ws) c.args.meter.now.left c.in_err-first.field-0.0 ha)

pub run_for-returns-in_err-end-clause-run : goal.run_for-returns-in_err-end-clause-run
run_for-returns-in_err-end-clause-run t c =
    let ds = c.args.layout.now in
    let ws = c.args.words.now in
    let k = c.args.count.now in
    let parts = count_parts ds k c.requires.count_right in
    let ha = number_comes ds ws c.requires.frame.fit c.requires.frame.once (number_said k.start) parts.start ∙ ap as_whole (sym c.number.ensures ∙ c.in_ok-first.was) in
    let hb = number_comes ds ws c.requires.frame.fit c.requires.frame.once (number_said k.end) parts.end ∙ ap as_whole (sym c.number-2.ensures ∙ c.in_err-end.was) in
    let x = err_from_is_err_and c.from_residual-in_err-end.result c.from_residual-in_err-end.ensures.1 in
    rw (x.1, x.2) (for_no_end (types_in ds) ds k (codes_said ds c.args.body.now) (values_at ds ws) c.args.meter.now.left (value.Whole c.in_ok-first.first) c.in_err-end.field-0.0 ha hb)

pub run_for-returns-in_err-step-clause-run : goal.run_for-returns-in_err-step-clause-run
run_for-returns-in_err-step-clause-run t c =
    let ds = c.args.layout.now in
    let ws = c.args.words.now in
    let k = c.args.count.now in
    let parts = count_parts ds k c.requires.count_right in
    let ha = number_comes ds ws c.requires.frame.fit c.requires.frame.once (number_said k.start) parts.start ∙ ap as_whole (sym c.number.ensures ∙ c.in_ok-first.was) in
    let hb = number_comes ds ws c.requires.frame.fit c.requires.frame.once (number_said k.end) parts.end ∙ ap as_whole (sym c.number-2.ensures ∙ c.in_ok-end.was) in
    let hc = number_comes ds ws c.requires.frame.fit c.requires.frame.once (number_said k.step) parts.step ∙ ap as_whole (sym c.number-3.ensures ∙ c.in_err-step.was) in
    let x = err_from_is_err_and c.from_residual-in_err-step.result c.from_residual-in_err-step.ensures.1 in
    rw (x.1, x.2)
    (for_no_step (types_in ds) ds k (codes_said ds c.args.body.now) (values_at ds ws) c.args.meter.now.left (value.Whole c.in_ok-first.first) (value.Whole c.in_ok-end.end) c.in_err-step.field-0.0 ha hb hc)

pub run_for-returns-in_err-words-clause-run : goal.run_for-returns-in_err-words-clause-run
run_for-returns-in_err-words-clause-run t c =
    let ds = c.args.layout.now in
    let ws = c.args.words.now in
    let k = c.args.count.now in
    let parts = count_parts ds k c.requires.count_right in
    let at = within_there k.least k.most (slice_get ds k.slot) parts.within in
    let ha = number_comes ds ws c.requires.frame.fit c.requires.frame.once (number_said k.start) parts.start ∙ ap as_whole (sym c.number.ensures ∙ c.in_ok-first.was) in
    let hb = number_comes ds ws c.requires.frame.fit c.requires.frame.once (number_said k.end) parts.end ∙ ap as_whole (sym c.number-2.ensures ∙ c.in_ok-end.was) in
    let hc = number_comes ds ws c.requires.frame.fit c.requires.frame.once (number_said k.step) parts.step ∙ ap as_whole (sym c.number-3.ensures ∙ c.in_ok-step.was) in
    let wide : SFits w128 c.in_ok-first.first = search rules in
    let no = rw (to_z-of_z wide) at c.in_err-words.ensures.err in
    let unfit : fits at.0.1 (value.Whole c.in_ok-first.first) ≡ false = ap (λ o. fits (ty_or o) (value.Whole c.in_ok-first.first)) (sym at.1) ∙ no.1 in
    let x = err_from_is_err_and c.from_residual-in_err-words.result c.from_residual-in_err-words.ensures.1 in
    rw (x.1, x.2, no.0)
    (for_not_begun (types_in ds) (name_at ds k.slot) (expr_of_number ds (number_said k.start)) (expr_of_number ds (number_said k.end)) (expr_of_number ds (number_said k.step))
    (codes_said ds c.args.body.now) (values_at ds ws) c.args.meter.now.left (value.Whole c.in_ok-first.first) (value.Whole c.in_ok-end.end) (value.Whole c.in_ok-step.step) ha hb hc
    (ap (λ t. fits t (value.Whole c.in_ok-first.first)) (word_type ds ws c.requires.frame.fit c.requires.frame.once k.slot at.0 at.1) ∙ unfit))

pub run_for-run_counts-requires : goal.run_for-run_counts-requires
run_for-run_counts-requires t c =
    let ds = c.args.layout.now in
    let k = c.args.count.now in
    let parts = count_parts ds k c.requires.count_right in
    let at = within_there k.least k.most (slice_get ds k.slot) parts.within in
    let z = c.in_ok-words.field-0 in
    let fit : SFits w64 z = search rules in
    let wide : SFits w128 c.in_ok-first.first = search rules in
    let yes = rw (to_z-of_z wide) at c.in_ok-words.ensures.ok in
    let wide_end : SFits w128 c.in_ok-end.end = search rules in
    let wide_step : SFits w128 c.in_ok-step.step = search rules in
    let stands = ap (λ o. value_of_word (ty_or o) z) (sym at.1) ∙ yes.1 in
    let past = rw (to_z-of_z wide_end, to_z-of_z wide_step, to_z-of_z wide) at c.is_past.ensures in (
      search rules,
      (
        record { fit = search rules; once = c.requires.frame.once },
        (
          c.requires.right,
          (
            parts.within,
            rw (to_z-of_z fit, to_z-of_z wide_end, to_z-of_z wide_step)
                (ap (passed c.in_ok-end.end c.in_ok-step.step) (first_read ds c.args.words.now c.requires.frame.fit c.requires.frame.once k.slot at.0 at.1 z c.in_ok-first.first stands)
                ∙ sym past ∙ c.if-is_past.false),
          ),
        ),
      ),
    )

pub run_for-returns-then-is_past-clause-run : goal.run_for-returns-then-is_past-clause-run
run_for-returns-then-is_past-clause-run t c =
    let ds = c.args.layout.now in
    let ws = c.args.words.now in
    let k = c.args.count.now in
    let T : Types = types_in ds in
    let n : Name = name_at ds k.slot in
    let body : Stmts = codes_said ds c.args.body.now in
    let first = c.in_ok-first.first in
    let end = c.in_ok-end.end in
    let step = c.in_ok-step.step in
    let parts = count_parts ds k c.requires.count_right in
    let at = within_there k.least k.most (slice_get ds k.slot) parts.within in
    let z = c.in_ok-words.field-0 in
    let fit : SFits w64 z = search rules in
    let wide : SFits w128 first = search rules in
    let yes = rw (to_z-of_z wide) at c.in_ok-words.ensures.ok in
    let wide_end : SFits w128 c.in_ok-end.end = search rules in
    let wide_step : SFits w128 c.in_ok-step.step = search rules in
    let past = rw (to_z-of_z wide_end, to_z-of_z wide_step, to_z-of_z wide) at c.is_past.ensures in
    let stands = ap (λ o. value_of_word (ty_or o) z) (sym at.1) ∙ yes.1 in
    let ha = number_comes ds ws c.requires.frame.fit c.requires.frame.once (number_said k.start) parts.start ∙ ap as_whole (sym c.number.ensures ∙ c.in_ok-first.was) in
    let hb = number_comes ds ws c.requires.frame.fit c.requires.frame.once (number_said k.end) parts.end ∙ ap as_whole (sym c.number-2.ensures ∙ c.in_ok-end.was) in
    let hc = number_comes ds ws c.requires.frame.fit c.requires.frame.once (number_said k.step) parts.step ∙ ap as_whole (sym c.number-3.ensures ∙ c.in_ok-step.was) in
    let fit_type : fits (T n) (value.Whole first) ≡ true = ap (λ t. fits t (value.Whole first)) (word_type ds ws c.requires.frame.fit c.requires.frame.once k.slot at.0 at.1) ∙ ap (λ o. fits (ty_or o) (value.Whole first)) (sym at.1) ∙ yes.0 in
    let after : Values = values_at ds (slice_set ws k.slot z) in
    let q : Point = record { vars = after; left = c.args.meter.now.left } in
    let turn : Running = Step (Then (RunsAll T body) (Advances T n end step)) in
    let test : Values → Result Bool Reason = λ vars. Ok (not (passed end step (whole (vars n)))) in
    let over : test after ≡ Ok false =
    ap (λ x. Ok (not (passed end step x))) (first_read ds ws c.requires.frame.fit c.requires.frame.once k.slot at.0 at.1 z first stands)
    ∙ ap (λ b. Ok (not b)) (sym past ∙ c.if-is_past.true) in
    rw (to_z-of_z fit)
    (for_counts T n (expr_of_number ds (number_said k.start)) (expr_of_number ds (number_said k.end)) (expr_of_number ds (number_said k.step)) body (values_at ds ws) after c.args.meter.now.left
    (value.Whole first) (value.Whole end) (value.Whole step) end step Went q ha hb hc refl refl fit_type
    (first_set ds ws c.requires.frame.fit c.requires.frame.once k.slot at.0 at.1 z first stands) (loop_over test turn q over))

pub run_for-returns-clause-run : goal.run_for-returns-clause-run
run_for-returns-clause-run t c =
    let ds = c.args.layout.now in
    let ws = c.args.words.now in
    let k = c.args.count.now in
    let T : Types = types_in ds in
    let n : Name = name_at ds k.slot in
    let body : Stmts = codes_said ds c.args.body.now in
    let first = c.in_ok-first.first in
    let end = c.in_ok-end.end in
    let step = c.in_ok-step.step in
    let parts = count_parts ds k c.requires.count_right in
    let at = within_there k.least k.most (slice_get ds k.slot) parts.within in
    let z = c.in_ok-words.field-0 in
    let fit : SFits w64 z = search rules in
    let wide : SFits w128 first = search rules in
    let yes = rw (to_z-of_z wide) at c.in_ok-words.ensures.ok in
    let wide_end : SFits w128 c.in_ok-end.end = search rules in
    let wide_step : SFits w128 c.in_ok-step.step = search rules in
    let stands = ap (λ o. value_of_word (ty_or o) z) (sym at.1) ∙ yes.1 in
    let ha = number_comes ds ws c.requires.frame.fit c.requires.frame.once (number_said k.start) parts.start ∙ ap as_whole (sym c.number.ensures ∙ c.in_ok-first.was) in
    let hb = number_comes ds ws c.requires.frame.fit c.requires.frame.once (number_said k.end) parts.end ∙ ap as_whole (sym c.number-2.ensures ∙ c.in_ok-end.was) in
    let hc = number_comes ds ws c.requires.frame.fit c.requires.frame.once (number_said k.step) parts.step ∙ ap as_whole (sym c.number-3.ensures ∙ c.in_ok-step.was) in
    let fit_type : fits (T n) (value.Whole first) ≡ true = ap (λ t. fits t (value.Whole first)) (word_type ds ws c.requires.frame.fit c.requires.frame.once k.slot at.0 at.1) ∙ ap (λ o. fits (ty_or o) (value.Whole first)) (sym at.1) ∙ yes.0 in
    let after : Values = values_at ds (slice_set ws k.slot z) in
    let ran = rw (to_z-of_z fit, to_z-of_z wide_end, to_z-of_z wide_step) at c.run_counts.ensures.run in
    for_counts T n (expr_of_number ds (number_said k.start)) (expr_of_number ds (number_said k.end)) (expr_of_number ds (number_said k.step)) body (values_at ds ws) after c.args.meter.now.left
    (value.Whole first) (value.Whole end) (value.Whole step) end step (end_of c.run_counts.result) (spot ds c.run_counts.new.words c.run_counts.new.meter) ha hb hc refl refl fit_type
    (first_set ds ws c.requires.frame.fit c.requires.frame.once k.slot at.0 at.1 z first stands) ran

-- ---- Expressions and slots fit the words

pub run_for-number-requires : goal.run_for-number-requires
run_for-number-requires t c = rw (c.requires.frame.fit) (count_parts c.args.layout.now c.args.count.now c.requires.count_right).start_fits

pub run_for-number-requires-2 : goal.run_for-number-requires-2
run_for-number-requires-2 t c = rw (c.requires.frame.fit) (count_parts c.args.layout.now c.args.count.now c.requires.count_right).end_fits

pub run_for-number-requires-3 : goal.run_for-number-requires-3
run_for-number-requires-3 t c = rw (c.requires.frame.fit) (count_parts c.args.layout.now c.args.count.now c.requires.count_right).step_fits

pub run_for-word_of-requires : goal.run_for-word_of-requires
run_for-word_of-requires t c =
    let k = c.args.count.now in
    within_slot_there c.args.layout.now k.slot k.least k.most (count_parts c.args.layout.now k c.requires.count_right).within

pub run_for-bounds-words-count : goal.run_for-bounds-words-count
run_for-bounds-words-count t c =
    let k = c.args.count.now in
    rw (c.requires.frame.fit) (within_slot_there c.args.layout.now k.slot k.least k.most (count_parts c.args.layout.now k c.requires.count_right).within)

pub run_while-is_true-requires : goal.run_while-is_true-requires
run_while-is_true-requires t c =
    let ds = c.args.layout.now in
    let e = truth_said c.args.condition.now in
    rw (c.loop-words.invariant.same_length ∙ c.requires.frame.fit) (both_true (fits_truth (length ds) e) (kinds_truth ds e) c.requires.condition_right).0

pub run_repeat-is_true-requires : goal.run_repeat-is_true-requires
run_repeat-is_true-requires t c =
    let ds = c.args.layout.now in
    let e = truth_said c.args.condition.now in
    rw (c.turn.ensures.kept.same_length ∙ c.loop-words.invariant.same_length ∙ c.requires.frame.fit) (both_true (fits_truth (length ds) e) (kinds_truth ds e) c.requires.condition_right).0

pub run_choice-is_true-requires : goal.run_choice-is_true-requires
run_choice-is_true-requires t c =
    let ds = c.args.layout.now in
    let inv = c.loop-choice.invariant in
    let one : CompiledChoice = c.choice-item.result in
    let right = one_right (arm_right ds) c.args.choices.now c.loop-choice.choice-index one c.loop-choice-test.true c.choice-item.is inv.right in
    rw (ap length inv.same_words ∙ c.requires.frame.fit) (arm_parts ds one right.0).0

pub run-number-requires-in-Case : goal.run-number-requires-in-Case
run-number-requires-in-Case t c =
    let ds = c.args.layout.now in
    let e = number_said c.in-Case.selector in
    let right = case_part ds c.in-Case.selector c.in-Case.branches c.in-Case.others (ap (code_right ds) (sym c.in-Case.is) ∙ c.requires.right) in
    rw (c.requires.frame.fit) (both_true (fits_number (length ds) e) (kinds_number ds e) right).0

pub run-run_while-requires : goal.run-run_while-requires
run-run_while-requires t c =
    let ds = c.args.layout.now in
    let right = while_right ds c.in-While.condition c.in-While.body (ap (code_right ds) (sym c.in-While.is) ∙ c.requires.right) in (
      omega (arith, body_of_while_size c.args.statement.now c.in-While.condition c.in-While.body c.as_slice-in-While.result.now c.in-While.is c.as_slice-in-While.ensures),
      (c.requires.frame, (ap (codes_right ds) c.as_slice-in-While.ensures ∙ right.1, right.0)),
    )

pub run-run_repeat-requires : goal.run-run_repeat-requires
run-run_repeat-requires t c =
    let ds = c.args.layout.now in
    let right = repeat_right ds c.in-Repeat.body c.in-Repeat.condition (ap (code_right ds) (sym c.in-Repeat.is) ∙ c.requires.right) in (
      omega (arith, body_of_repeat_size c.args.statement.now c.in-Repeat.condition c.in-Repeat.body c.as_slice-in-Repeat.result.now c.in-Repeat.is c.as_slice-in-Repeat.ensures),
      (c.requires.frame, (ap (codes_right ds) c.as_slice-in-Repeat.ensures ∙ right.0, right.1)),
    )
