use Rattle.fb_types.proofs.Common.{◌≡◌, ◌≤◌, ◌*◌, ◌+◌, max, drop, false, Some, expr_of, whole, passed}
use denote.Param.Weighed.{most}
use Rattle.fb_types.proofs.text.Branch.TheLaws as branch
use Rattle.fb_types.proofs.text.Choice.TheLaws as choice
use Rattle.fb_types.proofs.text.Stmt.TheLaws as stmt
use Rattle.fb_st.specs.Frames.{declared_in, types_in, values_of}
use Rattle.fb_st.specs.Flows.{point, all_of, choices_of, branches_of}
use Rattle.fb_st.specs.Known.{AllKnown, ChoicesKnown, BranchesKnown}
use Rattle.fb_stop.specs.Blamed.{RunsAll, RunsChoice, RunsBranch, Counts, Loop, holds_in}
use Rattle.fb_stop.specs.Numbers.{next, after_choices, after_branches}
use Rattle.fb_stop.proofs.lemmas.numbers.Runs.{Leads, repeats, turn_in}
use Rattle.fb_stop.proofs.running.+run.Given as goal

-- what the rest runs to from here, all runs to from the start
abbrev pub invariant-run_each-loop-statement : goal.invariant-run_each-loop-statement
invariant-run_each-loop-statement l = record {
  run : Leads (RunsAll (types_in (declared_in l.fn.frame)) l.around l.number (all_of (drop l.statement-index l.statements))) (point l.frame l.meter)
      (RunsAll (types_in (declared_in l.fn.frame)) l.around l.first (all_of l.statements)) (point l.fn.frame l.fn.meter);
  known : AllKnown (declared_in l.fn.frame) (all_of (drop l.statement-index l.statements));
  declared : declared_in l.frame ≡ declared_in l.fn.frame;
  fewer : l.meter.left ≤ l.fn.meter.left;
}

abbrev pub invariant-run_choice-loop-choice : goal.invariant-run_choice-loop-choice
invariant-run_choice-loop-choice l = record {
  run : let others = RunsAll (types_in (declared_in l.fn.frame)) l.around (after_choices (choices_of l.choices) (next l.number)) (all_of l.others) in
      Leads (RunsChoice (types_in (declared_in l.fn.frame)) l.around l.number l.inside (choices_of (drop l.choice-index l.choices)) others) (point l.fn.frame l.fn.meter)
      (RunsChoice (types_in (declared_in l.fn.frame)) l.around l.number (next l.number) (choices_of l.choices) others) (point l.fn.frame l.fn.meter);
  counted : after_choices (choices_of (drop l.choice-index l.choices)) l.inside ≡ after_choices (choices_of l.choices) (next l.number);
  known : ChoicesKnown (declared_in l.fn.frame) (choices_of (drop l.choice-index l.choices));
  same_frame : l.frame ≡ l.fn.frame;
  same_meter : l.meter ≡ l.fn.meter;
}

abbrev pub invariant-run_branch-loop-branch : goal.invariant-run_branch-loop-branch
invariant-run_branch-loop-branch l = record {
  run : let others = RunsAll (types_in (declared_in l.fn.frame)) l.around (after_branches (branches_of l.branches) l.first) (all_of l.others) in
      Leads (RunsBranch (types_in (declared_in l.fn.frame)) l.around l.inside (branches_of (drop l.branch-index l.branches)) (whole l.value) others) (point l.fn.frame l.fn.meter)
      (RunsBranch (types_in (declared_in l.fn.frame)) l.around l.first (branches_of l.branches) (whole l.value) others) (point l.fn.frame l.fn.meter);
  counted : after_branches (branches_of (drop l.branch-index l.branches)) l.inside ≡ after_branches (branches_of l.branches) l.first;
  known : BranchesKnown (declared_in l.fn.frame) (branches_of (drop l.branch-index l.branches));
  same_frame : l.frame ≡ l.fn.frame;
  same_meter : l.meter ≡ l.fn.meter;
}

abbrev pub invariant-run_while-loop-frame : goal.invariant-run_while-loop-frame
invariant-run_while-loop-frame l = record {
  run : let R = Loop (holds_in l.number (expr_of l.condition)) (turn_in (types_in (declared_in l.fn.frame)) l.number (all_of l.body)) in
      Leads R (point l.frame l.meter) R (point l.fn.frame l.fn.meter);
  declared : declared_in l.frame ≡ declared_in l.fn.frame;
  fewer : l.meter.left ≤ l.fn.meter.left;
}

abbrev pub decreases-run_while-loop-frame : goal.decreases-run_while-loop-frame
decreases-run_while-loop-frame l = l.meter.left

abbrev pub invariant-run_repeat-loop-frame : goal.invariant-run_repeat-loop-frame
invariant-run_repeat-loop-frame l = record {
  run : let R = repeats l.number (expr_of l.condition) (turn_in (types_in (declared_in l.fn.frame)) l.number (all_of l.body)) in
      Leads R (point l.frame l.meter) R (point l.fn.frame l.fn.meter);
  declared : declared_in l.frame ≡ declared_in l.fn.frame;
  fewer : l.meter.left ≤ l.fn.meter.left;
}

abbrev pub decreases-run_repeat-loop-frame : goal.decreases-run_repeat-loop-frame
decreases-run_repeat-loop-frame l = l.meter.left

abbrev pub invariant-run_counts-loop : goal.invariant-run_counts-loop
invariant-run_counts-loop l = record {
  run : let R = Counts (types_in (declared_in l.fn.frame)) l.number l.variable (whole l.count.end) (whole l.count.step) (RunsAll (types_in (declared_in l.fn.frame)) (Some l.number) (next l.number) (all_of l.body)) in
      Leads R (point l.frame l.meter) R (point l.fn.frame l.fn.meter);
  declared : declared_in l.frame ≡ declared_in l.fn.frame;
  fewer : l.meter.left ≤ l.fn.meter.left;
  within : passed (whole l.count.end) (whole l.count.step) (whole (values_of l.frame l.variable)) ≡ false;
}

abbrev pub decreases-run_counts-loop : goal.decreases-run_counts-loop
decreases-run_counts-loop l = l.meter.left

-- ---- How deep the trees are

abbrev pub decreases-run : goal.decreases-run
decreases-run l = 6 * stmt.the_size l.statement.now

abbrev pub decreases-run_each : goal.decreases-run_each
decreases-run_each l = 6 * most stmt.the_size l.statements.now + 1

-- the depth of ELSE counts as well
abbrev pub decreases-run_choice : goal.decreases-run_choice
decreases-run_choice l = max (6 * most choice.the_size l.choices.now) (6 * most stmt.the_size l.others.now + 3)

abbrev pub decreases-run_branch : goal.decreases-run_branch
decreases-run_branch l = max (6 * most branch.the_size l.branches.now) (6 * most stmt.the_size l.others.now + 3)

abbrev pub decreases-turn : goal.decreases-turn
decreases-turn l = 6 * most stmt.the_size l.body.now + 3

abbrev pub decreases-turn_of_for : goal.decreases-turn_of_for
decreases-turn_of_for l = 6 * most stmt.the_size l.body.now + 3

abbrev pub decreases-run_while : goal.decreases-run_while
decreases-run_while l = 6 * most stmt.the_size l.body.now + 4

abbrev pub decreases-run_repeat : goal.decreases-run_repeat
decreases-run_repeat l = 6 * most stmt.the_size l.body.now + 4

abbrev pub decreases-run_counts : goal.decreases-run_counts
decreases-run_counts l = 6 * most stmt.the_size l.body.now + 4

abbrev pub decreases-run_for : goal.decreases-run_for
decreases-run_for l = 6 * most stmt.the_size l.body.now + 5
