use Rattle.fb_st.proofs.lemmas.Common.{◌≡◌, ◌≤◌, ◌*◌, ◌+◌, max, drop, length, true, false, truth_of, whole, RunsAll, RunsChoice, RunsBranch, Step, passed, types_in, truth_said, spot, codes_said, codes_right, expr_of_truth, name_at, values_at}
use Rattle.fb_types.proofs.Common.{Loop}
use denote.Param.Weighed.{most}
use Rattle.fb_types.specs.Bodies.{Counts}
use Rattle.fb_st.specs.Fitting.{arms_said, forks_said, arms_right, forks_right}
use Rattle.fb_st.proofs.compiled.CompiledStmt.TheLaws as stmt
use Rattle.fb_st.proofs.compiled.CompiledChoice.TheLaws as choice
use Rattle.fb_st.proofs.compiled.CompiledBranch.TheLaws as branch
use Rattle.fb_st.proofs.lemmas.Runs.{Leads, repeats}
use Rattle.fb_st.proofs.running.+running.Given as goal

-- what the rest runs to from here, all runs to from the start
abbrev pub invariant-run_all-loop-statement : goal.invariant-run_all-loop-statement
invariant-run_all-loop-statement l = record {
  run : Leads (RunsAll (types_in l.layout) (codes_said l.layout (drop l.statement-index l.statements))) (spot l.layout l.words l.meter)
      (RunsAll (types_in l.layout) (codes_said l.layout l.statements)) (spot l.layout l.fn.words l.fn.meter);
  right : codes_right l.layout (drop l.statement-index l.statements) ≡ true;
  same_length : length l.words ≡ length l.fn.words;
  fewer : l.meter.left ≤ l.fn.meter.left;
}

abbrev pub invariant-run_choice-loop-choice : goal.invariant-run_choice-loop-choice
invariant-run_choice-loop-choice l = record {
  run : let others = RunsAll (types_in l.layout) (codes_said l.layout l.others) in
      Leads (RunsChoice (types_in l.layout) (arms_said l.layout (drop l.choice-index l.choices)) others) (spot l.layout l.fn.words l.fn.meter)
      (RunsChoice (types_in l.layout) (arms_said l.layout l.choices) others) (spot l.layout l.fn.words l.fn.meter);
  right : arms_right l.layout (drop l.choice-index l.choices) ≡ true;
  same_words : l.words ≡ l.fn.words;
  same_meter : l.meter ≡ l.fn.meter;
}

abbrev pub invariant-run_branch-loop-branch : goal.invariant-run_branch-loop-branch
invariant-run_branch-loop-branch l = record {
  run : let others = RunsAll (types_in l.layout) (codes_said l.layout l.others) in
      Leads (RunsBranch (types_in l.layout) (forks_said l.layout (drop l.branch-index l.branches)) l.number others) (spot l.layout l.fn.words l.fn.meter)
      (RunsBranch (types_in l.layout) (forks_said l.layout l.branches) l.number others) (spot l.layout l.fn.words l.fn.meter);
  right : forks_right l.layout (drop l.branch-index l.branches) ≡ true;
  same_words : l.words ≡ l.fn.words;
  same_meter : l.meter ≡ l.fn.meter;
}

abbrev pub invariant-run_while-loop-words : goal.invariant-run_while-loop-words
invariant-run_while-loop-words l = record {
  run : let R = Loop (truth_of (expr_of_truth l.layout (truth_said l.condition))) (Step (RunsAll (types_in l.layout) (codes_said l.layout l.body))) in
      Leads R (spot l.layout l.words l.meter) R (spot l.layout l.fn.words l.fn.meter);
  same_length : length l.words ≡ length l.fn.words;
  fewer : l.meter.left ≤ l.fn.meter.left;
}

abbrev pub decreases-run_while-loop-words : goal.decreases-run_while-loop-words
decreases-run_while-loop-words l = l.meter.left

abbrev pub invariant-run_repeat-loop-words : goal.invariant-run_repeat-loop-words
invariant-run_repeat-loop-words l = record {
  run : let R = repeats (expr_of_truth l.layout (truth_said l.condition)) (Step (RunsAll (types_in l.layout) (codes_said l.layout l.body))) in
      Leads R (spot l.layout l.words l.meter) R (spot l.layout l.fn.words l.fn.meter);
  same_length : length l.words ≡ length l.fn.words;
  fewer : l.meter.left ≤ l.fn.meter.left;
}

abbrev pub decreases-run_repeat-loop-words : goal.decreases-run_repeat-loop-words
decreases-run_repeat-loop-words l = l.meter.left

abbrev pub invariant-run_counts-loop : goal.invariant-run_counts-loop
invariant-run_counts-loop l = record {
  run : let R = Counts (types_in l.layout) (name_at l.layout l.count.slot) l.span.end l.span.step (RunsAll (types_in l.layout) (codes_said l.layout l.body)) in
      Leads R (spot l.layout l.words l.meter) R (spot l.layout l.fn.words l.fn.meter);
  same_length : length l.words ≡ length l.fn.words;
  fewer : l.meter.left ≤ l.fn.meter.left;
  within : passed l.span.end l.span.step (whole (values_at l.layout l.words (name_at l.layout l.count.slot))) ≡ false;
}

abbrev pub decreases-run_counts-loop : goal.decreases-run_counts-loop
decreases-run_counts-loop l = l.meter.left

-- ---- How deep the trees are

abbrev pub decreases-run : goal.decreases-run
decreases-run l = 8 * stmt.the_size l.statement.now

abbrev pub decreases-run_all : goal.decreases-run_all
decreases-run_all l = 8 * most stmt.the_size l.statements.now + 1

-- the depth of ELSE counts as well
abbrev pub decreases-run_choice : goal.decreases-run_choice
decreases-run_choice l = max (8 * most choice.the_size l.choices.now) (8 * most stmt.the_size l.others.now + 4)

abbrev pub decreases-run_branch : goal.decreases-run_branch
decreases-run_branch l = max (8 * most branch.the_size l.branches.now) (8 * most stmt.the_size l.others.now + 4)

abbrev pub decreases-turn : goal.decreases-turn
decreases-turn l = 8 * most stmt.the_size l.body.now + 2

abbrev pub decreases-turn_of_for : goal.decreases-turn_of_for
decreases-turn_of_for l = 8 * most stmt.the_size l.body.now + 2

abbrev pub decreases-run_while : goal.decreases-run_while
decreases-run_while l = 8 * most stmt.the_size l.body.now + 3

abbrev pub decreases-run_repeat : goal.decreases-run_repeat
decreases-run_repeat l = 8 * most stmt.the_size l.body.now + 3

abbrev pub decreases-run_counts : goal.decreases-run_counts
decreases-run_counts l = 8 * most stmt.the_size l.body.now + 3

abbrev pub decreases-run_for : goal.decreases-run_for
decreases-run_for l = 8 * most stmt.the_size l.body.now + 4
