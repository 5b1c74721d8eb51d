use Rattle.std.proofs.Common.{◌*◌, ◌+◌, max}
use denote.Param.Weighed.{most}
use Rattle.fb_types.proofs.text.Expr.TheLaws as expr
use Rattle.fb_st.proofs.compile_expr.+compile_expr.Given as goal

-- ---- How deep the trees are

abbrev pub decreases-compile_number : goal.decreases-compile_number
decreases-compile_number l = 16 * expr.the_size l.expr.now

abbrev pub decreases-compile_truth : goal.decreases-compile_truth
decreases-compile_truth l = 16 * expr.the_size l.expr.now

abbrev pub decreases-boxed_number : goal.decreases-boxed_number
decreases-boxed_number l = 16 * expr.the_size l.expr.now + 1

abbrev pub decreases-boxed_truth : goal.decreases-boxed_truth
decreases-boxed_truth l = 16 * expr.the_size l.expr.now + 1

abbrev pub decreases-arithmetic : goal.decreases-arithmetic
decreases-arithmetic l = 16 * max (expr.the_size l.left.now) (expr.the_size l.right.now) + 4

abbrev pub decreases-comparison : goal.decreases-comparison
decreases-comparison l = 16 * max (expr.the_size l.left.now) (expr.the_size l.right.now) + 4

abbrev pub decreases-joint : goal.decreases-joint
decreases-joint l = 16 * max (expr.the_size l.left.now) (expr.the_size l.right.now) + 4

abbrev pub decreases-number_call : goal.decreases-number_call
decreases-number_call l = 16 * most expr.the_size l.arguments.now + 8

abbrev pub decreases-truth_call : goal.decreases-truth_call
decreases-truth_call l = 16 * most expr.the_size l.arguments.now + 8

abbrev pub decreases-number_of_one : goal.decreases-number_of_one
decreases-number_of_one l = 16 * expr.the_size l.one.now + 2

abbrev pub decreases-number_of_two : goal.decreases-number_of_two
decreases-number_of_two l = 16 * max (expr.the_size l.one.now) (expr.the_size l.two.now) + 2

abbrev pub decreases-number_of_three : goal.decreases-number_of_three
decreases-number_of_three l = 16 * max (expr.the_size l.one.now) (max (expr.the_size l.two.now) (expr.the_size l.three.now)) + 2

abbrev pub decreases-truth_of_three : goal.decreases-truth_of_three
decreases-truth_of_three l = 16 * max (expr.the_size l.one.now) (max (expr.the_size l.two.now) (expr.the_size l.three.now)) + 2
