use Rattle.fb_types.proofs.Common.{◌≡◌, ◌*◌, ◌+◌, max, map, drop, length, List, ◌++◌, Ok, expr_of, exprs, values_of as values_of_all, and_then}
use Rattle.fb_types.specs.declared.value.Value.{Value}
use denote.Param.Weighed.{most}
use Rattle.fb_types.proofs.text.Expr.TheLaws as expr
use Rattle.fb_st.specs.Frames.{values_of}
use Rattle.fb_st.proofs.evaluation.+eval.Given as goal

-- the arguments before this one have values, and the result of the others is the result of all
abbrev pub invariant-call-loop-argument : goal.invariant-call-loop-argument
invariant-call-loop-argument l =
    (done : List Value) × (length done ≡ l.argument-index)
    × (values_of_all (exprs (map expr_of l.arguments)) (values_of l.frame) ≡ and_then (values_of_all (exprs (map expr_of (drop l.argument-index l.arguments))) (values_of l.frame)) (λ vs. Ok (done ++ vs)))

-- ---- How deep the trees are

abbrev pub decreases-eval : goal.decreases-eval
decreases-eval l = 16 * expr.the_size l.expr.now + 6

abbrev pub decreases-both_values : goal.decreases-both_values
decreases-both_values l = 16 * max (expr.the_size l.left.now) (expr.the_size l.right.now) + 7

abbrev pub decreases-call : goal.decreases-call
decreases-call l = 16 * most expr.the_size l.arguments.now + 8
