use Rattle.fb_lint.proofs.lemmas.Common.{edges_are, ◌++◌, Bool, ◌∙◌, ap, when}
use Rattle.fb_lint.specs.declared.warning.Warning.TheVariants.{EndlessState}
use Rattle.fb_lint.specs.Circles as spec
use Rattle.fb_lint.proofs.lemmas.WarningLists.{all_found, next_found}
use Rattle.fb_lint.proofs.circles.push_round.Goals as goal

pub loop-state-preserved : goal.loop-state-preserved
loop-state-preserved c =
    next_found (spec.endless_state c.args.block (edges_are c.args.edges.now)) c.args.states.now c.loop-state.state c.index-states-state.result c.loop-state.all.items _ _ c.loop-state-test.true c.index-states-state.is
    (c.in_ok-push_if.ensures ∙ ap (λ (b : Bool). c.loop-state.all.items ++ when b (EndlessState c.args.block c.loop-state.state)) c.in_ok-is_endless.ensures)
    c.loop-state.invariant

pub returns : goal.returns
returns c = all_found (spec.endless_state c.args.block (edges_are c.args.edges.now)) c.args.states.now c.loop-state.state _ _ c.loop-state-test.false c.loop-state.invariant
