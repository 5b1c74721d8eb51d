use Rattle.fb_lint.proofs.lemmas.Common.{◌++◌, Bool, not, ◌∙◌, ap, when}
use Rattle.fb_lint.specs.declared.warning.Warning.TheVariants.{FinalState}
use Rattle.fb_lint.specs.Charts as spec
use Rattle.fb_lint.proofs.lemmas.WarningLists.{all_found, next_found}
use Rattle.fb_lint.proofs.charts.push_final_states.Goals as goal

pub loop-state-preserved : goal.loop-state-preserved
loop-state-preserved c =
    next_found (spec.final_state c.args.block c.args.transitions.now) c.args.states.now c.loop-state.state c.index-states-state.result c.loop-state.all.items _ _ c.loop-state-test.true c.index-states-state.is
    (c.in_ok-push_if.ensures ∙ ap (λ (b : Bool). c.loop-state.all.items ++ when (not b) (FinalState c.args.block c.loop-state.state)) c.is_left-is_final.ensures) c.loop-state.invariant

pub returns : goal.returns
returns c = all_found (spec.final_state c.args.block c.args.transitions.now) c.args.states.now c.loop-state.state _ _ c.loop-state-test.false c.loop-state.invariant
