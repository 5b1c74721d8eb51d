use Rattle.fb_lint.proofs.lemmas.Common.{◌++◌, Bool, ◌∙◌, ap, when}
use Rattle.fb_lint.specs.declared.warning.Warning.TheVariants.{ShadowedTransition}
use Rattle.fb_lint.specs.Charts as spec
use Rattle.fb_lint.proofs.lemmas.WarningLists.{all_found, next_found}
use Rattle.fb_lint.proofs.charts.push_shadowed_transitions.Goals as goal

pub loop-transition-preserved : goal.loop-transition-preserved
loop-transition-preserved c =
    next_found (spec.shadowed_transition c.args.block c.args.transitions.now) c.args.transitions.now c.loop-transition.transition c.index-transitions-transition.result c.loop-transition.all.items _ _ c.loop-transition-test.true c.index-transitions-transition.is
    (c.in_ok-push_if.ensures ∙ ap (λ (b : Bool). c.loop-transition.all.items ++ when (b) (ShadowedTransition c.args.block c.loop-transition.transition)) c.is_shadowed-is_behind.ensures) c.loop-transition.invariant

pub returns : goal.returns
returns c = all_found (spec.shadowed_transition c.args.block c.args.transitions.now) c.args.transitions.now c.loop-transition.transition _ _ c.loop-transition-test.false c.loop-transition.invariant
