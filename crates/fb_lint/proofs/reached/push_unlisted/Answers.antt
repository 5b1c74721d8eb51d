use Rattle.fb_lint.proofs.lemmas.Common.{◌++◌, Bool, not, ◌∙◌, ap, when, names_are}
use Rattle.fb_lint.specs.declared.warning.Warning.TheVariants.{UnreachedState}
use Rattle.fb_lint.specs.Reached as spec
use Rattle.fb_lint.proofs.lemmas.WarningLists.{all_found, next_found}
use Rattle.fb_lint.proofs.reached.push_unlisted.Goals as goal

pub loop-state-preserved : goal.loop-state-preserved
loop-state-preserved c =
    next_found (spec.unlisted_state c.args.block (names_are c.args.names.now)) c.args.states.now c.loop-state.state c.index-states-state.result c.loop-state.all.items _ _ c.loop-state-test.true c.index-states-state.is
    (c.in_ok-push_if.ensures ∙ ap (λ (b : Bool). c.loop-state.all.items ++ when (not b) (UnreachedState c.args.block c.loop-state.state)) c.is_listed-is_unlisted.ensures) c.loop-state.invariant

pub returns : goal.returns
returns c = all_found (spec.unlisted_state c.args.block (names_are c.args.names.now)) c.args.states.now c.loop-state.state _ _ c.loop-state-test.false c.loop-state.invariant
