use Rattle.fb_lint.proofs.lemmas.Common.{◌++◌, Bool, ◌∙◌, ap, when, meant_all}
use Rattle.fb_lint.specs.declared.warning.Warning.TheVariants.{UnsampledInGuard}
use Rattle.fb_lint.specs.Reads as spec
use Rattle.fb_lint.proofs.lemmas.WarningLists.{all_found, next_found}
use Rattle.fb_lint.proofs.reads.push_unsampled_by_guard.Goals as goal

pub loop-input-preserved : goal.loop-input-preserved
loop-input-preserved c =
    next_found (spec.unsampled_in_guard c.args.at.now.of.library.now c.args.at.now.of.name.now c.args.at.now.of.block c.args.at.now.index c.args.events.now c.args.at.now.transition.now.condition.event (meant_all c.args.mentions.now)) c.args.inputs.now c.loop-input.input c.index-inputs-input.result c.loop-input.all.items _ _ c.loop-input-test.true c.index-inputs-input.is
    (c.in_ok-push_if.ensures ∙ ap (λ (b : Bool). c.loop-input.all.items ++ when (b) (UnsampledInGuard c.args.at.now.of.block c.args.at.now.index c.loop-input.input)) c.is_read_late-applies.ensures) c.loop-input.invariant

pub returns : goal.returns
returns c = all_found (spec.unsampled_in_guard c.args.at.now.of.library.now c.args.at.now.of.name.now c.args.at.now.of.block c.args.at.now.index c.args.events.now c.args.at.now.transition.now.condition.event (meant_all c.args.mentions.now)) c.args.inputs.now c.loop-input.input _ _ c.loop-input-test.false c.loop-input.invariant
