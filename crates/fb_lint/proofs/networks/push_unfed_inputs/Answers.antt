use Rattle.fb_lint.proofs.lemmas.Common.{◌++◌, Bool, ◌∙◌, ap, when}
use Rattle.fb_lint.specs.declared.warning.Warning.TheVariants.{UnfedInput}
use Rattle.fb_lint.specs.Networks as spec
use Rattle.fb_lint.proofs.lemmas.WarningLists.{all_found, next_found}
use Rattle.fb_lint.proofs.networks.push_unfed_inputs.Goals as goal

pub loop-input-preserved : goal.loop-input-preserved
loop-input-preserved c =
    next_found (spec.unfed_input c.args.at.now.site c.args.connections.now c.args.stimuli.now c.args.at.now.index c.args.at.now.instance.now) c.args.inputs.now c.loop-input.input c.index-inputs-input.result c.loop-input.all.items _ _ c.loop-input-test.true c.index-inputs-input.is
    (c.in_ok-push_if.ensures ∙ ap (λ (b : Bool). c.loop-input.all.items ++ when b (UnfedInput c.args.at.now.site c.args.at.now.index c.loop-input.input)) c.is_forgotten-is_unfed.ensures) c.loop-input.invariant

pub returns : goal.returns
returns c = all_found (spec.unfed_input c.args.at.now.site c.args.connections.now c.args.stimuli.now c.args.at.now.index c.args.at.now.instance.now) c.args.inputs.now c.loop-input.input _ _ c.loop-input-test.false c.loop-input.invariant
