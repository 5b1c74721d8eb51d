use Rattle.fb_lint.proofs.lemmas.Common.{◌++◌, Bool, ◌∙◌, ap, when}
use Rattle.fb_lint.specs.declared.warning.Warning.TheVariants.{UnsampledInput}
use Rattle.fb_lint.specs.Interfaces as spec
use Rattle.fb_lint.proofs.lemmas.WarningLists.{all_found, next_found}
use Rattle.fb_lint.proofs.interfaces.push_unsampled_inputs.Goals as goal

pub loop-input-preserved : goal.loop-input-preserved
loop-input-preserved c =
    next_found (spec.unsampled_input c.args.of.now.library.now c.args.of.now.name.now c.args.of.now.block c.args.events.now) c.args.inputs.now c.loop-input.input c.index-inputs-input.result c.loop-input.all.items _ _ c.loop-input-test.true c.index-inputs-input.is
    (c.in_ok-push_if.ensures ∙ ap (λ (b : Bool). c.loop-input.all.items ++ when b (UnsampledInput c.args.of.now.block c.loop-input.input)) c.is_never_sampled-is_unsampled.ensures) c.loop-input.invariant

pub returns : goal.returns
returns c = all_found (spec.unsampled_input c.args.of.now.library.now c.args.of.now.name.now c.args.of.now.block c.args.events.now) c.args.inputs.now c.loop-input.input _ _ c.loop-input-test.false c.loop-input.invariant
