use Rattle.fb_lint.proofs.lemmas.Common.{◌++◌, Bool, ◌∙◌, ap, when, meant_all}
use Rattle.fb_lint.specs.declared.warning.Warning.TheVariants.{UnsampledInAlgorithm}
use Rattle.fb_lint.specs.Reads as spec
use Rattle.fb_lint.proofs.lemmas.WarningLists.{all_found, next_found}
use Rattle.fb_lint.proofs.algorithms.push_unsampled_by.Goals as goal

pub loop-input-preserved : goal.loop-input-preserved
loop-input-preserved c =
    next_found (spec.unsampled_in_algorithm c.args.at.now.of.library.now c.args.at.now.of.name.now (spec.chart_of c.args.chart.now) c.args.at.now.of.block c.args.at.now.index c.args.at.now.algorithm.now.name (meant_all c.args.mentions.now)) c.args.inputs.now c.loop-input.input c.index-inputs-input.result c.loop-input.all.items _ _ c.loop-input-test.true c.index-inputs-input.is
    (c.in_ok-push_if.ensures ∙ ap (λ (b : Bool). c.loop-input.all.items ++ when (b) (UnsampledInAlgorithm c.args.at.now.of.block c.args.at.now.index c.loop-input.input)) c.in_ok-applies.ensures) c.loop-input.invariant

pub returns : goal.returns
returns c = all_found (spec.unsampled_in_algorithm c.args.at.now.of.library.now c.args.at.now.of.name.now (spec.chart_of c.args.chart.now) c.args.at.now.of.block c.args.at.now.index c.args.at.now.algorithm.now.name (meant_all c.args.mentions.now)) c.args.inputs.now c.loop-input.input _ _ c.loop-input-test.false c.loop-input.invariant
