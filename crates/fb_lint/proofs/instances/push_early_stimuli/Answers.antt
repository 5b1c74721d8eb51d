use Rattle.fb_lint.proofs.lemmas.Common.{◌++◌, Bool, ◌∙◌, ap, when}
use Rattle.fb_lint.specs.declared.warning.Warning.TheVariants.{EarlyStimulus}
use Rattle.fb_lint.specs.Instances as spec
use Rattle.fb_lint.proofs.lemmas.WarningLists.{all_found, next_found}
use Rattle.fb_lint.proofs.instances.push_early_stimuli.Goals as goal

pub loop-stimulus-preserved : goal.loop-stimulus-preserved
loop-stimulus-preserved c =
    next_found (spec.early_stimulus c.args.instances.now c.args.connections.now) c.args.stimuli.now c.loop-stimulus.stimulus c.index-stimuli-stimulus.result c.loop-stimulus.all.items _ _ c.loop-stimulus-test.true c.index-stimuli-stimulus.is
    (c.in_ok-push_if.ensures ∙ ap (λ (b : Bool). c.loop-stimulus.all.items ++ when b (EarlyStimulus c.loop-stimulus.stimulus)) c.is_early-applies.ensures)
    c.loop-stimulus.invariant

pub returns : goal.returns
returns c = all_found (spec.early_stimulus c.args.instances.now c.args.connections.now) c.args.stimuli.now c.loop-stimulus.stimulus _ _ c.loop-stimulus-test.false c.loop-stimulus.invariant
