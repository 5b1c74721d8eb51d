use Rattle.fb_types.proofs.Common.{◌≡◌, drop, list_any}
use Rattle.fb_lint.specs.Instances.{is_for}
use Rattle.fb_lint.proofs.instances.is_stimulated.Given as goal

abbrev pub invariant-loop-stimulus : goal.invariant-loop-stimulus
invariant-loop-stimulus l = list_any (is_for l.instance) l.stimuli ≡ list_any (is_for l.instance) (drop l.stimulus-index l.stimuli)
