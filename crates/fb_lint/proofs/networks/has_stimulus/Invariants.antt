use Rattle.fb_types.proofs.Common.{◌≡◌, drop, list_any}
use Rattle.fb_lint.specs.Networks.{sets}
use Rattle.fb_lint.proofs.networks.has_stimulus.Given as goal

abbrev pub invariant-loop-stimulus : goal.invariant-loop-stimulus
invariant-loop-stimulus l = list_any (sets l.instance l.input) l.stimuli ≡ list_any (sets l.instance l.input) (drop l.stimulus-index l.stimuli)
