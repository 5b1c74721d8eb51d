use Rattle.fb_lint.proofs.lemmas.Common.{◌≡◌, ◌++◌, drop, each_from}
use Rattle.fb_lint.specs.Instances as spec
use Rattle.fb_lint.proofs.instances.push_early_stimuli.Given as goal

-- with what is found in the rest, all is there
abbrev pub invariant-loop-stimulus : goal.invariant-loop-stimulus
invariant-loop-stimulus l =
    l.all.items ++ each_from (spec.early_stimulus l.instances l.connections) l.stimulus (drop l.stimulus l.stimuli) ≡ l.fn.all.items ++ each_from (spec.early_stimulus l.instances l.connections) 0 l.stimuli
