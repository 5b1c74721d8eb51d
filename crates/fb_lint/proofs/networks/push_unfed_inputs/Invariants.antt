use Rattle.fb_lint.proofs.lemmas.Common.{◌≡◌, ◌++◌, drop, each_from}
use Rattle.fb_lint.specs.Networks as spec
use Rattle.fb_lint.proofs.networks.push_unfed_inputs.Given as goal

-- with what is found in the rest, all is there
abbrev pub invariant-loop-input : goal.invariant-loop-input
invariant-loop-input l =
    l.all.items ++ each_from (spec.unfed_input l.at.site l.connections l.stimuli l.at.index l.at.instance.now) l.input (drop l.input l.inputs) ≡ l.fn.all.items ++ each_from (spec.unfed_input l.at.site l.connections l.stimuli l.at.index l.at.instance.now) 0 l.inputs
