use Rattle.fb_lint.proofs.lemmas.Common.{◌≡◌, ◌++◌, drop, each_from}
use Rattle.fb_lint.specs.Interfaces as spec
use Rattle.fb_lint.proofs.interfaces.push_unsampled_inputs.Given as goal

-- with what is found in the rest, all is there
abbrev pub invariant-loop-input : goal.invariant-loop-input
invariant-loop-input l =
    l.all.items ++ each_from (spec.unsampled_input l.of.library.now l.of.name.now l.of.block l.events) l.input (drop l.input l.inputs) ≡ l.fn.all.items ++ each_from (spec.unsampled_input l.of.library.now l.of.name.now l.of.block l.events) 0 l.inputs
