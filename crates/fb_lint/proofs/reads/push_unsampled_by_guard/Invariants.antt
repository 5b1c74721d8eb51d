use Rattle.fb_lint.proofs.lemmas.Common.{◌≡◌, ◌++◌, drop, each_from, meant_all}
use Rattle.fb_lint.specs.Reads as spec
use Rattle.fb_lint.proofs.reads.push_unsampled_by_guard.Given as goal

-- with what is found in the rest, all is there
abbrev pub invariant-loop-input : goal.invariant-loop-input
invariant-loop-input l =
    l.all.items ++ each_from (spec.unsampled_in_guard l.at.of.library.now l.at.of.name.now l.at.of.block l.at.index l.events l.at.transition.now.condition.event (meant_all l.mentions)) l.input (drop l.input l.inputs) ≡ l.fn.all.items ++ each_from (spec.unsampled_in_guard l.at.of.library.now l.at.of.name.now l.at.of.block l.at.index l.events l.at.transition.now.condition.event (meant_all l.mentions)) 0 l.inputs
