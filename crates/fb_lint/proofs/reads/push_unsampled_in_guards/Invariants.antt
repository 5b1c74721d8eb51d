use Rattle.fb_lint.proofs.lemmas.Common.{◌≡◌, ◌++◌, drop, each_from}
use Rattle.fb_lint.specs.Reads as spec
use Rattle.fb_lint.proofs.reads.push_unsampled_in_guards.Given as goal

-- with what is found in the rest, all is there
abbrev pub invariant-loop-index : goal.invariant-loop-index
invariant-loop-index l =
    l.all.items ++ each_from (spec.unsampled_at l.of.library.now l.of.name.now l.of.block l.events l.inputs) l.index (drop l.index l.transitions) ≡ l.fn.all.items ++ each_from (spec.unsampled_at l.of.library.now l.of.name.now l.of.block l.events l.inputs) 0 l.transitions
