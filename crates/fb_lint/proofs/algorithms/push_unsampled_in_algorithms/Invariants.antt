use Rattle.fb_lint.proofs.lemmas.Common.{◌≡◌, ◌++◌, drop, each_from}
use Rattle.fb_lint.specs.Reads as spec
use Rattle.fb_lint.proofs.algorithms.push_unsampled_in_algorithms.Given as goal

-- with what is found in the rest, all is there
abbrev pub invariant-loop-index : goal.invariant-loop-index
invariant-loop-index l =
    l.all.items ++ each_from (spec.unsampled_in l.of.library.now l.of.name.now (spec.chart_of l.chart) l.of.block l.inputs) l.index (drop l.index l.algorithms) ≡ l.fn.all.items ++ each_from (spec.unsampled_in l.of.library.now l.of.name.now (spec.chart_of l.chart) l.of.block l.inputs) 0 l.algorithms
