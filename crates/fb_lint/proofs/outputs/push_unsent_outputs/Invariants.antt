use Rattle.fb_lint.proofs.lemmas.Common.{◌≡◌, ◌++◌, drop, each_from}
use Rattle.fb_lint.specs.Outputs as spec
use Rattle.fb_lint.proofs.outputs.push_unsent_outputs.Given as goal

-- with what is found in the rest, all is there
abbrev pub invariant-loop-output : goal.invariant-loop-output
invariant-loop-output l =
    l.all.items ++ each_from (spec.unsent_output l.of.library.now l.of.name.now l.of.block l.entry) l.output (drop l.output l.outputs) ≡ l.fn.all.items ++ each_from (spec.unsent_output l.of.library.now l.of.name.now l.of.block l.entry) 0 l.outputs
