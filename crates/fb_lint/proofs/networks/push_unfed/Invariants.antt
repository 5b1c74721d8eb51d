use Rattle.fb_lint.proofs.lemmas.Common.{◌≡◌, ◌++◌, drop, each_from}
use Rattle.fb_lint.specs.Networks as spec
use Rattle.fb_lint.proofs.networks.push_unfed.Given as goal

-- with what is found in the rest, all is there
abbrev pub invariant-loop-index : goal.invariant-loop-index
invariant-loop-index l =
    l.all.items ++ each_from (spec.unfed_in_instance l.types.library.now l.site l.connections l.stimuli) l.index (drop l.index l.instances) ≡ l.fn.all.items ++ each_from (spec.unfed_in_instance l.types.library.now l.site l.connections l.stimuli) 0 l.instances
