use Rattle.fb_net.proofs.lemmas.Common.{length, take, system_of, Changes, outputs_at, outputs_shown}
use Rattle.fb_net.proofs.taking.emit.publish_all.Given as goal

abbrev pub invariant-loop-index : goal.invariant-loop-index
invariant-loop-index l =
    Changes l.system l.initial.forest l.instance (outputs_shown (take (length l.yielded) (outputs_at (system_of l.system) l.instance l.indexes l.values))) l.forest
