use Rattle.std.proofs.Common.{length}
use Rattle.fb_net.proofs.lemmas.taking.TakingSteps.{EmittedSoFar}
use Rattle.fb_net.proofs.taking.Taking.emit_all.Given as goal

abbrev pub invariant-loop-emission : goal.invariant-loop-emission
invariant-loop-emission l = EmittedSoFar l.initial.self l.self l.instance l.initial.emits l.emits

abbrev pub decreases-loop-emission : goal.decreases-loop-emission
decreases-loop-emission l = length l.emits
