use Rattle.fb_inspect.specs.walk.Walking.{AreUnused}
use Rattle.fb_inspect.proofs.insides.steps_of.Given as goal

abbrev pub invariant-loop : goal.invariant-loop
invariant-loop l = AreUnused l.counter l.all.items
