use Rattle.std.proofs.Common.{List}
use Rattle.fb_types.specs.States.{Line}
use Rattle.fb_sim.specs.Rounds.{HasCome}
use Rattle.fb_tests.proofs.tests.rounds.make_all.Given as goal

abbrev pub invariant-loop-number : goal.invariant-loop-number
invariant-loop-number g l = (ls : List Line) × HasCome l.system l.options.steps l.options.horizon l.core ls
