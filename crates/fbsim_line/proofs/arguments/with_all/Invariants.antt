use Rattle.clap.specs.Words.{app_of}
use Rattle.fbsim_line.proofs.lemmas.BuildLaws.{Goes}
use Rattle.fbsim_line.proofs.arguments.with_all.Given as goal

abbrev pub invariant-loop-argument : goal.invariant-loop-argument
invariant-loop-argument l = Goes (app_of l.initial.command) l.arguments l.argument-index l.command
