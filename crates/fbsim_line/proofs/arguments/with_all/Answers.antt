use Rattle.fbsim_line.proofs.lemmas.BuildLaws.{goes-first, goes-on, goes-past}
use Rattle.fbsim_line.proofs.arguments.with_all.Goals as goal

pub loop-argument-init : goal.loop-argument-init
loop-argument-init c = goes-first c.args.arguments.now c.args.start c.requires

pub loop-argument-preserved : goal.loop-argument-preserved
loop-argument-preserved c =
    goes-on _ c.args.arguments.now c.loop-argument.argument-index _ c.loop-argument.command _ c.arg_of.result c.loop-argument-test.true c.in_ok-command.ensures c.arg_of.ensures.local
    c.arg_of.ensures.rule c.loop-argument.invariant

pub returns-clause-app : goal.returns-clause-app
returns-clause-app c = goes-past _ c.args.arguments.now c.loop-argument.argument-index c.loop-argument.command c.loop-argument-test.false c.loop-argument.invariant

pub returns-clause-globals : goal.returns-clause-globals
returns-clause-globals c = c.loop-argument.invariant.local
