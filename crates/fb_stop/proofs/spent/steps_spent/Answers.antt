use Rattle.fb_stop.proofs.spent.steps_spent.Goals as goal

pub go_on-requires-clause-ready : goal.go_on-requires-clause-ready
go_on-requires-clause-ready c = c.in_ok-run.ensures.ready c.args.limit
