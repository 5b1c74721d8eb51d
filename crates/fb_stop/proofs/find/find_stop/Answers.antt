use Rattle.fb_types.proofs.Common.{Option, ◌≤◌, ◌^◌, IfOk-weaker}
use Rattle.fb_stop.specs.Found.{Finds}
use Rattle.fb_stop.specs.declared.found.FoundStop.{FoundStop}
use Rattle.fb_stop.proofs.find.find_stop.Goals as goal

pub go_on-requires-clause-ready : goal.go_on-requires-clause-ready
go_on-requires-clause-ready c = c.in_ok-replay.ensures.ready c.args.limit

pub returns : goal.returns
returns c =
    let i = c.args.system.now in
    IfOk-weaker c.go_on.result (Finds i c.args.horizon c.args.limit) (λ (o : Option FoundStop). c.args.horizon ≤ 10 ^ 12 → c.args.limit ≤ 10 ^ 7 → Finds i c.args.horizon c.args.limit o)
    (λ o found _ _. found) c.go_on.ensures
