use Rattle.fb_types.proofs.Common.{◌≡◌, drop, list_any}
use Rattle.fb_lint.specs.Events.{shares}
use Rattle.fb_lint.proofs.events.is_shared.Given as goal

abbrev pub invariant-loop-port : goal.invariant-loop-port
invariant-loop-port l = list_any (shares l.event l.variable) l.events ≡ list_any (shares l.event l.variable) (drop l.port-index l.events)
