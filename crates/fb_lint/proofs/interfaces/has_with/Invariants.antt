use Rattle.fb_types.proofs.Common.{◌≡◌, drop, list_any}
use Rattle.fb_lint.specs.Interfaces.{has_with}
use Rattle.fb_lint.proofs.interfaces.has_with.Given as goal

abbrev pub invariant-loop-event : goal.invariant-loop-event
invariant-loop-event l = list_any (has_with l.variable) l.events ≡ list_any (has_with l.variable) (drop l.event-index l.events)
