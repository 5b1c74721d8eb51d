use Rattle.fb_types.proofs.Common.{◌≡◌, drop, list_any}
use Rattle.fb_lint.specs.Events.{names_event}
use Rattle.fb_lint.proofs.events.is_event_named.Given as goal

abbrev pub invariant-loop-transition : goal.invariant-loop-transition
invariant-loop-transition l = list_any (names_event l.event) l.transitions ≡ list_any (names_event l.event) (drop l.transition-index l.transitions)
