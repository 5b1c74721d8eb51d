use Rattle.fb_types.proofs.Common.{◌≡◌, drop, list_any}
use Rattle.fb_lint.specs.Circles.{is_eventless_from}
use Rattle.fb_lint.proofs.circles.has_eventless.Given as goal

abbrev pub invariant-loop-transition : goal.invariant-loop-transition
invariant-loop-transition l = list_any (is_eventless_from l.state) l.transitions ≡ list_any (is_eventless_from l.state) (drop l.transition-index l.transitions)
