use Rattle.std.proofs.Common.{◌≤◌}
use Rattle.fb_why.proofs.messages.rules.span_of.Given as goal

abbrev pub invariant-loop-at : goal.invariant-loop-at
invariant-loop-at l = l.start ≤ l.at
