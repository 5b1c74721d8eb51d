use Rattle.std.proofs.Common.{◌≡◌, take, true}
use Rattle.fb_expect.specs.Events.{event_of}
use Rattle.fb_expect.specs.Patterns as patterns
use Rattle.fb_session.specs.Hitting.{IsLeastOf}
use Rattle.fb_session.proofs.breaks.number_for.Given as goal

abbrev pub invariant-loop-one : goal.invariant-loop-one
invariant-loop-one l = IsLeastOf (λ b. patterns.meets b.pattern (event_of l.entry) ≡ true) (take l.one-index l.set) l.least
