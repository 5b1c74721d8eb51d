use Rattle.std.proofs.Common.{◌≡◌, drop}
use Rattle.fb_wave.specs.Scopes as spec
use Rattle.fb_wave.proofs.signals.is_carried.Given as goal

abbrev pub invariant-loop-event : goal.invariant-loop-event
invariant-loop-event l = spec.is_carried l.events l.variable ≡ spec.is_carried (drop l.event-index l.events) l.variable
