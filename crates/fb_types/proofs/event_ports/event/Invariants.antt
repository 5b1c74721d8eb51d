use Rattle.std.proofs.Common.{◌≡◌, map, take}
use Rattle.fb_types.proofs.event_ports.event.Given as goal

abbrev pub invariant-loop-variable : goal.invariant-loop-variable
invariant-loop-variable l = l.names ≡ map (λ v. v.now) (take l.variable-index l.with)
