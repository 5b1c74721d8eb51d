use Rattle.fb_system.proofs.lemmas.Common.{◌≡◌, map, take, filter, ConnectionEnd, same_end}
use Rattle.fb_system.specs.NetworkTables.{ends_at}
use Rattle.fb_system.proofs.wiring.sources_of.Given as goal

abbrev pub invariant-loop-wire : goal.invariant-loop-wire
invariant-loop-wire l = (e : ConnectionEnd) → ends_at l.table e ≡ map (λ w. w.from) (filter (λ w. same_end w.to e) (take l.wire-index l.wires))
