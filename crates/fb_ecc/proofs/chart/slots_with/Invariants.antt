use Rattle.std.proofs.Common.{◌≡◌, map, take}
use Rattle.fb_ecc.proofs.lemmas.Located.{limited}
use Rattle.fb_ecc.proofs.chart.slots_with.Given as goal

abbrev pub invariant-loop-entry : goal.invariant-loop-entry
invariant-loop-entry l = l.slots ≡ map (λ e. limited l.first e.0) (take l.entry-index l.entry-items)
