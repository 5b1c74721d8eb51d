use Rattle.fb_types.proofs.Common.{◌≡◌, false, replicate}
use Rattle.fb_coverage.proofs.table.unset.Given as goal

abbrev pub invariant-loop : goal.invariant-loop
invariant-loop l = l.flags ≡ replicate l.counter false
