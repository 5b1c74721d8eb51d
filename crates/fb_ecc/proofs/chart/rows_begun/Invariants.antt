use Rattle.std.proofs.Common.{◌≡◌, map, take}
use Rattle.fb_ecc.specs.Indexed.{row_within}
use Rattle.fb_ecc.proofs.chart.rows_begun.Given as goal

abbrev pub invariant-loop-state : goal.invariant-loop-state
invariant-loop-state l = l.rows.items ≡ map (row_within l.block 0) (take l.state-index l.block.states)
