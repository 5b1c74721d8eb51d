use Rattle.std.proofs.Common.{◌≡◌, map}
use Rattle.fb_ecc.specs.Indexed.{row_within}
use Rattle.fb_ecc.proofs.chart.rows.Given as goal

abbrev pub invariant-loop-index : goal.invariant-loop-index
invariant-loop-index l = l.rows.items ≡ map (row_within l.block l.index) l.block.states
