use Rattle.std.proofs.Common.{◌≡◌, drop}
use Rattle.fb_coverage.specs.Shares.{with_rows}
use Rattle.fb_coverage.proofs.share.Share.count_all.Given as goal

-- with the rest of the rows, all are counted
abbrev pub invariant-loop-row : goal.invariant-loop-row
invariant-loop-row l = with_rows l.self (drop l.row-index l.table.rows) ≡ with_rows l.fn.self l.table.rows
