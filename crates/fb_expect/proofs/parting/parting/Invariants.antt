use Rattle.std.proofs.Common.{◌-◌}
use Rattle.fb_expect.specs.Parting.{HasPassed}
use Rattle.fb_expect.proofs.parting.parting.Given as goal

abbrev pub invariant-loop-number : goal.invariant-loop-number
invariant-loop-number g l =
    HasPassed l.is_without_ticks (l.number - 1) (g.R.Read.remaining l.fn.first) (g.S.Read.remaining l.fn.second) (g.R.Read.remaining l.first) (g.S.Read.remaining l.second)
