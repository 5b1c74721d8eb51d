use Rattle.std.proofs.Common.{◌≡◌, drop}
use Rattle.fb_expect.specs.Reports.{are_well}
use Rattle.fb_expect.proofs.tap.are_well.Given as goal

abbrev pub invariant-loop-one : goal.invariant-loop-one
invariant-loop-one l = are_well l.is_strict l.judged ≡ are_well l.is_strict (drop l.one-index l.judged)
