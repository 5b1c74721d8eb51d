use Rattle.std.proofs.Common.{◌≡◌, map, take}
use Rattle.fb_lint.specs.Positions.{position_of}
use Rattle.fb_lint.proofs.positions.positions_of.Given as goal

abbrev pub invariant-loop-warning : goal.invariant-loop-warning
invariant-loop-warning l = l.positions.items ≡ map position_of (take l.warning-index l.warnings)
