use Rattle.std.proofs.Common.{◌≡◌, ◌++◌, drop, map}
use Rattle.fbsim_command.specs.WarningLines.{row_position}
use Rattle.fbsim_command.proofs.row_places.row_positions.Given as goal

-- with those of the warnings that are left, all are there
abbrev pub invariant-loop-warning : goal.invariant-loop-warning
invariant-loop-warning l = l.positions.items ++ map row_position (drop l.warning-index l.warnings) ≡ map row_position l.warnings
