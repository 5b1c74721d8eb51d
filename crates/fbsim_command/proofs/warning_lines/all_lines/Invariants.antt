use Rattle.std.proofs.Common.{take}
use Rattle.fbsim_command.specs.WarningLines.{AreSorted, naming_of}
use Rattle.fbsim_command.proofs.warning_lines.all_lines.Given as goal

abbrev pub invariant-loop-index : goal.invariant-loop-index
invariant-loop-index l = AreSorted (naming_of l.naming) l.inputs l.sorting l.system.library l.system.stimuli (take l.index l.warnings) l.lines.items l.has_denied
