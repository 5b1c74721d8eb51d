use Rattle.std.proofs.Common.{◌≡◌, drop}
use Rattle.fbsim_command.specs.Selecting.{is_selected}
use Rattle.fbsim_command.proofs.selectors.is_selected.Given as goal

abbrev pub invariant-loop-selector : goal.invariant-loop-selector
invariant-loop-selector l = is_selected l.selectors l.library l.stimuli l.warning ≡ is_selected (drop l.selector-index l.selectors) l.library l.stimuli l.warning
