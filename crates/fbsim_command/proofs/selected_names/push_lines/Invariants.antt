use Rattle.std.proofs.Common.{map, take}
use Rattle.fbsim_command.proofs.lemmas.names.KnownNames.{Adds}
use Rattle.fbsim_command.proofs.selected_names.push_lines.Given as goal

abbrev pub invariant-loop-selector : goal.invariant-loop-selector
invariant-loop-selector l = Adds l.option (map (λ n. n.now) l.names) (take l.selector-index l.selectors) l.fn.lines.items l.lines.items l.is_some
