use Rattle.std.proofs.Common.{◌≡◌, drop}
use Rattle.std.specs.List.{list_any}
use Rattle.fb_types.specs.Names.{same_name}
use Rattle.fbsim_command.proofs.selected_names.is_one_of.Given as goal

abbrev pub invariant-loop-other : goal.invariant-loop-other
invariant-loop-other l = list_any (λ n. same_name l.name n.now) l.names ≡ list_any (λ n. same_name l.name n.now) (drop l.other-index l.names)
