use Rattle.std.proofs.Common.{◌≡◌, ◌++◌, map, take}
use Rattle.fbsim_command.specs.SelectedNames.{instance_names}
use Rattle.fbsim_command.proofs.selected_names.push_instances.Given as goal

abbrev pub invariant-loop-instance : goal.invariant-loop-instance
invariant-loop-instance l = map (λ n. n.now) l.names.items ≡ map (λ n. n.now) l.fn.names.items ++ instance_names (take l.instance-index l.instances)
