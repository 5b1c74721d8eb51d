use Rattle.std.proofs.Common.{◌≡◌, ◌++◌, drop}
use Rattle.fb_check_names.specs.TwiceLists.{parameters_twice}
use Rattle.fb_check_names.specs.Listed.{each_at, each_from}
use Rattle.fb_check_names.proofs.spaces.push_parameters.Given as goal

abbrev pub invariant-loop-instance : goal.invariant-loop-instance
invariant-loop-instance l = l.found.items ++ each_from (parameters_twice l.site) l.instance (drop l.instance l.instances) ≡ l.fn.found.items ++ each_at (parameters_twice l.site) l.instances
