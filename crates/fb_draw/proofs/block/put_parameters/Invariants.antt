use Rattle.std.proofs.Common.{◌≡◌, ◌++◌, drop}
use Rattle.std.specs.List.{flat_map}
use Rattle.fb_draw.specs.Networks as spec
use Rattle.fb_draw.proofs.block.put_parameters.Given as goal

-- with what the rest adds, all is there
abbrev pub invariant-loop-parameter : goal.invariant-loop-parameter
invariant-loop-parameter l = l.text.items ++ flat_map spec.parameter_text (drop l.parameter-index l.parameters) ≡ l.fn.text.items ++ flat_map spec.parameter_text l.parameters
