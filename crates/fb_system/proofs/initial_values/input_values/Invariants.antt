use Rattle.std.proofs.Common.{◌≡◌, map, take}
use Rattle.fb_system.specs.Begins.{begin_value}
use Rattle.fb_system.proofs.initial_values.input_values.Given as goal

-- the values with the parameters so far
abbrev pub invariant-loop-number : goal.invariant-loop-number
invariant-loop-number l = l.values.items ≡ map (begin_value (take l.number l.parameters)) l.fn.ports.inputs
