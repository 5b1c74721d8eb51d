use Rattle.std.proofs.Common.{◌≡◌, drop}
use Rattle.fb_types.specs.Blocks.{type_named}
use Rattle.fb_check.proofs.types.variables.variable_type.Given as goal

abbrev pub invariant-loop-variable : goal.invariant-loop-variable
invariant-loop-variable l =
    type_named l.variables l.name ≡ type_named (drop l.variable-index l.variables) l.name
