use Rattle.fb_types.proofs.Common.{◌≡◌, ◌++◌, drop}
use Rattle.fb_types.specs.declared.library.Variable.{Variable}
use Rattle.std.specs.List.{flat_map}
use Rattle.fb_draw.specs.Networks as spec
use Rattle.fb_draw.proofs.block.put_next_variables.Given as goal

-- with what the rest adds, all is there
abbrev pub invariant-loop-variable : goal.invariant-loop-variable
invariant-loop-variable l = l.text.items ++ flat_map (λ (v : Variable). spec.next_field v.name) (drop l.variable-index l.variables) ≡ l.fn.text.items ++ flat_map (λ (v : Variable). spec.next_field v.name) l.variables
