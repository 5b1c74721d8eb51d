use Rattle.std.proofs.Common.{◌≡◌, drop}
use Rattle.std.specs.List.{list_any}
use Rattle.fb_types.specs.Names.{same_name}
use Rattle.fb_expect.proofs.contradiction.is_on.Given as goal

abbrev pub invariant-loop-condition : goal.invariant-loop-condition
invariant-loop-condition l = list_any (λ c. same_name c.variable l.variable) l.conditions ≡ list_any (λ c. same_name c.variable l.variable) (drop l.condition-index l.conditions)
