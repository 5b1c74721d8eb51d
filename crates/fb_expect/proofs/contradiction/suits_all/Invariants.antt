use Rattle.std.proofs.Common.{◌≡◌, drop}
use Rattle.std.specs.List.{list_all}
use Rattle.fb_expect.specs.Contradictions.{suits}
use Rattle.fb_expect.proofs.contradiction.suits_all.Given as goal

abbrev pub invariant-loop-condition : goal.invariant-loop-condition
invariant-loop-condition l = list_all (suits l.variable l.value) l.conditions ≡ list_all (suits l.variable l.value) (drop l.condition-index l.conditions)
