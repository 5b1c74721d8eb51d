use Rattle.std.proofs.Common.{◌≡◌, take, true, ℤ}
use Rattle.std.specs.List.{list_all}
use Rattle.fb_types.specs.declared.value.Value.TheVariants as value
use Rattle.fb_expect.specs.Contradictions.{IsIn, suits}
use Rattle.fb_expect.proofs.contradiction.span_of.Given as goal

abbrev pub invariant-loop-condition : goal.invariant-loop-condition
invariant-loop-condition l = record {
  all : (z : ℤ) → IsIn l.fn.whole z → list_all (suits l.variable (value.Whole z)) (take l.condition-index l.conditions) ≡ true → IsIn l.span z;
  part : (z : ℤ) → IsIn l.span z → IsIn l.fn.whole z;
}
