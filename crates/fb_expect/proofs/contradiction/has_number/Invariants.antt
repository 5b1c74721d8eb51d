use Rattle.std.proofs.Common.{◌≡◌, false, ℤ, ◌≤ℤ◌, ◌<ℤ◌}
use Rattle.std.specs.Int.{int_gap}
use Rattle.std.specs.List.{list_all}
use Rattle.fb_types.specs.declared.value.Value.TheVariants as value
use Rattle.fb_expect.specs.Contradictions.{suits}
use Rattle.fb_expect.proofs.contradiction.has_number.Given as goal

abbrev pub invariant-loop-number : goal.invariant-loop-number
invariant-loop-number l = record {
  above : l.span.least ≤ℤ l.number;
  none : (z : ℤ) → l.span.least ≤ℤ z → z <ℤ l.number → list_all (suits l.variable (value.Whole z)) l.conditions ≡ false;
}

abbrev pub decreases-loop-number : goal.decreases-loop-number
decreases-loop-number l = int_gap l.number l.span.most
