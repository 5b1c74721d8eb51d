use Rattle.fb_types.proofs.Common.{◌≡◌, ◌≤◌, true, drop, fold}
use Rattle.fb_read.specs.Limits.{most}
use Rattle.fb_read.specs.Numbers.{are_digits, with_digit, value_of}
use Rattle.fb_read.proofs.number.number.Given as goal

abbrev pub invariant-loop-b : goal.invariant-loop-b
invariant-loop-b l = record {
  shape : are_digits l.base l.expected (drop l.b-index l.digits) ≡ are_digits l.base true l.digits;
  sum : fold (with_digit l.base) l.value (drop l.b-index l.digits) ≡ value_of l.base l.digits;
  bounded : l.value ≤ most;
}
