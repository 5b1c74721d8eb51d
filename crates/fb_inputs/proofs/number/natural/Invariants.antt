use Rattle.fb_types.proofs.Common.{◌≡◌, ◌+◌, min, take, drop, fold, list_all, is_ascii_digit}
use Rattle.fb_inputs.specs.Numbers.{with_digit}
use Rattle.fb_inputs.proofs.number.natural.Given as goal

abbrev pub invariant-loop-b : goal.invariant-loop-b
invariant-loop-b l = record {
  sum : l.value ≡ min (fold with_digit 0 (take l.b-index l.text)) (l.most + 1);
  digits : list_all is_ascii_digit (drop l.b-index l.text) ≡ list_all is_ascii_digit l.text;
}
