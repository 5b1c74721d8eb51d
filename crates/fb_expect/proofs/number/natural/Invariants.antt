use Rattle.fb_types.proofs.Common.{◌≡◌, ◌≤◌, take, drop, fold, list_all, is_ascii_digit}
use Rattle.fb_expect.specs.Words.{with_digit}
use Rattle.fb_expect.proofs.number.natural.Given as goal

abbrev pub invariant-loop-byte : goal.invariant-loop-byte
invariant-loop-byte l = record {
  sum : l.value ≡ fold with_digit 0 (take l.byte-index l.text);
  small : l.value ≤ l.most;
  digits : list_all is_ascii_digit (drop l.byte-index l.text) ≡ list_all is_ascii_digit l.text;
}
