use Rattle.std.proofs.Common.{◌≡◌, ◌≤◌, length, map, take, vec_len, vec_capacity}
use Rattle.fb_expect.specs.Written.{upper}
use Rattle.fb_expect.proofs.pattern.in_upper.Given as goal

abbrev pub invariant-loop-byte : goal.invariant-loop-byte
invariant-loop-byte l = record {
  all : l.bytes.items ≡ map upper (take l.byte-index l.text);
  len : vec_len l.bytes ≡ l.byte-index;
  room : length l.text ≤ vec_capacity l.bytes;
}
