use Rattle.std.proofs.Common.{◌≡◌, ◌≤◌, length, map, take, vec_len, vec_capacity}
use Rattle.std.specs.Char.{to_ascii_uppercase}
use Rattle.fbsim_command.proofs.inspect.path_of.Given as goal

abbrev pub invariant-loop-byte : goal.invariant-loop-byte
invariant-loop-byte l = record {
  all : l.path.items ≡ map to_ascii_uppercase (take l.byte-index l.bytes);
  len : vec_len l.path ≡ l.byte-index;
  room : length l.bytes ≤ vec_capacity l.path;
}
