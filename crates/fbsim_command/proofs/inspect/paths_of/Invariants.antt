use Rattle.std.proofs.Common.{◌≡◌, ◌≤◌, length, map, take, vec_len, vec_capacity}
use Rattle.fbsim_command.specs.Inspecting.{upper}
use Rattle.fbsim_command.proofs.inspect.paths_of.Given as goal

abbrev pub invariant-loop-text : goal.invariant-loop-text
invariant-loop-text l = record {
  all : l.names.items ≡ map (λ t. upper t.now) (take l.text-index l.texts);
  len : vec_len l.names ≡ l.text-index;
  room : length l.texts ≤ vec_capacity l.names;
}
