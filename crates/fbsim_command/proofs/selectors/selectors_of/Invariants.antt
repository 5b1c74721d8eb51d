use Rattle.std.proofs.Common.{◌≡◌, ◌≤◌, length, map, take, vec_len, vec_capacity}
use Rattle.fbsim_command.specs.Selecting.{AreSelectors}
use Rattle.fbsim_command.proofs.selectors.selectors_of.Given as goal

abbrev pub invariant-loop-text : goal.invariant-loop-text
invariant-loop-text l = record {
  all : AreSelectors (map (λ t. t.now) (take l.text-index l.texts)) l.all.items;
  len : vec_len l.all ≡ l.text-index;
  room : length l.texts ≤ vec_capacity l.all;
}
