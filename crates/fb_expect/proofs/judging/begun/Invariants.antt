use Rattle.std.proofs.Common.{◌≡◌, ◌≤◌, [], length, take, vec_len, vec_capacity}
use Rattle.fb_expect.specs.Judging.{AllFollow, rules_of}
use Rattle.fb_expect.proofs.judging.begun.Given as goal

abbrev pub invariant-loop-rule : goal.invariant-loop-rule
invariant-loop-rule l = record {
  rules : rules_of l.watchers.items ≡ take l.rule-index l.rules;
  follow : AllFollow [] l.watchers.items;
  len : vec_len l.watchers ≡ l.rule-index;
  room : length l.rules ≤ vec_capacity l.watchers;
}
