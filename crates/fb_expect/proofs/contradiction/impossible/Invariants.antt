use Rattle.std.proofs.Common.{◌≡◌, true, not, take, drop}
use Rattle.std.specs.List.{find, list_all}
use Rattle.fb_expect.specs.Contradictions.{has_value, impossible}
use Rattle.fb_expect.proofs.contradiction.impossible.Given as goal

abbrev pub invariant-loop-index : goal.invariant-loop-index
invariant-loop-index l = record {
  before : list_all (λ c. has_value l.conditions c.variable) (take l.index l.conditions) ≡ true;
  rest : impossible l.conditions ≡ find (λ c. not (has_value l.conditions c.variable)) (drop l.index l.conditions);
}
