use Rattle.std.proofs.Common.{◌≡◌}
use Rattle.fb_expect.specs.Judging.{IsRead, rules_of}
use Rattle.fb_expect.proofs.judging.follow.Given as goal

abbrev pub invariant-loop-number : goal.invariant-loop-number
invariant-loop-number g l = record {
  read : IsRead l.form (g.R.Read.remaining l.fn.input) (g.R.Read.remaining l.input) l.line.items l.tick l.number l.watchers.items;
  rules : rules_of l.watchers.items ≡ rules_of l.fn.watchers.items;
}
