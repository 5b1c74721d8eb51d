use Rattle.fb_types.proofs.Common.{map, take, Name, same_name, Twice}
use Rattle.std.specs.Borrow.{Bor}
use Rattle.fb_check_names.proofs.lemmas.comparisons.DecidedSame.{name_cmp}
use Rattle.fb_check_names.proofs.lemmas.twice.Repeating.{AreLast}
use Rattle.fb_check_names.proofs.named.first_repeat.Given as goal

abbrev pub invariant-loop-index : goal.invariant-loop-index
invariant-loop-index g l = record {
  seen : AreLast name_cmp (λ (n : Bor Name). n.now) same_name (map g.T.Named.called (take l.index l.items)) l.seen;
  once : ¬ (Twice (map g.T.Named.called (take l.index l.items)));
}
