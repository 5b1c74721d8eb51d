use Rattle.std.proofs.Common.{◌≡◌, ◌++◌, map}
use Rattle.fb_trace.specs.Fronts.{all_early, all_late}
use Rattle.fb_trace.proofs.merging.take_all_early.Given as goal

abbrev pub invariant-loop-list : goal.invariant-loop-list
invariant-loop-list l = record {
  taken : l.all.items ≡ l.initial.all.items ++ all_early l.tick (map (λ q. q.items) l.yielded);
  left : map (λ q. q.items) l.left.items ≡ all_late l.tick (map (λ q. q.items) l.yielded);
}
