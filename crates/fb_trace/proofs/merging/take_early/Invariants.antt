use Rattle.std.proofs.Common.{◌≡◌, ◌++◌, length}
use Rattle.fb_trace.specs.Fronts.{early, late}
use Rattle.fb_trace.proofs.merging.take_early.Given as goal

abbrev pub invariant-loop-first : goal.invariant-loop-first
invariant-loop-first l = record {
  taken : l.all.items ++ early l.tick l.list.items ≡ l.initial.all.items ++ early l.tick l.initial.list.items;
  left : late l.tick l.list.items ≡ late l.tick l.initial.list.items;
}

abbrev pub decreases-loop-first : goal.decreases-loop-first
decreases-loop-first l = length l.list.items
