use Rattle.std.proofs.Common.{length, map}
use Rattle.fb_trace.specs.Fronts.{IsLeast, joint}
use Rattle.fb_trace.proofs.lemmas.order.EarlyLines.{IsTaken}
use Rattle.fb_trace.proofs.merging.gathered.Given as goal

abbrev pub invariant-loop-next : goal.invariant-loop-next
invariant-loop-next l = record {
  taken : IsTaken (map (λ v. v.items) l.fn.lists.items) l.all.items (map (λ q. q.items) l.left.items);
  next : IsLeast (map (λ q. q.items) l.left.items) l.next;
}

abbrev pub decreases-loop-next : goal.decreases-loop-next
decreases-loop-next l = length (joint (map (λ q. q.items) l.left.items))
