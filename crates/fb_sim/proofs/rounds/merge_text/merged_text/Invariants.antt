use Rattle.fb_sim.proofs.lemmas.Common.{length, map, IsLeast, joint}
use Rattle.fb_sim.proofs.lemmas.text.Putting.{IsPut}
use Rattle.fb_sim.proofs.rounds.merge_text.merged_text.Given as goal

abbrev pub invariant-loop-next : goal.invariant-loop-next
invariant-loop-next l = record {
  put : IsPut l.system l.form (map (λ q. q.now) l.lists) (joint (map (λ q. q.now) l.parts.items)) (map (λ q. q.now) l.left.items) l.text.items;
  next : IsLeast (map (λ q. q.now) l.left.items) l.next;
}

abbrev pub decreases-loop-next : goal.decreases-loop-next
decreases-loop-next l = length (joint (map (λ q. q.now) l.left.items))
