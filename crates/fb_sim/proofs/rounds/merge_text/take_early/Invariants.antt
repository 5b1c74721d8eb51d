use Rattle.fb_sim.proofs.lemmas.Common.{◌≡◌, ◌≤◌, ◌++◌, length, map, take, vec_len, vec_capacity, all_early, all_late, joint}
use Rattle.fb_sim.proofs.rounds.merge_text.take_early.Given as goal

abbrev pub invariant-loop-list : goal.invariant-loop-list
invariant-loop-list l = record {
  parts : joint (map (λ q. q.now) l.parts.items) ≡ joint (map (λ q. q.now) l.initial.parts.items) ++ all_early l.tick (map (λ q. q.now) (take l.list-index l.lists));
  left : map (λ q. q.now) l.left.items ≡ all_late l.tick (map (λ q. q.now) (take l.list-index l.lists));
  len : vec_len l.left ≤ l.list-index;
  room : length l.lists ≤ vec_capacity l.left;
}
