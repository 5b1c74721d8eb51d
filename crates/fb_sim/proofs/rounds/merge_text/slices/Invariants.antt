use Rattle.std.proofs.Common.{◌≡◌, ◌≤◌, length, map, take, vec_len, vec_capacity}
use Rattle.fb_sim.proofs.rounds.merge_text.slices.Given as goal

abbrev pub invariant-loop-list : goal.invariant-loop-list
invariant-loop-list l = record {
  all : map (λ q. q.now) l.slices.items ≡ map (λ v. v.items) (take l.list-index l.lists);
  len : vec_len l.slices ≡ l.list-index;
  room : length l.lists ≤ vec_capacity l.slices;
}
