use Rattle.std.proofs.Common.{◌≡◌, ◌≤◌, length, map, take, vec_len, vec_capacity}
use Rattle.fb_sim.specs.MergedText.{AreCut}
use Rattle.fb_sim.proofs.rounds.merge_text.divide.Given as goal

abbrev pub invariant-loop-list : goal.invariant-loop-list
invariant-loop-list l = record {
  cut : AreCut l.cut 0 (map (λ q. q.now) (take l.list-index l.lists)) (map (λ q. q.now) l.firsts.items) (map (λ q. q.now) l.lasts.items);
  firsts_len : vec_len l.firsts ≡ l.list-index;
  firsts_room : length l.lists ≤ vec_capacity l.firsts;
  lasts_len : vec_len l.lasts ≡ l.list-index;
  lasts_room : length l.lists ≤ vec_capacity l.lasts;
}
