use Rattle.fb_sim.proofs.lemmas.Common.{◌≡◌, ◌<◌, ◌≤◌, ◌^◌, ◌-◌, length, take, flat}
use Rattle.fb_sim.proofs.rounds.unwritten_lines.count_in.Given as goal

abbrev pub invariant-loop-list : goal.invariant-loop-list
invariant-loop-list l = record {
  count : l.count < 2 ^ 64 - 1 → l.count ≡ length (flat (take l.list-index l.lists));
  least : l.count ≤ length (flat (take l.list-index l.lists));
}
