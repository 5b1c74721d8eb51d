use Rattle.fb_sim.proofs.lemmas.Common.{map, take, IsLeast}
use Rattle.fb_sim.proofs.rounds.merge_text.least_tick.Given as goal

abbrev pub invariant-loop-list : goal.invariant-loop-list
invariant-loop-list l = IsLeast (map (λ q. q.now) (take l.list-index l.lists)) l.least
