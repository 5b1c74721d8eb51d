use Rattle.fb_sim.proofs.lemmas.Common.{◌≡◌, ◌≤◌, ◌-◌, ◌++◌, drop, length, take, early, late}
use Rattle.fb_sim.proofs.rounds.merge_text.early_count.Given as goal

abbrev pub invariant-loop-count : goal.invariant-loop-count
invariant-loop-count l = record {
  within : l.count ≤ length l.list;
  early : take l.count l.list ++ early l.tick (drop l.count l.list) ≡ early l.tick l.list;
  late : late l.tick (drop l.count l.list) ≡ late l.tick l.list;
}

abbrev pub decreases-loop-count : goal.decreases-loop-count
decreases-loop-count l = length l.list - l.count
