use Rattle.fb_wave.proofs.lemmas.Common.{ℕ, ◌+◌, ◌-◌, ◌≤◌, [], AreLevels}
use Rattle.fb_wave.proofs.levels.Levels.add.Given as goal

abbrev pub invariant-loop-left : goal.invariant-loop-left
invariant-loop-left l = record {
  left : l.left ≤ l.count;
  levels : (n : ℕ) → AreLevels n [] [] [] l.initial.self → AreLevels (n + (l.count - l.left)) [] [] [] l.self;
}

abbrev pub decreases-loop-left : goal.decreases-loop-left
decreases-loop-left l = l.left
