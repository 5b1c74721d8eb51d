use Rattle.std.proofs.Common.{◌≡◌, length, map}
use Rattle.fb_read.specs.Words.{look_up}
use Rattle.fb_read.proofs.keyword.look_up.Given as goal

abbrev pub invariant-loop-table : goal.invariant-loop-table
invariant-loop-table l = look_up (map (λ k. (k.0.now, k.1)) l.table) l.word ≡ look_up (map (λ k. (k.0.now, k.1)) l.initial.table) l.word

abbrev pub decreases-loop-table : goal.decreases-loop-table
decreases-loop-table l = length l.table
