use Rattle.fb_types.proofs.Common.{◌≡◌, map, take, is_some}
use Rattle.fb_check.proofs.networks.heights.mark_all.Given as goal

abbrev pub invariant-loop-numbers : goal.invariant-loop-numbers
invariant-loop-numbers l = l.marks.items ≡ map is_some (take l.numbers-index l.blocks)
