use Rattle.fb_types.proofs.Common.{◌≡◌, ◌+◌, length, take, filter, same_name}
use Rattle.fb_stop.proofs.place.transition_index.Given as goal

abbrev pub invariant-loop-index : goal.invariant-loop-index
invariant-loop-index l = l.left + length (filter (λ x. same_name x.from l.state) (take l.index l.block.transitions)) ≡ l.nth
