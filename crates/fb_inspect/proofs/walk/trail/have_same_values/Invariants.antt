use Rattle.std.proofs.Common.{◌≡◌, take}
use Rattle.fb_inspect.proofs.walk.trail.have_same_values.Given as goal

-- the values up to here are the same
abbrev pub invariant-loop-index : goal.invariant-loop-index
invariant-loop-index l = take l.index l.left ≡ take l.index l.right
