use Rattle.std.proofs.Common.{◌≡◌, ◌++◌, map, take}
use Rattle.fb_expect.specs.Needs.{has_name}
use Rattle.fb_expect.proofs.pattern.with_each.Given as goal

abbrev pub invariant-loop-name : goal.invariant-loop-name
invariant-loop-name l = l.conditions ≡ l.fn.conditions ++ map has_name (take l.name-index l.names)
