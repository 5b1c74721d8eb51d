use Rattle.std.proofs.Common.{◌≡◌, ◌++◌, drop}
use Rattle.std.specs.List.{flat_map}
use Rattle.fb_draw.specs.Resources as spec
use Rattle.fb_draw.proofs.resource.put_listed.Given as goal

-- with what the rest adds, all is there
abbrev pub invariant-loop-name : goal.invariant-loop-name
invariant-loop-name l = l.text.items ++ flat_map spec.member (drop l.name-index l.names) ≡ l.fn.text.items ++ flat_map spec.member l.names
