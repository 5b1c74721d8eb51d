use Rattle.std.proofs.Common.{◌≡◌, None, map, take}
use Rattle.fb_check_names.specs.Numbers.{index_of}
use Rattle.fb_check_names.proofs.ports.index_named.Given as goal

abbrev pub invariant-loop-index : goal.invariant-loop-index
invariant-loop-index g l = index_of (map g.T.Named.called (take l.index l.items)) l.name ≡ None
