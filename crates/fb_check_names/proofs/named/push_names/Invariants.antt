use Rattle.std.proofs.Common.{◌≡◌, ◌++◌, map, take}
use Rattle.fb_check_names.specs.Indexes.{names_in}
use Rattle.fb_check_names.proofs.named.push_names.Given as goal

abbrev pub invariant-loop-item : goal.invariant-loop-item
invariant-loop-item g l = names_in l.names.items ≡ names_in l.fn.names.items ++ map g.T.Named.called (take l.item-index l.items)
