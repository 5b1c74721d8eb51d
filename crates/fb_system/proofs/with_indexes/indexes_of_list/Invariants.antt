use Rattle.std.proofs.Common.{◌≡◌, take, map}
use Rattle.fb_system.proofs.lemmas.types.WithLists.{own_index}
use Rattle.fb_system.proofs.with_indexes.indexes_of_list.Given as goal

-- the indexes of the names so far, in the order of the list
abbrev pub invariant-loop-name : goal.invariant-loop-name
invariant-loop-name l = l.numbers.items ≡ map (own_index l.variables) (take l.name-index l.list)
