use Rattle.std.proofs.Common.{◌≡◌, take}
use Rattle.fb_check_names.specs.Indexes.{names_in}
use Rattle.fb_wave.proofs.table.indexes_in.Given as goal

abbrev pub invariant-loop-text : goal.invariant-loop-text
invariant-loop-text l = names_in l.names.items ≡ take l.text-index l.texts
