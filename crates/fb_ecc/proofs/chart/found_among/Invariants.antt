use Rattle.fb_types.proofs.Common.{◌≡◌, List, map, take, Name, among}
use Rattle.fb_check_names.specs.Indexes.{IsIndex}
use Rattle.fb_ecc.specs.Indexed.{entry_of, picked}
use Rattle.fb_ecc.proofs.chart.found_among.Given as goal

abbrev pub invariant-loop-name : goal.invariant-loop-name
invariant-loop-name l = (all : List Name) → IsIndex all l.indexes → map entry_of l.found.entries ≡ picked (among (take l.name-index l.names)) all 0
