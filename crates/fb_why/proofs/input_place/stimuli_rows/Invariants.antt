use Rattle.std.proofs.Common.{◌≡◌, map, take}
use Rattle.fb_why.specs.InputPlaces.{row_of}
use Rattle.fb_why.proofs.input_place.stimuli_rows.Given as goal

abbrev pub invariant-loop-position : goal.invariant-loop-position
invariant-loop-position l = l.rows.items ≡ map row_of (take l.position-index l.positions)
