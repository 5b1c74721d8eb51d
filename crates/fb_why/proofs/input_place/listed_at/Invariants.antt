use Rattle.std.proofs.Common.{◌≡◌, drop}
use Rattle.fb_why.specs.InputPlaces.{listed_at}
use Rattle.fb_why.proofs.input_place.listed_at.Given as goal

abbrev pub invariant-loop-resource : goal.invariant-loop-resource
invariant-loop-resource l = listed_at 0 l.resources l.index ≡ listed_at l.resource (drop l.resource l.resources) l.left
