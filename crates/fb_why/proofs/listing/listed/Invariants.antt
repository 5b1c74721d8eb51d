use Rattle.std.proofs.Common.{◌≡◌, map, take}
use Rattle.fb_why.specs.Positions.{position_of}
use Rattle.fb_why.proofs.listing.listed.Given as goal

abbrev pub invariant-loop-location : goal.invariant-loop-location
invariant-loop-location l = l.positions.items ≡ map (position_of l.case.library.now) (take l.location-index l.first)
