use Rattle.std.proofs.Common.{◌≡◌, map, take}
use Rattle.fb_why.specs.declared.location.FindingLocation.TheVariants.{Check}
use Rattle.fb_why.specs.declared.place.PlacedFinding.{PlacedFinding}
use Rattle.fb_why.proofs.listing.findings_at.Given as goal

abbrev pub invariant-loop-index : goal.invariant-loop-index
invariant-loop-index l =
    (map (λ (r : PlacedFinding). r.finding.location) l.all.items ≡ map (λ p. Check p) (take l.index l.locations)) × (map (λ (r : PlacedFinding). r.place) l.all.items ≡ take l.index l.places)
