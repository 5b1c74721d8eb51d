use Rattle.std.proofs.Common.{◌≡◌, take}
use Rattle.fb_why.specs.Roots.{without_following}
use Rattle.fb_why.proofs.roots.without_following.Given as goal

abbrev pub invariant-loop-location : goal.invariant-loop-location
invariant-loop-location l = l.kept.items ≡ without_following l.library (take l.location-index l.locations)
