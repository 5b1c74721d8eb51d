use Rattle.std.proofs.Common.{◌≡◌, false, take, All}
use Rattle.fb_why.specs.InputPlaces.{is_in_deployment}
use Rattle.fb_why.proofs.input_place.deployment_for.Given as goal

abbrev pub invariant-loop-position : goal.invariant-loop-position
invariant-loop-position l = All (λ p. is_in_deployment p ≡ false) (take l.position-index l.positions)
