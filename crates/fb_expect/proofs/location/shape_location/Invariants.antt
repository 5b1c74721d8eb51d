use Rattle.std.proofs.Common.{◌≡◌, map, take, true}
use Rattle.std.specs.List.{list_all}
use Rattle.toml.specs.View.{view}
use Rattle.fb_expect.specs.Locations.{has_shape}
use Rattle.fb_expect.proofs.location.shape_location.Given as goal

abbrev pub invariant-loop-rule : goal.invariant-loop-rule
invariant-loop-rule l = list_all has_shape (take l.rule (map view l.values)) ≡ true
