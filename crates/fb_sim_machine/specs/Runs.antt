-- Taking one event in the run of all resources (this project's profile).
use Rattle.std.specs.Prelude.{◌≡◌, ◌≤◌, ℕ, suc, List, Some, slice_get, slice_set}
use Rattle.fb_types.specs.Takes.{begun}
use Rattle.fb_types.specs.declared.key.Key.{Key}
use Rattle.fb_resource.specs.Counts.{meter_of}
use Rattle.fb_resource.specs.declared.tick_counts.TickCounts.{TickCounts}

-- One step more of the tick was used in the key's resource, and the others have what they had.
pub record IsSpent (limit : ℕ) (k : Key) (old new : List TickCounts) : Type 0 where
  pub before : TickCounts
  pub was : slice_get old k.resource ≡ Some before
  pub after : TickCounts
  pub now : new ≡ slice_set old k.resource after
  pub tick : after.tick ≡ Some k.tick
  pub left : suc after.meter.left ≤ (begun limit k.tick (meter_of before)).left
