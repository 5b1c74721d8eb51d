-- The keys of arrivals.
use Rattle.std.proofs.Common.{◌≡◌, ℕ, refl}
use Rattle.fb_types.specs.declared.run.Event.{Event}
use Rattle.fb_types.specs.declared.run.Event.TheVariants as waits
use Rattle.fb_net.specs.Events.{key_by}

pub key_by-resource : (tick r n : ℕ) (e : Event) → (key_by tick r n e).resource ≡ r
key_by-resource tick r n (waits.Stimulus row) = refl
key_by-resource tick r n (waits.Timer k) = refl
key_by-resource tick r n (waits.Arrival m) = refl
key_by-resource tick r n (waits.Local t) = refl
key_by-resource tick r n (waits.Given g) = refl

pub key_by-tick : (tick r n : ℕ) (e : Event) → (key_by tick r n e).tick ≡ tick
key_by-tick tick r n (waits.Stimulus row) = refl
key_by-tick tick r n (waits.Timer k) = refl
key_by-tick tick r n (waits.Arrival m) = refl
key_by-tick tick r n (waits.Local t) = refl
key_by-tick tick r n (waits.Given g) = refl

pub ruleset keys = (key_by-resource, key_by-tick)
