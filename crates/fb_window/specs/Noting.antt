-- When each resource has its next event (this project's profile).
use Rattle.std.specs.Prelude.{◌≡◌, ℕ, ◌<◌, List, None, Some, length, slice_get, slice_set}
use Rattle.fb_types.specs.declared.key.Key.{Key}
use Rattle.fb_types.specs.declared.run.Message.{Message}
use Rattle.fb_agenda.specs.Agendas.{IsNext, waiting}
use Rattle.fb_resource.specs.Resources.{HasReceived}
use Rattle.fb_resource.specs.declared.resource.Resource.{Resource}

-- The tick is that of the resource's next event where it is below the horizon; nothing waits below it.
pub record IsCurrent (horizon : ℕ) (x : Resource) (tick : ℕ) : Type 0 where
  pub rests : (j : Key) → j.tick < tick → waiting x.agenda j ≡ None
  pub next : tick < horizon → IsNext x.agenda tick

-- So it is for each resource.
pub record AreCurrent (horizon : ℕ) (xs : List Resource) (ticks : List ℕ) : Type 0 where
  pub counted : length ticks ≡ length xs
  pub each : (r : ℕ) (x : Resource) (tick : ℕ) → slice_get xs r ≡ Some x → slice_get ticks r ≡ Some tick → IsCurrent horizon x tick

-- One resource has received messages, and all others are as they were.
pub record IsHanded (index : ℕ) (ms : List Message) (xs ys : List Resource) : Type 0 where
  pub before : Resource
  pub after : Resource
  pub was : slice_get xs index ≡ Some before
  pub received : HasReceived ms before after
  pub set : ys ≡ slice_set xs index after
