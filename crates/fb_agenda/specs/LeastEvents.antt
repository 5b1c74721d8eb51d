-- Whether an event was taken, and which (this project's profile).
use Rattle.std.specs.Prelude.{◌≡◌, ℕ, Bool, true, false, Option, Some, None}
use Rattle.fb_types.specs.Keys.{local_key}
use Rattle.fb_types.specs.declared.key.Key.{Key}
use Rattle.fb_types.specs.declared.run.Event.{Event}
use Rattle.fb_types.specs.declared.run.Event.TheVariants.{Local}
use Rattle.fb_types.specs.declared.run.Target.{Target}
use Rattle.fb_agenda.specs.declared.least.Least.{Least}

-- what was moved into `Least`, if anything was
abbrev pub taken : Bool → Least → Option (Key × Event)
taken true l = Some (l.key, l.event)
taken false l = None

-- An event with the key of a local one.
pub record IsRaised (k : Key) (e : Event) : Type 0 where
  pub number : ℕ
  pub target : Target
  pub key : k ≡ local_key k.tick k.resource number
  pub event : e ≡ Local target
