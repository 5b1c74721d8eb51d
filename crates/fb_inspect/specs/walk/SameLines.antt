-- When two lines of a system are one, as far as a form shows them (this project's profile).
use Rattle.std.specs.Prelude.{◌≡◌}
use Rattle.fb_types.specs.declared.key.Key.{Key}
use Rattle.fb_types.specs.declared.run.Form.{Form}
use Rattle.fb_types.specs.declared.run.Form.TheVariants.{One, Two}
use Rattle.fb_types.specs.declared.run.Line.{Line}

-- The class and the parts of two keys are alike, if the form shows them.
abbrev pub AreLikeParts : Form → (k j : Key) → Type 0
AreLikeParts One k j = Unit {0}
AreLikeParts Two k j = (k.class ≡ j.class) × (k.a ≡ j.a) × (k.b ≡ j.b)

-- Two lines are one, but for what the form does not show.
pub record IsSameLine (form : Form) (l m : Line) : Type 0 where
  pub tick : l.key.tick ≡ m.key.tick
  pub resource : l.key.resource ≡ m.key.resource
  pub parts : AreLikeParts form l.key m.key
  pub taken : l.taken ≡ m.taken
  pub instance : l.instance ≡ m.instance
  pub event : l.event ≡ m.event
  pub values : l.values ≡ m.values
