-- What is kept of a basic block before a taking (this project's own).
use Rattle.std.specs.Prelude.{◌≡◌, map, Option, Some, None}
use Rattle.fb_types.specs.Blocks.{Kind, Basic, Event, Composite, variable_names}
use Rattle.fb_types.specs.Reactions.{state_of}
use Rattle.fb_types.specs.declared.library.BasicType.{BasicType}
use Rattle.fb_ecc.specs.Indexes.{state_at}
use Rattle.fb_inspect.specs.walk.Notes.{hidden_variables}
use Rattle.fb_inspect.specs.walk.Looks.{Seen}
use Rattle.fb_inspect.specs.declared.dump.before.Before.{Before}

pub record IsSaved (t : BasicType) (x : Before) (s : Seen) : Type 0 where
  pub state_is : state_of s.memory ≡ state_at t x.state
  pub values_are : x.values.items ≡ map s.variables (variable_names (hidden_variables t))

-- of a block that is no basic one nothing is kept
abbrev pub IsBefore : Option Kind → Before → Seen → Type 0
IsBefore None x s = Unit {0}
IsBefore (Some (Basic t)) x s = IsSaved t x s
IsBefore (Some (Event kind)) x s = Unit {0}
IsBefore (Some (Composite t)) x s = Unit {0}
