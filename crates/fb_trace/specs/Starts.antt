-- The start of a line by its numbers (this project's profile).
use Rattle.std.specs.Prelude.{ℕ, List, [], ◌∷◌}
use Rattle.fb_types.specs.Text.{value_text}
use Rattle.fb_types.specs.declared.run.Line.{Line}
use Rattle.fb_types.specs.declared.value.Value.{Value}
use Rattle.fb_system.specs.declared.heads.HeadOf.{HeadOf}

-- what the head of a line belongs to
abbrev pub head_of_line : Line → HeadOf
head_of_line l = record { resource = l.key.resource; instance = l.instance; event = l.event; taken = l.taken }

-- the text of the first value, if there is one
abbrev pub first_value : List Value → List ℕ
first_value [] = []
first_value (v ∷ vs) = value_text v
