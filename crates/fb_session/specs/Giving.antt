-- Giving a row (this project's profile).
use Rattle.std.specs.Prelude.{◌≡◌, ◌+◌, ◌^◌, ◌<◌, ◌≤◌, ◌++◌, ℕ, List, [], ◌∷◌, codes, decimal, Result, Ok, Err}
use Rattle.fb_types.specs.Accepted.{IsGood}
use Rattle.fb_types.specs.Text.{value_text}
use Rattle.fb_types.specs.declared.deploy.Setting.{Setting}
use Rattle.fb_types.specs.declared.deploy.Stimulus.{Stimulus}
use Rattle.fb_check.specs.Stimuli.{IsBad}
use Rattle.fb_inputs.specs.Stimuli as csv
use Rattle.fb_inputs.specs.Words.{Text}
use Rattle.fb_session.specs.declared.stage.Stage.TheVariants as stage
use Rattle.fb_session.specs.Pasts.{Past, StandsBy, Talk}
use Rattle.fb_session.specs.declared.give.GivenAnswer.{GivenAnswer}
use Rattle.fb_session.specs.declared.fault.GiveFault.{GiveFault}
use Rattle.fb_session.specs.declared.fault.GiveFault.TheVariants.{Full, Late, Memory, NotGoing, Unfit, Unread}

-- ---- The text of a row, as a list of stimuli has it

abbrev pub setting_text : Setting → Text
setting_text x = x.variable ++ (codes "=" ++ value_text x.value)

-- settings, each after a blank
abbrev pub more_text : List Setting → Text
more_text [] = []
more_text (x ∷ xs) = codes " " ++ (setting_text x ++ more_text xs)

-- settings with a blank between each two
abbrev pub settings_text : List Setting → Text
settings_text [] = []
settings_text (x ∷ xs) = setting_text x ++ more_text xs

abbrev pub row_text : Stimulus → Text
row_text s = decimal s.tick ++ (codes "," ++ (s.instance ++ (codes "." ++ (s.event ++ (codes "," ++ settings_text s.settings)))))

-- ---- A row

-- The three fields are read as those of a row of a list are, whatever the count of rows (E13, E14, E15).
abbrev pub IsRead : (tick event values : Text) → Stimulus → Type 0
IsRead tick event values s = csv.stimulus 0 (tick ∷ event ∷ values ∷ []) ≡ Ok s

-- the same of what reading them answers
abbrev pub IsReadOr : (tick event values : Text) → Result Stimulus GiveFault → Type 0
IsReadOr tick event values (Ok s) = IsRead tick event values s
IsReadOr tick event values (Err (Unread fault)) = csv.stimulus 0 (tick ∷ event ∷ values ∷ []) ≡ Err fault
IsReadOr tick event values (Err Memory) = Unit {0}
IsReadOr tick event values (Err NotGoing) = ⊥
IsReadOr tick event values (Err (Unfit s fault)) = ⊥
IsReadOr tick event values (Err (Late t)) = ⊥
IsReadOr tick event values (Err Full) = ⊥

-- The session has the row after all others, whatever came before.
pub record HasGiven (s : Stimulus) (old new : Talk) : Type 0 where
  pub talk : new ≡ record old { rows = old.rows + 1; machine = new.machine }
  pub stands : (p : Past) → StandsBy old p → StandsBy new (record p { given = p.given ++ s ∷ [] })

-- What comes of putting a row that fits and is not late. Memory runs out only where there is a number for the row.
abbrev pub Puts : Stimulus → (text : Text) → (old new : Talk) → Result GivenAnswer GiveFault → Type 0
Puts s text old new (Ok answer) = (answer.row ≡ old.rows) × (answer.text.items ≡ text) × HasGiven s old new
Puts s text old new (Err Full) = (2 ^ 64 ≤ old.rows + 1) × (new ≡ old)
Puts s text old new (Err Memory) = (old.rows + 1 < 2 ^ 64) × (new ≡ old)
Puts s text old new (Err NotGoing) = ⊥
Puts s text old new (Err (Unread fault)) = ⊥
Puts s text old new (Err (Unfit t fault)) = ⊥
Puts s text old new (Err (Late t)) = ⊥

-- A row is accepted exactly if it can be read, it fits (E29), it is not late and there is a number for it. Otherwise nothing
-- changes, and the first of these that fails is named.
abbrev pub Gives : (tick event values : Text) → (old new : Talk) → Result GivenAnswer GiveFault → Type 0
Gives tick event values old new (Ok answer) =
    (s : Stimulus) × IsRead tick event values s × IsGood old.inputs.library s × (old.reached ≤ s.tick) × (old.stage ≡ stage.Running)
    × (answer.row ≡ old.rows) × (answer.text.items ≡ row_text s) × HasGiven s old new
Gives tick event values old new (Err NotGoing) = (old.stage ≡ stage.Running → ⊥) × (new ≡ old)
Gives tick event values old new (Err (Unread fault)) = (csv.stimulus 0 (tick ∷ event ∷ values ∷ []) ≡ Err fault) × (new ≡ old)
Gives tick event values old new (Err (Unfit s fault)) = IsRead tick event values s × IsBad old.inputs.library s fault × (new ≡ old)
Gives tick event values old new (Err (Late t)) =
    (s : Stimulus) × IsRead tick event values s × IsGood old.inputs.library s × (s.tick ≡ t) × (t < old.reached) × (new ≡ old)
Gives tick event values old new (Err Full) = (2 ^ 64 ≤ old.rows + 1) × (new ≡ old)
Gives tick event values old new (Err Memory) = (old.stage ≡ stage.Running) × (new ≡ old)
