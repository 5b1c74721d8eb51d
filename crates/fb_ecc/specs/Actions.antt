-- Actions by the indexes of what they name, and how they end (IEC 61499-1, 5.2; their indexes are this project's profile).
use Rattle.std.specs.Prelude.{◌≡◌, ℕ, List, [], ◌∷◌, option_map, Option, Some, None, Result, Ok, Err, true}
use Rattle.fb_types.specs.Names.{Name}
use Rattle.fb_types.specs.Blocks.{event_names}
use Rattle.fb_types.specs.Charts.{Position, Moving}
use Rattle.fb_types.specs.Repeated.{algorithm_names}
use Rattle.fb_types.specs.declared.library.Action.{Action}
use Rattle.fb_types.specs.declared.library.BasicType.{BasicType}
use Rattle.fb_types.specs.declared.value.Reason.{Reason}
use Rattle.fb_st.specs.Frames.{values_of}
use Rattle.fb_st.specs.declared.frame.Slot.{Slot}
use Rattle.fb_ecc.specs.Numbered.{number_in}
use Rattle.fb_ecc.specs.Sound.{is_named}
use Rattle.fb_ecc.specs.declared.chart.Act.{Act}

-- The index is that of an algorithm of this name, or none where there is no name.
pub record IsAlgorithm (t : BasicType) (k : Option ℕ) (n : Option Name) : Type 0 where
  pub known : is_named (algorithm_names t) n ≡ true
  pub is : k ≡ option_map (number_in (λ a. a.name) t.algorithms) n

-- The index is that of an event output by its name.
pub record IsOutput (t : BasicType) (k : Option ℕ) (n : Option Name) : Type 0 where
  pub known : is_named (event_names t.ports.event_outputs) n ≡ true
  pub is : k ≡ option_map (number_in (λ p. p.name) t.ports.event_outputs) n

pub record IsAction (t : BasicType) (act : Act) (a : Action) : Type 0 where
  pub algorithm : IsAlgorithm t act.algorithm a.algorithm
  pub output : IsOutput t act.output a.output

-- the actions of a state
abbrev pub AreActions : BasicType → List Act → List Action → Type 0
AreActions t [] [] = Unit {0}
AreActions t [] (a ∷ as') = ⊥
AreActions t (x ∷ xs) [] = ⊥
AreActions t (x ∷ xs) (a ∷ as') = IsAction t x a × AreActions t xs as'

-- a position with these variables and steps left
abbrev pub with_slots : Position → List Slot → (left : ℕ) → Position
with_slots p slots left = record p { vars = values_of slots; left = left }

-- How an algorithm ended.
abbrev pub Stopped : Result (Unit {0}) Reason → Moving → Position → Position → Type 0
Stopped (Ok _) moves p q = moves p None q
Stopped (Err r) moves p q = moves p (Some r) q
