-- Variables as a frame keeps them: by words, and by values where these are not of their types (this project's own).
use Rattle.std.specs.Prelude.{ℤ, List, [], ◌∷◌, Bool, unwrap_or, is_none}
use Rattle.std.specs.List.{list_all}
use Rattle.fb_st.specs.Fitting.{value_of_word}
use Rattle.fb_st.specs.declared.frame.Slot.{Slot}
use Rattle.fb_st.specs.declared.slot_list.Kept.{Kept}

-- the variable whose word that is
abbrev pub shown : Kept → ℤ → Slot
shown k z = record { name = k.name; ty = k.ty; value = unwrap_or k.odd (value_of_word k.ty z) }

abbrev pub kept_as : List Kept → List ℤ → List Slot
kept_as [] zs = []
kept_as (k ∷ ks) [] = []
kept_as (k ∷ ks) (z ∷ zs) = shown k z ∷ kept_as ks zs

-- each word is what its variable holds
abbrev pub all_plain : List Kept → Bool
all_plain ks = list_all (λ k. is_none k.odd) ks
