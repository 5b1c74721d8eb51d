-- What the variables of a layout hold, by the words of their slots, and after a write there.
use Rattle.fb_st.proofs.lemmas.Common.{◌≡◌, ℕ, ℤ, zero, suc, length, List, [], ◌∷◌, set, map, Some, refl, sym, ◌∙◌, ap, subst, arith, slice_get, Name, with_value, Twice, Slot as Variable, Declared, names_of, values_of, index_of, declared_in, types_in, word_at, values_at, value_of_word, name_at}
use Rattle.fb_types.proofs.lemmas.names.NameLaws.{same_name-itself}
use Rattle.fb_st.specs.Fitting.{held, name_or}
use Rattle.fb_st.proofs.lemmas.Indexes.{index_of_once}
use Rattle.fb_st.proofs.lemmas.Slots.{value_here, type_here, written}

abbrev variable_of : Declared → ℤ → Variable
variable_of d z = record { name = d.0; ty = d.1; value = value_of_word d.1 z }

pub held_at : (ds : List Declared) (ws : List ℤ) (i : ℕ) (d : Declared) → length ws ≡ length ds → slice_get ds i ≡ Some d
    → slice_get (held ds ws) i ≡ Some (variable_of d (word_at ws i))
held_at [] ws i d len at = absurd cc
held_at (e ∷ ds) [] i d len at = absurd (omega arith)
held_at (e ∷ ds) (z ∷ ws) zero d len at = let same : e ≡ d = cc in ap (λ (x : Declared). Some (variable_of x z)) same
held_at (e ∷ ds) (z ∷ ws) (suc i) d len at = held_at ds ws i d (omega arith) at

pub held_names : (ds : List Declared) (ws : List ℤ) → length ws ≡ length ds → names_of (held ds ws) ≡ map (λ d. d.0) ds
held_names [] ws len = refl
held_names (e ∷ ds) [] len = absurd (omega arith)
held_names (e ∷ ds) (z ∷ ws) len = ap (λ ns. e.0 ∷ ns) (held_names ds ws (omega arith))

pub held_declared : (ds : List Declared) (ws : List ℤ) → length ws ≡ length ds → declared_in (held ds ws) ≡ ds
held_declared [] ws len = refl
held_declared (e ∷ ds) [] len = absurd (omega arith)
held_declared (e ∷ ds) (z ∷ ws) len = ap (λ es. e ∷ es) (held_declared ds ws (omega arith))

pub held_set : (ds : List Declared) (ws : List ℤ) (i : ℕ) (d : Declared) (z : ℤ) → length ws ≡ length ds → slice_get ds i ≡ Some d
    → held ds (set ws i z) ≡ set (held ds ws) i (variable_of d z)
held_set [] ws i d z len at = absurd cc
held_set (e ∷ ds) [] i d z len at = absurd (omega arith)
held_set (e ∷ ds) (y ∷ ws) zero d z len at = let same : e ≡ d = cc in ap (λ (x : Declared). variable_of x z ∷ held ds ws) same
held_set (e ∷ ds) (y ∷ ws) (suc i) d z len at = ap (λ l. variable_of e y ∷ l) (held_set ds ws i d z (omega arith) at)

module _ (ds : List Declared) (ws : List ℤ) (len : length ws ≡ length ds) (once : ¬ (Twice (map (λ d. d.0) ds))) (i : ℕ) (d : Declared) (at : slice_get ds i ≡ Some d) where
  index_held : index_of d.0 (held ds ws) ≡ Some i
  index_held =
      let P : List Name → Type 0 = λ ns. ¬ (Twice ns) in
      index_of_once (λ (s : Variable). s.name) d.0 (held ds ws) i (variable_of d (word_at ws i)) (subst P (sym (held_names ds ws len)) once) (held_at ds ws i d len at) (same_name-itself d.0)

  named_at : name_at ds i ≡ d.0
  named_at = ap name_or at

  -- a variable holds what its word is
  pub word_read : values_at ds ws (name_at ds i) ≡ value_of_word d.1 (word_at ws i)
  word_read =
      ap (values_at ds ws) named_at
      ∙ sym (value_here (held ds ws) d.0 i (variable_of d (word_at ws i)) index_held (held_at ds ws i d len at))

  pub word_type : types_in ds (name_at ds i) ≡ d.1
  word_type =
      ap (types_in ds) named_at
      ∙ ap (λ es. types_in es d.0) (sym (held_declared ds ws len))
      ∙ type_here (held ds ws) d.0 i (variable_of d (word_at ws i)) index_held (held_at ds ws i d len at)

  -- a write to a slot changes its variable alone
  pub word_written : (z : ℤ) → values_at ds (set ws i z) ≡ with_value (name_at ds i) (value_of_word d.1 z) (values_at ds ws)
  word_written z =
      ap values_of (held_set ds ws i d z len at)
      ∙ written (held ds ws) d.0 i (variable_of d (word_at ws i)) (value_of_word d.1 z) index_held (held_at ds ws i d len at)
      ∙ ap (λ n. with_value n (value_of_word d.1 z) (values_at ds ws)) (sym named_at)
