-- A name that is new, after names that differ.
use Rattle.fb_st.proofs.lemmas.Common.{◌≡◌, ◌||◌, List, [], ◌∷◌, refl, ap, list_any, Name, same_name, Slot, declared_in}
use Rattle.fb_st.specs.Frames.{is_declared}

pub tested : (slots : List Slot) (n : Name) → is_declared (declared_in slots) n ≡ list_any (λ s. same_name n s.name) slots
tested [] n = refl
tested (s ∷ slots) n = ap (λ b. same_name n s.name || b) (tested slots n)
