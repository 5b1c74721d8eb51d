-- Elements of lists, and the variables of a type as a block has them.
use Rattle.fb_types.proofs.Common.{◌≡◌, List, [], ◌∷◌, ◌++◌, map, refl, sym, ◌∙◌, ap, map-append, variable_names, variables_of}
use Rattle.fb_types.specs.declared.library.BasicType.{BasicType}
use Rattle.fb_types.specs.declared.library.Variable.{Variable}
use Rattle.fb_st.specs.Frames.{declared_in, names_of}
use Rattle.fb_st.specs.declared.frame.Slot.{Slot}
use Rattle.fb_ecc.specs.Opened.{slot_of}
use Rattle.fb_ecc.specs.Sound.{declared_as}

-- ---- Variables that are declared

pub names_opened : (vs : List Variable) → names_of (map slot_of vs) ≡ variable_names vs
names_opened [] = refl
names_opened (v ∷ vs) = ap (λ ns. v.name ∷ ns) (names_opened vs)

pub declared_opened : (vs : List Variable) → declared_in (map slot_of vs) ≡ map declared_as vs
declared_opened [] = refl
declared_opened (v ∷ vs) = ap (λ ds. declared_as v ∷ ds) (declared_opened vs)

-- the slots of the inputs, the outputs and the other variables, put one after the other
pub all_slots :
    (t : BasicType) (none first second third : List Slot) (ins outs internals : List Variable) → none ≡ []
    → ins ≡ t.ports.inputs → outs ≡ t.ports.outputs → internals ≡ t.internals
    → first ≡ none ++ map slot_of ins → second ≡ first ++ map slot_of outs → third ≡ second ++ map slot_of internals
    → third ≡ map slot_of (variables_of t)
all_slots t none first second third ins outs internals begun is_ins is_outs is_internals one two three =
    let a : first ≡ map slot_of t.ports.inputs =
    one ∙ ap (λ (l : List Slot). l ++ map slot_of ins) begun ∙ ap (map slot_of) is_ins in
    let b : second ≡ map slot_of (t.ports.inputs ++ t.ports.outputs) =
    two ∙ ap (λ (l : List Slot). l ++ map slot_of outs) a
    ∙ ap (λ (l : List Variable). map slot_of t.ports.inputs ++ map slot_of l) is_outs ∙ sym (map-append slot_of t.ports.inputs t.ports.outputs) in
    three ∙ ap (λ (l : List Slot). l ++ map slot_of internals) b
    ∙ ap (λ (l : List Variable). map slot_of (t.ports.inputs ++ t.ports.outputs) ++ map slot_of l) is_internals
    ∙ sym (map-append slot_of (t.ports.inputs ++ t.ports.outputs) t.internals)
