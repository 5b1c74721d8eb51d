-- The indexes of the variables of a line, by their names.
use Rattle.fb_types.proofs.Common.{◌≡◌, ℕ, zero, suc, ◌+◌, ◌<◌, List, [], ◌∷◌, length, map, refl, sym, ap, ◌∙◌, arith, All, Option, Some, option_map, slice_get, unwrap_or, All-head, All-tail, slice_get-map, variable_names, Name, Twice}
use Rattle.fb_types.specs.declared.library.Variable.{Variable}
use Rattle.fb_types.proofs.lemmas.lists.Positions.{position_of_once}
use Rattle.fb_system.specs.IndexLists.{AreIndexes, variable_at}
use Rattle.fb_wave.specs.LineSignals.{index_of}

name_of : Variable → Name
name_of v = v.name

some_there : (vs : List Variable) (k : ℕ) → k < length vs → (x : Variable) × (slice_get vs k ≡ Some x)
some_there [] k h = absurd (omega arith)
some_there (v ∷ vs) zero h = (v, refl)
some_there (v ∷ vs) (suc k) h = some_there vs k (omega arith)

-- the index of a variable is that at which its name is
index_is : (vs : List Variable) (k : ℕ) → ¬ (Twice (variable_names vs)) → k < length vs → index_of vs (variable_at vs k) ≡ k
unfolding name_of some_there
index_is vs k once within =
    let at = some_there vs k within in
    let named : variable_at vs k ≡ at.0.name = ap (λ (o : Option Name). unwrap_or o []) (slice_get-map name_of vs k ∙ ap (option_map name_of) at.1) in
    ap (index_of vs) named ∙ ap (λ (o : Option ℕ). unwrap_or o 0) (position_of_once name_of vs k at.0 once at.1)

pub indexes_shown :
    (vs : List Variable) (first : ℕ) (ks : List ℕ) → ¬ (Twice (variable_names vs)) → All (λ k. k < length vs) ks
    → map (λ n. first + index_of vs n) (map (variable_at vs) ks) ≡ map (λ k. first + k) ks
indexes_shown vs first [] once all = refl
indexes_shown vs first (k ∷ ks) once all =
    ap (λ (j : ℕ). (first + j) ∷ map (λ n. first + index_of vs n) (map (variable_at vs) ks)) (index_is vs k once (All-head (λ k. k < length vs) k ks all))
    ∙ ap (λ (js : List ℕ). (first + k) ∷ js) (indexes_shown vs first ks once (All-tail (λ k. k < length vs) k ks all))

pub names_shown :
    (vs : List Variable) (first : ℕ) (names : List Name) (ks : List ℕ) → ¬ (Twice (variable_names vs)) → AreIndexes vs names ks
    → map (λ k. first + k) ks ≡ map (λ n. first + index_of vs n) names
names_shown vs first names ks once are =
    sym (ap (map (λ (n : Name). first + index_of vs n)) (sym are.named) ∙ indexes_shown vs first ks once are.within)
