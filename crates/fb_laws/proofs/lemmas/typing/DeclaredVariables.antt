-- A variable looked up by its name among those that are declared.
use Rattle.fb_types.proofs.Common.{◌≡◌, ◌⊎◌, inl, inr, ⊎_elim, refl, Bool, true, false, cond, List, [], ◌∷◌, ◌++◌, Option, Some, None, All, or_cases, or_parts, or_left, or_right, false_from_ne_true, both_ways, All-nil, All-cons, Name, same_name, Values, Bound, bound, among, variable_names}
use Rattle.fb_types.specs.declared.library.Variable.{Variable}
use Rattle.std.proofs.Common.{filter}
use Rattle.fb_types.proofs.lemmas.names.NameLaws.{same_from_same_name, same_name-itself}
use Rattle.fb_laws.specs.Typed.{variable_named}

same_name_turned : (m n : Name) → same_name m n ≡ true → same_name n m ≡ true
same_name_turned m n h = let e : m ≡ n = same_from_same_name m n h in rw e (same_name-itself n)

same_name_apart : (m n : Name) → same_name m n ≡ false → same_name n m ≡ false
same_name_apart m n h = false_from_ne_true (same_name n m) (λ e. both_ways (same_name m n) h (same_name_turned n m e))

-- ---- In two lists, one after the other

front_step : (b : Bool) (v x : Variable) (o p : Option Variable) → (o ≡ Some x → p ≡ Some x)
    → cond b (Some v) o ≡ Some x → cond b (Some v) p ≡ Some x
front_step true v x o p f h = h
front_step false v x o p f h = f h

-- what the first list has is found
pub named-front : (vs ws : List Variable) (n : Name) (x : Variable) → variable_named n vs ≡ Some x → variable_named n (vs ++ ws) ≡ Some x
named-front [] ws n x h = absurd cc
named-front (v ∷ vs) ws n x h =
    front_step (same_name v.name n) v x (variable_named n vs) (variable_named n (vs ++ ws)) (named-front vs ws n x) h

back_step : (b : Bool) (v : Variable) (o p r : Option Variable) → (o ≡ None → p ≡ r) → cond b (Some v) o ≡ None → cond b (Some v) p ≡ r
back_step true v o p r f h = absurd cc
back_step false v o p r f h = f h

-- what the first list lacks is looked up in the second
pub named-back : (vs ws : List Variable) (n : Name) → variable_named n vs ≡ None → variable_named n (vs ++ ws) ≡ variable_named n ws
named-back [] ws n h = refl
named-back (v ∷ vs) ws n h =
    back_step (same_name v.name n) v (variable_named n vs) (variable_named n (vs ++ ws)) (variable_named n ws) (named-back vs ws n) h

-- ---- Names of variables

-- there is such a variable
abbrev pub IsNamed : List Variable → Name → Type 0
IsNamed vs n = (x : Variable) × (variable_named n vs ≡ Some x)

among_step : (b : Bool) (v : Variable) (o : Option Variable) → (b ≡ true) ⊎ ((x : Variable) × (o ≡ Some x))
    → (x : Variable) × (cond b (Some v) o ≡ Some x)
among_step true v o h = (v, refl)
among_step false v o (inl e) = absurd cc
among_step false v o (inr x) = x

pub named-among : (vs : List Variable) (n : Name) → among (variable_names vs) n ≡ true → IsNamed vs n
named-among [] n h = absurd cc
named-among (v ∷ vs) n h =
    among_step (same_name v.name n) v (variable_named n vs)
    (⊎_elim (λ e. inl (same_name_turned n v.name e)) (λ e. inr (named-among vs n e)) (or_cases (same_name n v.name) (among (variable_names vs) n) h))

pub named-not_among : (vs : List Variable) (n : Name) → among (variable_names vs) n ≡ false → variable_named n vs ≡ None
named-not_among [] n h = refl
named-not_among (v ∷ vs) n h =
    let both = or_parts (same_name n v.name) (among (variable_names vs) n) h in
    let apart : same_name v.name n ≡ false = same_name_apart n v.name both.0 in
    rw apart (named-not_among vs n both.1)

filter_step : (b : Bool) (m n : Name) (ns : List Name) → among (cond b (m ∷ ns) ns) n ≡ true → (same_name n m ≡ true) ⊎ (among ns n ≡ true)
filter_step true m n ns h = or_cases (same_name n m) (among ns n) h
filter_step false m n ns h = inr h

pub among-filter : (test : Name → Bool) (ns : List Name) (n : Name) → among (filter test ns) n ≡ true → among ns n ≡ true
among-filter test [] n h = h
among-filter test (m ∷ ns) n h =
    ⊎_elim
    (λ e. or_left (same_name n m) (among ns n) e)
    (λ e. or_right (same_name n m) (among ns n) (among-filter test ns n e))
    (filter_step (test m) m n (filter test ns) h)

-- each value with its name is such, if each name among them has such a value
pub All-bound : (P : Bound → Type 0) (vars : Values) (ns : List Name)
    → ((n : Name) → among ns n ≡ true → P (record { variable = n; value = vars n })) → All P (bound ns vars)
All-bound P vars [] h = All-nil P
All-bound P vars (n ∷ ns) h =
    All-cons P (record { variable = n; value = vars n }) (bound ns vars)
    (h n (or_left (same_name n n) (among ns n) (same_name-itself n)))
    (All-bound P vars ns (λ m e. h m (or_right (same_name m n) (among ns m) e)))
