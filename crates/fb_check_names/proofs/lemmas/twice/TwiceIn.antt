-- Names that occur twice in one of several lists.
use Rattle.fb_types.proofs.Common.{◌⊎◌, List, [], ◌∷◌, ◌++◌, map, Contains, sym, subst, inl, inr, flat_map, Contains-append_left, Contains-append_right, Contains-append_cases, Name, Twice}
use Rattle.fb_check_names.specs.GivenTwice.{TwiceIn}
use Rattle.fb_types.proofs.lemmas.lists.Elements.{Contains-nil, Contains-cons_cases, Contains-here, Contains-map, map-Contains, Contains-flat_map, flat_map-Contains}

-- ---- Names that occur twice in one of the lists

pub TwiceIn-left : (ls ms : List (List Name)) → TwiceIn ls → TwiceIn (ls ++ ms)
TwiceIn-left ls ms t = (t.0, Contains-append_left ls ms t.0 t.1, t.2)

pub TwiceIn-right : (ls ms : List (List Name)) → TwiceIn ms → TwiceIn (ls ++ ms)
TwiceIn-right ls ms t = (t.0, Contains-append_right ls ms t.0 t.1, t.2)

pub TwiceIn-cases : (ls ms : List (List Name)) → TwiceIn (ls ++ ms) → TwiceIn ls ⊎ TwiceIn ms
TwiceIn-cases ls ms t =
    elim (Contains-append_cases ls ms t.0 t.1) [ inl c ↦ inl (t.0, c, t.2) | inr c ↦ inr (t.0, c, t.2) ]

pub TwiceIn-one : (ns : List Name) → Twice ns → TwiceIn (ns ∷ [])
TwiceIn-one ns t = (ns, Contains-here ns [], t)

pub TwiceIn-only : (ns : List Name) → TwiceIn (ns ∷ []) → Twice ns
TwiceIn-only ns t =
    elim (Contains-cons_cases ns [] t.0 t.1) [
      | inl e ↦ subst (λ (ms : List Name). Twice ms) (sym e) t.2
      | inr none ↦ absurd (Contains-nil t.0 none)
    ]

pub TwiceIn-map : {A : Type 0} (f : A → List Name) (xs : List A) (x : A) → Contains xs x → Twice (f x) → TwiceIn (map f xs)
TwiceIn-map f xs x c t = (f x, Contains-map f xs x c, t)

pub map-TwiceIn : {A : Type 0} (f : A → List Name) (xs : List A) → TwiceIn (map f xs) → (x : A) × Contains xs x × Twice (f x)
map-TwiceIn f xs t =
    let r = map-Contains f xs t.0 t.1 in (r.0, r.1, subst (λ (ms : List Name). Twice ms) (sym r.2) t.2)

pub TwiceIn-flat_map : {A : Type 0} (f : A → List (List Name)) (xs : List A) (x : A) → Contains xs x → TwiceIn (f x) → TwiceIn (flat_map f xs)
TwiceIn-flat_map f xs x c t = (t.0, Contains-flat_map f xs x t.0 c t.1, t.2)

pub flat_map-TwiceIn : {A : Type 0} (f : A → List (List Name)) (xs : List A) → TwiceIn (flat_map f xs) → (x : A) × Contains xs x × TwiceIn (f x)
flat_map-TwiceIn f xs t = let r = flat_map-Contains f xs t.0 t.1 in (r.0, r.1, (t.0, r.2, t.2))
