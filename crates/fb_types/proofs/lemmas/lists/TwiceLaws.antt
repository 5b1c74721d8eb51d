-- Lists in which something is twice.
use Rattle.fb_types.proofs.Common.{List, [], ◌∷◌, ◌++◌, Contains, sym, subst, inl, inr, Contains-append_left, Contains-append_right, Contains-push, Contains-push_cases, Twice}
use Rattle.fb_types.proofs.lemmas.lists.Elements.{Contains-nil, Contains-cons_cases, Contains-here, Contains-there}

pub Twice-push : {A : Type 0} (xs : List A) (x : A) → Contains xs x → Twice (xs ++ x ∷ [])
Twice-push [] x h = absurd (Contains-nil x h)
Twice-push (y ∷ ys) x h =
    elim (Contains-cons_cases y ys x h) [
      | inl e ↦ inl (subst (λ (z : _). Contains (ys ++ x ∷ []) z) (sym e) (Contains-push ys x))
      | inr rest ↦ inr (Twice-push ys x rest)
    ]

pub Twice-append_left : {A : Type 0} (xs ys : List A) → Twice xs → Twice (xs ++ ys)
Twice-append_left [] ys h = absurd h
Twice-append_left (x ∷ xs) ys h =
    elim h [ inl c ↦ inl (Contains-append_left xs ys x c) | inr t ↦ inr (Twice-append_left xs ys t) ]

pub Twice-append_right : {A : Type 0} (xs ys : List A) → Twice ys → Twice (xs ++ ys)
Twice-append_right [] ys t = t
Twice-append_right (x ∷ xs) ys t = inr (Twice-append_right xs ys t)

pub Twice-both : {A : Type 0} (xs ys : List A) (z : A) → Contains xs z → Contains ys z → Twice (xs ++ ys)
Twice-both [] ys z c d = absurd (Contains-nil z c)
Twice-both {A} (x ∷ xs) ys z c d =
    elim (Contains-cons_cases x xs z c) [
      | inl e ↦ inl (Contains-append_right xs ys x (subst (λ (w : A). Contains ys w) (sym e) d))
      | inr rest ↦ inr (Twice-both xs ys z rest d)
    ]

-- ---- Lists in which nothing is twice

pub once_push : {A : Type 0} (xs : List A) (x : A) → ¬ (Twice xs) → ¬ (Contains xs x) → ¬ (Twice (xs ++ x ∷ []))
once_push [] x once new t = elim t [ inl c ↦ Contains-nil x c | inr n ↦ n ]
once_push {A} (y ∷ ys) x once new t =
    elim t [
      | inl c ↦ elim (Contains-push_cases ys x y c) [
        | inl there ↦ once (inl there)
        | inr e ↦ new (subst (λ (z : A). Contains (y ∷ ys) z) (sym e) (Contains-here y ys))
      ]
      | inr t ↦ once_push ys x (λ t. once (inr t)) (λ c. new (Contains-there y ys x c)) t
    ]

pub once_right : {A : Type 0} (xs ys : List A) → ¬ (Twice (xs ++ ys)) → ¬ (Twice ys)
once_right xs ys once t = once (Twice-append_right xs ys t)
