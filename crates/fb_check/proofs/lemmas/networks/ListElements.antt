-- Elements of lists, one element at a time.
use Rattle.fb_types.proofs.Common.{◌≡◌, Bool, true, false, cond, ◌||◌, List, [], ◌∷◌, map, Contains, refl, sym, ◌∙◌, ap, subst, inl, inr, filter, list_any, Decides, true≢false}
use Rattle.fb_types.proofs.lemmas.lists.Elements.{Contains-nil, Contains-cons_cases, Contains-here, Contains-there}

-- ---- Tests of elements

-- a test finds what a function makes of an element
pub any-Decides :
    {A B : Type 0} (f : A → B) (test : A → Bool) (y : B) (xs : List A) → ((x : A) → Decides (test x) (f x ≡ y)) → Decides (list_any test xs) (Contains (map f xs) y)
any-Decides f test y [] d = (λ h. absurd (true≢false (sym h)), λ c. absurd (Contains-nil y c))
any-Decides {A} {B} f test y (x ∷ xs) d =
    elim (test x) as (λ b. test x ≡ b → Decides (b || list_any test xs) (Contains (f x ∷ map f xs) y)) [
      | true ↦ λ e. (λ _. subst (λ (z : B). Contains (f x ∷ map f xs) z) ((d x).0 e) (Contains-here (f x) (map f xs)), λ _. refl)
      | false ↦ λ e. (
        λ h. Contains-there (f x) (map f xs) y ((any-Decides f test y xs d).0 h),
        λ c. elim (Contains-cons_cases (f x) (map f xs) y c) [
          | inl same ↦ absurd (true≢false (sym ((d x).1 same) ∙ e))
          | inr rest ↦ (any-Decides f test y xs d).1 rest
        ],
      )
    ] refl

pub filter-Contains : {A : Type 0} (p : A → Bool) (xs : List A) (x : A) → Contains (filter p xs) x → p x ≡ true
filter-Contains p [] x c = absurd (Contains-nil x c)
filter-Contains {A} p (y ∷ ys) x c =
    (elim (p y) as (λ b. p y ≡ b → Contains (cond b (y ∷ filter p ys) (filter p ys)) x → p x ≡ true) [
      | true ↦ λ e c.
          elim (Contains-cons_cases y (filter p ys) x c) [
            | inl same ↦ ap p (sym same) ∙ e
            | inr rest ↦ filter-Contains p ys x rest
          ]
      | false ↦ λ e c. filter-Contains p ys x c
    ]) refl c

pub Contains-filter : {A : Type 0} (p : A → Bool) (xs : List A) (x : A) → Contains xs x → p x ≡ true → Contains (filter p xs) x
Contains-filter p [] x c h = absurd (Contains-nil x c)
Contains-filter {A} p (y ∷ ys) x c h =
    elim (Contains-cons_cases y ys x c) [
      | inl same ↦
          let holds : p y ≡ true = ap p same ∙ h in
          subst (λ (zs : List A). Contains zs x) (sym (ap (λ b. cond b (y ∷ filter p ys) (filter p ys)) holds))
          (subst (λ (z : A). Contains (y ∷ filter p ys) z) same (Contains-here y (filter p ys)))
      | inr rest ↦
          (elim (p y) as (λ b. Contains (cond b (y ∷ filter p ys) (filter p ys)) x) [
            | true ↦ Contains-there y (filter p ys) x (Contains-filter p ys x rest h)
            | false ↦ Contains-filter p ys x rest h
          ])
    ]
