-- The first element with a name, in a list that grows.
use Rattle.fb_types.proofs.Common.{◌≡◌, true, false, cond, List, [], ◌∷◌, ◌++◌, map, Some, None, Contains, refl, ◌∙◌, ap, subst, Name, same_name, named}
use Rattle.fb_types.proofs.lemmas.lists.Elements.{Contains-here, Contains-there}
use Rattle.fb_types.proofs.lemmas.names.NameLaws.{same_name-itself, same_name-apart}

pub named_none : {A : Type 0} (f : A → Name) (n : Name) (xs : List A) → ¬ (Contains (map f xs) n) → named f n xs ≡ None
named_none f n [] h = refl
named_none {A} f n (x ∷ xs) h =
    let apart : same_name (f x) n ≡ false =
    same_name-apart (f x) n (λ e. h (subst (λ (m : Name). Contains (f x ∷ map f xs) m) e (Contains-here (f x) (map f xs)))) in
    ap (λ b. cond b (Some x) (named f n xs)) apart ∙ named_none f n xs (λ c. h (Contains-there (f x) (map f xs) n c))

-- one more element, of another name
pub named_other : {A : Type 0} (f : A → Name) (n : Name) (xs : List A) (x : A) → ¬ (f x ≡ n) → named f n (xs ++ x ∷ []) ≡ named f n xs
named_other f n [] x h = ap (λ b. cond b (Some x) None) (same_name-apart (f x) n h)
named_other f n (y ∷ ys) x h = ap (λ o. cond (same_name (f y) n) (Some y) o) (named_other f n ys x h)

-- one more element, of a name that no other has
pub named_new : {A : Type 0} (f : A → Name) (xs : List A) (x : A) → ¬ (Contains (map f xs) (f x)) → named f (f x) (xs ++ x ∷ []) ≡ Some x
named_new f [] x h = ap (λ b. cond b (Some x) None) (same_name-itself (f x))
named_new f (y ∷ ys) x h =
    let apart : same_name (f y) (f x) ≡ false =
    same_name-apart (f y) (f x) (λ e. h (subst (λ (m : Name). Contains (f y ∷ map f ys) m) e (Contains-here (f y) (map f ys)))) in
    ap (λ b. cond b (Some y) (named f (f x) (ys ++ x ∷ []))) apart ∙ named_new f ys x (λ c. h (Contains-there (f y) (map f ys) (f x) c))

-- further elements do not come first
pub named-append_old : {A : Type 0} (f : A → Name) (n : Name) (xs ys : List A) (x : A) → named f n xs ≡ Some x → named f n (xs ++ ys) ≡ Some x
named-append_old f n [] ys x h = absurd (cc)
named-append_old f n (z ∷ zs) ys x h =
    elim (same_name (f z) n) as (λ b. cond b (Some z) (named f n zs) ≡ Some x → cond b (Some z) (named f n (zs ++ ys)) ≡ Some x) [
      | true ↦ λ h. h
      | false ↦ λ h. named-append_old f n zs ys x h
    ] h
