-- Names that are the same, among names and of elements.
use Rattle.fb_types.proofs.Common.{◌≡◌, ◌||◌, Bool, true, false, cond, List, [], ◌∷◌, map, Some, Contains, refl, sym, ◌∙◌, ap, subst, inl, inr, arith, is_some, Decides, list_any, find, bytes_eq, false_from_ne_true, true≢false, bytes_eq-Decides, named, Name, same_name}
use Rattle.fb_types.proofs.lemmas.lists.Elements.{Contains-nil, Contains-cons_cases, Contains-here, Contains-there}

-- ---- Two names

pub same_name-is : (n m : Name) → same_name n m ≡ bytes_eq n m
same_name-is [] [] = refl
same_name-is [] (y ∷ ys) = refl
same_name-is (x ∷ xs) [] = refl
same_name-is (x ∷ xs) (y ∷ ys) = rw (same_name-is xs ys) refl

pub same_name-Decides : (n m : Name) → Decides (same_name n m) (n ≡ m)
same_name-Decides n m = let P : Bool → Type 0 = λ b. Decides b (n ≡ m) in subst P (sym (same_name-is n m)) (bytes_eq-Decides n m)

pub same_name-itself : (n : Name) → same_name n n ≡ true
same_name-itself n = (same_name-Decides n n).1 refl

pub same_from_same_name : (n m : Name) → same_name n m ≡ true → n ≡ m
same_from_same_name n m = (same_name-Decides n m).0

pub same_name-apart : (n m : Name) → ¬ (n ≡ m) → same_name n m ≡ false
same_name-apart n m h = false_from_ne_true (same_name n m) (λ t. h (same_from_same_name n m t))

pub same_name-flip : (n m : Name) → same_name n m ≡ same_name m n
same_name-flip n m =
    elim (same_name m n) as (λ b. same_name m n ≡ b → same_name n m ≡ b) [
      | true ↦ λ e. (same_name-Decides n m).1 (sym (same_from_same_name m n e))
      | false ↦ λ e. false_from_ne_true (same_name n m) (λ t. true≢false (sym ((same_name-Decides m n).1 (sym (same_from_same_name n m t))) ∙ e))
    ] refl

-- ---- A name among names

-- the test finds exactly the names in the list
pub contains_from_any : (n : Name) (ns : List Name) → list_any (same_name n) ns ≡ true → Contains ns n
contains_from_any n [] h = absurd (cc)
contains_from_any n (m ∷ ms) h =
    elim (same_name n m) as (λ b. same_name n m ≡ b → (b || list_any (same_name n) ms) ≡ true → Contains (m ∷ ms) n) [
      | true ↦ λ e g. let P : Name → Type 0 = λ k. Contains (m ∷ ms) k in subst P (sym (same_from_same_name n m e)) (Contains-here m ms)
      | false ↦ λ e g. Contains-there m ms n (contains_from_any n ms g)
    ] refl h

pub any_from_contains : (n : Name) (ns : List Name) → Contains ns n → list_any (same_name n) ns ≡ true
any_from_contains n [] h = absurd (Contains-nil n h)
any_from_contains n (m ∷ ms) h =
    elim (Contains-cons_cases m ms n h) [
      | inl e ↦ let s : same_name n m ≡ true = (same_name-Decides n m).1 (sym e) in rw s refl
      | inr rest ↦ let s = any_from_contains n ms rest in grind (arith, s)
    ]

-- ---- An element by its name

pub find-named : {A : Type 0} (f : A → Name) (n : Name) (xs : List A) → find (λ x. same_name (f x) n) xs ≡ named f n xs
find-named f n [] = refl
find-named f n (x ∷ xs) = ap (λ o. cond (same_name (f x) n) (Some x) o) (find-named f n xs)

any-flip : {A : Type 0} (f : A → Name) (n : Name) (xs : List A) → list_any (same_name n) (map f xs) ≡ list_any (λ x. same_name (f x) n) xs
any-flip f n [] = refl
any-flip f n (x ∷ xs) = λ i. same_name-flip n (f x) i || any-flip f n xs i

is_some-named : {A : Type 0} (f : A → Name) (n : Name) (xs : List A) → list_any (λ x. same_name (f x) n) xs ≡ is_some (named f n xs)
is_some-named f n [] = refl
is_some-named f n (x ∷ xs) =
    elim (same_name (f x) n) as (λ b. (b || list_any (λ x. same_name (f x) n) xs) ≡ is_some (cond b (Some x) (named f n xs))) [
      | true ↦ refl
      | false ↦ is_some-named f n xs
    ]

-- a name is among the names if an element has it
pub any-named : {A : Type 0} (f : A → Name) (n : Name) (xs : List A) → list_any (same_name n) (map f xs) ≡ is_some (named f n xs)
any-named f n xs = any-flip f n xs ∙ is_some-named f n xs

pub named-Contains : {A : Type 0} (f : A → Name) (n : Name) (xs : List A) (x : A) → named f n xs ≡ Some x → Contains xs x
named-Contains f n [] x h = absurd (cc)
named-Contains {A} f n (y ∷ ys) x h =
    elim (same_name (f y) n) as (λ b. cond b (Some y) (named f n ys) ≡ Some x → Contains (y ∷ ys) x) [
      | true ↦ λ h. let e : y ≡ x = cc in subst (λ (z : A). Contains (y ∷ ys) z) e (Contains-here y ys)
      | false ↦ λ h. Contains-there y ys x (named-Contains f n ys x h)
    ] h
