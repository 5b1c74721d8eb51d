-- Steps of a loop over a list.
use Rattle.fb_types.proofs.Common.{◌≡◌, ℕ, ◌<◌, ◌≤◌, ◌+◌, Bool, true, false, cond, List, [], ◌∷◌, ◌++◌, length, map, take, drop, get_or, Some, sym, ◌∙◌, ap, subst, All, find, at_drop_more, take_more, take_all, map-append, take-append-drop, All-push, Twice}
use Rattle.fb_types.proofs.lemmas.lists.TwiceLaws.{Twice-append_left}

-- the results of a function for the elements so far, with one more
pub map_take_more :
    {A B : Type 0} (f : A → B) (xs : List A) (i : ℕ) (x : A) → i < length xs → x ≡ get_or xs i x
    → map f (take (i + 1) xs) ≡ map f (take i xs) ++ f x ∷ []
map_take_more {A} f xs i x h e =
    ap (map f) (take_more xs i x h) ∙ map-append f (take i xs) (get_or xs i x ∷ []) ∙ ap (λ (y : A). map f (take i xs) ++ f y ∷ []) (sym e)

-- the same, if the result of the function for the element is known by another name
pub more_of_part :
    {A B : Type 0} (P : List B → Type 0) (f : A → B) (xs : List A) (i : ℕ) (x : A) (y : B) → i < length xs → x ≡ get_or xs i x → y ≡ f x
    → P (map f (take i xs) ++ y ∷ []) → P (map f (take (i + 1) xs))
more_of_part {A} {B} P f xs i x y h e g p =
    subst P (sym (map_take_more f xs i x h e)) (subst (λ (z : B). P (map f (take i xs) ++ z ∷ [])) g p)

-- a list that has the results of the function for each element so far, and is given that of the one at hand
pub mapped_next :
    {A B : Type 0} (f : A → B) (xs : List A) (i : ℕ) (d : A) (so_far after : List B) (y : B) → i < length xs → y ≡ f (get_or xs i d)
    → so_far ≡ map f (take i xs) → after ≡ so_far ++ y ∷ [] → after ≡ map f (take (i + 1) xs)
mapped_next f xs i d so_far after y h is are grown =
    grown ∙ (λ j. are j ++ is j ∷ []) ∙ sym (ap (map f) (take_more xs i d h) ∙ map-append f (take i xs) (get_or xs i d ∷ []))

-- what is twice up to an element is twice in all
pub twice_of_part :
    {A B : Type 0} (f : A → B) (xs : List A) (i : ℕ) (x : A) (y : B) → i < length xs → x ≡ get_or xs i x → y ≡ f x
    → Twice (map f (take i xs) ++ y ∷ []) → Twice (map f xs)
twice_of_part {A} {B} f xs i x y h e g t =
    let P : List B → Type 0 = λ ys. Twice ys in
    let part : Twice (map f (take (i + 1) xs)) = more_of_part P f xs i x y h e g t in
    subst P (sym (map-append f (take (i + 1) xs) (drop (i + 1) xs)) ∙ ap (map f) (take-append-drop (i + 1) xs))
    (Twice-append_left (map f (take (i + 1) xs)) (map f (drop (i + 1) xs)) part)

-- what holds of all so far, and of one more
pub all_next :
    {A : Type 0} (P : A → Type 0) (xs : List A) (i : ℕ) (x : A) → i < length xs → x ≡ get_or xs i x → All P (take i xs) → P x → All P (take (i + 1) xs)
all_next {A} P xs i x h e so_far here =
    subst (λ (ys : List A). All P ys) (sym (take_more xs i x h ∙ ap (λ (z : A). take i xs ++ z ∷ []) (sym e))) (All-push P (take i xs) x so_far here)

pub all_of_taken : {A : Type 0} (P : A → Type 0) (xs : List A) (i : ℕ) → length xs ≤ i → All P (take i xs) → All P xs
all_of_taken {A} P xs i h all = subst (λ (ys : List A). All P ys) (take_all i xs h) all

-- ---- A loop that searches the first element that passes a test

-- the result of the test at the element at hand
find_next :
    {A : Type 0} (p : A → Bool) (xs : List A) (i : ℕ) (x : A) (b : Bool) → i < length xs → x ≡ get_or xs i x → find p xs ≡ find p (drop i xs) → p x ≡ b
    → find p xs ≡ cond b (Some x) (find p (drop (i + 1) xs))
find_next {A} p xs i x b h e before is =
    before ∙ at_drop_more (find p) xs i x h ∙ ap (λ (y : A). find p (y ∷ drop (i + 1) xs)) (sym e)
    ∙ ap (λ c. cond c (Some x) (find p (drop (i + 1) xs))) is

pub found_here :
    {A : Type 0} (p : A → Bool) (xs : List A) (i : ℕ) (x : A) → i < length xs → x ≡ get_or xs i x → find p xs ≡ find p (drop i xs) → p x ≡ true
    → Some x ≡ find p xs
found_here p xs i x h e before passes = sym (find_next p xs i x true h e before passes)

pub found_later :
    {A : Type 0} (p : A → Bool) (xs : List A) (i : ℕ) (x : A) → i < length xs → x ≡ get_or xs i x → find p xs ≡ find p (drop i xs) → p x ≡ false
    → find p xs ≡ find p (drop (i + 1) xs)
found_later p xs i x h e before fails = find_next p xs i x false h e before fails
