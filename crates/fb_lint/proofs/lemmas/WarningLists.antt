-- Lists of warnings that grow by those about one element of a list after another.
use Rattle.fb_types.proofs.Common.{Result, Ok, Err, ◌≡◌, ℕ, ◌+◌, ◌<◌, ◌≤◌, List, [], ◌∷◌, ◌++◌, drop, get_or, length, map, refl, append_assoc, append-nil, sym, ◌∙◌, ap, at_drop_all, at_drop_more, OnOk}
use Rattle.fb_lint.specs.Findings.{each_from}

-- what one element adds
pub next_found :
    {A B : Type 0} (f : ℕ → A → List B) (xs : List A) (i : ℕ) (x : A) (old new all : List B) → i < length xs → x ≡ get_or xs i x → new ≡ old ++ f i x
    → old ++ each_from f i (drop i xs) ≡ all → new ++ each_from f (i + 1) (drop (i + 1) xs) ≡ all
next_found {A} {B} f xs i x old new all within is added before =
    let rest = drop (i + 1) xs in
    let F : List A → List B = λ ys. each_from f i ys in
    let here : F (drop i xs) ≡ f i x ++ each_from f (i + 1) rest = at_drop_more F xs i x within ∙ ap (λ (y : A). F (y ∷ rest)) (sym is) in
    ap (λ (ys : List B). ys ++ each_from f (i + 1) rest) added ∙ append_assoc old (f i x) (each_from f (i + 1) rest)
    ∙ ap (λ (ys : List B). old ++ ys) (sym here) ∙ before

-- no element is left
pub all_found :
    {A B : Type 0} (f : ℕ → A → List B) (xs : List A) (i : ℕ) (new all : List B) → length xs ≤ i → new ++ each_from f i (drop i xs) ≡ all → new ≡ all
all_found {A} {B} f xs i new all past before =
    sym (append-nil new) ∙ ap (λ (ys : List B). new ++ ys) (sym (at_drop_all (λ (ys : List A). each_from f i ys) xs i past)) ∙ before

-- what is found at what the elements mean
pub each_from-map :
    {A B C : Type 0} (f : ℕ → B → List C) (g : A → B) (k : ℕ) (xs : List A) → each_from f k (map g xs) ≡ each_from (λ i x. f i (g x)) k xs
each_from-map f g k [] = refl
each_from-map {A} {B} {C} f g k (x ∷ xs) = ap (λ (rest : List C). f k (g x) ++ rest) (each_from-map f g (k + 1) xs)

-- what two calls add, the last of which may fail
pub two_found :
    {B T E : Type 0} (r : Result T E) (old one new a b other : List B) → one ≡ old ++ a → other ≡ b → OnOk r (new ≡ one ++ other) → OnOk r (new ≡ old ++ (a ++ b))
two_found (Err e) old one new a b other first same last = tt
two_found {B} (Ok x) old one new a b other first same last = last ∙ (λ i. first i ++ same i) ∙ append_assoc old a b

-- what four calls add, the last of which may fail
pub four_found :
    {B T E : Type 0} (r : Result T E) (old one two three new a b c d other : List B) → one ≡ old ++ a → two ≡ one ++ b → three ≡ two ++ c → other ≡ d
    → OnOk r (new ≡ three ++ other) → OnOk r (new ≡ old ++ (a ++ b ++ c ++ d))
four_found (Err e) old one two three new a b c d other first second third same last = tt
four_found {B} (Ok x) old one two three new a b c d other first second third same last =
    let ab : two ≡ old ++ (a ++ b) = second ∙ ap (λ (l : List B). l ++ b) first ∙ append_assoc old a b in
    let abc : three ≡ old ++ (a ++ b ++ c) = third ∙ ap (λ (l : List B). l ++ c) ab ∙ append_assoc old (a ++ b) c in
    last ∙ (λ i. abc i ++ same i) ∙ append_assoc old (a ++ b ++ c) d
