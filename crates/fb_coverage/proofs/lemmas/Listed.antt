-- Texts, rows and counts that grow by one element of a list after another.
use Rattle.fb_types.proofs.Common.{◌≡◌, ◌<◌, ◌≤◌, ◌+◌, ℕ, List, [], ◌∷◌, ◌++◌, drop, get_or, length, map, take, zero, suc, None, refl, sym, ◌∙◌, ap, append_assoc, append-nil, OnOk, Result, Ok, Err, if◌then◌else◌, is_ok, slice_get, slice_set, unwrap_or, at_drop_all, at_drop_more, map-append, take_more, get_or_from_slice_get, unwrap_or-slice_get}
use Rattle.fb_types.proofs.lemmas.lists.ByIndex.{element_at}
use Rattle.fb_coverage.specs.Listed.{listed}

-- ---- Texts

-- what an element gives, and then what those after it give
pub listed_here :
    {A B : Type 0} (f : ℕ → A → List B) (xs : List A) (i : ℕ) (x : A) → i < length xs → x ≡ get_or xs i x
    → listed f i (drop i xs) ≡ f i x ++ listed f (i + 1) (drop (i + 1) xs)
listed_here {A} {B} f xs i x within is =
    at_drop_more (λ (ys : List A). listed f i ys) xs i x within ∙ ap (λ (y : A). listed f i (y ∷ drop (i + 1) xs)) (sym is)

-- one element of a list adds what it gives
pub listed_next :
    {A B : Type 0} (f : ℕ → A → List B) (xs : List A) (i : ℕ) (x : A) (old new all : List B) → i < length xs → x ≡ get_or xs i x → new ≡ old ++ f i x
    → old ++ listed f i (drop i xs) ≡ all → new ++ listed f (i + 1) (drop (i + 1) xs) ≡ all
listed_next {A} {B} f xs i x old new all within is added before =
    let rest : List B = listed f (i + 1) (drop (i + 1) xs) in
    ap (λ (ys : List B). ys ++ rest) added ∙ append_assoc old (f i x) rest ∙ ap (λ (ys : List B). old ++ ys) (sym (listed_here f xs i x within is)) ∙ before

-- no element is left
pub listed_done :
    {A B : Type 0} (f : ℕ → A → List B) (xs : List A) (i : ℕ) (new all : List B) → length xs ≤ i → new ++ listed f i (drop i xs) ≡ all → new ≡ all
listed_done {A} {B} f xs i new all past before =
    sym (append-nil new) ∙ ap (λ (ys : List B). new ++ ys) (sym (at_drop_all (λ (ys : List A). listed f i ys) xs i past)) ∙ before

-- ---- Elements by their numbers

-- the element at a number, which is within
pub here_is : {A : Type 0} (xs : List A) (i : ℕ) (d : A) → i < length xs → unwrap_or (slice_get xs i) d ≡ get_or xs i (unwrap_or (slice_get xs i) d)
here_is {A} xs i d within =
    let one = element_at xs i within in
    let same : unwrap_or (slice_get xs i) d ≡ one.0 = ap (λ o. unwrap_or o d) one.1 in
    same ∙ sym (get_or_from_slice_get xs i one.0 (unwrap_or (slice_get xs i) d) one.1)

pub mapped_more :
    {A B : Type 0} (f : A → B) (xs : List A) (i : ℕ) (d : A) (old new : List B) → i < length xs → old ≡ map f (take i xs) → new ≡ old ++ f (unwrap_or (slice_get xs i) d) ∷ []
    → new ≡ map f (take (i + 1) xs)
mapped_more {A} {B} f xs i d old new within before added =
    added ∙ ap (λ (ys : List B). ys ++ f (unwrap_or (slice_get xs i) d) ∷ []) before
    ∙ ap (λ (y : A). map f (take i xs) ++ f y ∷ []) (unwrap_or-slice_get xs i d)
    ∙ sym (map-append f (take i xs) (get_or xs i d ∷ []))
    ∙ ap (map f) (sym (take_more xs i d within))

-- nothing is written past the end
pub set_none : {A : Type 0} (xs : List A) (i : ℕ) (v : A) → slice_get xs i ≡ None → slice_set xs i v ≡ xs
set_none [] i v none = refl
set_none (x ∷ xs) zero v none = absurd (cc)
set_none {A} (x ∷ xs) (suc i) v none = ap (λ (ys : List A). x ∷ ys) (set_none xs i v none)

-- ---- What the last of some calls adds

pub put_two :
    {A E : Type 0} (r : Result A E) (old a b d one new : List ℕ) → one ≡ old ++ a → OnOk r (new ≡ one ++ d) → d ≡ b → OnOk r (new ≡ old ++ (a ++ b))
put_two (Ok x) old a b d one new first put same =
    put ∙ ap (λ (l : List ℕ). one ++ l) same ∙ ap (λ (l : List ℕ). l ++ b) first ∙ append_assoc old a b
put_two (Err x) old a b d one new first put same = tt

pub put_six :
    {A E : Type 0} (r : Result A E) (old a b c d e z one two three four five new : List ℕ) → one ≡ old ++ a → two ≡ one ++ b → three ≡ two ++ c → four ≡ three ++ d
    → five ≡ four ++ e → new ≡ (if is_ok r then five ++ z else five) → OnOk r (new ≡ old ++ (a ++ b ++ c ++ d ++ e ++ z))
put_six (Ok x) old a b c d e z one two three four five new first second third fourth fifth put =
    let ab : two ≡ old ++ (a ++ b) = second ∙ ap (λ (l : List ℕ). l ++ b) first ∙ append_assoc old a b in
    let abc : three ≡ old ++ (a ++ b ++ c) = third ∙ ap (λ (l : List ℕ). l ++ c) ab ∙ append_assoc old (a ++ b) c in
    let abcd : four ≡ old ++ (a ++ b ++ c ++ d) = fourth ∙ ap (λ (l : List ℕ). l ++ d) abc ∙ append_assoc old (a ++ b ++ c) d in
    let abcde : five ≡ old ++ (a ++ b ++ c ++ d ++ e) = fifth ∙ ap (λ (l : List ℕ). l ++ e) abcd ∙ append_assoc old (a ++ b ++ c ++ d) e in
    put ∙ ap (λ (l : List ℕ). l ++ z) abcde ∙ append_assoc old (a ++ b ++ c ++ d ++ e) z
put_six (Err x) old a b c d e z one two three four five new first second third fourth fifth put = tt
