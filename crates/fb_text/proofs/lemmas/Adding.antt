-- Texts that grow by one element of a list after another.
use Rattle.fb_types.proofs.Common.{◌≡◌, Bool, false, Result, Ok, Err, map, ℕ, ◌+◌, ◌<◌, ◌≤◌, List, [], ◌∷◌, ◌++◌, drop, get_or, length, append_assoc, append-nil, refl, sym, ◌∙◌, ap, OnOk, if◌then◌else◌, is_ok, at_drop_all, at_drop_more}
use Rattle.fb_types.specs.declared.text.Expr.{Expr}
use Rattle.std.specs.List.{flat_map}
use Rattle.fb_text.specs.Expressions.{arguments_text, expression_text, separator}

-- one element of a list adds its part of what the whole list is to add
pub one_added :
    {A : Type 0} (F : List A → List ℕ) (f : A → List ℕ) (xs : List A) (i : ℕ) (x : A) (old new all : List ℕ) → ((y : A) (ys : List A) → F (y ∷ ys) ≡ f y ++ F ys)
    → i < length xs → x ≡ get_or xs i x → new ≡ old ++ f x → old ++ F (drop i xs) ≡ all → new ++ F (drop (i + 1) xs) ≡ all
one_added {A} F f xs i x old new all parts within is added before =
    let rest = drop (i + 1) xs in
    let here : F (drop i xs) ≡ f x ++ F rest = at_drop_more F xs i x within ∙ ap (λ (y : A). F (y ∷ rest)) (sym is) ∙ parts x rest in
    ap (λ (ys : List ℕ). ys ++ F rest) added ∙ append_assoc old (f x) (F rest) ∙ ap (λ (ys : List ℕ). old ++ ys) (sym here) ∙ before

-- no element is left
pub all_added :
    {A : Type 0} (F : List A → List ℕ) (xs : List A) (i : ℕ) (new all : List ℕ) → F [] ≡ [] → length xs ≤ i → new ++ F (drop i xs) ≡ all → new ≡ all
all_added {A} F xs i new all none past before =
    sym (append-nil new) ∙ ap (λ (ys : List ℕ). new ++ ys) (sym (at_drop_all F xs i past ∙ none)) ∙ before

-- the same for the texts of all elements, joined
pub next_added :
    {A : Type 0} (f : A → List ℕ) (xs : List A) (i : ℕ) (x : A) (old new all : List ℕ) → i < length xs → x ≡ get_or xs i x → new ≡ old ++ f x
    → old ++ flat_map f (drop i xs) ≡ all → new ++ flat_map f (drop (i + 1) xs) ≡ all
next_added {A} f xs i x old new all within is added before =
    one_added (λ (ys : List A). flat_map f ys) f xs i x old new all (λ y ys. refl) within is added before

-- the same for an element that is copied
pub copied_added :
    {A : Type 0} (f : A → List ℕ) (xs : List A) (i : ℕ) (d : A) (old new all : List ℕ) → i < length xs → new ≡ old ++ f (get_or xs i d)
    → old ++ flat_map f (drop i xs) ≡ all → new ++ flat_map f (drop (i + 1) xs) ≡ all
copied_added {A} f xs i d old new all within added before =
    let rest = drop (i + 1) xs in
    let F : List A → List ℕ = λ ys. flat_map f ys in
    let here : F (drop i xs) ≡ f (get_or xs i d) ++ F rest = at_drop_more F xs i d within in
    ap (λ (ys : List ℕ). ys ++ F rest) added ∙ append_assoc old (f (get_or xs i d)) (F rest) ∙ ap (λ (ys : List ℕ). old ++ ys) (sym here) ∙ before

pub list_added :
    {A : Type 0} (f : A → List ℕ) (xs : List A) (i : ℕ) (new all : List ℕ) → length xs ≤ i → new ++ flat_map f (drop i xs) ≡ all → new ≡ all
list_added {A} f xs i new all past before = all_added (λ (ys : List A). flat_map f ys) xs i new all refl past before

-- an argument and what comes before it are added, and the next is not the first
pub argument_added :
    (b : Bool) (xs : List Expr) (i : ℕ) (x : Expr) (old mid new all : List ℕ) → i < length xs → x ≡ get_or xs i x → mid ≡ old ++ separator b
    → new ≡ mid ++ expression_text x → old ++ arguments_text b (map expression_text (drop i xs)) ≡ all
    → new ++ arguments_text false (map expression_text (drop (i + 1) xs)) ≡ all
argument_added b xs i x old mid new all within is first second before =
    let f : List Expr → List ℕ = λ es. arguments_text b (map expression_text es) in
    let rest : List ℕ = arguments_text false (map expression_text (drop (i + 1) xs)) in
    let here : f (drop i xs) ≡ (separator b ++ expression_text x) ++ rest = at_drop_more f xs i x within ∙ ap (λ (y : Expr). f (y ∷ drop (i + 1) xs)) (sym is) in
    let grown : new ≡ old ++ (separator b ++ expression_text x) =
    second ∙ ap (λ (l : List ℕ). l ++ expression_text x) first ∙ append_assoc old (separator b) (expression_text x)
    in
    ap (λ (l : List ℕ). l ++ rest) grown ∙ append_assoc old (separator b ++ expression_text x) rest ∙ ap (λ (l : List ℕ). old ++ l) (sym here) ∙ before

-- ---- What the last of some calls adds

-- the same by another name
pub put_as : {A E : Type 0} (r : Result A E) (new old a b : List ℕ) → a ≡ b → OnOk r (new ≡ old ++ a) → OnOk r (new ≡ old ++ b)
put_as (Ok x) new old a b same put = put ∙ ap (λ (l : List ℕ). old ++ l) same
put_as (Err e) new old a b same put = tt

-- one call that adds a piece, by another name
pub put_piece : {A E : Type 0} (r : Result A E) (old a b new : List ℕ) → a ≡ b → new ≡ (if is_ok r then old ++ a else old) → OnOk r (new ≡ old ++ b)
put_piece (Ok x) old a b new same put = put ∙ ap (λ (l : List ℕ). old ++ l) same
put_piece (Err e) old a b new same put = tt

pub put_two :
    {A E : Type 0} (r : Result A E) (old a z one new : List ℕ) → one ≡ old ++ a → OnOk r (new ≡ one ++ z) → OnOk r (new ≡ old ++ (a ++ z))
put_two (Ok x) old a z one new first put = put ∙ ap (λ (l : List ℕ). l ++ z) first ∙ append_assoc old a z
put_two (Err e) old a z one new first put = tt

pub put_three :
    {A E : Type 0} (r : Result A E) (old a b z one two new : List ℕ) → one ≡ old ++ a → two ≡ one ++ b → new ≡ (if is_ok r then two ++ z else two)
    → OnOk r (new ≡ old ++ (a ++ b ++ z))
put_three (Ok x) old a b z one two new first second put =
    put ∙ ap (λ (l : List ℕ). l ++ z) (second ∙ ap (λ (l : List ℕ). l ++ b) first ∙ append_assoc old a b) ∙ append_assoc old (a ++ b) z
put_three (Err e) old a b z one two new first second put = tt

pub put_five :
    {A E : Type 0} (r : Result A E) (old a b c d z one two three four new : List ℕ) → one ≡ old ++ a → two ≡ one ++ b → three ≡ two ++ c → four ≡ three ++ d
    → new ≡ (if is_ok r then four ++ z else four) → OnOk r (new ≡ old ++ (a ++ b ++ c ++ d ++ z))
put_five (Ok x) old a b c d z one two three four new first second third fourth put =
    let ab : two ≡ old ++ (a ++ b) = second ∙ ap (λ (l : List ℕ). l ++ b) first ∙ append_assoc old a b in
    let abc : three ≡ old ++ (a ++ b ++ c) = third ∙ ap (λ (l : List ℕ). l ++ c) ab ∙ append_assoc old (a ++ b) c in
    let abcd : four ≡ old ++ (a ++ b ++ c ++ d) = fourth ∙ ap (λ (l : List ℕ). l ++ d) abc ∙ append_assoc old (a ++ b ++ c) d in
    put ∙ ap (λ (l : List ℕ). l ++ z) abcd ∙ append_assoc old (a ++ b ++ c ++ d) z
put_five (Err e) old a b c d z one two three four new first second third fourth put = tt
