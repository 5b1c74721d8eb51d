-- Lists to which functions add, one after another.
use Rattle.fb_types.proofs.Common.{◌≡◌, ℕ, ◌+◌, ◌<◌, ◌≤◌, List, [], ◌∷◌, ◌++◌, drop, get_or, length, map, Result, Ok, Err, append_assoc, sym, subst, ◌∙◌, ap, IfOk, append-nil, at_drop_all, at_drop_more, map-append, IfOk-equal}
use Rattle.std.specs.Result.{result_and}

-- what holds of no value
pub in_any_case : {T E P : Type 0} (r : Result T E) → P → IfOk r (λ _. P)
in_any_case (Ok x) p = p
in_any_case (Err e) p = tt

-- what two calls add
pub both_added : {X : Type 0} (a b c p q : List X) → b ≡ a ++ p → c ≡ b ++ q → c ≡ a ++ (p ++ q)
both_added {X} a b c p q first last = last ∙ ap (λ (xs : List X). xs ++ q) first ∙ append_assoc a p q

-- the same, if the last call may fail, and if what is added is known by another name
pub then_added :
    {X T E : Type 0} (r : Result T E) (a b c p q w : List X) → w ≡ p ++ q → b ≡ a ++ p → IfOk r (λ _. c ≡ b ++ q) → IfOk r (λ _. c ≡ a ++ w)
then_added {X} r a b c p q w shown first last =
    IfOk-equal r c (b ++ q) (a ++ w) last (ap (λ (xs : List X). xs ++ q) first ∙ append_assoc a p q ∙ ap (λ (xs : List X). a ++ xs) (sym shown))

-- the same, if both calls are made, and each may fail
pub and_added :
    {X T E : Type 0} (q r s : Result T E) (a b c p t w : List X) → w ≡ p ++ t → q ≡ result_and r s → IfOk r (λ _. b ≡ a ++ p) → IfOk s (λ _. c ≡ b ++ t)
    → IfOk q (λ _. c ≡ a ++ w)
and_added {X} {T} {E} q (Ok x) s a b c p t w shown is first last =
    subst (λ (d : Result T E). IfOk d (λ _. c ≡ a ++ w)) (sym is) (then_added s a b c p t w shown first last)
and_added {X} {T} {E} q (Err e) s a b c p t w shown is first last = subst (λ (d : Result T E). IfOk d (λ _. c ≡ a ++ w)) (sym is) tt

-- what holds if the first call succeeds, or the last one
pub and_first : {T E : Type 0} (P : Type 0) (q r s : Result T E) → q ≡ result_and r s → IfOk r (λ _. P) → IfOk q (λ _. P)
and_first {T} {E} P q (Ok x) s is first = subst (λ (d : Result T E). IfOk d (λ _. P)) (sym is) (in_any_case s first)
and_first {T} {E} P q (Err e) s is first = subst (λ (d : Result T E). IfOk d (λ _. P)) (sym is) tt

pub and_last : {T E : Type 0} (P : Type 0) (q r s : Result T E) → q ≡ result_and r s → IfOk s (λ _. P) → IfOk q (λ _. P)
and_last {T} {E} P q (Ok x) s is last = subst (λ (d : Result T E). IfOk d (λ _. P)) (sym is) last
and_last {T} {E} P q (Err e) s is last = subst (λ (d : Result T E). IfOk d (λ _. P)) (sym is) tt

-- what follows from what both calls do
pub and_both :
    {T E P Q R : Type 0} (q r s : Result T E) → q ≡ result_and r s → (P → Q → R) → IfOk r (λ _. P) → IfOk s (λ _. Q) → IfOk q (λ _. R)
and_both {T} {E} {P} {Q} {R} q (Ok x) (Ok y) is f first last = subst (λ (d : Result T E). IfOk d (λ _. R)) (sym is) (f first last)
and_both {T} {E} {P} {Q} {R} q (Ok x) (Err e) is f first last = subst (λ (d : Result T E). IfOk d (λ _. R)) (sym is) tt
and_both {T} {E} {P} {Q} {R} q (Err e) s is f first last = subst (λ (d : Result T E). IfOk d (λ _. R)) (sym is) tt

-- what holds of the answer that is given in place of a call's own
pub ok_joined : {A B E P : Type 0} (Q : B → Type 0) (q : Result B E) (r : Result A E) (x : B) → q ≡ result_and r (Ok x) → IfOk r (λ _. P) → (P → Q x) → IfOk q Q
ok_joined {A} {B} {E} {P} Q q (Ok a) x is h f = subst (λ (d : Result B E). IfOk d Q) (sym is) (f h)
ok_joined {A} {B} {E} {P} Q q (Err e) x is h f = subst (λ (d : Result B E). IfOk d Q) (sym is) tt

-- what each item means is added with the item
pub meaning_added :
    {A X T E : Type 0} (r : Result T E) (f : A → X) (old new : List A) (x : A) → IfOk r (λ _. new ≡ old ++ (x ∷ [])) → IfOk r (λ _. map f new ≡ map f old ++ (f x ∷ []))
meaning_added (Ok y) f old new x added = ap (map f) added ∙ map-append f old (x ∷ [])
meaning_added (Err e) f old new x added = tt

-- one call alone
pub all_added : {X T E : Type 0} (r : Result T E) (a c q w : List X) → w ≡ q → IfOk r (λ _. c ≡ a ++ q) → IfOk r (λ _. c ≡ a ++ w)
all_added {X} r a c q w shown last = IfOk-equal r c (a ++ q) (a ++ w) last (ap (λ (xs : List X). a ++ xs) (sym shown))

-- one element of a list adds its part of what the whole list is to add
pub one_added :
    {A X : Type 0} (F : List A → List X) (f : A → List X) (xs : List A) (i : ℕ) (x : A) (old new all : List X) → ((y : A) (ys : List A) → F (y ∷ ys) ≡ f y ++ F ys)
    → i < length xs → x ≡ get_or xs i x → new ≡ old ++ f x → old ++ F (drop i xs) ≡ all → new ++ F (drop (i + 1) xs) ≡ all
one_added {A} {X} F f xs i x old new all parts within is added before =
    let rest = drop (i + 1) xs in
    let here : F (drop i xs) ≡ f x ++ F rest = at_drop_more F xs i x within ∙ ap (λ (y : A). F (y ∷ rest)) (sym is) ∙ parts x rest in
    ap (λ (ys : List X). ys ++ F rest) added ∙ append_assoc old (f x) (F rest) ∙ ap (λ (ys : List X). old ++ ys) (sym here) ∙ before

-- no element is left
pub list_added :
    {A X : Type 0} (F : List A → List X) (xs : List A) (i : ℕ) (new all : List X) → F [] ≡ [] → length xs ≤ i → new ++ F (drop i xs) ≡ all → new ≡ all
list_added {A} {X} F xs i new all none past before =
    sym (append-nil new) ∙ ap (λ (ys : List X). new ++ ys) (sym (at_drop_all F xs i past ∙ none)) ∙ before

-- what three calls add
pub three_added : {X : Type 0} (a b c d p q r : List X) → b ≡ a ++ p → c ≡ b ++ q → d ≡ c ++ r → d ≡ a ++ (p ++ (q ++ r))
three_added {X} a b c d p q r first second last =
    last ∙ ap (λ (xs : List X). xs ++ r) second ∙ append_assoc b q r
    ∙ ap (λ (xs : List X). xs ++ (q ++ r)) first ∙ append_assoc a p (q ++ r)

-- what holds of a value that is made
pub if_ok : {T E : Type 0} {P Q : T → Type 0} (r : Result T E) → ((x : T) → P x → Q x) → IfOk r P → IfOk r Q
if_ok (Ok x) f h = f x h
if_ok (Err e) f h = tt

-- what a call gave that succeeded
pub of_ok : {T E : Type 0} (P : Type 0) (r : Result T E) (x : T) → r ≡ Ok x → IfOk r (λ _. P) → P
of_ok {T} {E} P r x is held = subst (λ (d : Result T E). IfOk d (λ _. P)) is held
