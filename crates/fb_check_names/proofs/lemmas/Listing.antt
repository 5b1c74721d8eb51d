-- Lists of locations, built along a list.
use Rattle.fb_types.proofs.Common.{◌≡◌, ℕ, zero, suc, ◌+◌, ◌<◌, ◌≤◌, ◌&&◌, Bool, true, false, List, [], ◌∷◌, ◌++◌, drop, get_or, length, map, Some, Contains, Result, Ok, Err, append_assoc, refl, sym, ◌∙◌, ap, subst, arith, All, IfOk, slice_get, list_all, append-nil, at_drop_all, at_drop_more, All-append, All-cons, All-contains, All-nil, Contains-append_left, Contains-append_right, same_Some}
use Rattle.std.proofs.Common.{Vec}
use Rattle.fb_types.proofs.lemmas.lists.Elements.{Contains-here}
use Rattle.fb_check_names.specs.Listed.{each_at, each_from, unless}

-- ---- Loops

-- one element more of a list to which a function gives what belongs to its elements
pub walk_more :
    {A B : Type 0} (F : ℕ → List A → List B) (f : ℕ → A → List B) (xs : List A) (i : ℕ) (x : A) (old new all : List B)
    → ((k : ℕ) (y : A) (ys : List A) → F k (y ∷ ys) ≡ f k y ++ F (k + 1) ys) → i < length xs → x ≡ get_or xs i x → new ≡ old ++ f i x → old ++ F i (drop i xs) ≡ all
    → new ++ F (i + 1) (drop (i + 1) xs) ≡ all
walk_more {A} {B} F f xs i x old new all parts within is added before =
    let rest : List B = F (i + 1) (drop (i + 1) xs) in
    let here : F i (drop i xs) ≡ f i x ++ rest =
    at_drop_more (F i) xs i x within ∙ parts i (get_or xs i x) (drop (i + 1) xs) ∙ ap (λ (y : A). f i y ++ rest) (sym is) in
    ap (λ (ys : List B). ys ++ rest) added ∙ append_assoc old (f i x) rest ∙ ap (λ (ys : List B). old ++ ys) (sym here) ∙ before

pub walk_done :
    {A B : Type 0} (F : ℕ → List A → List B) (xs : List A) (i : ℕ) (new all : List B) → F i [] ≡ [] → length xs ≤ i → new ++ F i (drop i xs) ≡ all → new ≡ all
walk_done {A} {B} F xs i new all none past before = sym (append-nil new) ∙ ap (λ (ys : List B). new ++ ys) (sym (at_drop_all (F i) xs i past ∙ none)) ∙ before

-- one element more
pub each_more :
    {A B : Type 0} (f : ℕ → A → List B) (xs : List A) (i : ℕ) (x : A) (old new all : List B) → i < length xs → x ≡ get_or xs i x → new ≡ old ++ f i x
    → old ++ each_from f i (drop i xs) ≡ all → new ++ each_from f (i + 1) (drop (i + 1) xs) ≡ all
each_more {A} {B} f xs i x old new all within is added before =
    let rest : List B = each_from f (i + 1) (drop (i + 1) xs) in
    let here : each_from f i (drop i xs) ≡ f i x ++ rest = at_drop_more (each_from f i) xs i x within ∙ ap (λ (y : A). f i y ++ rest) (sym is) in
    ap (λ (ys : List B). ys ++ rest) added ∙ append_assoc old (f i x) rest ∙ ap (λ (ys : List B). old ++ ys) (sym here) ∙ before

-- no element is left
pub each_done :
    {A B : Type 0} (f : ℕ → A → List B) (xs : List A) (i : ℕ) (new all : List B) → length xs ≤ i → new ++ each_from f i (drop i xs) ≡ all → new ≡ all
each_done {A} {B} f xs i new all past before = sym (append-nil new) ∙ ap (λ (ys : List B). new ++ ys) (sym (at_drop_all (each_from f i) xs i past)) ∙ before

-- the same for a list with another name
pub each_done_of :
    {A B : Type 0} (f : ℕ → A → List B) (xs ys : List A) (i : ℕ) (old new : List B) → xs ≡ ys → length xs ≤ i → new ++ each_from f i (drop i xs) ≡ old ++ each_at f xs
    → new ≡ old ++ each_at f ys
each_done_of {A} {B} f xs ys i old new same past before =
    each_done f xs i new (old ++ each_at f xs) past before ∙ ap (λ (zs : List A). old ++ each_at f zs) same

pub each_from-map :
    {A B C : Type 0} (f : ℕ → B → List C) (g : A → B) (xs : List A) (k : ℕ) → each_from f k (map g xs) ≡ each_from (λ j x. f j (g x)) k xs
each_from-map f g [] k = refl
each_from-map {C = C} f g (x ∷ xs) k = ap (λ (ys : List C). f k (g x) ++ ys) (each_from-map f g xs (k + 1))

-- what is added for a test by another name
pub added_unless : {B : Type 0} (old new : List B) (b c : Bool) (p : B) → b ≡ c → new ≡ old ++ unless b p → new ≡ old ++ unless c p
added_unless {B} old new b c p same added = added ∙ ap (λ (d : Bool). old ++ unless d p) same

-- what holds of a list holds of the vector that has its items
pub of_list : {T E A : Type 0} (r : Result (Vec T A) E) (P : List T → Type 0) {xs : List T} → IfOk r (λ v. v.items ≡ xs) → P xs → IfOk r (λ v. P v.items)
of_list (Ok v) P is holds = subst P (sym is) holds
of_list (Err e) P is holds = tt

-- ---- What holds of each location

pub all_unless : {B : Type 0} (P : B → Type 0) (b : Bool) (p : B) → (b ≡ false → P p) → All P (unless b p)
all_unless P true p h = All-nil P
all_unless P false p h = All-cons P p [] (h refl) (All-nil P)

pub all_from :
    {A B : Type 0} (P : B → Type 0) (f : ℕ → A → List B) (xs : List A) (k : ℕ) → ((j : ℕ) (x : A) → slice_get xs j ≡ Some x → All P (f (k + j) x)) → All P (each_from f k xs)
all_from P f [] k h = All-nil P
all_from {A} {B} P f (x ∷ xs) k h =
    let here : All P (f k x) = subst (λ (n : ℕ). All P (f n x)) (omega arith) (h 0 x refl) in
    All-append P (f k x) (each_from f (k + 1) xs) here
    (all_from P f xs (k + 1) (λ j y at. subst (λ (n : ℕ). All P (f n y)) (omega arith) (h (suc j) y at)))

pub all_each :
    {A B : Type 0} (P : B → Type 0) (f : ℕ → A → List B) (xs : List A) → ((j : ℕ) (x : A) → slice_get xs j ≡ Some x → All P (f j x)) → All P (each_at f xs)
all_each P f xs h = all_from P f xs 0 (λ j x at. subst (λ (n : ℕ). All P (f n x)) (omega arith) (h j x at))

-- ---- The same list

alike_from :
    {A B : Type 0} (f g : ℕ → A → List B) (xs : List A) (k : ℕ) → ((j : ℕ) (x : A) → slice_get xs j ≡ Some x → f (k + j) x ≡ g (k + j) x)
    → each_from f k xs ≡ each_from g k xs
alike_from f g [] k same = refl
alike_from {A} f g (x ∷ xs) k same =
    let here : f k x ≡ g k x = subst (λ (n : ℕ). f n x ≡ g n x) (omega arith) (same 0 x refl) in
    let rest = alike_from f g xs (k + 1) (λ j y at. subst (λ (n : ℕ). f n y ≡ g n y) (omega arith) (same (suc j) y at)) in
    λ i. here i ++ rest i

pub alike :
    {A B : Type 0} (f g : ℕ → A → List B) (xs : List A) → ((j : ℕ) (x : A) → slice_get xs j ≡ Some x → f j x ≡ g j x) → each_at f xs ≡ each_at g xs
alike f g xs same = alike_from f g xs 0 (λ j x at. subst (λ (n : ℕ). f n x ≡ g n x) (omega arith) (same j x at))

-- ---- Lists without a location

pub none_unless : {B : Type 0} (b : Bool) (p : B) → unless b p ≡ [] → b ≡ true
none_unless true p h = refl
none_unless false p h = absurd (cc)

pub none_left : {B : Type 0} (xs ys : List B) → xs ++ ys ≡ [] → xs ≡ []
none_left [] ys h = refl
none_left (x ∷ xs) ys h = absurd (cc)

pub none_right : {B : Type 0} (xs ys : List B) → xs ++ ys ≡ [] → ys ≡ []
none_right [] ys h = h
none_right (x ∷ xs) ys h = absurd (cc)

pub none_from :
    {A B : Type 0} (f : ℕ → A → List B) (test : A → Bool) (xs : List A) (k : ℕ) → ((j : ℕ) (x : A) → f j x ≡ [] → test x ≡ true) → each_from f k xs ≡ []
    → list_all test xs ≡ true
none_from f test [] k each h = refl
none_from f test (x ∷ xs) k each h =
    λ i. each k x (none_left (f k x) (each_from f (k + 1) xs) h) i && none_from f test xs (k + 1) each (none_right (f k x) (each_from f (k + 1) xs) h) i

pub none_each :
    {A B : Type 0} (f : ℕ → A → List B) (test : A → Bool) (xs : List A) → ((j : ℕ) (x : A) → f j x ≡ [] → test x ≡ true) → each_at f xs ≡ []
    → list_all test xs ≡ true
none_each f test xs each h = none_from f test xs 0 each h

pub none_each_of : {A B : Type 0} (P : A → Type 0) (f : ℕ → A → List B) (xs : List A) (k : ℕ) → ((j : ℕ) (x : A) → f j x ≡ [] → P x) → each_from f k xs ≡ [] → All P xs
none_each_of P f [] k each h = All-nil P
none_each_of P f (x ∷ xs) k each h =
    All-cons P x xs (each k x (none_left (f k x) (each_from f (k + 1) xs) h)) (none_each_of P f xs (k + 1) each (none_right (f k x) (each_from f (k + 1) xs) h))

-- ---- Locations that are there

pub there_unless : {B : Type 0} (b : Bool) (p : B) → b ≡ false → Contains (unless b p) p
there_unless b p h = subst (λ (b : Bool). Contains (unless b p) p) (sym h) (Contains-here p [])

pub there_from :
    {A B : Type 0} (f : ℕ → A → List B) (xs : List A) (k j : ℕ) (x : A) (p : B) → slice_get xs j ≡ Some x → Contains (f (k + j) x) p → Contains (each_from f k xs) p
there_from f [] k j x p at h = absurd (cc)
there_from {A} {B} f (y ∷ xs) k zero x p at h =
    Contains-append_left (f k y) (each_from f (k + 1) xs) p
    (subst (λ (z : A). Contains (f k z) p) (sym (same_Some y x at)) (subst (λ (n : ℕ). Contains (f n x) p) (omega arith) h))
there_from {A} {B} f (y ∷ xs) k (suc j) x p at h =
    Contains-append_right (f k y) (each_from f (k + 1) xs) p
    (there_from f xs (k + 1) j x p at (subst (λ (n : ℕ). Contains (f n x) p) (omega arith) h))

pub there_each :
    {A B : Type 0} (f : ℕ → A → List B) (xs : List A) (j : ℕ) (x : A) (p : B) → slice_get xs j ≡ Some x → Contains (f j x) p → Contains (each_at f xs) p
there_each f xs j x p at h = there_from f xs 0 j x p at (subst (λ (n : ℕ). Contains (f n x) p) (omega arith) h)

-- ---- What the first location says

-- where there is a location, what each says holds
pub some_says : {B C : Type 0} (P : B → Type 0) (xs : List B) → ((x : B) → P x → C) → All P xs → (xs ≡ [] → ⊥) → C
some_says P [] says each some = absurd (some refl)
some_says P (x ∷ xs) says each some = says x (All-contains P (x ∷ xs) x each (Contains-here x xs))

-- where each would say what does not hold, there is none
pub none_said : {B : Type 0} (P : B → Type 0) (xs : List B) → ((x : B) → P x → ⊥) → All P xs → xs ≡ []
none_said P [] says each = refl
none_said P (x ∷ xs) says each = absurd (says x (All-contains P (x ∷ xs) x each (Contains-here x xs)))
