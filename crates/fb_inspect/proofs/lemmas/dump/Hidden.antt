-- The variables of a type that no line carries, one after the other.
use Rattle.std.proofs.Common.{◌≡◌, ◌<◌, ◌+◌, ◌++◌, ℕ, List, [], ◌∷◌, Bool, true, false, Bor, cond, get_or, length, map, take, refl, sym, ◌∙◌, ap, append-nil, append_assoc}
use Rattle.std.specs.List.{filter}
use Rattle.std.proofs.lemmas.List.{map-append, take_more}
use Rattle.std.proofs.lemmas.List.Elements.{filter_more}
use Rattle.fb_types.specs.Blocks.{variable_names}
use Rattle.fb_types.specs.Names.{Name}
use Rattle.fb_types.specs.declared.library.Variable.{Variable}
use Rattle.fb_coverage.specs.Listed.{listed}

-- one more that is kept
pub kept_more :
    {A : Type 0} (p : A → Bool) (xs : List A) (i : ℕ) (x : A) (old new : List A) → i < length xs → x ≡ get_or xs i x → p x ≡ true → old ≡ filter p (take i xs)
    → new ≡ old ++ x ∷ [] → new ≡ filter p (take (i + 1) xs)
kept_more {A} p xs i x old new within is kept before added =
    let front : List A = filter p (take i xs) in
    added ∙ ap (λ (l : List A). l ++ x ∷ []) before ∙ ap (λ (y : A). front ++ y ∷ []) is
    ∙ ap (λ (b : Bool). front ++ cond b (get_or xs i x ∷ []) []) (sym (ap p (sym is) ∙ kept)) ∙ sym (filter_more p xs i x within)

-- one more that is left out
pub left_more :
    {A : Type 0} (p : A → Bool) (xs : List A) (i : ℕ) (x : A) (old : List A) → i < length xs → x ≡ get_or xs i x → p x ≡ false → old ≡ filter p (take i xs)
    → old ≡ filter p (take (i + 1) xs)
left_more {A} p xs i x old within is left before =
    let front : List A = filter p (take i xs) in
    before ∙ sym (append-nil front) ∙ ap (λ (b : Bool). front ++ cond b (get_or xs i x ∷ []) []) (sym (ap p (sym is) ∙ left)) ∙ sym (filter_more p xs i x within)

-- what elements give by what they are lent
pub listed_lent : {A B : Type 0} (f : ℕ → A → List B) (k : ℕ) (xs : List (Bor A)) → listed (λ (j : ℕ) (x : Bor A). f j x.now) k xs ≡ listed f k (map (λ (x : Bor A). x.now) xs)
listed_lent f k [] = refl
listed_lent {A} {B} f k (x ∷ xs) = ap (λ (l : List B). f k x.now ++ l) (listed_lent f (k + 1) xs)

-- the names of those that are kept, after others
pub names_kept :
    (p : Variable → Bool) (xs : List Variable) (i : ℕ) (x : Variable) (old own new : List Name) (n : Name) → i < length xs → x ≡ get_or xs i x → p x ≡ true → n ≡ x.name
    → own ≡ old ++ variable_names (filter p (take i xs)) → new ≡ own ++ n ∷ [] → new ≡ old ++ variable_names (filter p (take (i + 1) xs))
names_kept p xs i x old own new n within is kept named before added =
    let front : List Variable = filter p (take i xs) in
    added ∙ ap (λ (l : List Name). l ++ n ∷ []) before ∙ ap (λ (m : Name). (old ++ variable_names front) ++ m ∷ []) named
    ∙ append_assoc old (variable_names front) (x.name ∷ []) ∙ ap (λ (l : List Name). old ++ l) (sym (map-append (λ (v : Variable). v.name) front (x ∷ [])))
    ∙ ap (λ (vs : List Variable). old ++ variable_names vs) (kept_more p xs i x front (front ++ x ∷ []) within is kept refl refl)

abbrev lent : {A : Type 0} → List (Bor A) → List A
lent {A} xs = map (λ (x : Bor A). x.now) xs

lent_next : {A : Type 0} (old new : List (Bor A)) (b : Bor A) (x : A) → b.now ≡ x → new ≡ old ++ b ∷ [] → lent new ≡ lent old ++ x ∷ []
lent_next {A} old new b x is added =
    ap (λ (l : List (Bor A)). lent l) added ∙ map-append (λ (y : Bor A). y.now) old (b ∷ []) ∙ ap (λ (y : A). lent old ++ y ∷ []) is

-- one more that is kept is lent
pub lent_kept :
    {A : Type 0} (p : A → Bool) (xs : List A) (i : ℕ) (x : A) (old new : List (Bor A)) (b : Bor A) → i < length xs → x ≡ get_or xs i x → p x ≡ true → b.now ≡ x
    → lent old ≡ filter p (take i xs) → new ≡ old ++ b ∷ [] → lent new ≡ filter p (take (i + 1) xs)
lent_kept p xs i x old new b within is kept here before added =
    kept_more p xs i x (lent old) (lent new) within is kept before (lent_next old new b x here added)

-- one more is lent
pub lent_more :
    {A : Type 0} (front xs : List A) (i : ℕ) (x : A) (old new : List (Bor A)) (b : Bor A) → i < length xs → x ≡ get_or xs i x → b.now ≡ x
    → lent old ≡ front ++ take i xs → new ≡ old ++ b ∷ [] → lent new ≡ front ++ take (i + 1) xs
lent_more {A} front xs i x old new b within is here before added =
    lent_next old new b x here added ∙ ap (λ (l : List A). l ++ x ∷ []) before ∙ append_assoc front (take i xs) (x ∷ [])
    ∙ ap (λ (y : A). front ++ (take i xs ++ y ∷ [])) is ∙ ap (λ (l : List A). front ++ l) (sym (take_more xs i x within))
