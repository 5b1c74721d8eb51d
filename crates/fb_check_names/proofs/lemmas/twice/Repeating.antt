-- Items of a list that are the same as one before.
use Rattle.fb_types.proofs.Common.{◌≡◌, ℕ, zero, suc, ◌+◌, ◌<◌, Bool, not, true, false, cond, List, [], ◌∷◌, ◌++◌, append_assoc, length, map, take, drop, get_or, Option, Some, None, Contains, refl, sym, ◌∙◌, ap, subst, inl, inr, arith, All, slice_get, Decides, lookup, is_eq, true≢false, append-nil, length-map, length-take, length_push, All-nil, All-cons, same_Some, Port, same_port, Twice}
use Rattle.std.proofs.Common.{Ordering}
use Rattle.std.specs.BTreeMap as tree
use Rattle.fb_types.proofs.lemmas.lists.ByIndex.{element_of_index}
use Rattle.fb_types.proofs.lemmas.lists.Elements.{Contains-cons_cases, Contains-nil}
use Rattle.fb_types.proofs.lemmas.lists.LoopSteps.{more_of_part}
use Rattle.fb_types.proofs.lemmas.names.NameLaws.{same_name-itself}
use Rattle.fb_types.proofs.lemmas.names.PathLaws.{same_path_itself, same_port_is}
use Rattle.fb_types.proofs.lemmas.lists.TwiceLaws.{once_push}
use Rattle.fb_check_names.specs.Listed.{each_at, each_from}
use Rattle.fb_check_names.specs.Repeats.{IsPair, further, later, last_index, pair_at, repeats}
use Rattle.fb_check_names.proofs.lemmas.Listing.{all_each, none_left, none_right, walk_more}

-- ---- The last index

counted : {A : Type 0} (x : A) (xs : List A) → length xs + 1 ≡ length (x ∷ xs)
counted x xs = omega arith

pub last_index-push :
    {A : Type 0} (p : A → Bool) (xs : List A) (x : A) → last_index p (xs ++ x ∷ []) ≡ cond (p x) (Some (length xs)) (last_index p xs)
last_index-push p [] x = refl
last_index-push p (y ∷ ys) x =
    let first : Option ℕ = cond (p y) (Some zero) None in
    ap (λ (o : Option ℕ). later (further o) first) (last_index-push p ys x)
    ∙ (elim (p x) as (λ b. later (further (cond b (Some (length ys)) (last_index p ys))) first ≡ cond b (Some (length (y ∷ ys))) (later (further (last_index p ys)) first)) [
      | true ↦ ap (λ (n : ℕ). Some n) (counted y ys)
      | false ↦ refl
    ])

-- where it is, the item passes
pub at_last_index :
    {A : Type 0} (p : A → Bool) (xs : List A) (j : ℕ) → last_index p xs ≡ Some j → (x : A) × (slice_get xs j ≡ Some x) × (p x ≡ true)
at_last_index p [] j h = absurd (cc)
at_last_index {A} p (x ∷ xs) j h =
    elim (last_index p xs) as
    (λ o. last_index p xs ≡ o → later (further o) (cond (p x) (Some 0) None) ≡ Some j → (y : A) × (slice_get (x ∷ xs) j ≡ Some y) × (p y ≡ true)) [
      | Some k ↦ λ e g.
          let rest = at_last_index p xs k e in
          let at : k + 1 ≡ j = same_Some (k + 1) j g in
          let here : suc k ≡ j = omega (arith, at) in
          (rest.0, subst (λ (n : ℕ). slice_get (x ∷ xs) n ≡ Some rest.0) here (next_at x xs k ∙ rest.1), rest.2)
      | None ↦ λ e g. first_at p x xs j g
    ] refl h
  where
    next_at : {A : Type 0} (x : A) (xs : List A) (k : ℕ) → slice_get (x ∷ xs) (suc k) ≡ slice_get xs k
    next_at x xs k = refl

    first_at : {A : Type 0} (p : A → Bool) (x : A) (xs : List A) (j : ℕ) → cond (p x) (Some 0) None ≡ Some j → (y : A) × (slice_get (x ∷ xs) j ≡ Some y) × (p y ≡ true)
    first_at {A} p x xs j g =
        elim (p x) as (λ b. p x ≡ b → cond b (Some 0) None ≡ Some j → (y : A) × (slice_get (x ∷ xs) j ≡ Some y) × (p y ≡ true)) [
          | true ↦ λ e h. (x, subst (λ (n : ℕ). slice_get (x ∷ xs) n ≡ Some x) (same_Some 0 j h) refl, e)
          | false ↦ λ e h. absurd (cc)
        ] refl g

not_first : (b : Bool) → b ≡ true → cond b (Some zero) None ≡ None → ⊥
not_first true passes h = absurd (cc)
not_first false passes h = true≢false (sym passes)

-- if it is nowhere, no item passes
pub nowhere_last : {A : Type 0} (p : A → Bool) (xs : List A) (x : A) → last_index p xs ≡ None → Contains xs x → p x ≡ true → ⊥
nowhere_last p [] x h c e = Contains-nil x c
nowhere_last {A} p (y ∷ ys) x h c e =
    elim (last_index p ys) as (λ o. last_index p ys ≡ o → later (further o) (cond (p y) (Some 0) None) ≡ None → ⊥) [
      | Some k ↦ λ f g. absurd (cc)
      | None ↦ λ f g. elim (Contains-cons_cases y ys x c) [
        | inl same ↦ not_first (p y) (ap p same ∙ e) g
        | inr rest ↦ nowhere_last p ys x f rest e
      ]
    ] refl h

pub no_more : (b s : Bool) → s ≡ not b → b ≡ not s
no_more true s h = sym (ap not h)
no_more false s h = sym (ap not h)

pub map_itself : {A : Type 0} (xs : List A) → map (λ (x : A). x) xs ≡ xs
map_itself [] = refl
map_itself {A} (x ∷ xs) = ap (λ (ys : List A). x ∷ ys) (map_itself xs)

so_many : {A B : Type 0} (f : A → B) (xs : List A) (i : ℕ) → i < length xs → length (map f (take i xs)) ≡ i
so_many f xs i h = length-map (take i xs) f ∙ length-take i xs ∙ (grind arith)

-- ---- A table of what was seen

-- the table has the last index of each key
abbrev pub AreLast : {K Y : Type 0} → (K → K → Ordering) → (K → Y) → (Y → Y → Bool) → List Y → tree.BTreeMap K ℕ → Type 0
AreLast {K} cmp view same ys m = (q : K) → tree.get cmp m q ≡ last_index (same (view q)) ys

-- keys are equal exactly if what they represent is the same
abbrev pub IsSame : {K Y : Type 0} → (K → K → Ordering) → (K → Y) → (Y → Y → Bool) → Type 0
IsSame {K} cmp view same = (k q : K) → is_eq (cmp k q) ≡ same (view q) (view k)

pub last_none : {K Y : Type 0} (cmp : K → K → Ordering) (view : K → Y) (same : Y → Y → Bool) (m : tree.BTreeMap K ℕ) → m.entries ≡ [] → AreLast cmp view same [] m
last_none cmp view same m e q = ap (lookup (λ k. is_eq (cmp q k))) e

last_push :
    {K Y : Type 0} (cmp : K → K → Ordering) (view : K → Y) (same : Y → Y → Bool) (ys : List Y) (m t : tree.BTreeMap K ℕ) (k : K) (n : ℕ) → IsSame cmp view same
    → AreLast cmp view same ys m → length ys ≡ n → ((q : K) → tree.get cmp t q ≡ cond (is_eq (cmp k q)) (Some n) (tree.get cmp m q))
    → AreLast cmp view same (ys ++ view k ∷ []) t
last_push cmp view same ys m t k n agree are counted updates q =
    updates q ∙ (λ i. cond (agree k q i) (Some (sym counted i)) (are q i)) ∙ sym (last_index-push (same (view q)) ys (view k))

-- one item more
pub last_more :
    {A K Y : Type 0} (cmp : K → K → Ordering) (view : K → Y) (same : Y → Y → Bool) (f : A → Y) (xs : List A) (i : ℕ) (x : A) (m t : tree.BTreeMap K ℕ) (k : K)
    → IsSame cmp view same → i < length xs → x ≡ get_or xs i x → view k ≡ f x → AreLast cmp view same (map f (take i xs)) m
    → ((q : K) → tree.get cmp t q ≡ cond (is_eq (cmp k q)) (Some i) (tree.get cmp m q))
    → AreLast cmp view same (map f (take (i + 1) xs)) t
last_more {Y = Y} cmp view same f xs i x m t k agree h e g are updates =
    more_of_part (λ (ys : List Y). AreLast cmp view same ys t) f xs i x (view k) h e g (last_push cmp view same (map f (take i xs)) m t k i agree are (so_many f xs i h) updates)

-- ---- Pairs

-- what belongs to an item of a mapped list
abbrev pub pair_in : {A Y : Type 0} → (Y → Y → Bool) → (A → Y) → List A → ℕ → A → List (ℕ × ℕ)
pair_in same f xs k x = pair_at k (last_index (same (f x)) (map f (take k xs)))

pub take-map : {A Y : Type 0} (f : A → Y) (k : ℕ) (xs : List A) → take k (map f xs) ≡ map f (take k xs)
take-map f zero xs = refl
take-map f (suc k) [] = refl
take-map {Y = Y} f (suc k) (x ∷ xs) = ap (λ (ys : List Y). f x ∷ ys) (take-map f k xs)

pairs_from :
    {A Y : Type 0} (same : Y → Y → Bool) (f : A → Y) (all rest : List A) (k : ℕ)
    → each_from (pair_in same f all) k rest ≡ each_from (λ j y. pair_at j (last_index (same y) (take j (map f all)))) k (map f rest)
pairs_from same f all [] k = refl
pairs_from same f all (x ∷ rest) k =
    λ i. pair_at k (last_index (same (f x)) (sym (take-map f k all) i)) ++ pairs_from same f all rest (k + 1) i

pub pairs_are : {A Y : Type 0} (same : Y → Y → Bool) (f : A → Y) (xs : List A) → each_at (pair_in same f xs) xs ≡ repeats same (map f xs)
pairs_are same f xs = pairs_from same f xs xs 0

last_same :
    {A Y Z : Type 0} (f : A → Y) (g : A → Z) (same : Y → Y → Bool) (other : Z → Z → Bool) → ((x y : A) → same (f x) (f y) ≡ other (g x) (g y)) → (x : A) (xs : List A)
    → last_index (same (f x)) (map f xs) ≡ last_index (other (g x)) (map g xs)
last_same f g same other agree x [] = refl
last_same f g same other agree x (y ∷ ys) = λ i. later (further (last_same f g same other agree x ys i)) (cond (agree x y i) (Some zero) None)

-- two ways to see items that agree on which are the same
pub pairs_same :
    {A Y Z : Type 0} (f : A → Y) (g : A → Z) (same : Y → Y → Bool) (other : Z → Z → Bool) → ((x y : A) → same (f x) (f y) ≡ other (g x) (g y)) → (xs : List A)
    → each_at (pair_in same f xs) xs ≡ each_at (pair_in other g xs) xs
pairs_same {A} f g same other agree xs = λ i. each_at (λ (k : ℕ) (x : A). pair_at k (last_same f g same other agree x (take k xs) i)) xs

-- the index that a table has for an item
pub index_in_table :
    {A K Y : Type 0} (cmp : K → K → Ordering) (view : K → Y) (same : Y → Y → Bool) (f : A → Y) (xs : List A) (i : ℕ) (x : A) (m : tree.BTreeMap K ℕ) (k : K) (o : Option ℕ)
    → view k ≡ f x → AreLast cmp view same (map f (take i xs)) m → o ≡ tree.get cmp m k → pair_at i o ≡ pair_in same f xs i x
index_in_table {Y = Y} cmp view same f xs i x m k o g are old =
    ap (pair_at i) (old ∙ are k ∙ ap (λ (y : Y). last_index (same y) (map f (take i xs))) g)

-- ---- Copies

pub same_within : {A : Type 0} (xs : List A) (i : ℕ) (d e : A) → i < length xs → get_or xs i d ≡ get_or xs i e
same_within [] i d e h = absurd (omega (arith, h))
same_within (x ∷ xs) zero d e h = refl
same_within (x ∷ xs) (suc i) d e h = same_within xs i d e (omega (arith, h))

-- one pair more of which a location is made
pub copied_more :
    {A B : Type 0} (at : A → B) (xs : List A) (i : ℕ) (z : A) (old new all : List B) → i < length xs → new ≡ old ++ at (get_or xs i z) ∷ []
    → old ++ map at (drop i xs) ≡ all → new ++ map at (drop (i + 1) xs) ≡ all
copied_more {A} at xs i z old new all within added before =
    walk_more (λ (k : ℕ) (rs : List A). map at rs) (λ (k : ℕ) (r : A). at r ∷ []) xs i (get_or xs i z) old new all (λ k y ys. refl) within
    (same_within xs i z (get_or xs i z) within) added before

-- ---- What is the same

pub same_Decides : (b c : Bool) (P : Type 0) → Decides b P → Decides c P → b ≡ c
same_Decides true true P d e = refl
same_Decides true false P d e = absurd (true≢false (sym (e.1 (d.0 refl))))
same_Decides false true P d e = absurd (true≢false (sym (d.1 (e.0 refl))))
same_Decides false false P d e = refl

pub agrees :
    {K Y : Type 0} (cmp : K → K → Ordering) (view : K → Y) (same : Y → Y → Bool) → ((k q : K) → Decides (is_eq (cmp k q)) (view k ≡ view q)) → ((x y : Y) → Decides (same x y) (x ≡ y)) → IsSame cmp view same
agrees cmp view same exact decides k q =
    same_Decides (is_eq (cmp k q)) (same (view q) (view k)) (view k ≡ view q) (exact k q) (λ h. sym ((decides (view q) (view k)).0 h), λ e. (decides (view q) (view k)).1 (sym e))

pub port_Decides : (p q : Port) → Decides (same_port p q) (p ≡ q)
port_Decides p q = (
  same_port_is p q,
  λ e. subst (λ (r : Port). same_port p r ≡ true) e (rw (same_path_itself p.at, same_name-itself p.name) refl),
)

-- ---- Each is a pair, and if there is none nothing is there twice

all_of_pair : (P : ℕ × ℕ → Type 0) (k : ℕ) (o : Option ℕ) → ((j : ℕ) → o ≡ Some j → P (j, k)) → All P (pair_at k o)
all_of_pair P k None h = All-nil P
all_of_pair P k (Some j) h = All-cons P (j, k) [] (h j refl) (All-nil P)

before : {A : Type 0} (xs : List A) (k j : ℕ) (y : A) → slice_get (take k xs) j ≡ Some y → (j < k) × (slice_get xs j ≡ Some y)
before [] zero j y h = absurd (cc)
before [] (suc k) j y h = absurd (cc)
before (x ∷ xs) zero j y h = absurd (cc)
before (x ∷ xs) (suc k) zero y h = (omega arith, h)
before (x ∷ xs) (suc k) (suc j) y h = let rest = before xs k j y h in (omega (arith, rest.0), rest.1)

pub each_pair : {A : Type 0} (same : A → A → Bool) → ((x y : A) → Decides (same x y) (x ≡ y)) → (xs : List A) → All (IsPair xs) (repeats same xs)
each_pair {A} same decides xs =
    all_each (IsPair xs) (λ k x. pair_at k (last_index (same x) (take k xs))) xs
    (λ k x found. all_of_pair (IsPair xs) k (last_index (same x) (take k xs))
    (λ j e.
    let y = at_last_index (same x) (take k xs) j e in
    let there = before xs k j y.0 y.1 in
    record {
      in_order = there.0;
      what = x;
      first = there.1 ∙ ap (λ (z : A). Some z) (sym ((decides x y.0).0 y.2));
      again = found;
    }))

none_at : (k : ℕ) (o : Option ℕ) → pair_at k o ≡ [] → o ≡ None
none_at k None h = refl
none_at k (Some j) h = absurd (cc)

take_front : {A : Type 0} (xs ys : List A) → take (length xs) (xs ++ ys) ≡ xs
take_front [] ys = refl
take_front {A} (x ∷ xs) ys = ap (λ (zs : List A). x ∷ zs) (take_front xs ys)

counted_push : {A : Type 0} (xs : List A) (x : A) → length xs + 1 ≡ length (xs ++ x ∷ [])
counted_push xs x = omega (arith, length_push xs x)

once_from :
    {A : Type 0} (same : A → A → Bool) → ((x y : A) → Decides (same x y) (x ≡ y)) → (all front rest : List A) → all ≡ front ++ rest
    → each_from (λ k x. pair_at k (last_index (same x) (take k all))) (length front) rest ≡ [] → ¬ (Twice front) → ¬ (Twice all)
once_from {A} same decides all front [] whole none once = subst (λ (zs : List A). ¬ (Twice zs)) (sym (whole ∙ append-nil front)) once
once_from {A} same decides all front (x ∷ rest) whole none once =
    let f : ℕ → A → List (ℕ × ℕ) = λ k x. pair_at k (last_index (same x) (take k all)) in
    let k = length front in
    let here : last_index (same x) (take k all) ≡ None = none_at k (last_index (same x) (take k all)) (none_left (f k x) (each_from f (k + 1) rest) none) in
    let apart : last_index (same x) front ≡ None =
    ap (last_index (same x)) (sym (ap (take k) whole ∙ take_front front (x ∷ rest))) ∙ here in
    once_from same decides all (front ++ x ∷ []) rest (whole ∙ sym (append_assoc front (x ∷ []) rest))
    (ap (λ (n : ℕ). each_from f n rest) (sym (counted_push front x)) ∙ none_right (f k x) (each_from f (k + 1) rest) none)
    (once_push front x once (λ c. nowhere_last (same x) front x apart c ((decides x x).1 refl)))

pub once_of : {A : Type 0} (same : A → A → Bool) → ((x y : A) → Decides (same x y) (x ≡ y)) → (xs : List A) → repeats same xs ≡ [] → ¬ (Twice xs)
once_of same decides xs none = once_from same decides xs [] xs refl none (λ t. t)

pub none_mapped : {A B : Type 0} (f : A → B) (xs : List A) → map f xs ≡ [] → xs ≡ []
none_mapped f [] h = refl
none_mapped f (x ∷ xs) h = absurd (cc)

-- ---- What is at two indexes

at_both : {A : Type 0} (xs : List A) (i j : ℕ) (x : A) → i < j → slice_get xs i ≡ Some x → slice_get xs j ≡ Some x → Twice xs
at_both [] i j x less h g = absurd (cc)
at_both (y ∷ ys) zero zero x less h g = absurd (omega arith)
at_both {A} (y ∷ ys) zero (suc j) x less h g = let e : y ≡ x = cc in inl (subst (λ (z : A). Contains ys z) (sym e) (element_of_index ys j x g))
at_both (y ∷ ys) (suc i) zero x less h g = absurd (omega arith)
at_both (y ∷ ys) (suc i) (suc j) x less h g = inr (at_both ys i j x (omega arith) h g)

pub pair_twice : {A : Type 0} (xs : List A) (r : ℕ × ℕ) → IsPair xs r → Twice xs
pair_twice xs r p = at_both xs r.0 r.1 p.what p.in_order p.first p.again
