-- Rules that pair lines: which line answers which, with one more line.
use Rattle.fb_expect.proofs.lemmas.Common.{◌≡◌, ℕ, zero, suc, ◌+◌, ◌<◌, ◌≤◌, Bool, true, false, cond, List, [], ◌∷◌, ◌++◌, length, get_or, Some, None, refl, sym, ap, ap₂, subst, ◌∙◌, arith, inl, inr, Option, is_some, option_map, not, ◌&&◌, ◌||◌, if◌then◌else◌, list_any, cases_lt, eq-eqb, lt-ltb, true≢false, append-nil, get_or_past, length_push, Name, Text, Waiting, Pairing}
use Rattle.fb_types.proofs.Common.{nat_lt, position, unwrap_or, le-ltb, ne_eqb, get_or_append_left, list_any-append}
use Rattle.std.proofs.Common.{filter}
use Rattle.std.specs.Prelude.{remove}
use Rattle.std.proofs.Math.Seq.{get_or-append_seam}
use Rattle.std.proofs.lemmas.List.Elements.{filter-append}
use Rattle.fb_types.proofs.lemmas.lists.Positions.{position-cons}
use Rattle.fb_expect.specs.Paired.{PairHit, answer_after, answered_by, answers, answers_by, first_below, has_values, hit_at, if_second, is_index, no_hit, one_if, or_last, picks, some_below, suits, turns, waiting_at, waiting_of, waits, waits_after, without}
use Rattle.fb_expect.specs.Pairing.{are_same}

never : {P : Type 0} (b : Bool) → b ≡ true → b ≡ false → P
never b sure off = absurd (true≢false (sym sure ∙ off))

-- ---- Tests of the numbers below another

pub below-same : (f g : ℕ → Bool) (n : ℕ) → ((i : ℕ) → i < n → f i ≡ g i) → some_below f n ≡ some_below g n
below-same f g zero same = refl
below-same f g (suc n) same = ap₂ (λ (x y : Bool). x || y) (below-same f g n (λ i lt. same i (omega arith))) (same n (omega arith))

pub first-same : (f g : ℕ → Bool) (n : ℕ) → ((i : ℕ) → i < n → f i ≡ g i) → first_below f n ≡ first_below g n
first-same f g zero same = refl
first-same f g (suc n) same = ap₂ (λ (o : Option ℕ) (b : Bool). or_last o b n) (first-same f g n (λ i lt. same i (omega arith))) (same n (omega arith))

pub below-off : (f : ℕ → Bool) (n : ℕ) → ((i : ℕ) → i < n → f i ≡ false) → some_below f n ≡ false
below-off f zero off = refl
below-off f (suc n) off = ap₂ (λ (x y : Bool). x || y) (below-off f n (λ i lt. off i (omega arith))) (off n (omega arith))

both-off : (x y : Bool) → (x || y) ≡ false → (x ≡ false) × (y ≡ false)
both-off true y is = never true refl is
both-off false y is = (refl, is)

pub below-none : (f : ℕ → Bool) (n i : ℕ) → some_below f n ≡ false → i < n → f i ≡ false
below-none f zero i off lt = absurd (omega arith)
below-none f (suc n) i off lt =
    elim (cases_lt i n) as (λ _. f i ≡ false) [
      | inl less ↦ below-none f n i (both-off (some_below f n) (f n) off).0 less
      | inr more ↦ (let same : n ≡ i = omega arith in subst (λ (k : ℕ). f k ≡ false) same (both-off (some_below f n) (f n) off).1)
    ]

some-same : (k i : ℕ) → Some k ≡ Some i → k ≡ i
some-same k i is = ap (λ (o : Option ℕ). unwrap_or o 0) is

none-some : {P : Type 0} (i : ℕ) → None ≡ Some i → P
none-some i is = absurd (true≢false (sym (ap (λ (o : Option ℕ). is_some o) is)))

pub first-found : (f : ℕ → Bool) (n i : ℕ) → first_below f n ≡ Some i → (i < n) × (f i ≡ true)
first-found f zero i is = none-some i is
first-found f (suc n) i is = by (first_below f n) (f n) refl refl (λ k was. first-found f n k was) is
  where
    by :
        (o : Option ℕ) (b : Bool) → first_below f n ≡ o → f n ≡ b → ((k : ℕ) → first_below f n ≡ Some k → (k < n) × (f k ≡ true)) → or_last o b n ≡ Some i
        → (i < suc n) × (f i ≡ true)
    by (Some k) b was at more same =
        let r = more k was in
        let e = some-same k i same in
        (let lt = r.0 in omega (arith, lt, e), subst (λ (m : ℕ). f m ≡ true) e r.1)
    by None true was at more same = let e = some-same n i same in (omega (arith, e), subst (λ (m : ℕ). f m ≡ true) e at)
    by None false was at more same = none-some i same

-- ---- What is made of those that pass a test

pub picks-same :
    (f g : ℕ → Bool) (a b : ℕ → Waiting) (n : ℕ) → ((i : ℕ) → i < n → f i ≡ g i) → ((i : ℕ) → i < n → a i ≡ b i) → picks f a n ≡ picks g b n
picks-same f g a b zero test make = refl
picks-same f g a b (suc n) test make =
    ap₂ (λ (xs ys : List Waiting). xs ++ ys) (picks-same f g a b n (λ i lt. test i (omega arith)) (λ i lt. make i (omega arith)))
    (ap₂ one_if (test n (omega arith)) (make n (omega arith)))

-- without those that pass another one
filter-one : (has : Waiting → Bool) (x : Waiting) (w m : Bool) → m ≡ has x → one_if (w && not m) x ≡ filter (λ y. not (has y)) (one_if w x)
filter-one has x false m is = refl
filter-one has x true m is = ap (λ (b : Bool). one_if (not b) x) is ∙ as_cond (not (has x))
  where
    as_cond : (b : Bool) → one_if b x ≡ cond b (x ∷ []) []
    as_cond true = refl
    as_cond false = refl

pub picks-filter :
    (w m : ℕ → Bool) (make : ℕ → Waiting) (has : Waiting → Bool) (n : ℕ) → ((i : ℕ) → i < n → m i ≡ has (make i))
    → picks (λ i. w i && not (m i)) make n ≡ filter (λ y. not (has y)) (picks w make n)
picks-filter w m make has zero is = refl
picks-filter w m make has (suc n) is =
    ap₂ (λ (xs ys : List Waiting). xs ++ ys) (picks-filter w m make has n (λ i lt. is i (omega arith))) (filter-one has (make n) (w n) (m n) (is n (omega arith)))
    ∙ sym (filter-append (λ y. not (has y)) (picks w make n) (one_if (w n) (make n)))

-- without the first that passes another one
abbrev pub drop_first : (Waiting → Bool) → List Waiting → List Waiting
drop_first has [] = []
drop_first has (x ∷ xs) = if has x then xs else x ∷ drop_first has xs

pub drop-is : (has : Waiting → Bool) (xs : List Waiting) → without (position has xs) xs ≡ drop_first has xs
drop-is has [] = refl
drop-is has (x ∷ xs) = ap (λ (o : Option ℕ). without o (x ∷ xs)) (position-cons has x xs) ∙ by (has x) (position has xs) (drop-is has xs)
  where
    next : (k : ℕ) → remove (x ∷ xs) (k + 1) ≡ x ∷ remove xs k
    next k = ap (remove (x ∷ xs)) (let e : k + 1 ≡ suc k = omega arith in e)

    by : (b : Bool) (o : Option ℕ) → without o xs ≡ drop_first has xs → without (cond b (Some 0) (option_map (λ i. i + 1) o)) (x ∷ xs) ≡ (if b then xs else x ∷ drop_first has xs)
    by true o is = refl
    by false (Some k) is = next k ∙ ap (λ (ys : List Waiting). x ∷ ys) is
    by false None is = ap (λ (ys : List Waiting). x ∷ ys) is

drop-left : (has : Waiting → Bool) (xs ys : List Waiting) → list_any has xs ≡ true → drop_first has (xs ++ ys) ≡ drop_first has xs ++ ys
drop-left has [] ys is = never false is refl
drop-left has (x ∷ xs) ys is = by (has x) (λ more. drop-left has xs ys more) is
  where
    by : (b : Bool) → (list_any has xs ≡ true → drop_first has (xs ++ ys) ≡ drop_first has xs ++ ys) → (b || list_any has xs) ≡ true
        → (if b then xs ++ ys else x ∷ drop_first has (xs ++ ys)) ≡ (if b then xs else x ∷ drop_first has xs) ++ ys
    by true more any = refl
    by false more any = ap (λ (zs : List Waiting). x ∷ zs) (more any)

drop-right : (has : Waiting → Bool) (xs ys : List Waiting) → list_any has xs ≡ false → drop_first has (xs ++ ys) ≡ xs ++ drop_first has ys
drop-right has [] ys is = refl
drop-right has (x ∷ xs) ys is = by (has x) (λ more. drop-right has xs ys more) is
  where
    by : (b : Bool) → (list_any has xs ≡ false → drop_first has (xs ++ ys) ≡ xs ++ drop_first has ys) → (b || list_any has xs) ≡ false
        → (if b then xs ++ ys else x ∷ drop_first has (xs ++ ys)) ≡ x ∷ (xs ++ drop_first has ys)
    by true more any = never true refl any
    by false more any = ap (λ (zs : List Waiting). x ∷ zs) (more any)

pub drop-none : (has : Waiting → Bool) (xs : List Waiting) → list_any has xs ≡ false → drop_first has xs ≡ xs
drop-none has xs is = ap (drop_first has) (sym (append-nil xs)) ∙ drop-right has xs [] is ∙ append-nil xs

one-any : (has : Waiting → Bool) (x : Waiting) (w m : Bool) → m ≡ has x → list_any has (one_if w x) ≡ (w && m)
one-any has x false m is = refl
one-any has x true m is = or-no (has x) ∙ sym is
  where
    or-no : (b : Bool) → (b || false) ≡ b
    or-no true = refl
    or-no false = refl

some-last : (o : Option ℕ) (b : Bool) (n : ℕ) → is_some (or_last o b n) ≡ (is_some o || b)
some-last (Some k) b n = refl
some-last None true n = refl
some-last None false n = refl

-- whether one is there
picks-any :
    (w m : ℕ → Bool) (make : ℕ → Waiting) (has : Waiting → Bool) (n : ℕ) → ((i : ℕ) → i < n → m i ≡ has (make i))
    → list_any has (picks w make n) ≡ is_some (first_below (λ i. w i && m i) n)
picks-any w m make has zero is = refl
picks-any w m make has (suc n) is =
    list_any-append has (picks w make n) (one_if (w n) (make n))
    ∙ ap₂ (λ (x y : Bool). x || y) (picks-any w m make has n (λ i lt. is i (omega arith))) (one-any has (make n) (w n) (m n) (is n (omega arith)))
    ∙ sym (some-last (first_below (λ i. w i && m i) n) (w n && m n) n)

-- the number is not that of the first, unless it is
index-last : (o : Option ℕ) (b : Bool) (n i : ℕ) → i < n → is_index i (or_last o b n) ≡ is_index i o
index-last (Some k) b n i lt = refl
index-last None true n i lt = ne_eqb n i (λ e. absurd (omega (arith, e, lt)))
index-last None false n i lt = refl

last-found : (has : Waiting → Bool) (x : Waiting) (w m : Bool) (n : ℕ) → m ≡ has x → one_if (w && not (is_index n (or_last None (w && m) n))) x ≡ drop_first has (one_if w x)
last-found has x false m n is = refl
last-found has x true true n is =
    ap (λ (b : Bool). one_if (not b) x) (eq-eqb n n refl) ∙ ap (λ (b : Bool). if b then [] else x ∷ []) is
last-found has x true false n is = ap (λ (b : Bool). if b then [] else x ∷ []) is

and-found : (b : Bool) → (b && true) ≡ b
and-found true = refl
and-found false = refl

first-step :
    (w m : ℕ → Bool) (make : ℕ → Waiting) (has : Waiting → Bool) (n : ℕ) (o : Option ℕ) → first_below (λ k. w k && m k) n ≡ o → m n ≡ has (make n)
    → list_any has (picks w make n) ≡ is_some (first_below (λ k. w k && m k) n)
    → picks (λ i. w i && not (is_index i (first_below (λ k. w k && m k) n))) make n ≡ drop_first has (picks w make n)
    → picks (λ i. w i && not (is_index i (first_below (λ k. w k && m k) (suc n)))) make (suc n) ≡ drop_first has (picks w make (suc n))
first-step w m make has n (Some k) was is any before =
    let low : k < n = (first-found (λ j. w j && m j) n k was).0 in
    let off : is_index n (or_last (first_below (λ j. w j && m j) n) (w n && m n) n) ≡ false =
    ap (λ (o : Option ℕ). is_index n (or_last o (w n && m n) n)) was ∙ ne_eqb k n (λ e. absurd (omega (arith, e, low)))
    in
    ap₂ (λ (xs ys : List Waiting). xs ++ ys)
    (picks-same (λ i. w i && not (is_index i (or_last (first_below (λ j. w j && m j) n) (w n && m n) n))) (λ i. w i && not (is_index i (first_below (λ j. w j && m j) n))) make make n
    (λ i lt. ap (λ (b : Bool). w i && not b) (index-last (first_below (λ j. w j && m j) n) (w n && m n) n i lt)) (λ i lt. refl) ∙ before)
    (ap (λ (b : Bool). one_if (w n && not b) (make n)) off ∙ ap (λ (b : Bool). one_if b (make n)) (and-found (w n)))
    ∙ sym (drop-left has (picks w make n) (one_if (w n) (make n)) (any ∙ ap (λ (o : Option ℕ). is_some o) was))
first-step w m make has n None was is any before =
    let none : list_any has (picks w make n) ≡ false = any ∙ ap (λ (o : Option ℕ). is_some o) was in
    ap₂ (λ (xs ys : List Waiting). xs ++ ys)
    (picks-same (λ i. w i && not (is_index i (or_last (first_below (λ j. w j && m j) n) (w n && m n) n))) (λ i. w i && not (is_index i (first_below (λ j. w j && m j) n))) make make n
    (λ i lt. ap (λ (b : Bool). w i && not b) (index-last (first_below (λ j. w j && m j) n) (w n && m n) n i lt)) (λ i lt. refl) ∙ before
    ∙ drop-none has (picks w make n) none)
    (ap (λ (o : Option ℕ). one_if (w n && not (is_index n (or_last o (w n && m n) n))) (make n)) was ∙ last-found has (make n) (w n) (m n) n is)
    ∙ sym (drop-right has (picks w make n) (one_if (w n) (make n)) none)

pub picks-first :
    (w m : ℕ → Bool) (make : ℕ → Waiting) (has : Waiting → Bool) (n : ℕ) → ((i : ℕ) → i < n → m i ≡ has (make i))
    → picks (λ i. w i && not (is_index i (first_below (λ k. w k && m k) n))) make n ≡ drop_first has (picks w make n)
picks-first w m make has zero is = refl
picks-first w m make has (suc n) is =
    first-step w m make has n (first_below (λ k. w k && m k) n) refl (is n (omega arith)) (picks-any w m make has n (λ i lt. is i (omega arith)))
    (picks-first w m make has n (λ i lt. is i (omega arith)))

-- what is made of the first that passes, and of none
cons-none : {P : Type 0} (x : Waiting) (xs : List Waiting) → x ∷ xs ≡ [] → P
cons-none x xs is = let e = ap length is in absurd (omega (arith, e))

none-cons : {P : Type 0} (x : Waiting) (xs : List Waiting) → [] ≡ x ∷ xs → P
none-cons x xs is = let e = ap length is in absurd (omega (arith, e))

abbrev head : Waiting → List Waiting → Waiting
head d [] = d
head d (x ∷ xs) = x

pub picks-none : (w : ℕ → Bool) (make : ℕ → Waiting) (n : ℕ) → picks w make n ≡ [] → (k : ℕ) → k < n → w k ≡ false
picks-none w make zero is k lt = absurd (omega arith)
picks-none w make (suc n) is k lt = by (picks w make n) (w n) refl refl is (λ was less. picks-none w make n was k less)
  where
    by : (xs : List Waiting) (b : Bool) → picks w make n ≡ xs → w n ≡ b → xs ++ one_if b (make n) ≡ [] → (picks w make n ≡ [] → k < n → w k ≡ false) → w k ≡ false
    by (y ∷ ys) b was at none more = cons-none y (ys ++ one_if b (make n)) none
    by [] true was at none more = cons-none (make n) [] none
    by [] false was at none more =
        elim (cases_lt k n) as (λ _. w k ≡ false) [
          | inl less ↦ more was less
          | inr after ↦ (let same : n ≡ k = omega (arith, after, lt) in subst (λ (j : ℕ). w j ≡ false) same at)
        ]

pub record IsPicked (w : ℕ → Bool) (make : ℕ → Waiting) (n : ℕ) (x : Waiting) : Type 0 where
  pub index : ℕ
  pub inside : index < n
  pub passes : w index ≡ true
  pub made : x ≡ make index
  pub before : (k : ℕ) → k < index → w k ≡ false

pub picks-head : (w : ℕ → Bool) (make : ℕ → Waiting) (n : ℕ) (x : Waiting) (xs : List Waiting) → picks w make n ≡ x ∷ xs → IsPicked w make n x
picks-head w make zero x xs is = none-cons x xs is
picks-head w make (suc n) x xs is = by (picks w make n) (w n) refl refl is (λ y ys was. picks-head w make n y ys was)
  where
    by :
        (ys : List Waiting) (b : Bool) → picks w make n ≡ ys → w n ≡ b → ys ++ one_if b (make n) ≡ x ∷ xs
        → ((z : Waiting) (zs : List Waiting) → picks w make n ≡ z ∷ zs → IsPicked w make n z) → IsPicked w make (suc n) x
    by (y ∷ ys) b was at some more =
        let r = more y ys was in
        let lt = r.inside in
        record {
          index = r.index;
          inside = omega (arith, lt);
          passes = r.passes;
          made = sym (ap (head y) some) ∙ r.made;
          before = r.before;
        }
    by [] true was at some more =
        record {
          index = n;
          inside = omega arith;
          passes = at;
          made = sym (ap (head x) some);
          before = picks-none w make n was;
        }
    by [] false was at some more = none-cons x xs some

-- ---- Lines, with one more

old-at : (hs : List PairHit) (h : PairHit) (i : ℕ) → i < length hs → hit_at (hs ++ h ∷ []) i ≡ hit_at hs i
old-at hs h i lt = get_or_append_left hs (h ∷ []) no_hit i lt

new-at : (hs : List PairHit) (h : PairHit) → hit_at (hs ++ h ∷ []) (length hs) ≡ h
new-at hs h = get_or-append_seam hs h [] no_hit

one-longer : (hs : List PairHit) (h : PairHit) → length (hs ++ h ∷ []) ≡ suc (length hs)
one-longer hs h = let e = length_push hs h in omega (arith, e)

-- what a turn asks of a P
abbrev asks : List Name → List PairHit → List (Option ℕ) → (j i : ℕ) → Bool
asks same hs before j i = suits same (hit_at hs i) (hit_at hs j) && not (some_below (λ k. is_index i (get_or before k None)) j)

answer-more :
    (same : List Name) (hs : List PairHit) (h : PairHit) (before : List (Option ℕ)) (j : ℕ) → j < length hs
    → answer_after same (hs ++ h ∷ []) before j ≡ answer_after same hs before j
answer-more same hs h before j lt =
    first-same (asks same (hs ++ h ∷ []) before j) (asks same hs before j) j
    (λ i less. ap₂ (λ (p q : PairHit). suits same p q && not (some_below (λ k. is_index i (get_or before k None)) j)) (old-at hs h i (omega (arith, less, lt))) (old-at hs h j lt))

turns-more : (same : List Name) (hs : List PairHit) (h : PairHit) (k : ℕ) → k ≤ length hs → turns same (hs ++ h ∷ []) k ≡ turns same hs k
turns-more same hs h zero le = refl
turns-more same hs h (suc j) le =
    let before = turns-more same hs h j (omega (arith, le)) in
    ap₂ (λ (b : List (Option ℕ)) (o : Option ℕ). b ++ o ∷ []) before
    (ap (λ (b : List (Option ℕ)). answer_after same (hs ++ h ∷ []) b j) before ∙ answer-more same hs h (turns same hs j) j (omega (arith, le)))

turns-long : (same : List Name) (hs : List PairHit) (k : ℕ) → length (turns same hs k) ≡ k
turns-long same hs zero = refl
turns-long same hs (suc j) =
    let e = length_push (turns same hs j) (answer_after same hs (turns same hs j) j) in
    let f = turns-long same hs j in
    omega (arith, e, f)

turn-old :
    (same : List Name) (hs : List PairHit) (h : PairHit) (j : ℕ) → j < length hs
    → get_or (turns same (hs ++ h ∷ []) (length (hs ++ h ∷ []))) j None ≡ get_or (turns same hs (length hs)) j None
turn-old same hs h j lt =
    ap (λ (n : ℕ). get_or (turns same (hs ++ h ∷ []) n) j None) (one-longer hs h)
    ∙ get_or_append_left (turns same (hs ++ h ∷ []) (length hs)) (answer_after same (hs ++ h ∷ []) (turns same (hs ++ h ∷ []) (length hs)) (length hs) ∷ []) None j
    (let e = turns-long same (hs ++ h ∷ []) (length hs) in omega (arith, e, lt))
    ∙ ap (λ (ts : List (Option ℕ)). get_or ts j None) (turns-more same hs h (length hs) (omega arith))

turn-new :
    (same : List Name) (hs : List PairHit) (h : PairHit)
    → get_or (turns same (hs ++ h ∷ []) (length (hs ++ h ∷ []))) (length hs) None ≡ answer_after same (hs ++ h ∷ []) (turns same hs (length hs)) (length hs)
turn-new same hs h =
    ap (λ (n : ℕ). get_or (turns same (hs ++ h ∷ []) n) (length hs) None) (one-longer hs h)
    ∙ ap (λ (n : ℕ). get_or (turns same (hs ++ h ∷ []) (suc (length hs))) n None) (sym (turns-long same (hs ++ h ∷ []) (length hs)))
    ∙ get_or-append_seam (turns same (hs ++ h ∷ []) (length hs)) (answer_after same (hs ++ h ∷ []) (turns same (hs ++ h ∷ []) (length hs)) (length hs)) [] None
    ∙ ap (λ (b : List (Option ℕ)). answer_after same (hs ++ h ∷ []) b (length hs)) (turns-more same hs h (length hs) (omega arith))

-- a turn is that of an earlier line
turn-low : (same : List Name) (hs : List PairHit) (k j i : ℕ) → get_or (turns same hs k) j None ≡ Some i → i < j
turn-low same hs zero j i is = none-some i (sym (get_or_past [] j None (omega arith)) ∙ is)
turn-low same hs (suc k) j i is =
    let before = turns same hs k in
    let last = answer_after same hs (turns same hs k) k in
    let long = turns-long same hs k in
    elim (cases_lt j k) as (λ _. i < j) [
      | inl lt ↦ turn-low same hs k j i (sym (get_or_append_left before (last ∷ []) None j (omega (arith, long, lt))) ∙ is)
      | inr le ↦
          elim (cases_lt k j) as (λ _. i < j) [
            | inl more ↦
                (let push = length_push before last in
                none-some i (sym (get_or_past (before ++ last ∷ []) j None (omega (arith, long, push, more))) ∙ is))
            | inr less ↦
                (let same-index : length before ≡ j = omega (arith, long, le, less) in
                let at : last ≡ Some i = sym (get_or-append_seam before last [] None) ∙ ap (λ (n : ℕ). get_or (before ++ last ∷ []) n None) same-index ∙ is in
                let low = (first-found (asks same hs before k) k i at).0 in
                omega (arith, low, le))
          ]
    ]

and-parts : (a b : Bool) → (a && b) ≡ true → (a ≡ true) × (b ≡ true)
and-parts true b is = (refl, is)
and-parts false b is = never false is refl

and-no : (a b : Bool) → (a && (b && false)) ≡ false
and-no true true = refl
and-no true false = refl
and-no false b = refl

-- only a line answers
answers-inside-by : (e : Bool) (same : List Name) (hs : List PairHit) (i j : ℕ) → answers_by e same hs i j ≡ true → j < length hs
answers-inside-by true same hs i j is =
    elim (cases_lt j (length hs)) as (λ _. j < length hs) [
      | inl lt ↦ lt
      | inr le ↦
          (let long = turns-long same hs (length hs) in
          never (is_index i (get_or (turns same hs (length hs)) j None)) is (ap (is_index i) (get_or_past (turns same hs (length hs)) j None (omega (arith, long, le)))))
    ]
answers-inside-by false same hs i j is =
    elim (cases_lt j (length hs)) as (λ _. j < length hs) [
      | inl lt ↦ lt
      | inr le ↦
          never (nat_lt i j && suits same (hit_at hs i) (hit_at hs j)) is
          (ap (λ (q : PairHit). nat_lt i j && suits same (hit_at hs i) q) (get_or_past hs j no_hit le) ∙ and-no (nat_lt i j) (hit_at hs i).first)
    ]

pub answers-inside : (p : Pairing) (hs : List PairHit) (i j : ℕ) → answers p hs i j ≡ true → j < length hs
answers-inside p hs i j is = answers-inside-by p.is_each p.same hs i j is

answers-old-by :
    (e : Bool) (same : List Name) (hs : List PairHit) (h : PairHit) (i j : ℕ) → i < length hs → j < length hs
    → answers_by e same (hs ++ h ∷ []) i j ≡ answers_by e same hs i j
answers-old-by true same hs h i j within lt = ap (is_index i) (turn-old same hs h j lt)
answers-old-by false same hs h i j within lt = ap₂ (λ (p q : PairHit). nat_lt i j && suits same p q) (old-at hs h i within) (old-at hs h j lt)

pub answers-old :
    (p : Pairing) (hs : List PairHit) (h : PairHit) (i j : ℕ) → i < length hs → j < length hs → answers p (hs ++ h ∷ []) i j ≡ answers p hs i j
answers-old p hs h i j within lt = answers-old-by p.is_each p.same hs h i j within lt

-- no line answers one that comes after it, or itself
no-answer : (e : Bool) (same : List Name) (hs : List PairHit) (i j : ℕ) → j ≤ i → answers_by e same hs i j ≡ false
no-answer true same hs i j le = by (get_or (turns same hs (length hs)) j None) refl
  where
    by : (o : Option ℕ) → get_or (turns same hs (length hs)) j None ≡ o → is_index i o ≡ false
    by (Some k) was = let low = turn-low same hs (length hs) j k was in ne_eqb k i (λ e. absurd (omega (arith, e, low, le)))
    by None was = refl
no-answer false same hs i j le = ap (λ (b : Bool). b && suits same (hit_at hs i) (hit_at hs j)) (le-ltb i j le)

-- only a Q answers
suits-second : (same : List Name) (p q : PairHit) → suits same p q ≡ true → q.second ≡ true
suits-second same p q is = (and-parts q.second (are_same same p.values q.values) (and-parts p.first (q.second && are_same same p.values q.values) is).1).0

answers-second-by : (e : Bool) (same : List Name) (hs : List PairHit) (h : PairHit) (i : ℕ) → answers_by e same (hs ++ h ∷ []) i (length hs) ≡ true → h.second ≡ true
answers-second-by true same hs h i is =
    by (answer_after same (hs ++ h ∷ []) (turns same hs (length hs)) (length hs)) refl (sym (ap (is_index i) (turn-new same hs h)) ∙ is)
  where
    by : (o : Option ℕ) → answer_after same (hs ++ h ∷ []) (turns same hs (length hs)) (length hs) ≡ o → is_index i o ≡ true → h.second ≡ true
    by (Some k) was found =
        let asked = (first-found (asks same (hs ++ h ∷ []) (turns same hs (length hs)) (length hs)) (length hs) k was).1 in
        let suited =
        (and-parts (suits same (hit_at (hs ++ h ∷ []) k) (hit_at (hs ++ h ∷ []) (length hs)))
        (not (some_below (λ j. is_index k (get_or (turns same hs (length hs)) j None)) (length hs))) asked).0
        in
        sym (ap (λ (q : PairHit). q.second) (new-at hs h)) ∙ suits-second same (hit_at (hs ++ h ∷ []) k) (hit_at (hs ++ h ∷ []) (length hs)) suited
    by None was found = never false found refl
answers-second-by false same hs h i is =
    let suited = (and-parts (nat_lt i (length hs)) (suits same (hit_at (hs ++ h ∷ []) i) (hit_at (hs ++ h ∷ []) (length hs))) is).1 in
    sym (ap (λ (q : PairHit). q.second) (new-at hs h)) ∙ suits-second same (hit_at (hs ++ h ∷ []) i) (hit_at (hs ++ h ∷ []) (length hs)) suited

pub answers-second : (p : Pairing) (hs : List PairHit) (h : PairHit) (i : ℕ) → answers p (hs ++ h ∷ []) i (length hs) ≡ true → h.second ≡ true
answers-second p hs h i is = answers-second-by p.is_each p.same hs h i is

-- ---- Which lines wait, with one more

abbrev waits_by : Bool → List Name → List PairHit → ℕ → Bool
waits_by e same hs i = (hit_at hs i).first && not (some_below (answers_by e same hs i) (length hs))

-- whether a line is a Q with the values of another
abbrev matches : List Name → List PairHit → PairHit → ℕ → Bool
matches same hs h i = h.second && are_same same (hit_at hs i).values h.values

apart : (a b c : Bool) → (a && not (b || c)) ≡ ((a && not b) && not c)
apart true true c = refl
apart true false c = refl
apart false b c = refl

waits-old-by :
    (e : Bool) (same : List Name) (hs : List PairHit) (h : PairHit) (i : ℕ) → i < length hs
    → waits_by e same (hs ++ h ∷ []) i ≡ (waits_by e same hs i && not (answers_by e same (hs ++ h ∷ []) i (length hs)))
waits-old-by e same hs h i within =
    let any : some_below (answers_by e same (hs ++ h ∷ []) i) (length (hs ++ h ∷ []))
    ≡ (some_below (answers_by e same hs i) (length hs) || answers_by e same (hs ++ h ∷ []) i (length hs)) =
    ap (some_below (answers_by e same (hs ++ h ∷ []) i)) (one-longer hs h)
    ∙ ap (λ (x : Bool). x || answers_by e same (hs ++ h ∷ []) i (length hs))
    (below-same (answers_by e same (hs ++ h ∷ []) i) (answers_by e same hs i) (length hs) (λ j lt. answers-old-by e same hs h i j within lt))
    in
    ap₂ (λ (p : PairHit) (b : Bool). p.first && not b) (old-at hs h i within) any
    ∙ apart (hit_at hs i).first (some_below (answers_by e same hs i) (length hs)) (answers_by e same (hs ++ h ∷ []) i (length hs))

pub waits-old :
    (p : Pairing) (hs : List PairHit) (h : PairHit) (i : ℕ) → i < length hs
    → waits p (hs ++ h ∷ []) i ≡ (waits p hs i && not (answers p (hs ++ h ∷ []) i (length hs)))
waits-old p hs h i within = waits-old-by p.is_each p.same hs h i within

waits-new-by : (e : Bool) (same : List Name) (hs : List PairHit) (h : PairHit) → waits_by e same (hs ++ h ∷ []) (length hs) ≡ h.first
waits-new-by e same hs h =
    let off : some_below (answers_by e same (hs ++ h ∷ []) (length hs)) (length (hs ++ h ∷ [])) ≡ false =
    below-off (answers_by e same (hs ++ h ∷ []) (length hs)) (length (hs ++ h ∷ []))
    (λ j lt. no-answer e same (hs ++ h ∷ []) (length hs) j (let long = one-longer hs h in omega (arith, long, lt)))
    in
    ap₂ (λ (p : PairHit) (b : Bool). p.first && not b) (new-at hs h) off ∙ and-found h.first

pub waits-new : (p : Pairing) (hs : List PairHit) (h : PairHit) → waits p (hs ++ h ∷ []) (length hs) ≡ h.first
waits-new p hs h = waits-new-by p.is_each p.same hs h

turn-round : (a b c : Bool) → ((a && b) && not c) ≡ ((a && not c) && b)
turn-round true true true = refl
turn-round true true false = refl
turn-round true false true = refl
turn-round true false false = refl
turn-round false b c = refl

-- by turns the new line answers the first that waits and that it matches
waits-turn :
    (same : List Name) (hs : List PairHit) (h : PairHit) (i : ℕ) → i < length hs
    → waits_by true same (hs ++ h ∷ []) i ≡ (waits_by true same hs i && not (is_index i (first_below (λ k. waits_by true same hs k && matches same hs h k) (length hs))))
waits-turn same hs h i within =
    waits-old-by true same hs h i within
    ∙ ap (λ (o : Option ℕ). waits_by true same hs i && not (is_index i o))
    (turn-new same hs h
    ∙ first-same (asks same (hs ++ h ∷ []) (turns same hs (length hs)) (length hs)) (λ k. waits_by true same hs k && matches same hs h k) (length hs)
    (λ k lt.
    ap₂ (λ (p q : PairHit). suits same p q && not (some_below (λ j. is_index k (get_or (turns same hs (length hs)) j None)) (length hs))) (old-at hs h k lt) (new-at hs h)
    ∙ turn-round (hit_at hs k).first (matches same hs h k) (some_below (answers_by true same hs k) (length hs))))

without-p : (a b m : Bool) → ((a && not b) && not (a && m)) ≡ ((a && not b) && not m)
without-p true b m = refl
without-p false b m = refl

-- otherwise it answers all that it matches
waits-all :
    (same : List Name) (hs : List PairHit) (h : PairHit) (i : ℕ) → i < length hs
    → waits_by false same (hs ++ h ∷ []) i ≡ (waits_by false same hs i && not (matches same hs h i))
waits-all same hs h i within =
    waits-old-by false same hs h i within
    ∙ ap (λ (b : Bool). waits_by false same hs i && not b)
    (ap (λ (b : Bool). b && suits same (hit_at (hs ++ h ∷ []) i) (hit_at (hs ++ h ∷ []) (length hs))) (lt-ltb i (length hs) within)
    ∙ ap₂ (suits same) (old-at hs h i within) (new-at hs h))
    ∙ without-p (hit_at hs i).first (some_below (answers_by false same hs i) (length hs)) (matches same hs h i)

-- ---- What is kept, with one more line

make-old : (hs : List PairHit) (h : PairHit) (i : ℕ) → i < length hs → waiting_at (hs ++ h ∷ []) i ≡ waiting_at hs i
make-old hs h i lt = ap (λ (p : PairHit). waiting_of (i + 1) p) (old-at hs h i lt)

any-none : (xs : List Waiting) → list_any (λ (x : Waiting). false) xs ≡ false
any-none [] = refl
any-none (x ∷ xs) = any-none xs

filter-all : (xs : List Waiting) → filter (λ (x : Waiting). true) xs ≡ xs
filter-all [] = refl
filter-all (x ∷ xs) = ap (λ (ys : List Waiting). x ∷ ys) (filter-all xs)

first-gone : (p : Pairing) (s : Bool) (v : Text) (ws : List Waiting) → drop_first (λ x. s && are_same p.same x.values v) ws ≡ if_second s (answered_by true p v ws) ws
first-gone p true v ws = sym (drop-is (has_values p v) ws)
first-gone p false v ws = drop-none (λ (x : Waiting). false) ws (any-none ws)

all-gone : (p : Pairing) (s : Bool) (v : Text) (ws : List Waiting) → filter (λ x. not (s && are_same p.same x.values v)) ws ≡ if_second s (answered_by false p v ws) ws
all-gone p true v ws = refl
all-gone p false v ws = filter-all ws

kept-by :
    (e : Bool) (p : Pairing) (hs : List PairHit) (h : PairHit)
    → picks (waits_by e p.same (hs ++ h ∷ [])) (waiting_at (hs ++ h ∷ [])) (length hs)
    ≡ if_second h.second (answered_by e p h.values (picks (waits_by e p.same hs) (waiting_at hs) (length hs))) (picks (waits_by e p.same hs) (waiting_at hs) (length hs))
kept-by true p hs h =
    picks-same (waits_by true p.same (hs ++ h ∷ []))
    (λ i. waits_by true p.same hs i && not (is_index i (first_below (λ k. waits_by true p.same hs k && matches p.same hs h k) (length hs))))
    (waiting_at (hs ++ h ∷ [])) (waiting_at hs) (length hs) (λ i lt. waits-turn p.same hs h i lt) (λ i lt. make-old hs h i lt)
    ∙ picks-first (waits_by true p.same hs) (matches p.same hs h) (waiting_at hs) (λ x. h.second && are_same p.same x.values h.values) (length hs) (λ i lt. refl)
    ∙ first-gone p h.second h.values (picks (waits_by true p.same hs) (waiting_at hs) (length hs))
kept-by false p hs h =
    picks-same (waits_by false p.same (hs ++ h ∷ [])) (λ i. waits_by false p.same hs i && not (matches p.same hs h i))
    (waiting_at (hs ++ h ∷ [])) (waiting_at hs) (length hs) (λ i lt. waits-all p.same hs h i lt) (λ i lt. make-old hs h i lt)
    ∙ picks-filter (waits_by false p.same hs) (matches p.same hs h) (waiting_at hs) (λ x. h.second && are_same p.same x.values h.values) (length hs) (λ i lt. refl)
    ∙ all-gone p h.second h.values (picks (waits_by false p.same hs) (waiting_at hs) (length hs))

pub kept-on :
    (p : Pairing) (hs : List PairHit) (h : PairHit) (line : ℕ) → line ≡ length hs + 1
    → picks (waits p (hs ++ h ∷ [])) (waiting_at (hs ++ h ∷ [])) (length (hs ++ h ∷ [])) ≡ waits_after p line h (picks (waits p hs) (waiting_at hs) (length hs))
kept-on p hs h line number =
    ap (picks (waits p (hs ++ h ∷ [])) (waiting_at (hs ++ h ∷ []))) (one-longer hs h)
    ∙ ap₂ (λ (xs ys : List Waiting). xs ++ ys) (kept-by p.is_each p hs h)
    (ap₂ one_if (waits-new p hs h) (ap₂ waiting_of (sym number) (new-at hs h)))
