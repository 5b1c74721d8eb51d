-- Lists of which each element may fail, read from the front.
use Rattle.fb_inputs.proofs.lemmas.Common.{◌≡◌, ℕ, ◌+◌, ◌<◌, ◌≤◌, Bool, true, false, List, [], ◌∷◌, ◌++◌, length, get_or, drop, Option, Some, None, refl, sym, ap, ◌∙◌, arith, length_push, Result, Ok, Err, all_after, each_at, each_in, placed, and_then, or_refuse}
use Rattle.fb_types.proofs.Common.{append_assoc, append-nil, drop_more, filter}

-- ---- a loop over the elements, whose rest is known

pub nothing_before : {B N : Type 0} (o : Result (List B) N) → o ≡ all_after [] o
nothing_before (Ok more) = refl
nothing_before (Err n) = refl

abbrev found_all : {B N : Type 0} → List B → Result (List B) N
found_all all = Ok all

pub regroup_at : {B N : Type 0} (front : List B) (y : B) (o : Result (List B) N) → all_after front (and_then o (λ ys. Ok (y ∷ ys))) ≡ all_after (front ++ y ∷ []) o
regroup_at {N = N} front y (Ok ys) = ap (found_all {N = N}) (sym (append_assoc front (y ∷ []) ys))
regroup_at front y (Err n) = refl

pub more_at : {A B N : Type 0} (why : ℕ → N) (f : A → Option B) (front : List B) (x : A) (xs rest : List A) (y : B) (total : Result (List B) N) → rest ≡ x ∷ xs → f x ≡ Some y
    → total ≡ all_after front (each_at why f (length front) rest) → total ≡ all_after (front ++ y ∷ []) (each_at why f (length (front ++ y ∷ [])) xs)
unfolding each_at
more_at why f front x xs rest y total split found so_far =
    rw split at so_far ∙ (rw (found, length_push front y) (regroup_at front y (each_at why f (length front + 1) xs)))

pub fails_at : {A B N : Type 0} (why : ℕ → N) (f : A → Option B) (front : List B) (x : A) (xs rest : List A) (n : N) (total : Result (List B) N) → rest ≡ x ∷ xs → or_refuse (why (length front)) (f x) ≡ Err n
    → total ≡ all_after front (each_at why f (length front) rest) → total ≡ Err n
unfolding each_at
fails_at why f front x xs rest n total split found so_far = rw split at so_far ∙ rw found refl

pub not_refused : {A N : Type 0} (n : N) (o : Option A) (y : A) → or_refuse n o ≡ Ok y → o ≡ Some y
not_refused n None y h = absurd cc
not_refused {A} n (Some x) y h = let same : x ≡ y = cc in ap (λ (z : A). Some z) same

pub done_at : {A B N : Type 0} (why : ℕ → N) (f : A → Option B) (front : List B) (rest : List A) (total : Result (List B) N) → length rest ≤ 0
    → total ≡ all_after front (each_at why f (length front) rest) → total ≡ Ok front
unfolding each_at
done_at {N = N} why f front [] total le so_far = so_far ∙ ap (found_all {N = N}) (append-nil front)
done_at why f front (x ∷ xs) total le so_far = absurd (omega arith)

-- ---- the same, where the element says itself what is wrong with it

pub more_in : {A B M N : Type 0} (at : ℕ → M → N) (f : A → Result B M) (front : List B) (x : A) (xs rest : List A) (y : B) (total : Result (List B) N) → rest ≡ x ∷ xs → placed (at (length front)) (f x) ≡ Ok y
    → total ≡ all_after front (each_in at f (length front) rest) → total ≡ all_after (front ++ y ∷ []) (each_in at f (length (front ++ y ∷ [])) xs)
unfolding each_in
more_in at f front x xs rest y total split found so_far =
    rw split at so_far ∙ (rw (found, length_push front y) (regroup_at front y (each_in at f (length front + 1) xs)))

pub fails_in : {A B M N : Type 0} (at : ℕ → M → N) (f : A → Result B M) (front : List B) (x : A) (xs rest : List A) (n : N) (total : Result (List B) N) → rest ≡ x ∷ xs → placed (at (length front)) (f x) ≡ Err n
    → total ≡ all_after front (each_in at f (length front) rest) → total ≡ Err n
unfolding each_in
fails_in at f front x xs rest n total split found so_far = rw split at so_far ∙ rw found refl

pub done_in : {A B M N : Type 0} (at : ℕ → M → N) (f : A → Result B M) (front : List B) (rest : List A) (total : Result (List B) N) → length rest ≤ 0
    → total ≡ all_after front (each_in at f (length front) rest) → total ≡ Ok front
unfolding each_in
done_in {N = N} at f front [] total le so_far = so_far ∙ ap (found_all {N = N}) (append-nil front)
done_in at f front (x ∷ xs) total le so_far = absurd (omega arith)

-- ---- a loop that passes some elements over

pub dropped : {A : Type 0} (xs : List A) (n : ℕ) (x : A) → (n < length xs) × (x ≡ get_or xs n x) → drop n xs ≡ x ∷ drop (n + 1) xs
dropped {A} xs n x h = drop_more xs n x h.0 ∙ ap (λ (z : A). z ∷ drop (n + 1) xs) (sym h.1)

pub filter_skips : {A : Type 0} (p : A → Bool) (xs : List A) (n : ℕ) (x : A) → (n < length xs) × (x ≡ get_or xs n x) → p x ≡ false → filter p (drop n xs) ≡ filter p (drop (n + 1) xs)
filter_skips p xs n x h fails_p = ap (filter p) (dropped xs n x h) ∙ rw fails_p refl

pub filter_takes : {A : Type 0} (p : A → Bool) (xs : List A) (n : ℕ) (x : A) → (n < length xs) × (x ≡ get_or xs n x) → p x ≡ true → filter p (drop n xs) ≡ x ∷ filter p (drop (n + 1) xs)
filter_takes p xs n x h takes_p = ap (filter p) (dropped xs n x h) ∙ rw takes_p refl
