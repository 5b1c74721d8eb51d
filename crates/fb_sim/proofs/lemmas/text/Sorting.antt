-- Every list of lists of lines has a list of all of them, in the order of the trace.
use Rattle.fb_sim.proofs.lemmas.Common.{◌≡◌, ◌<◌, ◌≤◌, true, false, List, [], ◌∷◌, refl, sym, ap, ◌∙◌, ⊎_elim, arith, IsPermutation, nat_lt, Each, Line, joint, tick_of, Rises}
use Rattle.fb_types.proofs.Common.{cond, cases_eq, ltb-true, ltb-false}
use Rattle.std.proofs.Common.{filter}
use Rattle.std.proofs.lemmas.Bool.{cond_both}
use Rattle.std.proofs.lemmas.List.Sorted.{IsPermutation-refl, IsPermutation-trans, IsPermutation-cons, IsPermutation-middle}
use Rattle.fb_types.proofs.lemmas.lists.EachLaws.{each_map}
use Rattle.fb_trace.proofs.lemmas.order.Sorting.{filter_in, filter_out, tie, tie_less, tie_same, tie_apart}
use Rattle.fb_sim.specs.MergedText.{IsWoven}

-- the lines with one more, before the first that is not earlier
abbrev put : Line → List Line → List Line
put x [] = x ∷ []
put x (y ∷ ys) = cond (nat_lt (tick_of y) (tick_of x)) (y ∷ put x ys) (x ∷ y ∷ ys)

-- the lines by their ticks, those of a tick in their own order
abbrev sorted : List Line → List Line
sorted [] = []
sorted (x ∷ xs) = put x (sorted xs)

put_moves : (x : Line) (ys : List Line) → IsPermutation (x ∷ ys) (put x ys)
put_moves x [] = IsPermutation-refl (x ∷ [])
put_moves x (y ∷ ys) =
    cond_both (nat_lt (tick_of y) (tick_of x)) (y ∷ put x ys) (x ∷ y ∷ ys) (IsPermutation (x ∷ y ∷ ys))
    (λ e. IsPermutation-trans (x ∷ y ∷ ys) (y ∷ x ∷ ys) (y ∷ put x ys) (IsPermutation-middle (x ∷ []) y ys) (IsPermutation-cons y (x ∷ ys) (put x ys) (put_moves x ys)))
    (λ e. IsPermutation-refl (x ∷ y ∷ ys))

put_each : (P : Line → Type 0) (x : Line) (ys : List Line) → P x → Each P ys → Each P (put x ys)
put_each P x [] p h = (p, tt)
put_each P x (y ∷ ys) p h =
    cond_both (nat_lt (tick_of y) (tick_of x)) (y ∷ put x ys) (x ∷ y ∷ ys) (Each P) (λ e. (h.0, put_each P x ys p h.1)) (λ e. (p, h))

put_rises : (x : Line) (ys : List Line) → Rises tick_of ys → Rises tick_of (put x ys)
put_rises x [] h = (tt, tt)
put_rises x (y ∷ ys) h =
    cond_both (nat_lt (tick_of y) (tick_of x)) (y ∷ put x ys) (x ∷ y ∷ ys) (Rises tick_of)
    (λ e. let l : tick_of y < tick_of x = ltb-true (tick_of y) (tick_of x) e in (put_each (λ z. tick_of y ≤ tick_of z) x ys (omega (arith, l)) h.0, put_rises x ys h.1))
    (λ e. let g : tick_of x ≤ tick_of y = ltb-false (tick_of y) (tick_of x) e in ((g, each_map (λ z. tick_of y ≤ tick_of z) (λ z. tick_of x ≤ tick_of z) ys (λ z (m : tick_of y ≤ tick_of z). omega (arith, g, m)) h.0), h))

-- the same of a line that is passed, since it is earlier
past : (z x y : Line) (ys : List Line) → tick_of y < tick_of x → filter (tie tick_of z) (put x ys) ≡ filter (tie tick_of z) (x ∷ ys) → filter (tie tick_of z) (y ∷ put x ys) ≡ filter (tie tick_of z) (x ∷ y ∷ ys)
past z x y ys l h =
    ⊎_elim
    (λ (e : tick_of z ≡ tick_of y).
    let out : tie tick_of z x ≡ false = tie_less tick_of z x (omega (arith, l, e)) in
    let same : tie tick_of z y ≡ true = tie_same tick_of z y e in
    filter_in (tie tick_of z) y (put x ys) same ∙ ap (λ v. y ∷ v) (h ∙ filter_out (tie tick_of z) x ys out) ∙ sym (filter_in (tie tick_of z) y ys same) ∙ sym (filter_out (tie tick_of z) x (y ∷ ys) out))
    (λ (d : tick_of z ≡ tick_of y → ⊥).
    let out : tie tick_of z y ≡ false = tie_apart tick_of z y d in
    filter_out (tie tick_of z) y (put x ys) out ∙ h ∙ ap (λ v. cond (tie tick_of z x) (x ∷ v) v) (sym (filter_out (tie tick_of z) y ys out)))
    (cases_eq (tick_of z) (tick_of y))

put_ties : (z x : Line) (ys : List Line) → filter (tie tick_of z) (put x ys) ≡ filter (tie tick_of z) (x ∷ ys)
put_ties z x [] = refl
put_ties z x (y ∷ ys) =
    cond_both (nat_lt (tick_of y) (tick_of x)) (y ∷ put x ys) (x ∷ y ∷ ys) (λ l. filter (tie tick_of z) l ≡ filter (tie tick_of z) (x ∷ y ∷ ys))
    (λ e. past z x y ys (ltb-true (tick_of y) (tick_of x) e) (put_ties z x ys)) (λ e. refl)

sorted_moves : (xs : List Line) → IsPermutation xs (sorted xs)
sorted_moves [] = IsPermutation-refl []
sorted_moves (x ∷ xs) = IsPermutation-trans (x ∷ xs) (x ∷ sorted xs) (put x (sorted xs)) (IsPermutation-cons x xs (sorted xs) (sorted_moves xs)) (put_moves x (sorted xs))

sorted_rises : (xs : List Line) → Rises tick_of (sorted xs)
sorted_rises [] = tt
sorted_rises (x ∷ xs) = put_rises x (sorted xs) (sorted_rises xs)

sorted_ties : (z : Line) (xs : List Line) → filter (tie tick_of z) (sorted xs) ≡ filter (tie tick_of z) xs
sorted_ties z [] = refl
sorted_ties z (x ∷ xs) = put_ties z x (sorted xs) ∙ ap (λ v. cond (tie tick_of z x) (x ∷ v) v) (sorted_ties z xs)

-- all lines of the lists
pub woven_of : (lists : List (List Line)) → (all : List Line) × IsWoven lists all
woven_of lists = (
  sorted (joint lists),
  record {
    whole = sorted_moves (joint lists);
    rises = λ up. sorted_rises (joint lists);
    stable = λ up x. sorted_ties x (joint lists);
  },
)
