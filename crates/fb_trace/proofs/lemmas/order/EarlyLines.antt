-- Lists of lines from which the early lines are taken, tick after tick.
use Rattle.fb_types.proofs.Common.{◌≡◌, ℕ, suc, ◌+◌, ◌<◌, ◌≤◌, Bool, true, false, cond, Option, Some, None, List, [], ◌∷◌, ◌++◌, length, map, refl, sym, ap, ◌∙◌, subst, ⊎_elim, arith, IsPermutation, append-nil, append_assoc, slice_get, nat_lt, IfSome, cases_eq, cases_lt, cond-true, cond-false, ltb-true, ltb-false, lt-ltb, le-ltb, length-append, Global, Each}
use Rattle.fb_types.specs.declared.run.Line.{Line}
use Rattle.std.proofs.Common.{filter, Vec}
use Rattle.std.proofs.lemmas.Bool.{cond_both}
use Rattle.std.proofs.lemmas.List.Sorted.{IsPermutation-refl, IsPermutation-trans, IsPermutation-append_left, IsPermutation-append_right, IsPermutation-append_comm, length_permutation}
use Rattle.fb_types.proofs.lemmas.lists.EachLaws.{each_map, each_both, each_append}
use Rattle.fb_trace.specs.Merging.{Lists, tick_of, Rises, AreRising, AreMerged, flat}
use Rattle.fb_trace.specs.Fronts.{lesser, tick_at, early, late, before, present, joint, all_early, all_late, BeginsFrom, IsEmpty, IsLeast}
use Rattle.fb_trace.proofs.lemmas.order.Sorting.{filter_nothing, filter_joined, rises_append, tie, tie_less, tie_apart}
use Rattle.fb_trace.proofs.lemmas.order.StableSort.{merged}

-- the ticks of no list fall
abbrev pub AllRise : List (List Line) → Type 0
AllRise = Each (Rises tick_of)

pub flat_joint : (vs : Lists) → flat vs ≡ joint (map (λ v. v.items) vs)
flat_joint [] = refl
flat_joint (v ∷ vs) = ap (λ z. v.items ++ z) (flat_joint vs)

joint_before : (xs : List Line) (rest : List (List Line)) → joint (before xs rest) ≡ xs ++ joint rest
joint_before [] rest = refl
joint_before (x ∷ xs) rest = refl

joint_present : (xss : List (List Line)) → joint (present xss) ≡ joint xss
joint_present [] = refl
joint_present (xs ∷ rest) = joint_before xs (present rest) ∙ ap (λ z. xs ++ z) (joint_present rest)

each_before : (P : List Line → Type 0) (xs : List Line) (rest : List (List Line)) → P xs → Each P rest → Each P (before xs rest)
each_before P [] rest h g = g
each_before P (x ∷ xs) rest h g = (h, g)

each_present : (P : List Line → Type 0) (xss : List (List Line)) → Each P xss → Each P (present xss)
each_present P [] h = tt
each_present P (xs ∷ rest) h = each_before P xs (present rest) h.0 (each_present P rest h.1)

module _ (P : Line → Type 0) where
  each_left : (xs ys : List Line) → Each P (xs ++ ys) → Each P xs
  each_left [] ys h = tt
  each_left (x ∷ xs) ys h = (h.0, each_left xs ys h.1)

  each_right : (xs ys : List Line) → Each P (xs ++ ys) → Each P ys
  each_right [] ys h = h
  each_right (x ∷ xs) ys h = each_right xs ys h.1

module _ (t : ℕ) where
  parts : (xs : List Line) → early t xs ++ late t xs ≡ xs
  parts [] = refl
  parts (x ∷ xs) = step (nat_lt t (tick_of x)) (parts xs)
    where
      step : (b : Bool) → early t xs ++ late t xs ≡ xs → cond b [] (x ∷ early t xs) ++ cond b (x ∷ xs) (late t xs) ≡ x ∷ xs
      step true h = refl
      step false h = ap (λ z. x ∷ z) h

  early_low : (xs : List Line) → Each (λ x. tick_of x ≤ t) (early t xs)
  early_low [] = tt
  early_low (x ∷ xs) =
      let k = early_low xs in
      cond_both (nat_lt t (tick_of x)) [] (x ∷ early t xs) (Each (λ y. tick_of y ≤ t)) (λ e. tt) (λ e. (ltb-false t (tick_of x) e, k))

  late_high : (xs : List Line) → Rises tick_of xs → Each (λ x. t < tick_of x) (late t xs)
  late_high [] h = tt
  late_high (x ∷ xs) h =
      let k = late_high xs h.1 in
      cond_both (nat_lt t (tick_of x)) (x ∷ xs) (late t xs) (Each (λ y. t < tick_of y))
      (λ e.
      let l : t < tick_of x = ltb-true t (tick_of x) e in
      (l, each_map (λ y. tick_of x ≤ tick_of y) (λ y. t < tick_of y) xs (λ y (b : tick_of x ≤ tick_of y). let w : t < tick_of y = omega arith in w) h.0))
      (λ e. k)

  late_rises : (xs : List Line) → Rises tick_of xs → Rises tick_of (late t xs)
  late_rises [] h = tt
  late_rises (x ∷ xs) h =
      let k = late_rises xs h.1 in
      cond_both (nat_lt t (tick_of x)) (x ∷ xs) (late t xs) (Rises tick_of) (λ e. h) (λ e. k)

  all_late_rise : (xss : List (List Line)) → AllRise xss → AllRise (all_late t xss)
  all_late_rise [] h = tt
  all_late_rise (xs ∷ rest) h = each_before (Rises tick_of) (late t xs) (all_late t rest) (late_rises xs h.0) (all_late_rise rest h.1)

  all_early_low : (xss : List (List Line)) → Each (λ x. tick_of x ≤ t) (all_early t xss)
  all_early_low [] = tt
  all_early_low (xs ∷ rest) = each_append (λ x. tick_of x ≤ t) (early t xs) (all_early t rest) (early_low xs) (all_early_low rest)

  all_late_high : (xss : List (List Line)) → AllRise xss → Each (λ x. t < tick_of x) (joint (all_late t xss))
  all_late_high [] h = tt
  all_late_high (xs ∷ rest) h =
      subst (Each (λ x. t < tick_of x)) (sym (joint_before (late t xs) (all_late t rest)))
      (each_append (λ x. t < tick_of x) (late t xs) (joint (all_late t rest)) (late_high xs h.0) (all_late_high rest h.1))

  begins_all : (xs : List Line) → Rises tick_of xs → BeginsFrom t xs → Each (λ x. t ≤ tick_of x) xs
  begins_all [] h b = tt
  begins_all (x ∷ xs) h b = (b, each_map (λ y. tick_of x ≤ tick_of y) (λ y. t ≤ tick_of y) xs (λ y (c : tick_of x ≤ tick_of y). let w : t ≤ tick_of y = omega (arith, b) in w) h.0)

  joint_from : (xss : List (List Line)) → AllRise xss → Each (BeginsFrom t) xss → Each (λ x. t ≤ tick_of x) (joint xss)
  joint_from [] h b = tt
  joint_from (xs ∷ rest) h b = each_append (λ x. t ≤ tick_of x) xs (joint rest) (begins_all xs h.0 b.0) (joint_from rest h.1 b.1)

  -- what holds of all lines holds of those that are taken, and of those that are left
  taken_each : (P : Line → Type 0) (xss : List (List Line)) → Each P (joint xss) → Each P (all_early t xss)
  taken_each P [] h = tt
  taken_each P (xs ∷ rest) h =
      each_append P (early t xs) (all_early t rest) (each_left P (early t xs) (late t xs) (subst (Each P) (sym (parts xs)) (each_left P xs (joint rest) h)))
      (taken_each P rest (each_right P xs (joint rest) h))

  left_each : (P : Line → Type 0) (xss : List (List Line)) → Each P (joint xss) → Each P (joint (all_late t xss))
  left_each P [] h = tt
  left_each P (xs ∷ rest) h =
      subst (Each P) (sym (joint_before (late t xs) (all_late t rest)))
      (each_append P (late t xs) (joint (all_late t rest)) (each_right P (early t xs) (late t xs) (subst (Each P) (sym (parts xs)) (each_left P xs (joint rest) h)))
      (left_each P rest (each_right P xs (joint rest) h)))

  -- the lines that are taken and those that are left are all
  moved : (xss : List (List Line)) → IsPermutation (joint xss) (all_early t xss ++ joint (all_late t xss))
  moved [] = IsPermutation-refl []
  moved (xs ∷ rest) =
      let e = early t xs in
      let l = late t xs in
      let ee = all_early t rest in
      let ll = joint (all_late t rest) in
      let one : IsPermutation (e ++ (l ++ joint rest)) (e ++ (l ++ (ee ++ ll))) =
      IsPermutation-append_right e (l ++ joint rest) (l ++ (ee ++ ll)) (IsPermutation-append_right l (joint rest) (ee ++ ll) (moved rest)) in
      let two : IsPermutation (e ++ ((l ++ ee) ++ ll)) (e ++ ((ee ++ l) ++ ll)) =
      IsPermutation-append_right e ((l ++ ee) ++ ll) ((ee ++ l) ++ ll) (IsPermutation-append_left ll (l ++ ee) (ee ++ l) (IsPermutation-append_comm l ee)) in
      let from : e ++ (l ++ joint rest) ≡ xs ++ joint rest = sym (append_assoc e l (joint rest)) ∙ ap (λ z. z ++ joint rest) (parts xs) in
      let mid : e ++ (l ++ (ee ++ ll)) ≡ e ++ ((l ++ ee) ++ ll) = ap (λ z. e ++ z) (sym (append_assoc l ee ll)) in
      let to : e ++ ((ee ++ l) ++ ll) ≡ (e ++ ee) ++ joint (before l (all_late t rest)) =
      ap (λ z. e ++ z) (append_assoc ee l ll) ∙ sym (append_assoc e ee (l ++ ll)) ∙ ap (λ z. (e ++ ee) ++ z) (sym (joint_before l (all_late t rest))) in
      IsPermutation-trans _ _ _ (subst (λ z. IsPermutation z (e ++ (l ++ (ee ++ ll)))) from one)
      (subst (λ z. IsPermutation (e ++ (l ++ (ee ++ ll))) z) to (subst (λ z. IsPermutation z (e ++ ((ee ++ l) ++ ll))) (sym mid) two))

  module _ (p : Line → Bool) where
    -- if no line that is left passes a test, those that were taken are all that do
    only_early : (xss : List (List Line)) → Each (λ x. p x ≡ false) (joint (all_late t xss)) → filter p (all_early t xss) ≡ filter p (joint xss)
    only_early [] h = refl
    only_early (xs ∷ rest) h =
        let g = subst (Each (λ x. p x ≡ false)) (joint_before (late t xs) (all_late t rest)) h in
        let none : filter p (late t xs) ≡ [] = filter_nothing p (late t xs) (each_left (λ x. p x ≡ false) (late t xs) (joint (all_late t rest)) g) in
        let here : filter p (early t xs) ≡ filter p xs =
        sym (append-nil (filter p (early t xs))) ∙ ap (λ z. filter p (early t xs) ++ z) (sym none) ∙ sym (filter_joined p (early t xs) (late t xs)) ∙ ap (filter p) (parts xs) in
        filter_joined p (early t xs) (all_early t rest) ∙ ap (λ z. z ++ filter p (all_early t rest)) here
        ∙ ap (λ z. filter p xs ++ z) (only_early rest (each_right (λ x. p x ≡ false) (late t xs) (joint (all_late t rest)) g)) ∙ sym (filter_joined p xs (joint rest))

    -- if no line that was taken passes it, those that are left are all that do
    only_late : (xss : List (List Line)) → Each (λ x. p x ≡ false) (all_early t xss) → filter p (joint (all_late t xss)) ≡ filter p (joint xss)
    only_late [] h = refl
    only_late (xs ∷ rest) h =
        let none : filter p (early t xs) ≡ [] = filter_nothing p (early t xs) (each_left (λ x. p x ≡ false) (early t xs) (all_early t rest) h) in
        let here : filter p (late t xs) ≡ filter p xs =
        ap (λ z. z ++ filter p (late t xs)) (sym none) ∙ sym (filter_joined p (early t xs) (late t xs)) ∙ ap (filter p) (parts xs) in
        ap (filter p) (joint_before (late t xs) (all_late t rest)) ∙ filter_joined p (late t xs) (joint (all_late t rest)) ∙ ap (λ z. z ++ filter p (joint (all_late t rest))) here
        ∙ ap (λ z. filter p xs ++ z) (only_late rest (each_right (λ x. p x ≡ false) (early t xs) (all_early t rest) h)) ∙ sym (filter_joined p xs (joint rest))

  -- if no line is before the tick, lines that tie keep their order
  stay : (xss : List (List Line)) → AllRise xss → Each (BeginsFrom t) xss → (x : Line) → filter (tie tick_of x) (all_early t xss ++ joint (all_late t xss)) ≡ filter (tie tick_of x) (joint xss)
  stay xss up from x =
      let p = tie tick_of x in
      let split = filter_joined p (all_early t xss) (joint (all_late t xss)) in
      ⊎_elim
      (λ (e : tick_of x ≡ t).
      let no = each_map (λ y. t < tick_of y) (λ y. p y ≡ false) (joint (all_late t xss)) (λ y (l : t < tick_of y). tie_less tick_of x y (let w : tick_of x < tick_of y = omega arith in w)) (all_late_high xss up) in
      split ∙ ap (λ z. filter p (all_early t xss) ++ z) (filter_nothing p (joint (all_late t xss)) no) ∙ append-nil (filter p (all_early t xss)) ∙ only_early p xss no)
      (λ (d : tick_of x ≡ t → ⊥).
      let no = each_both (λ y. tick_of y ≤ t) (λ y. t ≤ tick_of y) (λ y. p y ≡ false) (all_early t xss) (λ y (l : tick_of y ≤ t) (m : t ≤ tick_of y). tie_apart tick_of x y (λ q. d (omega arith)))
      (all_early_low xss) (taken_each (λ y. t ≤ tick_of y) xss (joint_from xss up from)) in
      split ∙ ap (λ z. z ++ filter p (joint (all_late t xss))) (filter_nothing p (all_early t xss) no) ∙ only_late p xss no)
      (cases_eq (tick_of x) t)

  -- lines of one tick
  level : (xs : List Line) → Each (λ x. tick_of x ≤ t) xs → Each (λ x. t ≤ tick_of x) xs → Rises tick_of xs
  level [] h g = tt
  level (x ∷ xs) h g =
      let l : tick_of x ≤ t = h.0 in
      (each_map (λ y. t ≤ tick_of y) (λ y. tick_of x ≤ tick_of y) xs (λ y (m : t ≤ tick_of y). let w : tick_of x ≤ tick_of y = omega arith in w) g.1, level xs h.1 g.1)

-- ---- One list more

before_none : (xs : List Line) → xs ≡ [] → before xs [] ≡ []
before_none [] e = refl
before_none (x ∷ xs) e = absurd cc

before_some : (xs : List Line) → (xs ≡ [] → ⊥) → before xs [] ≡ xs ∷ []
before_some [] d = absurd (d refl)
before_some (x ∷ xs) d = refl

before_front : (xs : List Line) (yss zss : List (List Line)) → before xs (yss ++ zss) ≡ before xs yss ++ zss
before_front [] yss zss = refl
before_front (x ∷ xs) yss zss = refl

present_more : (xss : List (List Line)) (xs : List Line) → present (xss ++ xs ∷ []) ≡ present xss ++ before xs []
present_more [] xs = refl
present_more (ys ∷ rest) xs = ap (before ys) (present_more rest xs) ∙ before_front ys (present rest) (before xs [])

late_more : (t : ℕ) (xss : List (List Line)) (xs : List Line) → all_late t (xss ++ xs ∷ []) ≡ all_late t xss ++ before (late t xs) []
late_more t [] xs = refl
late_more t (ys ∷ rest) xs = ap (before (late t ys)) (late_more t rest xs) ∙ before_front (late t ys) (all_late t rest) (before (late t xs) [])

-- a list that has a line is kept, and another is not
pub present_kept : (xss : List (List Line)) (xs : List Line) (kept : List (List Line)) → kept ≡ present xss → (xs ≡ [] → ⊥) → kept ++ xs ∷ [] ≡ present (xss ++ xs ∷ [])
present_kept xss xs kept h d = ap (λ z. z ++ xs ∷ []) h ∙ ap (λ z. present xss ++ z) (sym (before_some xs d)) ∙ sym (present_more xss xs)

pub present_passed : (xss : List (List Line)) (xs : List Line) (kept : List (List Line)) → kept ≡ present xss → xs ≡ [] → kept ≡ present (xss ++ xs ∷ [])
present_passed xss xs kept h e = h ∙ sym (append-nil (present xss)) ∙ ap (λ z. present xss ++ z) (sym (before_none xs e)) ∙ sym (present_more xss xs)

pub late_kept : (t : ℕ) (xss : List (List Line)) (xs : List Line) (kept : List (List Line)) → kept ≡ all_late t xss → (late t xs ≡ [] → ⊥) → kept ++ late t xs ∷ [] ≡ all_late t (xss ++ xs ∷ [])
late_kept t xss xs kept h d = ap (λ z. z ++ late t xs ∷ []) h ∙ ap (λ z. all_late t xss ++ z) (sym (before_some (late t xs) d)) ∙ sym (late_more t xss xs)

pub late_passed : (t : ℕ) (xss : List (List Line)) (xs : List Line) (kept : List (List Line)) → kept ≡ all_late t xss → late t xs ≡ [] → kept ≡ all_late t (xss ++ xs ∷ [])
late_passed t xss xs kept h e = h ∙ sym (append-nil (all_late t xss)) ∙ ap (λ z. all_late t xss ++ z) (sym (before_none (late t xs) e)) ∙ sym (late_more t xss xs)

pub early_more : (t : ℕ) (xss : List (List Line)) (xs : List Line) → all_early t (xss ++ xs ∷ []) ≡ all_early t xss ++ early t xs
early_more t [] xs = append-nil (early t xs)
early_more t (ys ∷ rest) xs = ap (λ z. early t ys ++ z) (early_more t rest xs) ∙ sym (append_assoc (early t ys) (all_early t rest) (early t xs))

lists_left : (P : List Line → Type 0) (xss yss : List (List Line)) → Each P (xss ++ yss) → Each P xss
lists_left P [] yss h = tt
lists_left P (xs ∷ rest) yss h = (h.0, lists_left P rest yss h.1)

lists_right : (P : List Line → Type 0) (xss yss : List (List Line)) → Each P (xss ++ yss) → Each P yss
lists_right P [] yss h = h
lists_right P (xs ∷ rest) yss h = lists_right P rest yss h.1

from_empty : (t : ℕ) (xs : List Line) → IsEmpty xs → BeginsFrom t xs
from_empty t [] h = tt
from_empty t (x ∷ xs) h = absurd h

from_lower : (s t : ℕ) → s ≤ t → (xs : List Line) → BeginsFrom t xs → BeginsFrom s xs
from_lower s t b [] h = tt
from_lower s t b (x ∷ xs) h = let l : t ≤ tick_of x = h in omega arith

pub least_more : (xss : List (List Line)) (xs : List Line) (least : Option ℕ) → IsLeast xss least → IsLeast (xss ++ xs ∷ []) (lesser least (tick_at xs))
least_more xss [] None it = record {
  low = tt;
  greatest = λ m h. tt;
  none = each_append IsEmpty xss ([] ∷ []) it.none (tt, tt);
}
least_more xss [] (Some a) it = record {
  low = each_append (BeginsFrom a) xss ([] ∷ []) it.low (tt, tt);
  greatest = λ m h. it.greatest m (lists_left (BeginsFrom m) xss ([] ∷ []) h);
  none = tt;
}
least_more xss (x ∷ xs) None it = record {
  low = each_append (BeginsFrom (tick_of x)) xss ((x ∷ xs) ∷ []) (each_map IsEmpty (BeginsFrom (tick_of x)) xss (from_empty (tick_of x)) it.none) (omega arith, tt);
  greatest = λ m h. (lists_right (BeginsFrom m) xss ((x ∷ xs) ∷ []) h).0;
  none = tt;
}
least_more xss (x ∷ xs) (Some a) it =
    cond_both (nat_lt (tick_of x) a) (Some (tick_of x)) (Some a) (IsLeast (xss ++ (x ∷ xs) ∷ []))
    (λ e.
    let l : tick_of x < a = ltb-true (tick_of x) a e in
    let w : tick_of x ≤ a = omega arith in
    record {
      low = each_append (BeginsFrom (tick_of x)) xss ((x ∷ xs) ∷ []) (each_map (BeginsFrom a) (BeginsFrom (tick_of x)) xss (from_lower (tick_of x) a w) it.low) (omega arith, tt);
      greatest = λ m h. (lists_right (BeginsFrom m) xss ((x ∷ xs) ∷ []) h).0;
      none = tt;
    })
    (λ e. record {
      low = each_append (BeginsFrom a) xss ((x ∷ xs) ∷ []) it.low (ltb-false (tick_of x) a e, tt);
      greatest = λ m h. it.greatest m (lists_left (BeginsFrom m) xss ((x ∷ xs) ∷ []) h);
      none = tt;
    })

-- ---- The end

nil_left : (xs ys : List Line) → xs ++ ys ≡ [] → xs ≡ []
nil_left [] ys e = refl
nil_left (x ∷ xs) ys e = absurd cc

nil_right : (xs ys : List Line) → xs ++ ys ≡ [] → ys ≡ []
nil_right [] ys e = e
nil_right (x ∷ xs) ys e = absurd cc

-- if nothing is taken of a tick, all begin past it
past : (t : ℕ) (xs : List Line) → early t xs ≡ [] → BeginsFrom (suc t) xs
past t [] e = tt
past t (x ∷ xs) e =
    ⊎_elim (λ (l : t < tick_of x). l)
    (λ (g : tick_of x ≤ t). let some : [] ≡ x ∷ early t xs = sym e ∙ cond-false (nat_lt t (tick_of x)) [] (x ∷ early t xs) (le-ltb t (tick_of x) g) in absurd cc)
    (cases_lt t (tick_of x))

all_past : (t : ℕ) (xss : List (List Line)) → all_early t xss ≡ [] → Each (BeginsFrom (suc t)) xss
all_past t [] e = tt
all_past t (xs ∷ rest) e = (past t xs (nil_left (early t xs) (all_early t rest) e), all_past t rest (nil_right (early t xs) (all_early t rest) e))

-- of the least tick there is a line to take
pub fewer : (t : ℕ) (xss : List (List Line)) → IsLeast xss (Some t) → length (joint (all_late t xss)) < length (joint xss)
fewer t xss it = step (all_early t xss) refl
  where
    whole : length (all_early t xss ++ joint (all_late t xss)) ≡ length (joint xss)
    whole = length_permutation (joint xss) (all_early t xss ++ joint (all_late t xss)) (moved t xss)

    step : (es : List Line) → all_early t xss ≡ es → length (joint (all_late t xss)) < length (joint xss)
    step [] e = let l : suc t ≤ t = it.greatest (suc t) (all_past t xss e) in omega arith
    step (x ∷ es) e =
        let long : length ((x ∷ es) ++ joint (all_late t xss)) ≡ length (joint xss) = ap (λ z. length (z ++ joint (all_late t xss))) (sym e) ∙ whole in
        let sum : length ((x ∷ es) ++ joint (all_late t xss)) ≡ suc (length es) + length (joint (all_late t xss)) = length-append (x ∷ es) (joint (all_late t xss)) in
        omega arith

-- if there is no least tick, no list has a line
pub none_left : (xss : List (List Line)) (least : Option ℕ) → IsLeast xss least → ((t : ℕ) → least ≡ Some t → ⊥) → Each IsEmpty xss
none_left xss None it d = it.none
none_left xss (Some t) it d = absurd (d t refl)

-- ---- One line more

some_first : (xs : List Line) (first : ℕ) → tick_at xs ≡ Some first → (x : Line) (rest : List Line) → xs ≡ x ∷ rest → tick_of x ≡ first
some_first xs first e x rest s = let f : Some (tick_of x) ≡ Some first = ap tick_at (sym s) ∙ e in cc

pub one_early : (t : ℕ) (xs : List Line) (first : ℕ) → tick_at xs ≡ Some first → first ≤ t → (x : Line) (rest : List Line) → xs ≡ x ∷ rest → early t xs ≡ x ∷ early t rest
one_early t xs first e b x rest s =
    let f = some_first xs first e x rest s in
    ap (early t) s ∙ cond-false (nat_lt t (tick_of x)) [] (x ∷ early t rest) (le-ltb t (tick_of x) (omega arith))

pub one_late : (t : ℕ) (xs : List Line) (first : ℕ) → tick_at xs ≡ Some first → first ≤ t → (x : Line) (rest : List Line) → xs ≡ x ∷ rest → late t xs ≡ late t rest
one_late t xs first e b x rest s =
    let f = some_first xs first e x rest s in
    ap (late t) s ∙ cond-false (nat_lt t (tick_of x)) (x ∷ rest) (late t rest) (le-ltb t (tick_of x) (omega arith))

-- if the first line is past the tick, or there is none
pub none_early : (t : ℕ) (xs : List Line) → IfSome (tick_at xs) (λ first. t < first) → (early t xs ≡ []) × (late t xs ≡ xs)
none_early t [] h = (refl, refl)
none_early t (x ∷ xs) h =
    (cond-true (nat_lt t (tick_of x)) [] (x ∷ early t xs) (lt-ltb t (tick_of x) h), cond-true (nat_lt t (tick_of x)) (x ∷ xs) (late t xs) (lt-ltb t (tick_of x) h))

-- The order of lines that were taken off lists, if these rise.
pub record IsSorted (lists : List (List Line)) (all : List Line) (left : List (List Line)) : Type 0 where
  pub up : AllRise left
  pub risen : Rises tick_of all
  pub following : Each (λ x. Each (λ y. tick_of x ≤ tick_of y) (joint left)) all
  pub stable : (x : Line) → filter (tie tick_of x) (all ++ joint left) ≡ filter (tie tick_of x) (joint lists)

-- These lines were taken off the lists, and this is left.
pub record IsTaken (lists : List (List Line)) (all : List Line) (left : List (List Line)) : Type 0 where
  pub whole : IsPermutation (joint lists) (all ++ joint left)
  pub order : AllRise lists → IsSorted lists all left

pub begin : (xss : List (List Line)) → IsTaken xss [] (present xss)
begin xss = record {
  whole = subst (IsPermutation (joint xss)) (sym (joint_present xss)) (IsPermutation-refl (joint xss));
  order = λ up. record {
    up = each_present (Rises tick_of) xss up;
    risen = tt;
    following = tt;
    stable = λ x. ap (filter (tie tick_of x)) (joint_present xss);
  };
}

pub further : (t : ℕ) (xss : List (List Line)) (all : List Line) (left : List (List Line)) → IsTaken xss all left → Each (BeginsFrom t) left
    → IsTaken xss (all ++ all_early t left) (all_late t left)
further t xss all left it from =
    let e = all_early t left in
    let l = joint (all_late t left) in
    record {
      whole = IsPermutation-trans (joint xss) (all ++ joint left) ((all ++ e) ++ l) it.whole
          (subst (IsPermutation (all ++ joint left)) (sym (append_assoc all e l)) (IsPermutation-append_right all (joint left) (e ++ l) (moved t left)));
      order = λ rise.
          let s = it.order rise in
          let first = taken_each t (λ y. t ≤ tick_of y) left (joint_from t left s.up from) in
          record {
            up = all_late_rise t left s.up;
            risen = rises_append tick_of all e s.risen (level t e (all_early_low t left) first)
                (each_map _ _ all (λ x h. taken_each t (λ y. tick_of x ≤ tick_of y) left h) s.following);
            following = each_append (λ x. Each (λ y. tick_of x ≤ tick_of y) l) all e
                (each_map _ _ all (λ x h. left_each t (λ y. tick_of x ≤ tick_of y) left h) s.following)
                (each_map (λ x. tick_of x ≤ t) (λ x. Each (λ y. tick_of x ≤ tick_of y) l) e
                (λ x (a : tick_of x ≤ t). each_map (λ y. t < tick_of y) (λ y. tick_of x ≤ tick_of y) l (λ y (b : t < tick_of y). let w : tick_of x ≤ tick_of y = omega arith in w) (all_late_high t left s.up))
                (all_early_low t left));
            stable = λ x.
                let p = tie tick_of x in
                ap (filter p) (append_assoc all e l) ∙ filter_joined p all (e ++ l) ∙ ap (λ z. filter p all ++ z) (stay t left s.up from x) ∙ sym (filter_joined p all (joint left)) ∙ s.stable x;
          };
    }

nothing : (xss : List (List Line)) → Each IsEmpty xss → joint xss ≡ []
nothing [] h = refl
nothing ([] ∷ rest) h = nothing rest h.1
nothing ((x ∷ xs) ∷ rest) h = absurd h.0

all_rise : (vs : Lists) → AreRising vs → AllRise (map (λ v. v.items) vs)
all_rise [] h = tt
all_rise (v ∷ vs) h = ((h 0 v refl).rise, rise_on vs (λ r w e. (h (suc r) w e).rise))
  where
    rise_on : (us : Lists) → ((r : ℕ) (w : Vec Line Global) → slice_get us r ≡ Some w → Rises tick_of w.items) → AllRise (map (λ v. v.items) us)
    rise_on [] g = tt
    rise_on (u ∷ us) g = (g 0 u refl, rise_on us (λ r w e. g (suc r) w e))

-- all that is left follows what was taken, unchanged
whole_merged : (vs : Lists) (all : List Line) (left : List (List Line)) → IsTaken (map (λ v. v.items) vs) all left → (AllRise (map (λ v. v.items) vs) → Rises tick_of (all ++ joint left)) → AreRising vs
    → AreMerged vs (all ++ joint left)
whole_merged vs all left it up are =
    let s = it.order (all_rise vs are) in
    merged vs (all ++ joint left) (up (all_rise vs are)) (λ x. s.stable x ∙ ap (filter (tie tick_of x)) (sym (flat_joint vs)))
    (subst (λ z. IsPermutation z (all ++ joint left)) (sym (flat_joint vs)) it.whole) are

module _ (vs : Lists) (all : List Line) (left : List (List Line)) (it : IsTaken (map (λ v. v.items) vs) all left) (none : Each IsEmpty left) where
  same : all ++ joint left ≡ all
  same = ap (λ z. all ++ z) (nothing left none) ∙ append-nil all

  pub end_merged : AreRising vs → AreMerged vs all
  end_merged are = subst (AreMerged vs) same (whole_merged vs all left it (λ up. subst (Rises tick_of) (sym same) (it.order up).risen) are)

  pub end_kept : IsPermutation (flat vs) all
  end_kept = subst (λ z. IsPermutation z all) (sym (flat_joint vs)) (subst (IsPermutation (joint (map (λ v. v.items) vs))) same it.whole)

-- one list that is left alone
module _ (vs : Lists) (only : List Line) (it : IsTaken (map (λ v. v.items) vs) [] (only ∷ [])) where
  pub one_merged : AreRising vs → AreMerged vs only
  one_merged are = subst (AreMerged vs) (append-nil only) (whole_merged vs [] (only ∷ []) it (λ up. subst (Rises tick_of) (sym (append-nil only)) (it.order up).up.0) are)

  pub one_kept : IsPermutation (flat vs) only
  one_kept = subst (λ z. IsPermutation z only) (sym (flat_joint vs)) (subst (IsPermutation (joint (map (λ v. v.items) vs))) (append-nil only) it.whole)
