-- Lists whose lines are taken tick by tick, and lists that are cut in two.
use Rattle.fb_types.proofs.Common.{◌≡◌, ℕ, zero, suc, ◌+◌, ◌<◌, ◌≤◌, nat_le, Bool, true, false, Some, List, [], ◌∷◌, ◌++◌, length, get_or, take, drop, map, refl, sym, ap, ap₂, ◌∙◌, subst, ⊎_elim, arith, All, Bor, IsPermutation, append-nil, append_assoc, nat_lt, slice_get, cases_lt, cond-true, cond-false, le-leb, lt-leb, lt-ltb, le-ltb, ltb-true, ltb-false, All-nil, All-cons, All-head, All-tail, All-permutation, Global, Each, drop_all, drop_more, take_more}
use Rattle.fb_types.specs.declared.run.Line.{Line}
use Rattle.std.proofs.Common.{filter, Vec}
use Rattle.std.proofs.lemmas.List.Elements.{All-from_recursion, recursion_from_All}
use Rattle.std.specs.List.Sorted.{IsPartitionedBy, IsPartitionPoint}
use Rattle.std.proofs.lemmas.List.Sorted.{IsPartitionedBy-ltb, IsPermutation-refl, IsPermutation-trans, IsPermutation-append, IsPermutation-append_left, IsPermutation-append_right, IsPermutation-append_comm}
use Rattle.fb_types.proofs.lemmas.lists.EachLaws.{each_map, each_append}
use Rattle.fb_trace.specs.Fronts.{IsEmpty, early, joint, late}
use Rattle.fb_trace.specs.Merging.{Lists, tick_of, Rises, AreRising, flat}
use Rattle.fb_window.specs.Settling.{IsMerged}
use Rattle.fb_sim.specs.MergedText.{AreCut, AreDivided, IsWoven, until}
use Rattle.fb_sim.specs.declared.rounds.merge_text.Cut.{Cut}
use Rattle.fb_trace.proofs.lemmas.order.Sorting.{filter_nothing, filter_joined, rises_append, tie, tie_less, tie_more}
use Rattle.fb_trace.proofs.lemmas.order.EarlyLines.{IsTaken, none_early, one_early, one_late}
use Rattle.fb_trace.proofs.lemmas.order.StableSort.{merged}

each_left : (P : Line → Type 0) (xs ys : List Line) → Each P (xs ++ ys) → Each P xs
each_left P [] ys h = tt
each_left P (x ∷ xs) ys h = (h.0, each_left P xs ys h.1)

each_right : (P : Line → Type 0) (xs ys : List Line) → Each P (xs ++ ys) → Each P ys
each_right P [] ys h = h
each_right P (x ∷ xs) ys h = each_right P xs ys h.1

-- ---- Tick by tick

pub begin_all : (xss : List (List Line)) → IsTaken xss [] xss
begin_all xss = record {
  whole = IsPermutation-refl (joint xss);
  order = λ up. record { up = up; risen = tt; following = tt; stable = λ x. refl };
}

nothing : (xss : List (List Line)) → Each IsEmpty xss → joint xss ≡ []
nothing [] h = refl
nothing ([] ∷ rest) h = nothing rest h.1
nothing ((x ∷ xs) ∷ rest) h = absurd h.0

-- all lines are taken
pub all_woven : (xss : List (List Line)) (all : List Line) (left : List (List Line)) → IsTaken xss all left → Each IsEmpty left → IsWoven xss all
all_woven xss all left it none = record {
  whole = subst (IsPermutation (joint xss)) same it.whole;
  rises = λ up. (it.order up).risen;
  stable = λ up x.
      subst (λ z. filter (tie tick_of x) z ≡ filter (tie tick_of x) (joint xss)) same ((it.order up).stable x);
}
  where
    same : all ++ joint left ≡ all
    same = ap (λ z. all ++ z) (nothing left none) ∙ append-nil all

all_rise : (vs : Lists) → AreRising vs → Each (Rises tick_of) (map (λ v. v.items) vs)
all_rise vs h = rise_on vs (λ r w e. (h r w e).rise)
  where
    rise_on : (us : Lists) → ((r : ℕ) (w : Vec Line Global) → slice_get us r ≡ Some w → Rises tick_of w.items) → Each (Rises tick_of) (map (λ v. v.items) us)
    rise_on [] g = tt
    rise_on (u ∷ us) g = (g 0 u refl, rise_on us (λ r w e. g (suc r) w e))

flat_joint : (vs : Lists) → flat vs ≡ joint (map (λ v. v.items) vs)
flat_joint [] = refl
flat_joint (v ∷ vs) = ap (λ z. v.items ++ z) (flat_joint vs)

-- the lines of the lists of all resources are merged
pub woven_merged : (vs : Lists) (all : List Line) → IsWoven (map (λ v. v.items) vs) all → IsMerged vs all
woven_merged vs all it = record {
  merged = λ are.
      let up = all_rise vs are in
      merged vs all (it.rises up) (λ x. it.stable up x ∙ ap (filter (tie tick_of x)) (sym (flat_joint vs))) moved are;
  moved = moved;
}
  where
    moved : IsPermutation (flat vs) all
    moved = subst (λ z. IsPermutation z all) (sym (flat_joint vs)) it.whole

-- ---- What holds of all lines of slices

pub each_of_all : (P : Line → Type 0) (qs : List (Bor (List Line))) → All (λ q. All P q.now) qs → Each P (joint (map (λ q. q.now) qs))
each_of_all P [] h = tt
each_of_all P (q ∷ qs) h =
    each_append P q.now (joint (map (λ (z : Bor (List Line)). z.now) qs)) (recursion_from_All P q.now (All-head (λ (z : Bor (List Line)). All P z.now) q qs h))
    (each_of_all P qs (All-tail (λ (z : Bor (List Line)). All P z.now) q qs h))

pub all_of_each : (P : Line → Type 0) (qs : List (Bor (List Line))) → Each P (joint (map (λ q. q.now) qs)) → All (λ q. All P q.now) qs
all_of_each P [] h = All-nil (λ (z : Bor (List Line)). All P z.now)
all_of_each P (q ∷ qs) h =
    All-cons (λ (z : Bor (List Line)). All P z.now) q qs (All-from_recursion P q.now (each_left P q.now (joint (map (λ (z : Bor (List Line)). z.now) qs)) h))
    (all_of_each P qs (each_right P q.now (joint (map (λ (z : Bor (List Line)). z.now) qs)) h))

-- ---- What a search finds

low : (t n : ℕ) (xs : List Line) → ((k : ℕ) (d : Line) → k < n → nat_lt (get_or xs k d).key.tick t ≡ true) → Each (λ x. tick_of x < t) (take n xs)
low t zero [] h = tt
low t zero (x ∷ xs) h = tt
low t (suc n) [] h = tt
low t (suc n) (x ∷ xs) h = (ltb-true x.key.tick t (h 0 x (omega arith)), low t n xs (λ k d b. h (suc k) d (omega arith)))

all_high : (t : ℕ) (xs : List Line) → ((k : ℕ) (d : Line) → k < length xs → nat_lt (get_or xs k d).key.tick t ≡ false) → Each (λ x. t ≤ tick_of x) xs
all_high t [] h = tt
all_high t (x ∷ xs) h = (ltb-false x.key.tick t (h 0 x (omega arith)), all_high t xs (λ k d b. h (suc k) d (omega arith)))

high : (t n : ℕ) (xs : List Line) → ((k : ℕ) (d : Line) → n ≤ k → k < length xs → nat_lt (get_or xs k d).key.tick t ≡ false) → Each (λ x. t ≤ tick_of x) (drop n xs)
high t zero [] h = tt
high t zero (x ∷ xs) h = all_high t (x ∷ xs) (λ k d b. h k d (omega arith) b)
high t (suc n) [] h = tt
high t (suc n) (x ∷ xs) h = high t n xs (λ k d a b. h (suc k) d (omega arith) (omega arith))

-- what is before an index does not come after what is from it on
rises_apart : (xs : List Line) → Rises tick_of xs → (j k : ℕ) (d : Line) → j ≤ k → k < length xs → tick_of (get_or xs j d) ≤ tick_of (get_or xs k d)
rises_apart [] up j k d b l = absurd (omega arith)
rises_apart (z ∷ zs) up zero zero d b l = omega arith
rises_apart (z ∷ zs) up zero (suc k) d b l = each_at zs k up.0 (omega arith)
  where
    each_at : (ys : List Line) (n : ℕ) → Each (λ u. tick_of z ≤ tick_of u) ys → n < length ys → tick_of z ≤ tick_of (get_or ys n d)
    each_at [] n h g = absurd (omega arith)
    each_at (u ∷ us) zero h g = h.0
    each_at (u ∷ us) (suc n) h g = each_at us n h.1 (omega arith)
rises_apart (z ∷ zs) up (suc j) zero d b l = absurd (omega arith)
rises_apart (z ∷ zs) up (suc j) (suc k) d b l = rises_apart zs up.1 j k d (omega arith) (omega arith)

pub parted : (tick : ℕ) (xs : List Line) → Rises tick_of xs → IsPartitionedBy (λ x. nat_lt x.key.tick tick) xs
parted tick xs up = IsPartitionedBy-ltb tick_of xs tick (λ i j d l b. rises_apart xs up i j d (omega arith) b)

module _ (t n : ℕ) (xs : List Line) (point : IsPartitionPoint (λ x. nat_lt x.key.tick t ≡ true) (λ x. nat_lt x.key.tick t ≡ false) xs n) where
  pub point_before : Each (λ x. tick_of x < t) (take n xs)
  point_before = low t n xs (λ k d b. point.0 k d (omega arith) b)

  pub point_from : Each (λ x. t ≤ tick_of x) (drop n xs)
  point_from = high t n xs (λ k d a b. point.1 k d a b)

-- ---- Lists in two parts

module _ (p : Cut) where
  at_least : (n : ℕ) → (p.tick ≤ until p n) × (until p n ≤ p.tick + 1)
  at_least n =
      ⊎_elim
      (λ (l : n < p.list). let a : until p n ≡ p.tick + 1 = cond-true (nat_lt n p.list) ((p.tick + 1)) p.tick (lt-ltb n p.list l) in (omega (arith, a), omega (arith, a)))
      (λ (g : p.list ≤ n). let a : until p n ≡ p.tick = cond-false (nat_lt n p.list) ((p.tick + 1)) p.tick (le-ltb n p.list g) in (omega (arith, a), omega (arith, a)))
      (cases_lt n p.list)

  -- later lists are cut no later
  falls : (n : ℕ) → until p (suc n) ≤ until p n
  falls n =
      ⊎_elim
      (λ (l : suc n < p.list).
      let a : until p (suc n) ≡ p.tick + 1 = cond-true (nat_lt (suc n) p.list) ((p.tick + 1)) p.tick (lt-ltb (suc n) p.list l) in
      let b : until p n ≡ p.tick + 1 = cond-true (nat_lt n p.list) ((p.tick + 1)) p.tick (lt-ltb n p.list (omega arith)) in
      omega (arith, a, b))
      (λ (g : p.list ≤ suc n).
      let a : until p (suc n) ≡ p.tick = cond-false (nat_lt (suc n) p.list) ((p.tick + 1)) p.tick (le-ltb (suc n) p.list g) in
      let b : p.tick ≤ until p n = (at_least n).0 in
      omega (arith, a, b))
      (cases_lt (suc n) p.list)

  -- the ticks of parts rise where those of the lists do, and are apart
  pub record AreParts (firsts lasts : List (List Line)) : Type 0 where
    pub firsts_rise : Each (Rises tick_of) firsts
    pub lasts_rise : Each (Rises tick_of) lasts
    pub low : Each (λ x. tick_of x ≤ p.tick) (joint firsts)
    pub high : Each (λ x. p.tick ≤ tick_of x) (joint lasts)

  rises_left : (xs ys : List Line) → Rises tick_of (xs ++ ys) → Rises tick_of xs
  rises_left [] ys h = tt
  rises_left (x ∷ xs) ys h = (each_left (λ y. tick_of x ≤ tick_of y) xs ys h.0, rises_left xs ys h.1)

  rises_right : (xs ys : List Line) → Rises tick_of (xs ++ ys) → Rises tick_of ys
  rises_right [] ys h = h
  rises_right (x ∷ xs) ys h = rises_right xs ys h.1

  are_parts : (n : ℕ) (lists firsts lasts : List (List Line)) → AreCut p n lists firsts lasts → Each (Rises tick_of) lists → AreParts firsts lasts
  are_parts n [] [] [] cut up = record { firsts_rise = tt; lasts_rise = tt; low = tt; high = tt }
  are_parts n [] [] (bs ∷ lasts) cut up = absurd cut
  are_parts n [] (ps ∷ firsts) lasts cut up = absurd cut
  are_parts n (xs ∷ lists) [] lasts cut up = absurd cut
  are_parts n (xs ∷ lists) (ps ∷ firsts) [] cut up = absurd cut
  are_parts n (xs ∷ lists) (ps ∷ firsts) (bs ∷ lasts) cut up =
      let rest = are_parts (suc n) lists firsts lasts cut.2 up.1 in
      let whole : Rises tick_of (ps ++ bs) = subst (Rises tick_of) cut.0 up.0 in
      let at = cut.1 up.0 in
      let bound = at_least n in
      record {
        firsts_rise = (rises_left ps bs whole, rest.firsts_rise);
        lasts_rise = (rises_right ps bs whole, rest.lasts_rise);
        low = each_append (λ x. tick_of x ≤ p.tick) ps (joint firsts)
            (each_map (λ x. tick_of x < until p n) (λ x. tick_of x ≤ p.tick) ps (λ x (l : tick_of x < until p n). let w : tick_of x ≤ p.tick = omega (arith, bound.1) in w) at.0) rest.low;
        high = each_append (λ x. p.tick ≤ tick_of x) bs (joint lasts)
            (each_map (λ x. until p n ≤ tick_of x) (λ x. p.tick ≤ tick_of x) bs (λ x (l : until p n ≤ tick_of x). let w : p.tick ≤ tick_of x = omega (arith, bound.0) in w) at.1) rest.high;
      }

  -- the first parts and the last ones are all
  halved : (n : ℕ) (lists firsts lasts : List (List Line)) → AreCut p n lists firsts lasts → IsPermutation (joint lists) (joint firsts ++ joint lasts)
  halved n [] [] [] cut = IsPermutation-refl []
  halved n [] [] (bs ∷ lasts) cut = absurd cut
  halved n [] (ps ∷ firsts) lasts cut = absurd cut
  halved n (xs ∷ lists) [] lasts cut = absurd cut
  halved n (xs ∷ lists) (ps ∷ firsts) [] cut = absurd cut
  halved n (xs ∷ lists) (ps ∷ firsts) (bs ∷ lasts) cut =
      let ff = joint firsts in
      let ll = joint lasts in
      let one : IsPermutation (ps ++ (bs ++ joint lists)) (ps ++ (bs ++ (ff ++ ll))) =
      IsPermutation-append_right ps (bs ++ joint lists) (bs ++ (ff ++ ll)) (IsPermutation-append_right bs (joint lists) (ff ++ ll) (halved (suc n) lists firsts lasts cut.2)) in
      let two : IsPermutation (ps ++ ((bs ++ ff) ++ ll)) (ps ++ ((ff ++ bs) ++ ll)) =
      IsPermutation-append_right ps ((bs ++ ff) ++ ll) ((ff ++ bs) ++ ll) (IsPermutation-append_left ll (bs ++ ff) (ff ++ bs) (IsPermutation-append_comm bs ff)) in
      let from : ps ++ (bs ++ joint lists) ≡ xs ++ joint lists = sym (append_assoc ps bs (joint lists)) ∙ ap (λ z. z ++ joint lists) (sym cut.0) in
      let mid : ps ++ (bs ++ (ff ++ ll)) ≡ ps ++ ((bs ++ ff) ++ ll) = ap (λ z. ps ++ z) (sym (append_assoc bs ff ll)) in
      let to : ps ++ ((ff ++ bs) ++ ll) ≡ (ps ++ ff) ++ (bs ++ ll) = ap (λ z. ps ++ z) (append_assoc ff bs ll) ∙ sym (append_assoc ps ff (bs ++ ll)) in
      IsPermutation-trans _ _ _ (subst (λ z. IsPermutation z (ps ++ (bs ++ (ff ++ ll)))) from one)
      (subst (λ z. IsPermutation (ps ++ (bs ++ (ff ++ ll))) z) to (subst (λ z. IsPermutation z (ps ++ ((ff ++ bs) ++ ll))) (sym mid) two))

  module _ (x : Line) where
    abbrev same : Line → Bool
    same = tie tick_of x

    no_early : (n : ℕ) (ps : List Line) → until p n ≤ tick_of x → Each (λ y. tick_of y < until p n) ps → filter same ps ≡ []
    no_early n ps b h = filter_nothing same ps (each_map (λ y. tick_of y < until p n) (λ y. same y ≡ false) ps (λ y (l : tick_of y < until p n). tie_more tick_of x y (let w : tick_of y < tick_of x = omega arith in w)) h)

    no_late : (n : ℕ) (bs : List Line) → tick_of x < until p n → Each (λ y. until p n ≤ tick_of y) bs → filter same bs ≡ []
    no_late n bs b h = filter_nothing same bs (each_map (λ y. until p n ≤ tick_of y) (λ y. same y ≡ false) bs (λ y (l : until p n ≤ tick_of y). tie_less tick_of x y (let w : tick_of x < tick_of y = omega arith in w)) h)

    -- from a list on, no first part has a line of this tick
    none_first : (n : ℕ) (lists firsts lasts : List (List Line)) → AreCut p n lists firsts lasts → Each (Rises tick_of) lists → until p n ≤ tick_of x → filter same (joint firsts) ≡ []
    none_first n [] [] [] cut up b = refl
    none_first n [] [] (bs ∷ lasts) cut up b = absurd cut
    none_first n [] (ps ∷ firsts) lasts cut up b = absurd cut
    none_first n (xs ∷ lists) [] lasts cut up b = absurd cut
    none_first n (xs ∷ lists) (ps ∷ firsts) [] cut up b = absurd cut
    none_first n (xs ∷ lists) (ps ∷ firsts) (bs ∷ lasts) cut up b =
        let next : until p (suc n) ≤ tick_of x = let f = falls n in omega (arith, f) in
        filter_joined same ps (joint firsts) ∙ ap₂ ◌++◌ (no_early n ps b (cut.1 up.0).0) (none_first (suc n) lists firsts lasts cut.2 up.1 next)

    only_last : (n : ℕ) (lists firsts lasts : List (List Line)) → AreCut p n lists firsts lasts → Each (Rises tick_of) lists → until p n ≤ tick_of x → filter same (joint lists) ≡ filter same (joint lasts)
    only_last n [] [] [] cut up b = refl
    only_last n [] [] (bs ∷ lasts) cut up b = absurd cut
    only_last n [] (ps ∷ firsts) lasts cut up b = absurd cut
    only_last n (xs ∷ lists) [] lasts cut up b = absurd cut
    only_last n (xs ∷ lists) (ps ∷ firsts) [] cut up b = absurd cut
    only_last n (xs ∷ lists) (ps ∷ firsts) (bs ∷ lasts) cut up b =
        let next : until p (suc n) ≤ tick_of x = let f = falls n in omega (arith, f) in
        let here : filter same xs ≡ filter same bs = ap (filter same) cut.0 ∙ filter_joined same ps bs ∙ ap (λ z. z ++ filter same bs) (no_early n ps b (cut.1 up.0).0) in
        filter_joined same xs (joint lists) ∙ ap₂ ◌++◌ here (only_last (suc n) lists firsts lasts cut.2 up.1 next) ∙ sym (filter_joined same bs (joint lasts))

    -- the lines of a tick in the first parts, and then those in the last ones
    apart : (n : ℕ) (lists firsts lasts : List (List Line)) → AreCut p n lists firsts lasts → Each (Rises tick_of) lists → filter same (joint lists) ≡ filter same (joint firsts) ++ filter same (joint lasts)
    apart n [] [] [] cut up = refl
    apart n [] [] (bs ∷ lasts) cut up = absurd cut
    apart n [] (ps ∷ firsts) lasts cut up = absurd cut
    apart n (xs ∷ lists) [] lasts cut up = absurd cut
    apart n (xs ∷ lists) (ps ∷ firsts) [] cut up = absurd cut
    apart n (xs ∷ lists) (ps ∷ firsts) (bs ∷ lasts) cut up =
        ⊎_elim
        (λ (l : tick_of x < until p n).
        let none : filter same bs ≡ [] = no_late n bs l (cut.1 up.0).1 in
        let here : filter same xs ≡ filter same ps = ap (filter same) cut.0 ∙ filter_joined same ps bs ∙ ap (λ z. filter same ps ++ z) none ∙ append-nil (filter same ps) in
        filter_joined same xs (joint lists) ∙ ap₂ ◌++◌ here (apart (suc n) lists firsts lasts cut.2 up.1)
        ∙ sym (append_assoc (filter same ps) (filter same (joint firsts)) (filter same (joint lasts)))
        ∙ ap₂ ◌++◌ (sym (filter_joined same ps (joint firsts))) (sym (filter_joined same bs (joint lasts) ∙ ap (λ z. z ++ filter same (joint lasts)) none)))
        (λ (b : until p n ≤ tick_of x).
        only_last n (xs ∷ lists) (ps ∷ firsts) (bs ∷ lasts) cut up b
        ∙ ap (λ z. z ++ filter same (joint (bs ∷ lasts))) (sym (none_first n (xs ∷ lists) (ps ∷ firsts) (bs ∷ lasts) cut up b)))
        (cases_lt (tick_of x) (until p n))

moved_each : (P : Line → Type 0) (xs ys : List Line) → IsPermutation xs ys → Each P xs → Each P ys
moved_each P xs ys moved h = recursion_from_All P ys (All-permutation P xs ys moved (All-from_recursion P xs h))

-- What the first parts are merged to, and then what the last ones are.
pub woven_joined : (lists firsts lasts : List (List Line)) → AreDivided lists firsts lasts → (ps bs : List Line) → IsWoven firsts ps → IsWoven lasts bs → IsWoven lists (ps ++ bs)
woven_joined lists firsts lasts cut ps bs a b = record {
  whole = IsPermutation-trans _ _ _ (halved cut.0 0 lists firsts lasts cut.1) (IsPermutation-append (joint firsts) ps (joint lasts) bs a.whole b.whole);
  rises = λ up.
      let it = are_parts cut.0 0 lists firsts lasts cut.1 up in
      let low = moved_each (λ x. tick_of x ≤ cut.0.tick) (joint firsts) ps a.whole it.low in
      let high = moved_each (λ x. cut.0.tick ≤ tick_of x) (joint lasts) bs b.whole it.high in
      rises_append tick_of ps bs (a.rises it.firsts_rise) (b.rises it.lasts_rise)
      (each_map (λ x. tick_of x ≤ cut.0.tick) (λ x. Each (λ y. tick_of x ≤ tick_of y) bs) ps
      (λ x (l : tick_of x ≤ cut.0.tick). each_map (λ y. cut.0.tick ≤ tick_of y) (λ y. tick_of x ≤ tick_of y) bs (λ y (m : cut.0.tick ≤ tick_of y). let w : tick_of x ≤ tick_of y = omega arith in w) high) low);
  stable = λ up x.
      let it = are_parts cut.0 0 lists firsts lasts cut.1 up in
      filter_joined (tie tick_of x) ps bs ∙ ap₂ ◌++◌ (a.stable it.firsts_rise x) (b.stable it.lasts_rise x) ∙ sym (apart cut.0 x 0 lists firsts lasts cut.1 up);
}

-- what holds of all lines holds of those of the parts
pub divided_each : (P : Line → Type 0) (lists firsts lasts : List (List Line)) → AreDivided lists firsts lasts → Each P (joint lists) → Each P (joint firsts) × Each P (joint lasts)
divided_each P lists firsts lasts cut h =
    let all = moved_each P (joint lists) (joint firsts ++ joint lasts) (halved cut.0 0 lists firsts lasts cut.1) h in
    (each_left P (joint firsts) (joint lasts) all, each_right P (joint firsts) (joint lasts) all)

-- one list more is cut
pub cut_more : (p : Cut) (n : ℕ) (lists firsts lasts : List (List Line)) (xs ps bs : List Line) → AreCut p n lists firsts lasts
    → xs ≡ ps ++ bs → (Rises tick_of xs → Each (λ x. tick_of x < until p (n + length lists)) ps × Each (λ x. until p (n + length lists) ≤ tick_of x) bs)
    → AreCut p n (lists ++ xs ∷ []) (firsts ++ ps ∷ []) (lasts ++ bs ∷ [])
cut_more p n [] [] [] xs ps bs cut parts at =
    let e : n + 0 ≡ n = omega arith in
    (parts, subst (λ (k : ℕ). Rises tick_of xs → Each (λ x. tick_of x < until p k) ps × Each (λ x. until p k ≤ tick_of x) bs) e at, tt)
cut_more p n [] [] (ds ∷ lasts) xs ps bs cut parts at = absurd cut
cut_more p n [] (cs ∷ firsts) lasts xs ps bs cut parts at = absurd cut
cut_more p n (ys ∷ lists) [] lasts xs ps bs cut parts at = absurd cut
cut_more p n (ys ∷ lists) (cs ∷ firsts) [] xs ps bs cut parts at = absurd cut
cut_more p n (ys ∷ lists) (cs ∷ firsts) (ds ∷ lasts) xs ps bs cut parts at =
    let e : n + suc (length lists) ≡ suc n + length lists = omega arith in (
      cut.0,
      cut.1,
      cut_more p (suc n) lists firsts lasts xs ps bs cut.2 parts
          (subst (λ (k : ℕ). Rises tick_of xs → Each (λ x. tick_of x < until p k) ps × Each (λ x. until p k ≤ tick_of x) bs) e at),
    )

-- as many lists are cut as there are first parts
pub cut_counted : {X : Type 0} (p : Cut) (n : ℕ) (lists firsts lasts : List (List Line)) (xs : List X) → AreCut p n lists firsts lasts → length xs ≡ length firsts → length xs ≡ 0 + length lists
cut_counted p n lists firsts lasts xs cut e = let w : length xs ≡ length lists = e ∙ count n lists firsts lasts cut in omega (arith, w)
  where
    count : (k : ℕ) (xss ass bss : List (List Line)) → AreCut p k xss ass bss → length ass ≡ length xss
    count k [] [] [] h = refl
    count k [] [] (bs ∷ bss) h = absurd h
    count k [] (ps ∷ ass) bss h = absurd h
    count k (xs ∷ xss) [] bss h = absurd h
    count k (xs ∷ xss) (ps ∷ ass) [] h = absurd h
    count k (xs ∷ xss) (ps ∷ ass) (bs ∷ bss) h = ap suc (count (suc k) xss ass bss h.2)

-- what holds of all lines of lists holds of those of their slices
pub slices_each : (P : Line → Type 0) (qs : List (Bor (List Line))) (vs : Lists) → map (λ q. q.now) qs ≡ map (λ v. v.items) vs → All (λ v. All P v.items) vs → All (λ q. All P q.now) qs
slices_each P [] vs e h = All-nil (λ (q : Bor (List Line)). All P q.now)
slices_each P (q ∷ qs) [] e h = absurd (let g : q.now ∷ map (λ (z : Bor (List Line)). z.now) qs ≡ [] = e in cc)
slices_each P (q ∷ qs) (v ∷ vs) e h =
    let g : q.now ∷ map (λ (z : Bor (List Line)). z.now) qs ≡ v.items ∷ map (λ (z : Vec Line Global). z.items) vs = e in
    let head : q.now ≡ v.items = cc in
    let tail : map (λ (z : Bor (List Line)). z.now) qs ≡ map (λ (z : Vec Line Global). z.items) vs = cc in
    All-cons (λ (z : Bor (List Line)). All P z.now) q qs (subst (All P) (sym head) (All-head (λ (z : Vec Line Global). All P z.items) v vs h))
    (slices_each P qs vs tail (All-tail (λ (z : Vec Line Global). All P z.items) v vs h))

-- and those of parts
pub parts_each : (P : Line → Type 0) (qs ps bs : List (Bor (List Line))) → AreDivided (map (λ q. q.now) qs) (map (λ q. q.now) ps) (map (λ q. q.now) bs) → All (λ q. All P q.now) qs
    → All (λ q. All P q.now) ps × All (λ q. All P q.now) bs
parts_each P qs ps bs cut h =
    let both = divided_each P (map (λ q. q.now) qs) (map (λ q. q.now) ps) (map (λ q. q.now) bs) cut (each_of_all P qs h) in
    (all_of_each P ps both.0, all_of_each P bs both.1)

-- ---- Lines counted up to a tick

-- the lines from an index on
pub rest_at : (xs : List Line) (n : ℕ) (x : Line) → n < length xs → x ≡ get_or xs n x → drop n xs ≡ x ∷ drop (n + 1) xs
rest_at xs n x b is = drop_more xs n x b ∙ ap (λ z. z ∷ drop (n + 1) xs) (sym is)

module _ (t n : ℕ) (xs : List Line) (before : take n xs ++ early t (drop n xs) ≡ early t xs) (after : late t (drop n xs) ≡ late t xs) where
  -- the line at the index is past the tick
  module _ (x : Line) (b : n < length xs) (is : x ≡ get_or xs n x) where
    pub past_early : t < tick_of x → take n xs ≡ early t xs
    past_early l =
        sym (append-nil (take n xs)) ∙ ap (λ z. take n xs ++ z) (sym (ap (early t) (rest_at xs n x b is) ∙ (none_early t (x ∷ drop (n + 1) xs) l).0)) ∙ before

    pub past_late : t < tick_of x → drop n xs ≡ late t xs
    past_late l = rest_at xs n x b is ∙ sym (none_early t (x ∷ drop (n + 1) xs) l).1 ∙ sym (ap (late t) (rest_at xs n x b is)) ∙ after

    -- the line at the index is not past it
    pub more_early : tick_of x ≤ t → take (n + 1) xs ++ early t (drop (n + 1) xs) ≡ early t xs
    more_early l =
        ap (λ z. z ++ early t (drop (n + 1) xs)) (take_more xs n x b ∙ ap (λ z. take n xs ++ z ∷ []) (sym is))
        ∙ append_assoc (take n xs) (x ∷ []) (early t (drop (n + 1) xs))
        ∙ ap (λ z. take n xs ++ z) (sym (ap (early t) (rest_at xs n x b is) ∙ one_early t (x ∷ drop (n + 1) xs) (tick_of x) refl l x (drop (n + 1) xs) refl))
        ∙ before

    pub more_late : tick_of x ≤ t → late t (drop (n + 1) xs) ≡ late t xs
    more_late l = sym (ap (late t) (rest_at xs n x b is) ∙ one_late t (x ∷ drop (n + 1) xs) (tick_of x) refl l x (drop (n + 1) xs) refl) ∙ after

  -- there is no line more
  module _ (end : length xs ≤ n) where
    pub end_early : take n xs ≡ early t xs
    end_early = sym (append-nil (take n xs)) ∙ ap (λ z. take n xs ++ early t z) (sym (drop_all n xs end)) ∙ before

    pub end_late : drop n xs ≡ late t xs
    end_late = drop_all n xs end ∙ sym (ap (late t) (drop_all n xs end)) ∙ after

-- what holds of all lines of slices holds of those that were taken off them last
pub taken_each : (P : Line → Type 0) (qs ps : List (Bor (List Line))) (first : List Line) (left : List (List Line)) → IsTaken (map (λ q. q.now) qs) (first ++ joint (map (λ q. q.now) ps)) left
    → All (λ q. All P q.now) qs → All (λ q. All P q.now) ps
taken_each P qs ps first left it h =
    let last = joint (map (λ (q : Bor (List Line)). q.now) ps) in
    let all = moved_each P (joint (map (λ (q : Bor (List Line)). q.now) qs)) ((first ++ last) ++ joint left) it.whole (each_of_all P qs h) in
    all_of_each P ps (each_right P first last (each_left P (first ++ last) (joint left) all))

-- ---- Whether a line is before a cut

most_less : (t n : ℕ) → nat_le t n ≡ nat_lt t (n + 1)
most_less t n =
    ⊎_elim (λ (l : t < n + 1). le-leb t n (omega (arith, l)) ∙ sym (lt-ltb t (n + 1) l)) (λ (l : n + 1 ≤ t). lt-leb t n (omega (arith, l)) ∙ sym (le-ltb t (n + 1) l)) (cases_lt t (n + 1))

-- in a list before that of the cut
pub cut_after : (p : Cut) (n t : ℕ) → n < p.list → nat_le t p.tick ≡ nat_lt t (until p n)
cut_after p n t b = most_less t p.tick ∙ ap (nat_lt t) (sym (cond-true (nat_lt n p.list) (p.tick + 1) p.tick (lt-ltb n p.list b)))

-- in another one
pub cut_at : (p : Cut) (n t : ℕ) → p.list ≤ n → nat_lt t p.tick ≡ nat_lt t (until p n)
cut_at p n t b = ap (nat_lt t) (sym (cond-false (nat_lt n p.list) (p.tick + 1) p.tick (le-ltb n p.list b)))
