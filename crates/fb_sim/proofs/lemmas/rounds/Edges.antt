-- Lines up to an edge are what a list in trace order begins with.
use Rattle.fb_types.proofs.Common.{◌≡◌, ℕ, ◌+◌, ◌<◌, ◌≤◌, ◌⊎◌, Bool, true, false, List, [], ◌∷◌, ◌++◌, refl, sym, ap, ◌∙◌, subst, inl, inr, ⊎_elim, arith, append-nil, if◌then◌else◌, ◌==◌, ◌&&◌, ◌||◌, nat_lt, cases_lt, cases_eq, cond-true, cond-false, lt-ltb, le-ltb, eq-eqb, ne_eqb, eqb-true, filter, Machine, Each, IsMerge, lines_at, lines_before}
use Rattle.fb_types.specs.Merges.{NotAfter, IsInOrder}
use Rattle.fb_types.proofs.lemmas.lists.EachLaws.{each_map}
use Rattle.fb_laws.proofs.lemmas.schedules.Lines.{filter_joined, filter_all, filter_nothing, merge_one}
use Rattle.fb_laws.specs.Finality.{Edge, until}

-- ---- How far an edge goes

either_true : (a b : Bool) → b ≡ true → (a || b) ≡ true
either_true true b e = refl
either_true false b e = e

first_true : (a b : Bool) → a ≡ true → (a || b) ≡ true
first_true true b e = refl
first_true false b e = absurd cc

both_false : (a b : Bool) → a ≡ false → b ≡ false → (a || b) ≡ false
both_false true b e f = absurd cc
both_false false b e f = f

least : (b : Bool) (t : ℕ) → t ≤ (if b then t + 1 else t)
least true t = omega arith
least false t = omega arith

most : (b : Bool) (t : ℕ) → (if b then t + 1 else t) ≤ t + 1
most true t = omega arith
most false t = omega arith

-- whether the lines at the edge's tick belong to what is before it
abbrev takes : Bool → (resource r : ℕ) → Bool
takes w s r = (w && (r == s)) || nat_lt r s

falls : (w : Bool) (t s q r : ℕ) → q ≤ r → (if takes w s r then t + 1 else t) ≤ (if takes w s q then t + 1 else t)
falls w t s q r b = ⊎_elim (λ c. low q (omega arith)) (λ c. at w c) (cases_lt r s)
  where
    high : ℕ
    high = if takes w s r then t + 1 else t

    low : (p : ℕ) → p < s → (if takes w s r then t + 1 else t) ≤ (if takes w s p then t + 1 else t)
    low p c =
        let e : (if takes w s p then t + 1 else t) ≡ t + 1 = cond-true (takes w s p) (t + 1) t (either_true (w && (p == s)) (nat_lt p s) (lt-ltb p s c)) in
        let m = most (takes w s r) t in
        omega arith

    none : (v : Bool) → (v && (r == s)) ≡ false → s ≤ r → (if takes v s r then t + 1 else t) ≤ (if takes v s q then t + 1 else t)
    none v n c =
        let e : (if takes v s r then t + 1 else t) ≡ t = cond-false (takes v s r) (t + 1) t (both_false (v && (r == s)) (nat_lt r s) n (le-ltb r s c)) in
        let l = least (takes v s q) t in
        omega arith

    at : (v : Bool) → s ≤ r → (if takes v s r then t + 1 else t) ≤ (if takes v s q then t + 1 else t)
    at false c = none false refl c
    at true c =
        ⊎_elim
        (λ (e : r ≡ s).
        let m = most (takes true s r) t in
        ⊎_elim
        (λ (d : q < s). let f : (if takes true s q then t + 1 else t) ≡ t + 1 = cond-true (takes true s q) (t + 1) t (either_true (q == s) (nat_lt q s) (lt-ltb q s d)) in omega arith)
        (λ (d : s ≤ q). let f : (if takes true s q then t + 1 else t) ≡ t + 1 = cond-true (takes true s q) (t + 1) t (first_true (q == s) (nat_lt q s) (eq-eqb q s (omega arith))) in omega arith)
        (cases_lt q s))
        (λ (n : r ≡ s → ⊥). none true (ne_eqb r s n) c)
        (cases_eq r s)

each_filter : {A : Type 0} (P : A → Type 0) (p : A → Bool) (xs : List A) → Each P xs → Each (λ x. P x × (p x ≡ true)) (filter p xs)
each_filter P p [] h = tt
each_filter {A} P p (x ∷ xs) h = go (p x) refl (each_filter P p xs h.1)
  where
    go : (b : Bool) → p x ≡ b → Each (λ x. P x × (p x ≡ true)) (filter p xs) → Each (λ x. P x × (p x ≡ true)) (filter p (x ∷ xs))
    go true e rest = rw e ((h.0, e), rest)
    go false e rest = rw e rest

each_left : {A : Type 0} (P : A → Type 0) (xs ys : List A) → Each P (xs ++ ys) → Each P xs
each_left P [] ys h = tt
each_left P (x ∷ xs) ys h = (h.0, each_left P xs ys h.1)

module _ (M : Machine) where
  -- where all lines are below a tick, those below it or a later tick are all
  pub all_before : (t : ℕ) (xs : List M.Line) → Each (λ (x : M.Line). M.line_tick x < t) xs → lines_before M t xs ≡ xs
  all_before t xs h = filter_all (λ x. nat_lt (M.line_tick x) t) xs (each_map _ _ xs (λ x (b : M.line_tick x < t). lt-ltb (M.line_tick x) t b) h)

  pub before_later : (t u : ℕ) (xs : List M.Line) → t ≤ u → Each (λ (x : M.Line). M.line_tick x < t) xs → lines_before M u xs ≡ xs
  before_later t u xs b h = all_before u xs (each_map _ _ xs (λ x (c : M.line_tick x < t). omega arith) h)

  pub none_before : (xs : List M.Line) → lines_before M 0 xs ≡ []
  none_before xs = filter_nothing (λ x. nat_lt (M.line_tick x) 0) xs (all xs)
    where
      all : (ys : List M.Line) → Each (λ x. nat_lt (M.line_tick x) 0 ≡ false) ys
      all [] = tt
      all (y ∷ ys) = (le-ltb (M.line_tick y) 0 (omega arith), all ys)

  pub at_below : (t r : ℕ) (xs : List M.Line) → Each (λ (x : M.Line). M.line_tick x < t) xs → Each (λ (x : M.Line). M.line_tick x < t) (lines_at M r xs)
  at_below t r xs h = each_map _ _ (lines_at M r xs) (λ x h. h.0) (each_filter (λ (x : M.Line). M.line_tick x < t) (λ x. M.line_resource x == r) xs h)

  module _ (e : Edge) where
    abbrev In : M.Line → Type 0
    In x = M.line_tick x < until e (M.line_resource x)

    abbrev Out : M.Line → Type 0
    Out x = until e (M.line_resource x) ≤ M.line_tick x

    out_after : (x y : M.Line) → Out x → NotAfter M x y → Out y
    out_after x y o n =
        let h = most (takes e.within e.resource (M.line_resource y)) e.tick in
        let l = least (takes e.within e.resource (M.line_resource x)) e.tick in
        ⊎_elim
        (λ b. omega arith)
        (λ b. let d = b.0 in let f = falls e.within e.tick e.resource (M.line_resource x) (M.line_resource y) b.1 in omega arith)
        n

    record Split (xs : List M.Line) : Type 0 where
      pub front : List M.Line
      pub rest : List M.Line
      pub split : xs ≡ front ++ rest
      pub up_to : Each In front
      pub past : Each Out rest
      pub order : IsInOrder M front

    split_at : (xs : List M.Line) → IsInOrder M xs → Split xs
    split_at [] o = record { front = []; rest = []; split = refl; up_to = tt; past = tt; order = tt }
    split_at (x ∷ xs) o = go (split_at xs o.1) (cases_lt (M.line_tick x) (until e (M.line_resource x)))
      where
        go : Split xs → In x ⊎ Out x → Split (x ∷ xs)
        go s (inl u) = record {
          front = x ∷ s.front;
          rest = s.rest;
          split = ap (λ z. x ∷ z) s.split;
          up_to = (u, s.up_to);
          past = s.past;
          order = (each_left (NotAfter M x) s.front s.rest (subst (λ (z : List M.Line). Each (NotAfter M x) z) s.split o.0), s.order);
        }
        go s (inr p) = record {
          front = [];
          rest = x ∷ xs;
          split = refl;
          up_to = tt;
          past = (p, each_map _ _ xs (λ y n. out_after x y p n) o.0);
          order = tt;
        }

    -- the lines of a resource in front are those of the whole that come before
    front_at : (xs : List M.Line) (s : Split xs) (q : ℕ) → lines_at M q s.front ≡ lines_before M (until e q) (lines_at M q xs)
    front_at xs s q =
        let p = λ (x : M.Line). nat_lt (M.line_tick x) (until e q) in
        let here : Each (λ x. In x × ((M.line_resource x == q) ≡ true)) (lines_at M q s.front) = each_filter In (λ x. M.line_resource x == q) s.front s.up_to in
        let there : Each (λ x. Out x × ((M.line_resource x == q) ≡ true)) (lines_at M q s.rest) = each_filter Out (λ x. M.line_resource x == q) s.rest s.past in
        let a : lines_before M (until e q) (lines_at M q s.front) ≡ lines_at M q s.front = filter_all p (lines_at M q s.front) (each_map _ _ (lines_at M q s.front) (λ x h. low x h.0 (eqb-true (M.line_resource x) q h.1)) here) in
        let b : lines_before M (until e q) (lines_at M q s.rest) ≡ [] = filter_nothing p (lines_at M q s.rest) (each_map _ _ (lines_at M q s.rest) (λ x h. high x h.0 (eqb-true (M.line_resource x) q h.1)) there) in
        let c : lines_at M q xs ≡ lines_at M q s.front ++ lines_at M q s.rest = ap (λ z. lines_at M q z) s.split ∙ filter_joined (λ x. M.line_resource x == q) s.front s.rest in
        sym (ap (λ z. lines_before M (until e q) z) c ∙ filter_joined p (lines_at M q s.front) (lines_at M q s.rest) ∙ ap (λ z. z ++ lines_before M (until e q) (lines_at M q s.rest)) a ∙ ap (λ z. lines_at M q s.front ++ z) b ∙ append-nil (lines_at M q s.front))
      where
        low : (x : M.Line) → In x → M.line_resource x ≡ q → nat_lt (M.line_tick x) (until e q) ≡ true
        low x u d = lt-ltb (M.line_tick x) (until e q) (subst (λ (r : ℕ). M.line_tick x < until e r) d u)

        high : (x : M.Line) → Out x → M.line_resource x ≡ q → nat_lt (M.line_tick x) (until e q) ≡ false
        high x u d = le-ltb (M.line_tick x) (until e q) (subst (λ (r : ℕ). until e r ≤ M.line_tick x) d u)

    -- What is merged of the resources' lines up to the edge begins a list in order that has the same lines there.
    pub begins : (count : ℕ) (lists : ℕ → List M.Line) (ls xs : List M.Line) → IsInOrder M xs → Each (λ (x : M.Line). M.line_resource x < count) xs
        → ((q : ℕ) → q < count → lines_before M (until e q) (lists q) ≡ lines_before M (until e q) (lines_at M q xs))
        → IsMerge M count (λ q. lines_before M (until e q) (lists q)) ls → (rest : List M.Line) × (xs ≡ ls ++ rest)
    begins count lists ls xs o counted same m =
        let s = split_at xs o in
        let front : IsMerge M count (λ q. lines_before M (until e q) (lists q)) s.front = record {
          order = s.order;
          parts = λ q b. front_at xs s q ∙ sym (same q b);
          counted = each_left (λ (x : M.Line). M.line_resource x < count) s.front s.rest (subst (λ (z : List M.Line). Each (λ (x : M.Line). M.line_resource x < count) z) s.split counted);
        } in
        (s.rest, s.split ∙ ap (λ z. z ++ s.rest) (merge_one M count (λ q. lines_before M (until e q) (lists q)) s.front ls front m))
