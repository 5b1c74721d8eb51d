-- The lines of the simulation begin with the final lines of a core.
use Rattle.fb_types.proofs.Common.{◌≡◌, ℕ, zero, suc, ◌+◌, ◌<◌, ◌≤◌, ◌⊎◌, refl, sym, ap, ◌∙◌, subst, inl, inr, ⊎_elim, List, [], ◌∷◌, ◌++◌, Bool, true, false, Some, arith, append-nil, if◌then◌else◌, ◌==◌, nat_lt, cases_lt, cond-true, cond-false, lt-ltb, le-ltb, eqb-true, filter, Machine, Each, IsMerge, lines_at, lines_before, Core, floor, floor_of}
use Rattle.fb_types.specs.Merges.{NotAfter, IsInOrder}
use Rattle.fb_types.specs.Schedules.{IsFinal}
use Rattle.fb_types.proofs.lemmas.lists.EachLaws.{each_map}
use Rattle.fb_laws.proofs.lemmas.schedules.Lines.{filter_joined, filter_all, filter_nothing}

each_filter : {A : Type 0} (P : A → Type 0) (p : A → Bool) (xs : List A) → Each P xs → Each (λ x. P x × (p x ≡ true)) (filter p xs)
each_filter P p [] h = tt
each_filter {A} P p (x ∷ xs) h = go (p x) refl (each_filter P p xs h.1)
  where
    go : (b : Bool) → p x ≡ b → Each (λ x. P x × (p x ≡ true)) (filter p xs) → Each (λ x. P x × (p x ≡ true)) (filter p (x ∷ xs))
    go true e rest = rw e ((h.0, e), rest)
    go false e rest = rw e rest

each_left : {A : Type 0} (P : A → Type 0) (xs ys : List A) → Each P (xs ++ ys) → Each P xs
each_left P [] ys h = tt
each_left P (x ∷ xs) ys h = (h.0, each_left P xs ys h.1)

module _ (M : Machine) (t r : ℕ) where
  abbrev UpTo : M.Line → Type 0
  UpTo x = (M.line_tick x < t) ⊎ ((M.line_tick x ≡ t) × (M.line_resource x ≤ r))

  abbrev pub Past : M.Line → Type 0
  Past x = (t < M.line_tick x) ⊎ ((t ≡ M.line_tick x) × (r < M.line_resource x))

  up_to_or_past : (x : M.Line) → UpTo x ⊎ Past x
  up_to_or_past x =
      ⊎_elim (λ a. inl (inl a))
      (λ a. ⊎_elim (λ b. inr (inl b))
      (λ b. ⊎_elim (λ c. inr (inr (omega arith, c))) (λ c. inl (inr (omega arith, c))) (cases_lt r (M.line_resource x)))
      (cases_lt t (M.line_tick x)))
      (cases_lt (M.line_tick x) t)

  past_after : (x y : M.Line) → Past x → NotAfter M x y → Past y
  past_after x y p n =
      ⊎_elim
      (λ a. ⊎_elim (λ b. inl (omega arith)) (λ b. let e = b.0 in inl (omega arith)) n)
      (λ a. let d = a.0 in let f = a.1 in ⊎_elim (λ b. inl (omega arith)) (λ b. let e = b.0 in let g = b.1 in inr (omega arith, omega arith)) n)
      p

  record Split (xs : List M.Line) : Type 0 where
    pub front : List M.Line
    pub rest : List M.Line
    pub split : xs ≡ front ++ rest
    pub up_to : Each UpTo front
    pub past : Each Past rest
    pub order : IsInOrder M front

  split_at : (xs : List M.Line) → IsInOrder M xs → Split xs
  split_at [] o = record { front = []; rest = []; split = refl; up_to = tt; past = tt; order = tt }
  split_at (x ∷ xs) o = go (split_at xs o.1) (up_to_or_past x)
    where
      go : Split xs → UpTo x ⊎ Past x → Split (x ∷ xs)
      go s (inl u) = record {
        front = x ∷ s.front;
        rest = s.rest;
        split = ap (λ z. x ∷ z) s.split;
        up_to = (u, s.up_to);
        past = s.past;
        order = (each_left (NotAfter M x) s.front s.rest (subst (λ (z : List M.Line). Each (NotAfter M x) z) s.split o.0), s.order);
      }
      go s (inr p) = record {
        front = [];
        rest = x ∷ xs;
        split = refl;
        up_to = tt;
        past = (p, each_map _ _ xs (λ y n. past_after x y p n) o.0);
        order = tt;
      }

  -- how far the lines of a resource go
  abbrev pub until : ℕ → ℕ
  until s = if nat_lt r s then t else t + 1

  until_cases : (s : ℕ) → ((r < s) × (until s ≡ t)) ⊎ ((s ≤ r) × (until s ≡ t + 1))
  until_cases s =
      ⊎_elim (λ b. inl (b, cond-true (nat_lt r s) t (t + 1) (lt-ltb r s b))) (λ b. inr (b, cond-false (nat_lt r s) t (t + 1) (le-ltb r s b))) (cases_lt r s)

  -- the lines of a resource in front are those of the whole that come before
  front_at : (xs : List M.Line) (s : Split xs) (q : ℕ) → lines_at M q s.front ≡ lines_before M (until q) (lines_at M q xs)
  front_at xs s q =
      let p = λ (x : M.Line). nat_lt (M.line_tick x) (until q) in
      let here : Each (λ x. UpTo x × ((M.line_resource x == q) ≡ true)) (lines_at M q s.front) = each_filter UpTo (λ x. M.line_resource x == q) s.front s.up_to in
      let there : Each (λ x. Past x × ((M.line_resource x == q) ≡ true)) (lines_at M q s.rest) = each_filter Past (λ x. M.line_resource x == q) s.rest s.past in
      let a : lines_before M (until q) (lines_at M q s.front) ≡ lines_at M q s.front = filter_all p (lines_at M q s.front) (each_map _ _ (lines_at M q s.front) (λ x h. lt-ltb (M.line_tick x) (until q) (low x h.0 (eqb-true (M.line_resource x) q h.1))) here) in
      let b : lines_before M (until q) (lines_at M q s.rest) ≡ [] = filter_nothing p (lines_at M q s.rest) (each_map _ _ (lines_at M q s.rest) (λ x h. le-ltb (M.line_tick x) (until q) (high x h.0 (eqb-true (M.line_resource x) q h.1))) there) in
      let c : lines_at M q xs ≡ lines_at M q s.front ++ lines_at M q s.rest = ap (λ z. lines_at M q z) s.split ∙ filter_joined (λ x. M.line_resource x == q) s.front s.rest in
      sym (ap (λ z. lines_before M (until q) z) c ∙ filter_joined p (lines_at M q s.front) (lines_at M q s.rest) ∙ ap (λ z. z ++ lines_before M (until q) (lines_at M q s.rest)) a ∙ ap (λ z. lines_at M q s.front ++ z) b ∙ append-nil (lines_at M q s.front))
    where
      low : (x : M.Line) → UpTo x → M.line_resource x ≡ q → M.line_tick x < until q
      low x u e =
          ⊎_elim
          (λ c. let n = c.0 in let f = c.1 in ⊎_elim (λ a. omega arith) (λ a. let g = a.1 in absurd (omega arith)) u)
          (λ c. let f = c.1 in ⊎_elim (λ a. omega arith) (λ a. let g = a.0 in omega arith) u)
          (until_cases q)

      high : (x : M.Line) → Past x → M.line_resource x ≡ q → until q ≤ M.line_tick x
      high x u e =
          ⊎_elim
          (λ c. let f = c.1 in ⊎_elim (λ a. omega arith) (λ a. let g = a.0 in omega arith) u)
          (λ c. let n = c.0 in let f = c.1 in ⊎_elim (λ a. omega arith) (λ a. let g = a.1 in absurd (omega arith)) u)
          (until_cases q)

  -- what is before a final point is final
  final_before : (count : ℕ) (c : Core M) (m u s : ℕ) → (u < t) ⊎ ((u ≡ t) × (s ≤ r)) → IsFinal M count c m t r → IsFinal M count c m u s
  final_before count c m u s b f q less = ⊎_elim going (λ h. stopped h) (f q less)
    where
      going : (t < floor M c m q) ⊎ ((t ≡ floor M c m q) × (r < q)) → ((u < floor M c m q) ⊎ ((u ≡ floor M c m q) × (s < q))) ⊎ ((q ≡ s) × ((reason : M.Reason) × ((c q).state.stop ≡ Some reason)) × ((c q).clock ≡ u))
      going h =
          ⊎_elim
          (λ d. ⊎_elim (λ a. inl (inl (omega arith))) (λ a. let g = a.0 in inl (inl (omega arith))) b)
          (λ d. let g = d.0 in let i = d.1 in ⊎_elim (λ a. inl (inl (omega arith))) (λ a. let j = a.0 in let l = a.1 in inl (inr (omega arith, omega arith))) b)
          h

      stopped : (q ≡ r) × ((reason : M.Reason) × ((c q).state.stop ≡ Some reason)) × ((c q).clock ≡ t) → ((u < floor M c m q) ⊎ ((u ≡ floor M c m q) × (s < q))) ⊎ ((q ≡ s) × ((reason : M.Reason) × ((c q).state.stop ≡ Some reason)) × ((c q).clock ≡ u))
      stopped h =
          let e : q ≡ r = h.0 in
          let k : (c q).clock ≡ t = h.2 in
          let fl : floor M c m q ≡ (c q).clock = ap (λ o. floor_of o (c q).clock m) h.1.1 in
          ⊎_elim
          (λ a. inl (inl (omega arith)))
          (λ a. let j : u ≡ t = a.0 in let l : s ≤ r = a.1 in
          ⊎_elim (λ g. inl (inr (omega arith, omega arith))) (λ g. inr (omega arith, h.1, omega arith)) (cases_lt s r))
          b

  -- the lines to a final point, if each final line of a resource is one of the whole
  pub record Begins (count : ℕ) (c : Core M) (xs : List M.Line) : Type 0 where
    pub front : List M.Line
    pub rest : List M.Line
    pub split : xs ≡ front ++ rest
    pub merged : IsMerge M count (λ s. lines_before M (until s) (c s).lines) front
    pub past : Each Past rest

  no_ticks : (xs : List M.Line) → lines_before M 0 xs ≡ []
  no_ticks xs = filter_nothing (λ x. nat_lt (M.line_tick x) 0) xs (all xs)
    where
      all : (ys : List M.Line) → Each (λ x. nat_lt (M.line_tick x) 0 ≡ false) ys
      all [] = tt
      all (y ∷ ys) = (le-ltb (M.line_tick y) 0 (omega arith), all ys)

  pub begins : (count : ℕ) (c : Core M) (xs : List M.Line) (m horizon : ℕ) → IsInOrder M xs → Each (λ (x : M.Line). M.line_resource x < count) xs → t < horizon → IsFinal M count c m t r
      → ((u s : ℕ) → s < count → u < horizon → IsFinal M count c m u s → lines_before M (u + 1) (c s).lines ≡ lines_before M (u + 1) (lines_at M s xs))
      → Begins count c xs
  begins count c xs m horizon o counted below f same = record {
    front = s.front;
    rest = s.rest;
    split = s.split;
    merged = record {
      order = s.order;
      parts = λ q b. front_at xs s q ∙ sym (upto q b);
      counted = each_left (λ (x : M.Line). M.line_resource x < count) s.front s.rest (subst (λ (z : List M.Line). Each (λ (x : M.Line). M.line_resource x < count) z) s.split counted);
    };
    past = s.past;
  }
    where
      s : Split xs
      s = split_at xs o

      earlier : (v : ℕ) → t ≡ v → (q : ℕ) → q < count → lines_before M v (c q).lines ≡ lines_before M v (lines_at M q xs)
      earlier zero e q b = no_ticks (c q).lines ∙ sym (no_ticks (lines_at M q xs))
      earlier (suc v) e q b =
          let g = same v q b (omega arith) (final_before count c m v q (inl (omega arith)) f) in
          let h : v + 1 ≡ suc v = omega arith in
          subst (λ (z : ℕ). lines_before M z (c q).lines ≡ lines_before M z (lines_at M q xs)) h g

      upto : (q : ℕ) → q < count → lines_before M (until q) (c q).lines ≡ lines_before M (until q) (lines_at M q xs)
      upto q b =
          ⊎_elim
          (λ d. subst (λ (z : ℕ). lines_before M z (c q).lines ≡ lines_before M z (lines_at M q xs)) (sym d.1) (earlier t refl q b))
          (λ d. subst (λ (z : ℕ). lines_before M z (c q).lines ≡ lines_before M z (lines_at M q xs)) (sym d.1) (same t q b below (final_before count c m t q (inr (refl, d.0)) f)))
          (until_cases q)
