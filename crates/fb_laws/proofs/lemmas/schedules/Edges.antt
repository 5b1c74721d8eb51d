-- Edges: exactly what is before one is final, and a merge to an edge continues from there.
use Rattle.fb_types.proofs.Common.{◌≡◌, ℕ, ◌+◌, ◌<◌, ◌≤◌, ◌⊎◌, min, max, Bool, true, false, cond, not, Option, Some, None, List, [], ◌∷◌, ◌++◌, refl, sym, ap, ◌∙◌, subst, inl, inr, ⊎_elim, arith, nat_lt, ◌==◌, ◌&&◌, is_some, filter, cases_lt, cases_Bool, cond-true, cond-false, lt-ltb, le-ltb, ltb-true, ltb-false, eq-eqb, ne_eqb, eqb-true, or_left, or_right, or_from, and_from, and_right, not_from_false, not-true, Machine, Each, IsMerge, lines_at, lines_before, Core, floor, floor_of}
use Rattle.std.proofs.lemmas.Bool.{cases_order, and_left, not_from_true}
use Rattle.fb_types.specs.Merges.{NotAfter, IsInOrder}
use Rattle.fb_types.specs.Schedules.{IsFinal}
use Rattle.fb_types.proofs.lemmas.lists.EachLaws.{each_map, each_both, each_append}
use Rattle.fb_laws.proofs.lemmas.schedules.Lines.{filter_in, filter_out, filter_joined, filter_all, filter_nothing, merge_same}
use Rattle.fb_laws.specs.Finality.{Edge, until, lines_from, TicksRise, IsFinalIn, IsLeastTick, IsEdge, HaveLeft, NoneIsFinal}
use Rattle.fb_types.proofs.lemmas.lists.Options.{some_from_is_some}

module _ (e : Edge) (r : ℕ) where
  pub until_before : r < e.resource → until e r ≡ e.tick + 1
  until_before h = cond-true _ _ _ (or_right (e.within && (r == e.resource)) (nat_lt r e.resource) (lt-ltb r e.resource h))

  pub until_within : r ≡ e.resource → e.within ≡ true → until e r ≡ e.tick + 1
  until_within h w = cond-true _ _ _ (or_left (e.within && (r == e.resource)) (nat_lt r e.resource) (and_from e.within (r == e.resource) w (eq-eqb r e.resource h)))

  pub until_outside : r ≡ e.resource → e.within ≡ false → until e r ≡ e.tick
  until_outside h w = cond-false _ _ _ (or_from (e.within && (r == e.resource)) (nat_lt r e.resource) (and_left e.within (r == e.resource) w) (le-ltb r e.resource (omega arith)))

  pub until_past : e.resource < r → until e r ≡ e.tick
  until_past h = cond-false _ _ _ (or_from (e.within && (r == e.resource)) (nat_lt r e.resource) (and_right e.within (r == e.resource) (ne_eqb r e.resource (λ q. omega arith))) (le-ltb r e.resource (omega arith)))

  -- the lines at the tick itself belong to the edge, or they do not
  abbrev pub Cases : Type 0
  Cases =
      ((until e r ≡ e.tick + 1) × ((r < e.resource) ⊎ ((r ≡ e.resource) × (e.within ≡ true))))
      ⊎ ((until e r ≡ e.tick) × ((e.resource < r) ⊎ ((r ≡ e.resource) × (e.within ≡ false))))

  pub until_cases : Cases
  until_cases =
      ⊎_elim
      (λ (q : r ≡ e.resource). ⊎_elim (λ w. inl (until_within q w, inr (q, w))) (λ w. inr (until_outside q w, inr (q, w))) (cases_Bool e.within))
      (λ d. ⊎_elim (λ l. inl (until_before l, inl l)) (λ l. inr (until_past l, inl l)) d)
      (cases_order r e.resource)

-- what is before an edge does not come after what is from it on
pub edge_between : (e : Edge) (t r u q : ℕ) → t < until e r → until e q ≤ u → (t < u) ⊎ ((t ≡ u) × (r ≤ q))
edge_between e t r u q a b =
    ⊎_elim (λ l. inl l)
    (λ l. ⊎_elim
    (λ x. let i = x.0 in
    ⊎_elim
    (λ y. let j = y.0 in absurd (omega arith))
    (λ y. let j = y.0 in
    let low : r ≤ e.resource = ⊎_elim (λ k. omega arith) (λ k. let n : r ≡ e.resource = k.0 in omega arith) x.1 in
    let high : e.resource ≤ q = ⊎_elim (λ k. omega arith) (λ k. let n : q ≡ e.resource = k.0 in omega arith) y.1 in
    inr (omega arith, omega arith))
    (until_cases e q))
    (λ x. let i = x.0 in ⊎_elim (λ y. let j = y.0 in absurd (omega arith)) (λ y. let j = y.0 in absurd (omega arith)) (until_cases e q))
    (until_cases e r))
    (cases_lt t u)

-- ---- Final points

floor_up : {R : Type 0} (stop : Option R) (clock m n : ℕ) → m ≤ n → floor_of stop clock m ≤ floor_of stop clock n
floor_up None clock m n b = omega arith
floor_up (Some reason) clock m n b = omega arith

-- a floor past the horizon allows no more below it
floor_within : {R : Type 0} (stop : Option R) (clock n horizon t r q : ℕ) → t < horizon
    → (t < floor_of stop clock n) ⊎ ((t ≡ floor_of stop clock n) × (r < q))
    → (t < floor_of stop clock (min n horizon)) ⊎ ((t ≡ floor_of stop clock (min n horizon)) × (r < q))
floor_within None clock n horizon t r q b f =
    ⊎_elim (λ l. inl (omega arith))
    (λ k. let i : t ≡ max clock n = k.0 in ⊎_elim (λ l. absurd (omega arith)) (λ l. inr (omega arith, k.1)) (cases_lt horizon n))
    f
floor_within (Some reason) clock n horizon t r q b f = f

module _ (M : Machine) (count : ℕ) (c : Core M) where
  pub final_up : (m n t r : ℕ) → m ≤ n → IsFinal M count c m t r → IsFinal M count c n t r
  final_up m n t r b f q less =
      let up = floor_up (c q).state.stop (c q).clock m n b in
      ⊎_elim
      (λ d. inl (⊎_elim
      (λ l. inl (omega arith))
      (λ k. let i : t ≡ floor M c m q = k.0 in let j : r < q = k.1 in
      ⊎_elim (λ l. inl l) (λ l. inr (omega arith, j)) (cases_lt t (floor M c n q)))
      d))
      (λ s. inr s)
      (f q less)

  pub final_within : (n horizon t r : ℕ) → t < horizon → IsFinal M count c n t r → IsFinal M count c (min n horizon) t r
  final_within n horizon t r b f q less =
      ⊎_elim (λ d. inl (floor_within (c q).state.stop (c q).clock n horizon t r q b d)) (λ s. inr s) (f q less)

  module _ (m : ℕ) (e : Edge) (is : IsEdge M count c m e) where
    -- what is before the edge is final
    pub final_edge : (r t : ℕ) → t < until e r → IsFinal M count c m t r
    final_edge r t b q less =
        ⊎_elim
        (λ (l : e.tick < floor M c m q). let w = upmost in inl (inl (omega arith)))
        (λ k. let i : e.tick ≡ floor M c m q = k.0 in let j : e.resource ≤ q = k.1 in
        ⊎_elim
        (λ (l : t < e.tick). inl (inl (omega arith)))
        (λ (l : e.tick ≤ t). here i j l)
        (cases_lt t e.tick))
        (is.least q less)
      where
        upmost : until e r ≤ e.tick + 1
        upmost = ⊎_elim (λ x. let i = x.0 in omega arith) (λ x. let i = x.0 in omega arith) (until_cases e r)

        stopped : t ≡ e.tick → e.within ≡ true → q ≡ e.resource → q ≡ r → (q ≡ r) × ((reason : M.Reason) × ((c q).state.stop ≡ Some reason)) × ((c q).clock ≡ t)
        stopped at w s n =
            let there : is_some (c q).state.stop ≡ true = ap (λ z. is_some (c z).state.stop) s ∙ sym is.stopped ∙ w in
            let x = some_from_is_some (c q).state.stop there in
            let f : floor M c m q ≡ (c q).clock = ap (λ z. floor_of z (c q).clock m) x.1 in
            let g : floor M c m q ≡ e.tick = ap (λ z. floor M c m z) s ∙ is.at in
            (n, x, omega arith)

        here : e.tick ≡ floor M c m q → e.resource ≤ q → e.tick ≤ t
            → ((t < floor M c m q) ⊎ ((t ≡ floor M c m q) × (r < q))) ⊎ ((q ≡ r) × ((reason : M.Reason) × ((c q).state.stop ≡ Some reason)) × ((c q).clock ≡ t))
        here i j l =
            ⊎_elim
            (λ x. let y = x.0 in
            let at : t ≡ e.tick = omega arith in
            ⊎_elim
            (λ (a : r < e.resource). inl (inr (omega arith, omega arith)))
            (λ a. let same : r ≡ e.resource = a.0 in
            ⊎_elim
            (λ (b : r < q). inl (inr (omega arith, b)))
            (λ (b : q ≤ r). inr (stopped at a.1 (omega arith) (omega arith)))
            (cases_lt r q))
            x.1)
            (λ x. let y = x.0 in absurd (omega arith))
            (until_cases e r)

    -- and nothing else is, by the same floor
    pub not_final : (r t : ℕ) → until e r ≤ t → IsFinal M count c m t r → ⊥
    not_final r t b f =
        let at = is.at in
        let low : e.tick ≤ until e r = ⊎_elim (λ x. let i = x.0 in omega arith) (λ x. let i = x.0 in omega arith) (until_cases e r) in
        ⊎_elim
        (λ d. ⊎_elim
        (λ (l : t < floor M c m e.resource). omega arith)
        (λ k. let i : t ≡ floor M c m e.resource = k.0 in let u = until_before e r k.1 in omega arith)
        d)
        (λ s.
        let n : e.resource ≡ r = s.0 in
        let w : e.within ≡ true = is.stopped ∙ ap is_some s.1.1 in
        let u = until_within e r (sym n) w in
        let g : floor M c m e.resource ≡ (c e.resource).clock = ap (λ z. floor_of z (c e.resource).clock m) s.1.1 in
        let k : (c e.resource).clock ≡ t = s.2 in
        omega arith)
        (f e.resource is.counted)

    -- nor by any other, below the horizon, if the floor is the greatest
    pub not_final_in : (horizon : ℕ) → IsLeastTick M horizon c m → (r t : ℕ) → t < horizon → until e r ≤ t → IsFinalIn M count c t r → ⊥
    not_final_in horizon low r t b u f =
        not_final r t u (final_up (min f.0 horizon) m t r (low.most f.0 f.1) (final_within f.0 horizon t r b f.2))

-- ---- Merges

module _ {A : Type 0} where
  pub each_filter : (P : A → Type 0) (p : A → Bool) (xs : List A) → Each P xs → Each (λ x. P x × (p x ≡ true)) (filter p xs)
  each_filter P p [] h = tt
  each_filter P p (x ∷ xs) h = go (p x) refl (each_filter P p xs h.1)
    where
      go : (b : Bool) → p x ≡ b → Each (λ x. P x × (p x ≡ true)) (filter p xs) → Each (λ x. P x × (p x ≡ true)) (filter p (x ∷ xs))
      go true e rest = rw e ((h.0, e), rest)
      go false e rest = rw e rest

  pub each_true : (xs : List A) → Each (λ x. Unit {0}) xs
  each_true [] = tt
  each_true (x ∷ xs) = (tt, each_true xs)

  pub each_right : (P : A → Type 0) (xs ys : List A) → Each P (xs ++ ys) → Each P ys
  each_right P [] ys h = h
  each_right P (x ∷ xs) ys h = each_right P xs ys h.1

  pub append_none : (xs : List A) → xs ++ [] ≡ xs
  append_none [] = refl
  append_none (x ∷ xs) = ap (λ z. x ∷ z) (append_none xs)

  each_rest : (P : A → Type 0) (x : A) (xs : List A) (b : Bool) → Each P (cond b (x ∷ xs) xs) → Each P xs
  each_rest P x xs true h = h.1
  each_rest P x xs false h = h

module _ (M : Machine) where
  abbrev is_before : ℕ → M.Line → Bool
  is_before u x = nat_lt (M.line_tick x) u

  pub none_before : (u : ℕ) (xs : List M.Line) → Each (λ (x : M.Line). u ≤ M.line_tick x) xs → lines_before M u xs ≡ []
  none_before u xs h = filter_nothing (is_before u) xs (each_map _ _ xs (λ x b. le-ltb (M.line_tick x) u b) h)

  pub all_from : (u : ℕ) (xs : List M.Line) → Each (λ (x : M.Line). u ≤ M.line_tick x) xs → lines_from M u xs ≡ xs
  all_from u xs h = filter_all (λ x. not (is_before u x)) xs (each_map _ _ xs (λ x b. not_from_false (is_before u x) (le-ltb (M.line_tick x) u b)) h)

  from_in : (u : ℕ) (x : M.Line) (xs : List M.Line) → u ≤ M.line_tick x → lines_from M u (x ∷ xs) ≡ x ∷ lines_from M u xs
  from_in u x xs b = filter_in (λ z. not (is_before u z)) x xs (not_from_false (is_before u x) (le-ltb (M.line_tick x) u b))

  from_out : (u : ℕ) (x : M.Line) (xs : List M.Line) → M.line_tick x < u → lines_from M u (x ∷ xs) ≡ lines_from M u xs
  from_out u x xs b = filter_out (λ z. not (is_before u z)) x xs (not_from_true (is_before u x) (lt-ltb (M.line_tick x) u b))

  before_in : (u : ℕ) (x : M.Line) (xs : List M.Line) → M.line_tick x < u → lines_before M u (x ∷ xs) ≡ x ∷ lines_before M u xs
  before_in u x xs b = filter_in (is_before u) x xs (lt-ltb (M.line_tick x) u b)

  -- of lines whose ticks do not fall, those before a tick and then those from it on to a later
  pub before_split : (u v : ℕ) (xs : List M.Line) → TicksRise M xs → Each (λ (x : M.Line). M.line_tick x < u → M.line_tick x < v) xs
      → lines_before M u xs ++ lines_before M v (lines_from M u xs) ≡ lines_before M v xs
  before_split u v [] up h = refl
  before_split u v (x ∷ xs) up h =
      ⊎_elim
      (λ (b : M.line_tick x < u).
      rw (before_in u x xs b, from_out u x xs b, before_in v x xs (h.0 b)) (ap (λ z. x ∷ z) (before_split u v xs up.1 h.1)))
      (λ (b : u ≤ M.line_tick x).
      let late : Each (λ (y : M.Line). u ≤ M.line_tick y) (x ∷ xs) = (b, each_map _ _ xs (λ y (l : M.line_tick x ≤ M.line_tick y). let w : u ≤ M.line_tick y = omega arith in w) up.0) in
      ap (λ z. z ++ lines_before M v (lines_from M u (x ∷ xs))) (none_before u (x ∷ xs) late) ∙ ap (λ z. lines_before M v z) (all_from u (x ∷ xs) late))
      (cases_lt (M.line_tick x) u)

  pub from_from : (u v : ℕ) (xs : List M.Line) → Each (λ (x : M.Line). M.line_tick x < u → M.line_tick x < v) xs → lines_from M v (lines_from M u xs) ≡ lines_from M v xs
  from_from u v [] h = refl
  from_from u v (x ∷ xs) h =
      ⊎_elim
      (λ (b : M.line_tick x < u). rw (from_out u x xs b, from_out v x xs (h.0 b)) (from_from u v xs h.1))
      (λ (b : u ≤ M.line_tick x).
      ap (λ z. lines_from M v z) (from_in u x xs b) ∙
      ⊎_elim
      (λ (d : M.line_tick x < v). from_out v x (lines_from M u xs) d ∙ from_from u v xs h.1 ∙ sym (from_out v x xs d))
      (λ (d : v ≤ M.line_tick x). from_in v x (lines_from M u xs) d ∙ ap (λ z. x ∷ z) (from_from u v xs h.1) ∙ sym (from_in v x xs d))
      (cases_lt (M.line_tick x) v))
      (cases_lt (M.line_tick x) u)

  pub order_joined : (xs ys : List M.Line) → IsInOrder M xs → IsInOrder M ys → Each (λ (x : M.Line). Each (NotAfter M x) ys) xs → IsInOrder M (xs ++ ys)
  order_joined [] ys o p h = p
  order_joined (x ∷ xs) ys o p h = (each_append (NotAfter M x) xs ys o.0 h.0, order_joined xs ys o.1 p h.1)

  -- what holds of each resource's lines holds of all
  pub each_at : (P : M.Line → Type 0) (count : ℕ) (xs : List M.Line) → Each (λ (x : M.Line). M.line_resource x < count) xs
      → ((r : ℕ) → r < count → Each P (lines_at M r xs)) → Each P xs
  each_at P count [] k h = tt
  each_at P count (x ∷ xs) k h = (
    let r = M.line_resource x in
        let e : lines_at M r (x ∷ xs) ≡ x ∷ lines_at M r xs = filter_in (λ z. M.line_resource z == r) x xs (eq-eqb r r refl) in
        (subst (Each P) e (h r k.0)).0,
    each_at P count xs k.1 (λ r b. each_rest P x (lines_at M r xs) (M.line_resource x == r) (h r b)),
  )

  -- the same for lines that are merged, by their resource
  pub each_merged : (P : ℕ → M.Line → Type 0) (count : ℕ) (lists : ℕ → List M.Line) (xs : List M.Line) → IsMerge M count lists xs
      → ((r : ℕ) → r < count → Each (P r) (lists r)) → Each (λ (x : M.Line). P (M.line_resource x) x) xs
  each_merged P count lists xs merge h =
      each_at (λ x. P (M.line_resource x) x) count xs merge.counted
      (λ r b.
      let mine = subst (Each (P r)) (sym (merge.parts r b)) (h r b) in
      let here = each_filter (λ x. Unit {0}) (λ x. M.line_resource x == r) xs (each_true xs) in
      each_both _ _ _ (lines_at M r xs) (λ x p q. subst (λ (z : ℕ). P z x) (sym (eqb-true (M.line_resource x) r q.1)) p) mine here)

  pub merge_joined : (count : ℕ) (fronts rests : ℕ → List M.Line) (xs ys : List M.Line) → IsMerge M count fronts xs → IsMerge M count rests ys
      → Each (λ (x : M.Line). Each (NotAfter M x) ys) xs → IsMerge M count (λ r. fronts r ++ rests r) (xs ++ ys)
  merge_joined count fronts rests xs ys h g between = record {
    order = order_joined xs ys h.order g.order between;
    parts = λ r b. filter_joined (λ x. M.line_resource x == r) xs ys ∙ ap (λ z. z ++ lines_at M r ys) (h.parts r b) ∙ ap (λ z. fronts r ++ z) (g.parts r b);
    counted = each_append _ xs ys h.counted g.counted;
  }

  -- A merge of what is before an edge, and then one of what is from it to the next, is a merge of all to the next.
  pub merge_more : (count : ℕ) (e f : Edge) (lists : ℕ → List M.Line) (xs ys : List M.Line)
      → ((r : ℕ) → r < count → TicksRise M (lists r))
      → ((r : ℕ) → r < count → Each (λ (x : M.Line). M.line_tick x < until e r → M.line_tick x < until f r) (lists r))
      → IsMerge M count (λ r. lines_before M (until e r) (lists r)) xs
      → IsMerge M count (λ r. lines_before M (until f r) (lines_from M (until e r) (lists r))) ys
      → IsMerge M count (λ r. lines_before M (until f r) (lists r)) (xs ++ ys)
  merge_more count e f lists xs ys up inside h g =
      merge_same M count (λ r. lines_before M (until e r) (lists r) ++ lines_before M (until f r) (lines_from M (until e r) (lists r))) (λ r. lines_before M (until f r) (lists r)) (xs ++ ys)
      (λ r b. before_split (until e r) (until f r) (lists r) (up r b) (inside r b))
      (merge_joined count _ _ xs ys h g
      (each_map _ _ xs
      (λ x (a : M.line_tick x < until e (M.line_resource x)).
      each_map _ _ ys (λ y (b : until e (M.line_resource y) ≤ M.line_tick y). edge_between e (M.line_tick x) (M.line_resource x) (M.line_tick y) (M.line_resource y) a b) late)
      early))
    where
      early : Each (λ (x : M.Line). M.line_tick x < until e (M.line_resource x)) xs
      early = each_merged (λ r x. M.line_tick x < until e r) count _ xs h
          (λ r b. each_map _ _ (lines_before M (until e r) (lists r)) (λ x q. ltb-true (M.line_tick x) (until e r) q.1)
          (each_filter (λ x. Unit {0}) (is_before (until e r)) (lists r) (each_true (lists r))))

      late : Each (λ (y : M.Line). until e (M.line_resource y) ≤ M.line_tick y) ys
      late = each_merged (λ r x. until e r ≤ M.line_tick x) count _ ys g
          (λ r b. each_map _ _ (lines_before M (until f r) (lines_from M (until e r) (lists r))) (λ x q. ltb-false (M.line_tick x) (until e r) (not-true (is_before (until e r) x) q.0.1))
          (each_filter _ (is_before (until f r)) (lines_from M (until e r) (lists r))
          (each_filter (λ x. Unit {0}) (λ z. not (is_before (until e r) z)) (lists r) (each_true (lists r)))))

-- ---- What is handed out after one more round

-- A core after more steps: lines were added that were not final before, and what was final is final still.
pub record IsLater (M : Machine) (count horizon : ℕ) (c d : Core M) (more : ℕ → List M.Line) : Type 0 where
  pub grown : (r : ℕ) → r < count → (d r).lines ≡ (c r).lines ++ more r
  pub rise : (r : ℕ) → r < count → TicksRise M (d r).lines
  pub below : (r : ℕ) → r < count → Each (λ (x : M.Line). M.line_tick x < horizon) (d r).lines
  pub stays : (r t : ℕ) → r < count → IsFinalIn M count c t r → IsFinalIn M count d t r
  pub fresh : (r : ℕ) → r < count → Each (λ (x : M.Line). IsFinalIn M count c (M.line_tick x) r → ⊥) (more r)

module _ (M : Machine) (count horizon : ℕ) (c d : Core M) (kept more : ℕ → List M.Line) (ls : List M.Line)
    (later : IsLater M count horizon c d more) (h : HaveLeft M count horizon c kept ls) where
  -- what was added is from the old edge on
  late : (r : ℕ) → r < count → Each (λ (x : M.Line). until h.edge r ≤ M.line_tick x) (more r)
  late r b =
      each_both _ _ _ (more r)
      (λ x (i : M.line_tick x < horizon) (n : IsFinalIn M count c (M.line_tick x) r → ⊥).
      ⊎_elim (λ l. absurd (n (h.final r (M.line_tick x) b i l))) (λ l. l) (cases_lt (M.line_tick x) (until h.edge r)))
      (each_right _ (c r).lines (more r) (subst (Each (λ (x : M.Line). M.line_tick x < horizon)) (later.grown r b) (later.below r b)))
      (later.fresh r b)

  pub before : (r : ℕ) → r < count → lines_before M (until h.edge r) (d r).lines ≡ lines_before M (until h.edge r) (c r).lines
  before r b =
      ap (λ z. lines_before M (until h.edge r) z) (later.grown r b) ∙ filter_joined (is_before M (until h.edge r)) (c r).lines (more r)
      ∙ ap (λ z. lines_before M (until h.edge r) (c r).lines ++ z) (none_before M (until h.edge r) (more r) (late r b)) ∙ append_none (lines_before M (until h.edge r) (c r).lines)

  pub whole : (r : ℕ) → r < count → kept r ++ more r ≡ lines_from M (until h.edge r) (d r).lines
  whole r b =
      ap (λ z. z ++ more r) (h.rest r b) ∙ ap (λ z. lines_from M (until h.edge r) (c r).lines ++ z) (sym (all_from M (until h.edge r) (more r) (late r b)))
      ∙ sym (filter_joined (λ z. not (is_before M (until h.edge r) z)) (c r).lines (more r)) ∙ ap (λ z. lines_from M (until h.edge r) z) (sym (later.grown r b))

  -- If none of it is handed out, it is kept with what was kept before.
  pub kept_more : HaveLeft M count horizon d (λ r. kept r ++ more r) ls
  kept_more = record {
    edge = h.edge;
    final = λ r t b u v. later.stays r t b (h.final r t b u v);
    merged = merge_same M count _ _ ls (λ r b. sym (before r b)) h.merged;
    rest = whole;
  }

module _ (M : Machine) (count horizon : ℕ) (c d : Core M) (kept more : ℕ → List M.Line) (ls : List M.Line) (m : ℕ) (f : Edge)
    (later : IsLater M count horizon c d more) (h : HaveLeft M count horizon c kept ls) (edge : IsEdge M count d m f) (low : IsLeastTick M horizon d m) where
  inside : (r : ℕ) → r < count → Each (λ (x : M.Line). M.line_tick x < until h.edge r → M.line_tick x < until f r) (d r).lines
  inside r b =
      each_map _ _ (d r).lines
      (λ x (i : M.line_tick x < horizon) l.
      ⊎_elim (λ n. n)
      (λ n. absurd (not_final_in M count d m f edge horizon low r (M.line_tick x) i n (later.stays r (M.line_tick x) b (h.final r (M.line_tick x) b i l))))
      (cases_lt (M.line_tick x) (until f r)))
      (later.below r b)

  rest : (r : ℕ) → r < count → lines_from M (until f r) (kept r ++ more r) ≡ lines_from M (until f r) (d r).lines
  rest r b = ap (λ z. lines_from M (until f r) z) (whole M count horizon c d kept more ls later h r b) ∙ from_from M (until h.edge r) (until f r) (d r).lines (inside r b)

  -- The part before the new edge, of what was kept and what was added, was merged and handed out. Then all that was
  -- handed out is a merge to that edge.
  pub handed_merge : (out : List M.Line) → IsMerge M count (λ r. lines_before M (until f r) (kept r ++ more r)) out → IsMerge M count (λ r. lines_before M (until f r) (d r).lines) (ls ++ out)
  handed_merge out merge =
      merge_more M count h.edge f (λ r. (d r).lines) ls out later.rise inside
      (merge_same M count _ _ ls (λ r b. sym (before M count horizon c d kept more ls later h r b)) h.merged)
      (merge_same M count _ _ out (λ r b. ap (λ z. lines_before M (until f r) z) (whole M count horizon c d kept more ls later h r b)) merge)

  -- and the part from it on is what is kept
  pub handed_more : (out : List M.Line) → IsMerge M count (λ r. lines_before M (until f r) (kept r ++ more r)) out → HaveLeft M count horizon d (λ r. lines_from M (until f r) (kept r ++ more r)) (ls ++ out)
  handed_more out merge = record {
    edge = f;
    final = λ r t b u v. (m, low.is_floor, final_edge M count d m f edge r t v);
    merged = handed_merge out merge;
    rest = rest;
  }

  -- none of which is final
  pub none_final : NoneIsFinal M count d (λ r. lines_from M (until f r) (kept r ++ more r))
  none_final r b =
      subst (Each (λ (x : M.Line). IsFinalIn M count d (M.line_tick x) r → ⊥)) (sym (rest r b))
      (each_map _ _ (lines_from M (until f r) (d r).lines)
      (λ x q. not_final_in M count d m f edge horizon low r (M.line_tick x) q.0 (ltb-false (M.line_tick x) (until f r) (not-true (is_before M (until f r) x) q.1)))
      (each_filter _ (λ z. not (is_before M (until f r) z)) (d r).lines (later.below r b)))
