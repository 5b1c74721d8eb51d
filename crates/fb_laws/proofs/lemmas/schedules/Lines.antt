-- The lines of the simulation are the merge of the resources' lines, and a merge is determined.
use Rattle.fb_laws.proofs.lemmas.Common.{◌≡◌, ℕ, ◌<◌, ◌≤◌, ◌⊎◌, Bool, true, false, cond, List, [], ◌∷◌, ◌++◌, refl, sym, ap, ◌∙◌, subst, inl, inr, ⊎_elim, arith, nat_lt, ◌==◌, cases_lt, cases_eq, cond-true, cond-false, lt-ltb, le-ltb, eq-eqb, ne_eqb, Key, Machine, Item, Local, Each, cut, at, lines_at, lines_before, IsMerge, World, next, Simulates, IsCounted, after, Chain, lines_of, IsLawful}
use Rattle.std.specs.Prelude.{filter}
use Rattle.fb_laws.specs.Worlds.{IndexUpTo}
use Rattle.fb_types.specs.Merges.{NotAfter, IsInOrder}
use Rattle.fb_laws.proofs.lemmas.resources.Chains.{cut_in, cut_out}
use Rattle.fb_types.proofs.lemmas.lists.EachLaws.{each_map, each_append}
use Rattle.fb_laws.proofs.lemmas.takings.NoLesserTick.{chain_late, late_after, takes_fair, takes_late}
use Rattle.fb_laws.proofs.lemmas.resources.FamilyEnds.{sim_after}
use Rattle.fb_laws.proofs.lemmas.resources.Stops.{sim_counted}
use Rattle.fb_laws.proofs.lemmas.resources.Global.{at_mine, at_other}

pub filter_in : {A : Type 0} (p : A → Bool) (x : A) (xs : List A) → p x ≡ true → filter p (x ∷ xs) ≡ x ∷ filter p xs
filter_in p x xs e = cond-true (p x) _ _ e

pub filter_out : {A : Type 0} (p : A → Bool) (x : A) (xs : List A) → p x ≡ false → filter p (x ∷ xs) ≡ filter p xs
filter_out p x xs e = cond-false (p x) _ _ e

pub filter_joined : {A : Type 0} (p : A → Bool) (xs ys : List A) → filter p (xs ++ ys) ≡ filter p xs ++ filter p ys
filter_joined p [] ys = refl
filter_joined p (x ∷ xs) ys =
    let e = filter_joined p xs ys in
    step (p x) x _ _ _ e
  where
    step : {A : Type 0} (b : Bool) (x : A) (f g h : List A) → f ≡ g ++ h → cond b (x ∷ f) f ≡ cond b (x ∷ g) g ++ h
    step true x f g h e = ap (λ z. x ∷ z) e
    step false x f g h e = e

pub filter_all : {A : Type 0} (p : A → Bool) (xs : List A) → Each (λ x. p x ≡ true) xs → filter p xs ≡ xs
filter_all p [] h = refl
filter_all p (x ∷ xs) h = filter_in p x xs h.0 ∙ ap (λ z. x ∷ z) (filter_all p xs h.1)

pub filter_nothing : {A : Type 0} (p : A → Bool) (xs : List A) → Each (λ x. p x ≡ false) xs → filter p xs ≡ []
filter_nothing p [] h = refl
filter_nothing p (x ∷ xs) h = filter_out p x xs h.0 ∙ filter_nothing p xs h.1

module _ (M : Machine) where
  -- the lines of an item are of its tick and resource
  abbrev pub Here : Item M → Type 0
  Here i = Each (λ (x : M.Line). (M.line_tick x ≡ i.key.tick) × (M.line_resource x ≡ i.key.resource)) i.out.lines

  pub sim_here : IsLawful M → (is : List (Item M)) (w : World M) → Simulates M w is → Each Here is
  sim_here law [] w x = tt
  sim_here law (i ∷ is) w x =
      ((law.taking (w.parts i.key.resource) i.key i.event i.out x.0.fits x.0.gives).here, sim_here law is (next M w i) x.1)

  pub chain_here : IsLawful M → (r : ℕ) (is : List (Item M)) (l : Local M) → Chain M r l is → Each Here is
  chain_here law r [] l x = tt
  chain_here law r (i ∷ is) l x =
      ((law.taking l.part i.key i.event i.out x.0.fits x.0.gives).here, chain_here law r is (after M l i) x.1)

  pub lines_of_at : (r : ℕ) (is : List (Item M)) → Each Here is → lines_at M r (lines_of M is) ≡ lines_of M (at M r is)
  lines_of_at r [] h = refl
  lines_of_at r (i ∷ is) h =
      let y = lines_of_at r is h.1 in
      let f = filter_joined (λ x. M.line_resource x == r) i.out.lines (lines_of M is) in
      ⊎_elim
      (λ (e : i.key.resource ≡ r).
      let g = filter_all (λ x. M.line_resource x == r) i.out.lines (each_map _ _ i.out.lines (λ x q. eq-eqb (M.line_resource x) r (q.1 ∙ e)) h.0) in
      rw (at_mine M r i is e) (f ∙ ap (λ z. z ++ lines_at M r (lines_of M is)) g ∙ ap (λ z. i.out.lines ++ z) y))
      (λ (n : i.key.resource ≡ r → ⊥).
      let g = filter_nothing (λ x. M.line_resource x == r) i.out.lines (each_map _ _ i.out.lines (λ x q. ne_eqb (M.line_resource x) r (λ e. n (sym q.1 ∙ e))) h.0) in
      rw (at_other M r i is n) (f ∙ ap (λ z. z ++ lines_at M r (lines_of M is)) g ∙ y))
      (cases_eq i.key.resource r)

  -- a cut of a chain whose ticks do not fall
  abbrev pub Rises : List (Item M) → Type 0
  Rises [] = Unit {0}
  Rises (i ∷ is) = Each (λ (j : Item M). i.key.tick ≤ j.key.tick) is × Rises is

  lines_late : (t : ℕ) (is : List (Item M)) → Each Here is → Each (λ (j : Item M). t ≤ j.key.tick) is → lines_before M t (lines_of M is) ≡ []
  lines_late t [] h l = refl
  lines_late t (i ∷ is) h l =
      let y = lines_late t is h.1 l.1 in
      let b : t ≤ i.key.tick = l.0 in
      let g = filter_nothing (λ x. nat_lt (M.line_tick x) t) i.out.lines (each_map _ _ i.out.lines (λ x q. let e : M.line_tick x ≡ i.key.tick = q.0 in le-ltb (M.line_tick x) t (omega arith)) h.0) in
      filter_joined (λ x. nat_lt (M.line_tick x) t) i.out.lines (lines_of M is) ∙ ap (λ z. z ++ lines_before M t (lines_of M is)) g ∙ y

  pub lines_of_cut : (t : ℕ) (is : List (Item M)) → Each Here is → Rises is → lines_before M t (lines_of M is) ≡ lines_of M (cut M t is)
  lines_of_cut t [] h m = refl
  lines_of_cut t (i ∷ is) h m =
      let y = lines_of_cut t is h.1 m.1 in
      let f = filter_joined (λ x. nat_lt (M.line_tick x) t) i.out.lines (lines_of M is) in
      ⊎_elim
      (λ (b : i.key.tick < t).
      let g = filter_all (λ x. nat_lt (M.line_tick x) t) i.out.lines (each_map _ _ i.out.lines (λ x q. let e : M.line_tick x ≡ i.key.tick = q.0 in lt-ltb (M.line_tick x) t (omega arith)) h.0) in
      rw (cut_in M t i is b) (f ∙ ap (λ z. z ++ lines_before M t (lines_of M is)) g ∙ ap (λ z. i.out.lines ++ z) y))
      (λ (b : t ≤ i.key.tick).
      rw (cut_out M t i is b) (lines_late t (i ∷ is) h (b, each_map _ _ is (λ j (l : i.key.tick ≤ j.key.tick). omega arith) m.0)))
      (cases_lt i.key.tick t)

  -- order
  abbrev From : Key → M.Line → Type 0
  From k y = (k.tick < M.line_tick y) ⊎ ((k.tick ≡ M.line_tick y) × (k.resource ≤ M.line_resource y))

  from_item : (k : Key) (i : Item M) → IndexUpTo k i.key → Here i → Each (From k) i.out.lines
  from_item k i b h = each_map _ _ i.out.lines (λ x q. index x q) h
    where
      index : (x : M.Line) → (M.line_tick x ≡ i.key.tick) × (M.line_resource x ≡ i.key.resource) → From k x
      index x q =
          let e : M.line_tick x ≡ i.key.tick = q.0 in
          let f : M.line_resource x ≡ i.key.resource = q.1 in
          ⊎_elim (λ c. inl (omega arith)) (λ c. let d = c.0 in let g = c.1 in inr (omega arith, omega arith)) b

  from_items : (k : Key) (is : List (Item M)) → Each (λ (j : Item M). IndexUpTo k j.key) is → Each Here is → Each (From k) (lines_of M is)
  from_items k [] b h = tt
  from_items k (i ∷ is) b h = each_append _ i.out.lines (lines_of M is) (from_item k i b.0 h.0) (from_items k is b.1 h.1)

  joined_order : (k : Key) (xs ys : List M.Line) → Each (λ (x : M.Line). (M.line_tick x ≡ k.tick) × (M.line_resource x ≡ k.resource)) xs → Each (From k) ys → IsInOrder M ys → IsInOrder M (xs ++ ys)
  joined_order k [] ys h f o = o
  joined_order k (x ∷ xs) ys h f o =
      (each_append _ xs ys (each_map _ _ xs (λ z q. same_place z q) h.1) (each_map _ _ ys (λ z q. past z q) f), joined_order k xs ys h.1 f o)
    where
      same_place : (z : M.Line) → (M.line_tick z ≡ k.tick) × (M.line_resource z ≡ k.resource) → NotAfter M x z
      same_place z q = inr (h.0.0 ∙ sym q.0, let a : M.line_resource x ≡ k.resource = h.0.1 in let b : M.line_resource z ≡ k.resource = q.1 in omega arith)

      past : (z : M.Line) → From k z → NotAfter M x z
      past z q =
          let a : M.line_tick x ≡ k.tick = h.0.0 in
          let b : M.line_resource x ≡ k.resource = h.0.1 in
          ⊎_elim (λ c. inl (omega arith)) (λ c. let d = c.0 in let e = c.1 in inr (omega arith, omega arith)) q

  -- every item is before the later ones
  abbrev pub Sorted : List (Item M) → Type 0
  Sorted [] = Unit {0}
  Sorted (i ∷ is) = Each (λ (j : Item M). IndexUpTo i.key j.key) is × Sorted is

  pub lines_order : (is : List (Item M)) → Sorted is → Each Here is → IsInOrder M (lines_of M is)
  lines_order [] s h = tt
  lines_order (i ∷ is) s h = joined_order i.key i.out.lines (lines_of M is) h.0 (from_items i.key is s.0 h.1) (lines_order is s.1 h.1)

  -- a merge is determined
  head_of : (P : M.Line → Type 0) (p : M.Line → Bool) (x : M.Line) (xs ys : List M.Line) → Each P ys → filter p ys ≡ x ∷ xs → P x
  head_of P p x xs [] h e = absurd (let f : [] ≡ x ∷ xs = e in cc)
  head_of P p x xs (y ∷ ys) h e = step (λ f. head_of P p x xs ys h.1 f) (p y) refl
    where
      step : (filter p ys ≡ x ∷ xs → P x) → (b : Bool) → p y ≡ b → P x
      step rest true q = let f : y ∷ filter p ys ≡ x ∷ xs = sym (filter_in p y ys q) ∙ e in let g : y ≡ x = cc in subst P g h.0
      step rest false q = rest (sym (filter_out p y ys q) ∙ e)

  at_in : (r : ℕ) (x : M.Line) (xs : List M.Line) → M.line_resource x ≡ r → lines_at M r (x ∷ xs) ≡ x ∷ lines_at M r xs
  at_in r x xs e = filter_in (λ z. M.line_resource z == r) x xs (eq-eqb (M.line_resource x) r e)

  at_out : (r : ℕ) (x : M.Line) (xs : List M.Line) → (M.line_resource x ≡ r → ⊥) → lines_at M r (x ∷ xs) ≡ lines_at M r xs
  at_out r x xs e = filter_out (λ z. M.line_resource z == r) x xs (ne_eqb (M.line_resource x) r e)

  nil_cons : {A : Type 0} (x : A) (xs : List A) → [] ≡ x ∷ xs → ⊥
  nil_cons x xs e = cc

  same_tail : {A : Type 0} (x y : A) (xs ys : List A) → x ∷ xs ≡ y ∷ ys → xs ≡ ys
  same_tail x y xs ys e = cc

  same_head : {A : Type 0} (x y : A) (xs ys : List A) → x ∷ xs ≡ y ∷ ys → x ≡ y
  same_head x y xs ys e = cc

  pub merge_unique : (xs ys : List M.Line) → IsInOrder M xs → IsInOrder M ys → ((r : ℕ) → lines_at M r xs ≡ lines_at M r ys) → xs ≡ ys
  merge_unique [] [] o p h = refl
  merge_unique [] (y ∷ ys) o p h = absurd (nil_cons _ _ (h (M.line_resource y) ∙ at_in (M.line_resource y) y ys refl))
  merge_unique (x ∷ xs) [] o p h = absurd (nil_cons _ _ (sym (h (M.line_resource x)) ∙ at_in (M.line_resource x) x xs refl))
  merge_unique (x ∷ xs) (y ∷ ys) o p h =
      ⊎_elim
      (λ (e : M.line_resource y ≡ M.line_resource x).
      let r = M.line_resource x in
      let f : x ∷ lines_at M r xs ≡ y ∷ lines_at M r ys = sym (at_in r x xs refl) ∙ h r ∙ at_in r y ys e in
      let g : x ≡ y = same_head _ _ _ _ f in
      let t : xs ≡ ys = merge_unique xs ys o.1 p.1 (λ q.
      ⊎_elim
      (λ (d : r ≡ q). same_tail _ _ _ _ (sym (at_in q x xs d) ∙ h q ∙ at_in q y ys (e ∙ d)))
      (λ (n : r ≡ q → ⊥). sym (at_out q x xs n) ∙ h q ∙ at_out q y ys (λ d. n (sym e ∙ d)))
      (cases_eq r q)) in
      cc)
      (λ (n : M.line_resource y ≡ M.line_resource x → ⊥).
      let r = M.line_resource x in
      let s = M.line_resource y in
      let a : NotAfter M y x = head_of (NotAfter M y) (λ z. M.line_resource z == r) x (lines_at M r xs) ys p.0 (sym (at_out r y ys n) ∙ sym (h r) ∙ at_in r x xs refl) in
      let b : NotAfter M x y = head_of (NotAfter M x) (λ z. M.line_resource z == s) y (lines_at M s ys) xs o.0 (sym (at_out s x xs (λ d. n (sym d))) ∙ h s ∙ at_in s y ys refl) in
      absurd (both_ways (M.line_tick x) (M.line_tick y) (M.line_resource x) (M.line_resource y) n a b))
      (cases_eq (M.line_resource y) (M.line_resource x))
    where
      both_ways : (t u r s : ℕ) → (s ≡ r → ⊥) → (u < t) ⊎ ((u ≡ t) × (s ≤ r)) → (t < u) ⊎ ((t ≡ u) × (r ≤ s)) → ⊥
      both_ways t u r s n a b =
          ⊎_elim (λ c. ⊎_elim (λ d. omega arith) (λ d. let e = d.0 in omega arith) b) (λ c. let e = c.0 in let f = c.1 in ⊎_elim (λ d. omega arith) (λ d. let g = d.1 in n (omega arith)) b) a

  lines_past : (count r : ℕ) (xs : List M.Line) → count ≤ r → Each (λ (x : M.Line). M.line_resource x < count) xs → lines_at M r xs ≡ []
  lines_past count r xs b h = filter_nothing (λ z. M.line_resource z == r) xs (each_map _ _ xs (λ x (c : M.line_resource x < count). ne_eqb (M.line_resource x) r (λ e. omega arith)) h)

  -- two merges of the same lists are the same
  pub merge_one : (count : ℕ) (lists : ℕ → List M.Line) (xs ys : List M.Line) → IsMerge M count lists xs → IsMerge M count lists ys → xs ≡ ys
  merge_one count lists xs ys h g =
      merge_unique xs ys h.order g.order (λ r. ⊎_elim (λ b. h.parts r b ∙ sym (g.parts r b)) (λ b. lines_past count r xs b h.counted ∙ sym (lines_past count r ys b g.counted)) (cases_lt r count))

  pub sim_sorted : IsLawful M → (is : List (Item M)) (w : World M) → Simulates M w is → Sorted is
  sim_sorted law [] w x = tt
  sim_sorted law (i ∷ is) w x = (sim_after M law w i is x, sim_sorted law is (next M w i) x.1)

  pub chain_rises : IsLawful M → (r : ℕ) (is : List (Item M)) (l : Local M) → Chain M r l is → Rises is
  chain_rises law r [] l x = tt
  chain_rises law r (i ∷ is) l x =
      (chain_late M law r i.key.tick is (after M l i) (late_after M r i.key.tick l i (takes_fair M law r l i x.0) (omega arith) (takes_late M r l i x.0)) x.1, chain_rises law r is (after M l i) x.1)

  lines_counted : (count : ℕ) (is : List (Item M)) → Each (λ (i : Item M). i.key.resource < count) is → Each Here is → Each (λ (x : M.Line). M.line_resource x < count) (lines_of M is)
  lines_counted count [] b h = tt
  lines_counted count (i ∷ is) b h =
      each_append _ i.out.lines (lines_of M is) (each_map _ _ i.out.lines (λ x q. let e : M.line_resource x ≡ i.key.resource = q.1 in let c : i.key.resource < count = b.0 in omega arith) h.0) (lines_counted count is b.1 h.1)

  -- the lines of a simulation are the merge of the lines of its resources
  pub sim_merge : IsLawful M → (count : ℕ) (is : List (Item M)) (w : World M) → IsCounted M count w → Simulates M w is → IsMerge M count (λ r. lines_of M (at M r is)) (lines_of M is)
  sim_merge law count is w n x = record {
    order = lines_order is (sim_sorted law is w x) (sim_here law is w x);
    parts = λ r b. lines_of_at r is (sim_here law is w x);
    counted = lines_counted count is (sim_counted M law count is w n x) (sim_here law is w x);
  }

  pub merge_same : (count : ℕ) (lists others : ℕ → List M.Line) (xs : List M.Line) → ((r : ℕ) → r < count → lists r ≡ others r) → IsMerge M count lists xs → IsMerge M count others xs
  merge_same count lists others xs e h = record { order = h.order; parts = λ r b. h.parts r b ∙ e r b; counted = h.counted }
