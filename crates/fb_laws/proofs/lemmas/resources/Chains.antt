-- The takes of one resource by itself: they are determined, and what arrives later changes nothing before.
use Rattle.fb_types.proofs.Common.{◌≡◌, ℕ, ◌<◌, ◌≤◌, Some, None, List, [], ◌∷◌, ◌++◌, refl, sym, ap, ◌∙◌, subst, ⊎_elim, append_assoc, arith, if◌then◌else◌, lt-ltb, le-ltb, cases_lt, cond-true, cond-false, same_key, changed_to, clock_after, Machine, Item, Local, Each, waiting, TakesAlone, end, Run, sent_by, cut}
use Rattle.fb_types.specs.declared.key.Key.{Key}
use Rattle.fb_types.specs.Cores.{stop_or}
use Rattle.fb_types.specs.Machines.{Outcome, after, Chain, lines_of}
use Rattle.fb_laws.specs.Facts.{IsLawful}
use Rattle.fb_types.proofs.lemmas.lists.Lookups.{key_cases, before_tick, tick_before, none_some}

module _ (M : Machine) where
  -- two states of r are alike below t
  pub record Agree (r t : ℕ) (l m : Local M) : Type 0 where
    pub part : l.part ≡ m.part
    pub stop : l.stop ≡ m.stop
    pub own : (k : Key) → k.resource ≡ r → k.tick < t → l.own k ≡ m.own k
    pub inbox : (k : Key) → k.resource ≡ r → k.tick < t → l.inbox k ≡ m.inbox k

  pub agree_refl : (r t : ℕ) (l : Local M) → Agree r t l l
  agree_refl r t l = record { part = refl; stop = refl; own = λ k e b. refl; inbox = λ k e b. refl }

  pub agree_waiting : (r t : ℕ) (l m : Local M) → Agree r t l m → (k : Key) → k.resource ≡ r → k.tick < t → waiting M l k ≡ waiting M m k
  agree_waiting r t l m h k e b = rw (h.own k e b, h.inbox k e b)

  pub agree_takes : (r t : ℕ) (l m : Local M) (i : Item M) → Agree r t l m → i.key.tick < t → TakesAlone M r l i → TakesAlone M r m i
  agree_takes r t l m i h b x = record {
    mine = x.mine;
    live = sym h.stop ∙ x.live;
    waits = sym (agree_waiting r t l m h i.key x.mine b) ∙ x.waits;
    least = λ k e c. sym (agree_waiting r t l m h k e (omega (arith, before_tick k i.key c))) ∙ x.least k e c;
    fits = x.fits;
    gives = subst (λ (p : M.Part). M.Gives p i.key i.event i.out) h.part x.gives;
  }

  pub agree_after : (r t : ℕ) (l m : Local M) (i : Item M) → Agree r t l m → Agree r t (after M l i) (after M m i)
  agree_after r t l m i h = record {
    part = refl;
    stop = refl;
    own = λ k e b. ap (λ o. changed_to ((i.out.changes k)) (if same_key i.key k then None else o)) (h.own k e b);
    inbox = λ k e b. ap (λ o. if same_key i.key k then None else o) (h.inbox k e b);
  }

  pub agree_chain : (r t : ℕ) (is : List (Item M)) (l m : Local M) → Agree r t l m → Each (λ (i : Item M). i.key.tick < t) is → Chain M r l is → Chain M r m is
  agree_chain r t [] l m h b c = tt
  agree_chain r t (i ∷ is) l m h b c = (agree_takes r t l m i h b.0 c.0, agree_chain r t is (after M l i) (after M m i) (agree_after r t l m i h) b.1 c.1)

  pub agree_end : (r t : ℕ) (is : List (Item M)) (l m : Local M) → Agree r t l m → Agree r t (end M l is) (end M m is)
  agree_end r t [] l m h = h
  agree_end r t (i ∷ is) l m h = agree_end r t is (after M l i) (after M m i) (agree_after r t l m i h)

  abbrev item_of : Key → M.Event → Outcome M.Part M.Event M.Line M.Reason → Item M
  item_of k e o = record { key = k; event = e; out = o }

  -- the next item is determined
  pub takes_one : IsLawful M → (r : ℕ) (l : Local M) (i j : Item M) → TakesAlone M r l i → TakesAlone M r l j → i ≡ j
  takes_one law r l i j x y =
      ⊎_elim same_key (λ h. ⊎_elim (λ b. absurd (none_some _ _ (y.least i.key x.mine b) x.waits)) (λ b. absurd (none_some _ _ (x.least j.key y.mine b) y.waits)) h) (key_cases i.key j.key)
    where
      same_key : i.key ≡ j.key → i ≡ j
      same_key e =
          let p : Some i.event ≡ Some j.event = sym x.waits ∙ ap (waiting M l) e ∙ y.waits in
          let q : i.event ≡ j.event = cc in
          let g : M.Gives l.part j.key j.event i.out = subst (λ (v : M.Event). M.Gives l.part j.key v i.out) q (subst (λ (k : Key). M.Gives l.part k i.event i.out) e x.gives) in
          let o : i.out ≡ j.out = law.one l.part j.key j.event i.out j.out y.fits g y.gives in
          let s : item_of i.key i.event i.out ≡ item_of j.key j.event j.out = cc in s

  -- two runs from states that are alike take the same items
  pub run_unique : IsLawful M → (r t : ℕ) (is js : List (Item M)) (l m : Local M) → Agree r t l m → Run M r l t is → Run M r m t js → is ≡ js
  run_unique law r t [] [] l m h x y = refl
  run_unique law r t [] (j ∷ js) l m h x y =
      absurd (none_some _ _ (x.rests (h.stop ∙ y.chain.0.live) j.key y.chain.0.mine y.below.0) (agree_waiting r t l m h j.key y.chain.0.mine y.below.0 ∙ y.chain.0.waits))
  run_unique law r t (i ∷ is) [] l m h x y =
      absurd (none_some _ _ (y.rests (sym h.stop ∙ x.chain.0.live) i.key x.chain.0.mine x.below.0) (sym (agree_waiting r t l m h i.key x.chain.0.mine x.below.0) ∙ x.chain.0.waits))
  run_unique law r t (i ∷ is) (j ∷ js) l m h x y =
      let e : i ≡ j = takes_one law r m i j (agree_takes r t l m i h x.below.0 x.chain.0) y.chain.0 in
      let h' : Agree r t (after M l i) (after M m j) = subst (λ (z : Item M). Agree r t (after M l i) (after M m z)) e (agree_after r t l m i h) in
      let f : is ≡ js = run_unique law r t is js (after M l i) (after M m j) h' (record { chain = x.chain.1; below = x.below.1; rests = x.rests }) (record { chain = y.chain.1; below = y.below.1; rests = y.rests }) in
      cc

  -- a chain may be cut
  pub cut_in : (t : ℕ) (i : Item M) (is : List (Item M)) → i.key.tick < t → cut M t (i ∷ is) ≡ i ∷ cut M t is
  cut_in t i is h = cond-true _ _ _ (lt-ltb i.key.tick t h)

  pub cut_out : (t : ℕ) (i : Item M) (is : List (Item M)) → t ≤ i.key.tick → cut M t (i ∷ is) ≡ []
  cut_out t i is h = cond-false _ _ _ (le-ltb i.key.tick t h)

  pub cut_run : (r t f : ℕ) (is : List (Item M)) (l : Local M) → t ≤ f → Run M r l f is → Run M r l t (cut M t is)
  cut_run r t f [] l b x = record { chain = tt; below = tt; rests = λ s k e c. x.rests s k e (omega arith) }
  cut_run r t f (i ∷ is) l b x =
      let y : Run M r (after M l i) t (cut M t is) = cut_run r t f is (after M l i) b (record { chain = x.chain.1; below = x.below.1; rests = x.rests }) in
      ⊎_elim
      (λ h. rw (cut_in t i is h) (record { chain = (x.chain.0, y.chain); below = (h, y.below); rests = y.rests }))
      (λ h. rw (cut_out t i is h) (record { chain = tt; below = tt; rests = λ s k e c. x.chain.0.least k e (tick_before k i.key (omega arith)) }))
      (cases_lt i.key.tick t)

  pub cut_cut : (t f : ℕ) (is : List (Item M)) → t ≤ f → cut M t (cut M f is) ≡ cut M t is
  cut_cut t f [] b = refl
  cut_cut t f (i ∷ is) b =
      let y = cut_cut t f is b in
      ⊎_elim
      (λ h. rw (cut_in f i is (omega arith), cut_in t i (cut M f is) h, cut_in t i is h) (ap (λ x. i ∷ x) y))
      (λ h. ⊎_elim (λ c. rw (cut_in f i is c, cut_out t i (cut M f is) h, cut_out t i is h)) (λ c. rw (cut_out f i is c, cut_out t i is h)) (cases_lt i.key.tick f))
      (cases_lt i.key.tick t)

  pub cut_all : (t : ℕ) (is : List (Item M)) → Each (λ (i : Item M). i.key.tick < t) is → cut M t is ≡ is
  cut_all t [] b = refl
  cut_all t (i ∷ is) b = cut_in t i is b.0 ∙ ap (λ x. i ∷ x) (cut_all t is b.1)

  pub cut_zero : (is : List (Item M)) → cut M 0 is ≡ []
  cut_zero [] = refl
  cut_zero (i ∷ is) = cut_out 0 i is (omega arith)

  -- ---- A chain, and then another

  pub chain_append : (r : ℕ) (xs ys : List (Item M)) (l : Local M) → Chain M r l xs → Chain M r (end M l xs) ys → Chain M r l (xs ++ ys)
  chain_append r [] ys l c d = d
  chain_append r (x ∷ xs) ys l c d = (c.0, chain_append r xs ys (after M l x) c.1 d)

  pub end_append : (xs ys : List (Item M)) (l : Local M) → end M l (xs ++ ys) ≡ end M (end M l xs) ys
  end_append [] ys l = refl
  end_append (x ∷ xs) ys l = end_append xs ys (after M l x)

  pub sent_append : (xs ys : List (Item M)) → sent_by M (xs ++ ys) ≡ sent_by M xs ++ sent_by M ys
  sent_append [] ys = refl
  sent_append (x ∷ xs) ys = ap (λ z. x.out.sent ++ z) (sent_append xs ys) ∙ sym (append_assoc x.out.sent (sent_by M xs) (sent_by M ys))

  pub lines_append : (xs ys : List (Item M)) → lines_of M (xs ++ ys) ≡ lines_of M xs ++ lines_of M ys
  lines_append [] ys = refl
  lines_append (x ∷ xs) ys = ap (λ z. x.out.lines ++ z) (lines_append xs ys) ∙ sym (append_assoc x.out.lines (lines_of M xs) (lines_of M ys))

  pub clock_append : (bound : ℕ) (xs ys : List (Item M)) → clock_after M bound (xs ++ ys) ≡ clock_after M (clock_after M bound ys) xs
  clock_append bound [] ys = refl
  clock_append bound (x ∷ xs) ys = ap (stop_or x.out.stop x.key.tick) (clock_append bound xs ys)
