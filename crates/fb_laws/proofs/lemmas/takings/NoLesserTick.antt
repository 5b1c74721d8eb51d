-- Nothing comes under a lesser tick than the one taken.
use Rattle.fb_laws.proofs.lemmas.Common.{◌≡◌, ℕ, ◌<◌, ◌≤◌, true, false, Option, Some, None, List, [], ◌∷◌, refl, sym, ◌∙◌, ⊎_elim, arith, ◌==◌, cases_lt, Key, found, Machine, Item, Local, Each, waiting, TakesAlone, end, sent_by, cut, after, Chain, IsTaking, IsLawful}
use Rattle.fb_types.proofs.lemmas.lists.Lookups.{tick_before, or_else_parts, or_else_nones, none_some, found-append, without_none, edit_none}
use Rattle.fb_types.proofs.lemmas.lists.EachLaws.{each_both}
use Rattle.fb_laws.proofs.lemmas.resources.Chains.{cut_in, cut_out}

module _ (M : Machine) where
  -- what holds of each item that r takes
  pub record Fair (r : ℕ) (i : Item M) : Type 0 where
    pub mine : i.key.resource ≡ r
    pub edits_own : (k : Key) (v : Option M.Event) → (i.out.changes k) ≡ Some v → k.resource ≡ r
    pub edits_later : (k : Key) (v : M.Event) → (i.out.changes k) ≡ Some (Some v) → i.key.tick ≤ k.tick
    pub sent_own : (k : Key) (v : M.Event) → found k i.out.sent ≡ Some v → M.sender k ≡ r
    pub sent_arrives : (k : Key) (v : M.Event) → found k i.out.sent ≡ Some v → M.Arrives k i.key.tick
    pub edits_class : (k : Key) (v : Option M.Event) → (i.out.changes k) ≡ Some v → (k.class == 2) ≡ false
    pub sent_class : (k : Key) (v : M.Event) → found k i.out.sent ≡ Some v → (k.class == 2) ≡ true

  pub takes_fair : IsLawful M → (r : ℕ) (l : Local M) (i : Item M) → TakesAlone M r l i → Fair r i
  takes_fair law r l i x = record {
    mine = x.mine;
    edits_own = λ k v h. (y law r l i x).own k v h ∙ x.mine;
    edits_later = λ k v h. (y law r l i x).later k v h;
    sent_own = λ k v h. (y law r l i x).sent_own k v h ∙ x.mine;
    sent_arrives = λ k v h. (y law r l i x).sent_arrives k v h;
    edits_class = λ k v h. (y law r l i x).own_class k v h;
    sent_class = λ k v h. (y law r l i x).sent_class k v h;
  }
    where
      y : IsLawful M → (r : ℕ) (l : Local M) (i : Item M) → TakesAlone M r l i → IsTaking M i.key i.out
      y law r l i x = law.taking l.part i.key i.event i.out x.fits x.gives

  pub chain_fair : IsLawful M → (r : ℕ) (is : List (Item M)) (l : Local M) → Chain M r l is → Each (Fair r) is
  chain_fair law r [] l c = tt
  chain_fair law r (i ∷ is) l c = (takes_fair law r l i c.0, chain_fair law r is (after M l i) c.1)

  -- nothing waits below t
  abbrev pub Late : ℕ → ℕ → Local M → Type 0
  Late r t l = (k : Key) → k.resource ≡ r → k.tick < t → waiting M l k ≡ None

  pub takes_late : (r : ℕ) (l : Local M) (i : Item M) → TakesAlone M r l i → Late r i.key.tick l
  takes_late r l i x k e b = x.least k e (tick_before k i.key b)

  pub late_after : (r t : ℕ) (l : Local M) (i : Item M) → Fair r i → t ≤ i.key.tick → Late r t l → Late r t (after M l i)
  late_after r t l i f b h k e c =
      let p = or_else_parts (l.own k) (l.inbox k) (h k e c) in
      or_else_nones _ _ (edit_none _ _ (λ v q. absurd (let z : i.key.tick ≤ k.tick = f.edits_later k v q in omega arith)) (without_none i.key l.own k p.0)) (without_none i.key l.inbox k p.1)

  pub late_least : (r t : ℕ) (l : Local M) (i : Item M) → TakesAlone M r l i → Late r t l → t ≤ i.key.tick
  late_least r t l i x h = ⊎_elim (λ b. absurd (none_some _ _ (h i.key x.mine b) x.waits)) (λ b. b) (cases_lt i.key.tick t)

  pub chain_late : IsLawful M → (r t : ℕ) (is : List (Item M)) (l : Local M) → Late r t l → Chain M r l is → Each (λ (i : Item M). t ≤ i.key.tick) is
  chain_late law r t [] l h c = tt
  chain_late law r t (i ∷ is) l h c =
      let b = late_least r t l i c.0 h in
      (b, chain_late law r t is (after M l i) (late_after r t l i (takes_fair law r l i c.0) b h) c.1)

  pub end_late : IsLawful M → (r t : ℕ) (is : List (Item M)) (l : Local M) → Late r t l → Chain M r l is → Late r t (end M l is)
  end_late law r t [] l h c = h
  end_late law r t (i ∷ is) l h c =
      let b = late_least r t l i c.0 h in
      end_late law r t is (after M l i) (late_after r t l i (takes_fair law r l i c.0) b h) c.1

  pub found_none : (k : Key) (is : List (Item M)) → Each (λ (i : Item M). found k i.out.sent ≡ None) is → found k (sent_by M is) ≡ None
  found_none k [] h = refl
  found_none k (i ∷ is) h = found-append k i.out.sent (sent_by M is) ∙ or_else_nones _ _ (found_none k is h.1) h.0

  -- messages under a key that only items below t send
  pub found_cut : IsLawful M → (r t : ℕ) (k : Key) (is : List (Item M)) (l : Local M) → Chain M r l is → Each (λ (i : Item M). t ≤ i.key.tick → found k i.out.sent ≡ None) is → found k (sent_by M (cut M t is)) ≡ found k (sent_by M is)
  found_cut law r t k [] l c h = refl
  found_cut law r t k (i ∷ is) l c h =
      let y = found_cut law r t k is (after M l i) c.1 h.1 in
      ⊎_elim
      (λ b. rw (cut_in M t i is b, found-append k i.out.sent (sent_by M (cut M t is)), found-append k i.out.sent (sent_by M is), y))
      (λ b. let late : Each (λ (j : Item M). t ≤ j.key.tick) (i ∷ is) = chain_late law r t (i ∷ is) l (λ z e q. takes_late r l i c.0 z e (omega arith)) c in
      let nones = each_both _ _ (λ (j : Item M). found k j.out.sent ≡ None) (i ∷ is) (λ j p q. q p) late h in
      rw (cut_out M t i is b) (sym (found_none k (i ∷ is) nones)))
      (cases_lt i.key.tick t)
