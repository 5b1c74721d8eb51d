-- What one resource does in the sequential simulation is its own chain, with all messages to it put under their keys beforehand.
use Rattle.fb_laws.proofs.lemmas.Common.{◌≡◌, ℕ, ◌<◌, ◌≤◌, Bool, true, false, Option, Some, None, List, [], ◌∷◌, refl, sym, ap, ◌∙◌, subst, ⊎_elim, arith, if◌then◌else◌, ◌==◌, cases_lt, cases_eq, cond-true, cond-false, eq-eqb, ne_eqb, Key, same_key, or_else, found, without, changed_to, Machine, Item, Local, Each, waiting, TakesAlone, end, sent_by, at, with_at, after, Chain, IsTaking, IsLawful, World, TakesLeast, next, Simulates, last}
use Rattle.fb_types.proofs.lemmas.events.KeyLaws.{same_key_is}
use Rattle.fb_types.proofs.lemmas.lists.Lookups.{before_tick, tick_before, same_cases, or_else_none, or_else_assoc, or_else_parts, or_else_nones, none_some, none_since, found-append, without_none, without_other, edit_none}
use Rattle.fb_laws.proofs.lemmas.takings.NoLesserTick.{Fair}

pub with_at_same : {A : Type 0} (r : ℕ) (x : A) (f : ℕ → A) (s : ℕ) → s ≡ r → with_at r x f s ≡ x
with_at_same r x f s e = cond-true _ _ _ (eq-eqb s r e)

pub with_at_other : {A : Type 0} (r : ℕ) (x : A) (f : ℕ → A) (s : ℕ) → (s ≡ r → ⊥) → with_at r x f s ≡ f s
with_at_other r x f s e = cond-false _ _ _ (ne_eqb s r e)

module _ (M : Machine) where
  pub at_mine : (r : ℕ) (i : Item M) (is : List (Item M)) → i.key.resource ≡ r → at M r (i ∷ is) ≡ i ∷ at M r is
  at_mine r i is e = cond-true _ _ _ (eq-eqb i.key.resource r e)

  pub at_other : (r : ℕ) (i : Item M) (is : List (Item M)) → (i.key.resource ≡ r → ⊥) → at M r (i ∷ is) ≡ at M r is
  at_other r i is e = cond-false _ _ _ (ne_eqb i.key.resource r e)

  pub least_fair : IsLawful M → (w : World M) (i : Item M) → TakesLeast M w i → Fair M i.key.resource i
  least_fair law w i x = record {
    mine = refl;
    edits_own = λ k v h. (y law w i x).own k v h;
    edits_later = λ k v h. (y law w i x).later k v h;
    sent_own = λ k v h. (y law w i x).sent_own k v h;
    sent_arrives = λ k v h. (y law w i x).sent_arrives k v h;
    edits_class = λ k v h. (y law w i x).own_class k v h;
    sent_class = λ k v h. (y law w i x).sent_class k v h;
  }
    where
      y : IsLawful M → (w : World M) (i : Item M) → TakesLeast M w i → IsTaking M i.key i.out
      y law w i x = law.taking (w.parts i.key.resource) i.key i.event i.out x.fits x.gives

  pub sim_fair : IsLawful M → (is : List (Item M)) (w : World M) → Simulates M w is → Each (λ (i : Item M). Fair M i.key.resource i) is
  sim_fair law [] w x = tt
  sim_fair law (i ∷ is) w x = (least_fair law w i x.0, sim_fair law is (next M w i) x.1)

  -- nothing waits below t
  abbrev pub NoneBelow : ℕ → World M → Type 0
  NoneBelow t w = (k : Key) → k.tick < t → w.agenda k ≡ None

  pub next_late : IsLawful M → (t : ℕ) (w : World M) (i : Item M) → Fair M i.key.resource i → t ≤ i.key.tick → NoneBelow t w → NoneBelow t (next M w i)
  next_late law t w i f b h k c =
      or_else_nones _ _
      (none_since _ (λ v q. let z : i.key.tick < k.tick = law.arrives_later k i.key.tick (f.sent_arrives k v q) in omega arith))
      (edit_none _ _ (λ v q. absurd (let z : i.key.tick ≤ k.tick = f.edits_later k v q in omega arith)) (without_none i.key w.agenda k (h k c)))

  pub least_late : (t : ℕ) (w : World M) (i : Item M) → TakesLeast M w i → NoneBelow t w → t ≤ i.key.tick
  least_late t w i x h = ⊎_elim (λ b. absurd (none_some _ _ (h i.key b) x.waits)) (λ b. b) (cases_lt i.key.tick t)

  pub sim_late : IsLawful M → (t : ℕ) (is : List (Item M)) (w : World M) → NoneBelow t w → Simulates M w is → Each (λ (i : Item M). t ≤ i.key.tick) is
  sim_late law t [] w h x = tt
  sim_late law t (i ∷ is) w h x =
      let b = least_late t w i x.0 h in
      (b, sim_late law t is (next M w i) (next_late law t w i (least_fair law w i x.0) b h) x.1)

  -- what the items send arrives after them
  fair_late : IsLawful M → (t : ℕ) (is : List (Item M)) → Each (λ (i : Item M). Fair M i.key.resource i) is → Each (λ (i : Item M). t ≤ i.key.tick) is → (k : Key) → k.tick ≤ t → found k (sent_by M is) ≡ None
  fair_late law t [] f h k c = refl
  fair_late law t (i ∷ is) f h k c =
      found-append k i.out.sent (sent_by M is) ∙ or_else_nones _ _ (fair_late law t is f.1 h.1 k c)
      (none_since _ (λ v q. let z : i.key.tick < k.tick = law.arrives_later k i.key.tick (f.0.sent_arrives k v q) in let b : t ≤ i.key.tick = h.0 in omega arith))

  -- nothing that a simulation sends arrives at its first tick or before
  pub sent_later : IsLawful M → (w : World M) (i : Item M) (is : List (Item M)) → Simulates M w (i ∷ is) → (k : Key) → k.tick ≤ i.key.tick → found k (sent_by M (i ∷ is)) ≡ None
  sent_later law w i is x k c =
      fair_late law i.key.tick (i ∷ is) (sim_fair law (i ∷ is) w x) (sim_late law i.key.tick (i ∷ is) w (λ z b. x.0.least z (tick_before z i.key b)) x) k c

  -- the state of r by itself, once all that these items send has arrived beforehand
  pub record Like (r : ℕ) (l : Local M) (w : World M) (is : List (Item M)) : Type 0 where
    pub part : l.part ≡ w.parts r
    pub stop : l.stop ≡ w.stops r
    pub own : (k : Key) → k.resource ≡ r → l.own k ≡ (if k.class == 2 then None else w.agenda k)
    pub inbox : (k : Key) → k.resource ≡ r → l.inbox k ≡ or_else (found k (sent_by M is)) (if k.class == 2 then w.agenda k else None)

  pub split_class : {V : Type 0} (b : Bool) (o : Option V) → or_else (if b then None else o) (if b then o else None) ≡ o
  split_class true o = refl
  split_class false None = refl
  split_class false (Some v) = refl

  pub like_waiting : (r : ℕ) (l : Local M) (w : World M) (is : List (Item M)) → Like r l w is → (k : Key) → k.resource ≡ r → found k (sent_by M is) ≡ None → waiting M l k ≡ w.agenda k
  like_waiting r l w is h k e n =
      let p : l.inbox k ≡ (if k.class == 2 then w.agenda k else None) = h.inbox k e ∙ ap (λ o. or_else o (if k.class == 2 then w.agenda k else None)) n in
      rw (h.own k e, p) (split_class (k.class == 2) (w.agenda k))

  pub like_takes : IsLawful M → (r : ℕ) (l : Local M) (w : World M) (i : Item M) (is : List (Item M)) → i.key.resource ≡ r → Simulates M w (i ∷ is) → Like r l w (i ∷ is) → TakesAlone M r l i
  like_takes law r l w i is e x h = record {
    mine = e;
    live = h.stop ∙ x.0.live r;
    waits = like_waiting r l w (i ∷ is) h i.key e (sent_later law w i is x i.key (omega arith)) ∙ x.0.waits;
    least = λ k d b. like_waiting r l w (i ∷ is) h k d (sent_later law w i is x k (before_tick k i.key b)) ∙ x.0.least k b;
    fits = x.0.fits;
    gives = subst (λ (p : M.Part). M.Gives p i.key i.event i.out) (sym h.part) (subst (λ (s : ℕ). M.Gives (w.parts s) i.key i.event i.out) e x.0.gives);
  }

  pub clash : {V : Type 0} (k : Key) (o : Option V) (b : Bool) → ((v : V) → o ≡ Some v → (k.class == 2) ≡ b) → (b ≡ true → ⊥) → (k.class == 2) ≡ true → o ≡ None
  clash k o b f n h = none_since o (λ v q. n (sym (f v q) ∙ h))

  pub clash' : {V : Type 0} (k : Key) (o : Option V) (b : Bool) → ((v : V) → o ≡ Some v → (k.class == 2) ≡ b) → (b ≡ false → ⊥) → (k.class == 2) ≡ false → o ≡ None
  clash' k o b f n h = none_since o (λ v q. n (sym (f v q) ∙ h))

  pub own_step : {V : Type 0} (b s : Bool) (S : Option V) (E : Option (Option V)) (o A : Option V) → o ≡ (if b then None else A) → (b ≡ true → E ≡ None) → (b ≡ false → S ≡ None) →
      changed_to E (if s then None else o) ≡ (if b then None else or_else S (changed_to E (if s then None else A)))
  own_step true true S E o A h p q = rw (p refl) refl
  own_step true false S E o A h p q = rw (p refl) h
  own_step false true S E o A h p q = rw (q refl) refl
  own_step false false S E o A h p q = rw (q refl, h) refl

  pub inbox_step : {V : Type 0} (b s : Bool) (F S : Option V) (E : Option (Option V)) (o A : Option V) → o ≡ or_else (or_else F S) (if b then A else None) → (b ≡ true → E ≡ None) → (b ≡ false → S ≡ None) → (s ≡ true → F ≡ None) → (s ≡ true → S ≡ None) →
      (if s then None else o) ≡ or_else F (if b then or_else S (changed_to E (if s then None else A)) else None)
  inbox_step true true F S E o A h p q f g = rw (f refl, g refl, p refl) refl
  inbox_step false true F S E o A h p q f g = rw (f refl) refl
  inbox_step true false F S E o A h p q f g = rw (p refl) (h ∙ or_else_assoc F S A)
  inbox_step false false F S E o A h p q f g = rw (h, q refl) (ap (λ z. or_else z None) (or_else_none F))

  pub false≢true' : false ≡ true → ⊥
  false≢true' h = cc

  pub true≢false' : true ≡ false → ⊥
  true≢false' h = cc

  -- the step of the resource that takes
  pub like_after : IsLawful M → (r : ℕ) (l : Local M) (w : World M) (i : Item M) (is : List (Item M)) → i.key.resource ≡ r → Simulates M w (i ∷ is) → Like r l w (i ∷ is) → Like r (after M l i) (next M w i) is
  like_after law r l w i is e x h = record {
    part = sym (with_at_same i.key.resource i.out.part w.parts r (sym e));
    stop = sym (with_at_same i.key.resource i.out.stop w.stops r (sym e));
    own = λ k d. own_step (k.class == 2) (same_key i.key k) (found k i.out.sent) ((i.out.changes k)) (l.own k) (w.agenda k) (h.own k d)
        (clash k ((i.out.changes k)) false (λ v q. f.edits_class k v q) false≢true') (clash' k (found k i.out.sent) true (λ v q. f.sent_class k v q) true≢false');
    inbox = λ k d. inbox_step (k.class == 2) (same_key i.key k) (found k (sent_by M is)) (found k i.out.sent) ((i.out.changes k)) (l.inbox k) (w.agenda k)
        (h.inbox k d ∙ ap (λ o. or_else o (if k.class == 2 then w.agenda k else None)) (found-append k i.out.sent (sent_by M is)))
        (clash k ((i.out.changes k)) false (λ v q. f.edits_class k v q) false≢true') (clash' k (found k i.out.sent) true (λ v q. f.sent_class k v q) true≢false')
        (λ s. (parts k s).0) (λ s. (parts k s).1);
  }
    where
      f : Fair M i.key.resource i
      f = least_fair law w i x.0

      parts : (k : Key) → same_key i.key k ≡ true → (found k (sent_by M is) ≡ None) × (found k i.out.sent ≡ None)
      parts k s = or_else_parts _ _ (sym (found-append k i.out.sent (sent_by M is)) ∙ sent_later law w i is x k (let z : i.key.tick ≡ k.tick = ap (λ y. y.tick) (same_key_is i.key k s) in omega arith))

  -- the step of another
  pub like_other : IsLawful M → (r : ℕ) (l : Local M) (w : World M) (i : Item M) (is : List (Item M)) → (i.key.resource ≡ r → ⊥) → Simulates M w (i ∷ is) → Like r l w (i ∷ is) → Like r l (next M w i) is
  like_other law r l w i is n x h = record {
    part = h.part ∙ sym (with_at_other i.key.resource i.out.part w.parts r (λ e. n (sym e)));
    stop = h.stop ∙ sym (with_at_other i.key.resource i.out.stop w.stops r (λ e. n (sym e)));
    own = λ k d. let p = own_step (k.class == 2) false (found k i.out.sent) None (l.own k) (w.agenda k) (h.own k d) (λ _. refl) (clash' k (found k i.out.sent) true (λ v q. f.sent_class k v q) true≢false') in
        p ∙ ap (λ o. if k.class == 2 then None else or_else (found k i.out.sent) o) (sym (kept k d));
    inbox = λ k d. let p = inbox_step (k.class == 2) false (found k (sent_by M is)) (found k i.out.sent) None (l.inbox k) (w.agenda k)
        (h.inbox k d ∙ ap (λ o. or_else o (if k.class == 2 then w.agenda k else None)) (found-append k i.out.sent (sent_by M is)))
        (λ _. refl) (clash' k (found k i.out.sent) true (λ v q. f.sent_class k v q) true≢false') (λ s. absurd (false≢true' s)) (λ s. absurd (false≢true' s)) in
        p ∙ ap (λ o. or_else (found k (sent_by M is)) (if k.class == 2 then or_else (found k i.out.sent) o else None)) (sym (kept k d));
  }
    where
      f : Fair M i.key.resource i
      f = least_fair law w i x.0

      kept : (k : Key) → k.resource ≡ r → changed_to ((i.out.changes k)) (without i.key w.agenda k) ≡ w.agenda k
      kept k d =
          let p : (i.out.changes k) ≡ None = none_since _ (λ v q. n (sym (f.edits_own k v q) ∙ d)) in
          ap (λ o. changed_to o (without i.key w.agenda k)) p ∙ without_other i.key w.agenda k (⊎_elim (λ q. absurd (n (ap (λ y. y.resource) q ∙ d))) (λ q. q) (same_cases i.key k))

  -- the whole chain
  pub like_chain : IsLawful M → (r : ℕ) (is : List (Item M)) (l : Local M) (w : World M) → Simulates M w is → Like r l w is → Chain M r l (at M r is) × Like r (end M l (at M r is)) (last M w is) []
  like_chain law r [] l w x h = (tt, h)
  like_chain law r (i ∷ is) l w x h =
      ⊎_elim
      (λ e. let y = like_chain law r is (after M l i) (next M w i) x.1 (like_after law r l w i is e x h) in
      rw (at_mine r i is e) ((like_takes law r l w i is e x h, y.0), y.1))
      (λ n. let y = like_chain law r is l (next M w i) x.1 (like_other law r l w i is n x h) in
      rw (at_other r i is n) y)
      (cases_eq i.key.resource r)
