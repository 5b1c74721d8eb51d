-- A resource by itself, with its arrivals only in its inbox, takes an event from all that waits.
use Rattle.fb_laws.proofs.lemmas.Common.{◌≡◌, Bool, true, false, cond, Option, Some, None, refl, sym, ap, ◌∙◌, ⊎_elim, ◌==◌, cases_Bool, same_key, or_else, without, changed_to, Machine, Item, Local, waiting, Key, after}
use Rattle.fb_types.proofs.lemmas.lists.Lookups.{or_else_none, none_since, without_none}

false_true : (b : Bool) → b ≡ false → b ≡ true → ⊥
false_true b f t = cc

module _ (M : Machine) where
  -- Arrivals wait in the inbox, and nothing else does.
  pub record IsParted (l : Local M) : Type 0 where
    pub own : (j : Key) → (j.class == 2) ≡ true → l.own j ≡ None
    pub inbox : (j : Key) → (j.class == 2) ≡ false → l.inbox j ≡ None

  -- no change is of an arrival
  abbrev pub ChangesOwn : Item M → Type 0
  ChangesOwn i = (j : Key) (v : Option M.Event) → i.out.changes j ≡ Some v → (j.class == 2) ≡ false

  no_change : (i : Item M) → ChangesOwn i → (j : Key) → (j.class == 2) ≡ true → i.out.changes j ≡ None
  no_change i own j arrival = none_since (i.out.changes j) (λ v h. false_true (j.class == 2) (own j v h) arrival)

  -- what waits after a taking
  pub waiting_after : (l : Local M) (i : Item M) → IsParted l → ChangesOwn i → (j : Key)
      → waiting M (after M l i) j ≡ changed_to (i.out.changes j) (without i.key (waiting M l) j)
  waiting_after l i parted own j = ⊎_elim arrival other (cases_Bool (j.class == 2))
    where
      arrival : (j.class == 2) ≡ true → waiting M (after M l i) j ≡ changed_to (i.out.changes j) (without i.key (waiting M l) j)
      arrival h = go (i.out.changes j) (l.own j) (same_key i.key j) (no_change i own j h) (parted.own j h)
        where
          go : (o : Option (Option M.Event)) (a : Option M.Event) (b : Bool) → o ≡ None → a ≡ None
              → or_else (changed_to o (cond b None a)) (cond b None (l.inbox j)) ≡ changed_to o (cond b None (or_else a (l.inbox j)))
          go None None true p q = refl
          go None None false p q = refl
          go (Some v) a b p q = absurd cc
          go None (Some v) b p q = absurd cc

      other : (j.class == 2) ≡ false → waiting M (after M l i) j ≡ changed_to (i.out.changes j) (without i.key (waiting M l) j)
      other h = go (i.out.changes j) (l.own j) (l.inbox j) (same_key i.key j) (parted.inbox j h)
        where
          go : (o : Option (Option M.Event)) (a z : Option M.Event) (b : Bool) → z ≡ None
              → or_else (changed_to o (cond b None a)) (cond b None z) ≡ changed_to o (cond b None (or_else a z))
          go o a None true p = or_else_none (changed_to o None)
          go o a None false p = or_else_none (changed_to o a) ∙ ap (changed_to o) (sym (or_else_none a))
          go o a (Some v) b p = absurd cc

  -- arrivals are still apart after a taking
  pub parted_after : (l : Local M) (i : Item M) → IsParted l → ChangesOwn i → IsParted (after M l i)
  parted_after l i parted own = record {
    own = λ j h. ap (λ o. changed_to o (without i.key l.own j)) (no_change i own j h) ∙ without_none i.key l.own j (parted.own j h);
    inbox = λ j h. without_none i.key l.inbox j (parted.inbox j h);
  }
