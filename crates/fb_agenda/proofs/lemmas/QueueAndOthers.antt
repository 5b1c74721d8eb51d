-- The events of an agenda: the queue of the running tick and all others.
use Rattle.fb_agenda.proofs.lemmas.Common.{◌≡◌, Bool, true, false, cond, ◌<◌, ◌≤◌, zero, suc, List, [], ◌++◌, arith, refl, sym, ap, subst, ◌∙◌, Option, Some, None, Result, Ok, Err, IsSome, IfSome, IfNone, OnOk, OnErr, is_some, ℕ, OnTrue, lookup, is_lt, Precedes, key_cmp, or_else, same_key, Key, IsStrictlySortedBy, AreApart, AreRising, Contents, IsFirst, IsPut, IsQueue, waiting, Pending, BeginsAt, IsPopped, Sets, Event}
use Rattle.fb_types.proofs.Common.{◌≢◌, min, ◌⊎◌, inl, inr, OnFalse}
use Rattle.fb_types.proofs.lemmas.events.KeyLaws.{earlier_precedes, same_key_is}
use Rattle.fb_types.proofs.lemmas.lists.Lookups.{or_else_none}
use Rattle.fb_agenda.specs.Agendas.{IsLeast, IsNext}
use Rattle.fb_agenda.specs.Lists.{AreSplit}
use Rattle.fb_agenda.specs.LeastEvents.{taken}
use Rattle.fb_agenda.specs.declared.least.Least.{Least}
use Rattle.fb_agenda.proofs.lemmas.Lists.{few_is_first, leads_less, leads_not_less, lookup_both, many_is_first, none_below}
use Rattle.fb_agenda.proofs.lemmas.Orders.{either_some, less_from, not_below, not_none, precedes_tick}

-- an agenda with these events in the queue, and these outside it
abbrev pub contents : List (Key × Event) → Pending → Contents
contents running l = record { running = running; later = l.events; due = l.due }

-- nothing waits
pub apart_none : (running later : List (Key × Event)) (due : List ℕ) → running ≡ [] → AreApart (record { running = running; later = later; due = due })
unfolding IsStrictlySortedBy
apart_none running later due none =
    subst (λ l. AreApart (record { running = l; later = later; due = due })) (sym none)
    (record {
      queue = record { rising = tt; tick = λ j k there. absurd (not_none {X = Event} None there refl); local = λ j other. refl };
      apart = λ j there. absurd (not_none {X = Event} None there refl);
    })

module _ (c : Contents) (apart : AreApart c) (k : Key) (w : Option Event) where
  -- ---- Changes of the queue

  module _ (new : List (Key × Event)) (sets : Sets k w c.running new) (alone : lookup (same_key k) c.later ≡ None) where
    alone_at : (j : Key) → same_key k j ≡ true → lookup (same_key j) c.later ≡ None
    alone_at j same = subst (λ (z : Key). lookup (same_key z) c.later ≡ None) (same_key_is k j same) alone

    pub queue_waits : (j : Key) → waiting (record { running = new; later = c.later; due = c.due }) j ≡ cond (same_key k j) w (waiting c j)
    queue_waits j = ap (λ o. or_else o (lookup (same_key j) c.later)) (sets j) ∙ go (same_key k j) refl
      where
        go : (s : Bool) → same_key k j ≡ s → or_else (cond s w (lookup (same_key j) c.running)) (lookup (same_key j) c.later) ≡ cond s w (waiting c j)
        go true same = ap (λ o. or_else w o) (alone_at j same) ∙ or_else_none w
        go false same = refl

    pub queue_apart : IsQueue new → AreApart (record { running = new; later = c.later; due = c.due })
    queue_apart queue = record { queue = queue; apart = λ j there. go j there (same_key k j) refl }
      where
        go : (j : Key) → IsSome (lookup (same_key j) new) → (s : Bool) → same_key k j ≡ s → lookup (same_key j) c.later ≡ None
        go j there true same = alone_at j same
        go j there false same = apart.apart j (subst (λ o. IsSome o) (sets j ∙ ap (λ b. cond b w (lookup (same_key j) c.running)) same) there)

  -- ---- Changes of the others

  module _ (new : List (Key × Event)) (sets : Sets k w c.later new) (due : List ℕ) where
    pub later_waits : lookup (same_key k) c.running ≡ None → (j : Key) → waiting (record { running = c.running; later = new; due = due }) j ≡ cond (same_key k j) w (waiting c j)
    later_waits none j = ap (λ o. or_else (lookup (same_key j) c.running) o) (sets j) ∙ go (same_key k j) refl
      where
        go : (s : Bool) → same_key k j ≡ s → or_else (lookup (same_key j) c.running) (cond s w (lookup (same_key j) c.later)) ≡ cond s w (waiting c j)
        go true same = ap (λ o. or_else o w) (subst (λ (z : Key). lookup (same_key z) c.running ≡ None) (same_key_is k j same) none)
        go false same = refl

    -- If an event is put there, its key is not in the queue.
    pub later_apart : (w ≡ None) ⊎ (lookup (same_key k) c.running ≡ None) → AreApart (record { running = c.running; later = new; due = due })
    later_apart gone = record { queue = apart.queue; apart = λ j there. go j there (same_key k j) refl gone }
      where
        go : (j : Key) → IsSome (lookup (same_key j) c.running) → (s : Bool) → same_key k j ≡ s → (w ≡ None) ⊎ (lookup (same_key k) c.running ≡ None) → lookup (same_key j) new ≡ None
        go j there true same (inl e) = sets j ∙ ap (λ b. cond b w (lookup (same_key j) c.later)) same ∙ e
        go j there true same (inr none) =
            absurd (not_none (lookup (same_key j) c.running) there (subst (λ (z : Key). lookup (same_key z) c.running ≡ None) (same_key_is k j same) none))
        go j there false same g = sets j ∙ ap (λ b. cond b w (lookup (same_key j) c.later)) same ∙ apart.apart j there

-- ---- The tick of the first

pub next_first : (c : Contents) (k : Key) → IsFirst (c.running ++ c.later) k → IsNext c k.tick
next_first c k first = record {
  waits = (k, refl, subst (λ o. IsSome o) (lookup_both k c.running c.later) first.there);
  none_below = λ j there. not_below j.tick k.tick
      (λ less. not_none (waiting c j) there (sym (lookup_both j c.running c.later) ∙ first.none_before j (earlier_precedes j k less)));
}

-- if both have events
pub next_of_both : (c : Contents) (k l : Key) → IsFirst c.running k → IsFirst c.later l → IsNext c (min k.tick l.tick)
next_of_both c k l running later = go (is_lt (key_cmp l k)) refl
  where
    go : (b : Bool) → is_lt (key_cmp l k) ≡ b → IsNext c (min k.tick l.tick)
    go true e =
        let next = next_first c l (many_is_first c.running c.later (leads_less c.later c.running l k later running e) l later) in
        let le : l.tick ≤ k.tick = precedes_tick l k (less_from (key_cmp l k) e) in
        let same : l.tick ≡ min k.tick l.tick = omega (arith, le) in
        subst (IsNext c) same next
    go false e =
        let next = next_first c k (few_is_first c.running c.later (leads_not_less c.later c.running l k later running e) k running) in
        let le : k.tick ≤ l.tick = next.none_below l (either_some (lookup (same_key l) c.running) (lookup (same_key l) c.later) later.there) in
        let same : k.tick ≡ min k.tick l.tick = omega (arith, le) in
        subst (IsNext c) same next

-- ---- The queue

three : (n : ℕ) → (n ≢ 3 → ⊥) → n ≡ 3
three zero h = absurd (h (λ e. omega (arith, e)))
three (suc zero) h = absurd (h (λ e. omega (arith, e)))
three (suc (suc zero)) h = absurd (h (λ e. omega (arith, e)))
three (suc (suc (suc zero))) h = refl
three (suc (suc (suc (suc n)))) h = absurd (h (λ e. omega (arith, e)))

-- a key in the queue is that of a local event
pub queue_class : (es : List (Key × Event)) → IsQueue es → (k : Key) → IsSome (lookup (same_key k) es) → k.class ≡ 3
queue_class es queue k there = three k.class (λ other. not_none (lookup (same_key k) es) there (queue.local k other))

module _ (es new : List (Key × Event)) (k : Key) (queue : IsQueue es) (rising : AreRising new) where
  -- without one of its events
  pub queue_less : Sets k None es new → IsQueue new
  queue_less sets = record {
    rising = rising;
    tick = λ i j first second. queue.tick i j (had i first (same_key k i) refl) (had j second (same_key k j) refl);
    local = λ j other. sets j ∙ none (same_key k j) (lookup (same_key j) es) (queue.local j other);
  }
    where
      none : (b : Bool) (o : Option Event) → o ≡ None → cond b None o ≡ None
      none true o e = refl
      none false o e = e

      had : (j : Key) → IsSome (lookup (same_key j) new) → (b : Bool) → same_key k j ≡ b → IsSome (lookup (same_key j) es)
      had j there true same = absurd (not_none (lookup (same_key j) new) there (sets j ∙ ap (λ b. cond b None (lookup (same_key j) es)) same))
      had j there false same = subst (λ o. IsSome o) (sets j ∙ ap (λ b. cond b None (lookup (same_key j) es)) same) there

  -- with another under a key of its tick
  pub queue_more : (e : Event) → k.class ≡ 3 → ((j : Key) → IsSome (lookup (same_key j) es) → j.tick ≡ k.tick) → Sets k (Some e) es new → IsQueue new
  queue_more e class tick sets = record {
    rising = rising;
    tick = λ i j first second. at i first (same_key k i) refl ∙ sym (at j second (same_key k j) refl);
    local = λ j other. sets j ∙ none j other (same_key k j) refl;
  }
    where
      none : (j : Key) → j.class ≢ 3 → (b : Bool) → same_key k j ≡ b → cond b (Some e) (lookup (same_key j) es) ≡ None
      none j other true same = absurd (other (sym (ap (λ (z : Key). z.class) (same_key_is k j same)) ∙ class))
      none j other false same = queue.local j other

      at : (j : Key) → IsSome (lookup (same_key j) new) → (b : Bool) → same_key k j ≡ b → j.tick ≡ k.tick
      at j there true same = sym (ap (λ (z : Key). z.tick) (same_key_is k j same))
      at j there false same = tick j (subst (λ o. IsSome o) (sets j ∙ ap (λ b. cond b (Some e) (lookup (same_key j) es)) same) there)

-- ---- Taking the first

pub split_of : (c : Contents) → AreApart c → AreSplit c.running c.later
split_of c apart = record { rising = apart.queue.rising; apart = apart.apart }

pub queue_popped : (c : Contents) → AreApart c → (new : List (Key × Event)) (o : Option (Key × Event)) → AreRising new → IsPopped c.running new o → AreApart (record { running = new; later = c.later; due = c.due })
queue_popped c apart new None rising popped = subst (λ l. AreApart (record { running = l; later = c.later; due = c.due })) (sym popped.kept) apart
queue_popped c apart new (Some f) rising popped =
    queue_apart c apart f.0 None new popped.left (apart.apart f.0 (ap is_some popped.value)) (queue_less c.running new f.0 apart.queue rising popped.left)

pub later_popped : (c : Contents) → AreApart c → (new : List (Key × Event)) (due : List ℕ) (o : Option (Key × Event)) → IsPopped c.later new o → AreApart (record { running = c.running; later = new; due = due })
later_popped c apart new due None popped = record { queue = apart.queue; apart = λ j there. ap (lookup (same_key j)) popped.kept ∙ apart.apart j there }
later_popped c apart new due (Some f) popped = later_apart c apart f.0 None new popped.left due (inl refl)

-- what was taken from both
module _ (c new : Contents) (b : Bool) (l : Least) (popped : IsPopped (c.running ++ c.later) (new.running ++ new.later) (taken b l)) where
  pub taken_found : OnTrue b (waiting c l.key ≡ Some l.event)
  taken_found = go b popped
    where
      go : (b : Bool) → IsPopped (c.running ++ c.later) (new.running ++ new.later) (taken b l) → OnTrue b (waiting c l.key ≡ Some l.event)
      go true popped = sym (lookup_both l.key c.running c.later) ∙ popped.value
      go false popped = tt

  pub taken_least : OnTrue b ((j : Key) → Precedes j l.key → waiting c j ≡ None)
  taken_least = go b popped
    where
      go : (b : Bool) → IsPopped (c.running ++ c.later) (new.running ++ new.later) (taken b l) → OnTrue b ((j : Key) → Precedes j l.key → waiting c j ≡ None)
      go true popped = λ j before. sym (lookup_both j c.running c.later) ∙ popped.none_before j before
      go false popped = tt

  pub taken_left : OnTrue b ((j : Key) → waiting new j ≡ cond (same_key l.key j) None (waiting c j))
  taken_left = go b popped
    where
      go : (b : Bool) → IsPopped (c.running ++ c.later) (new.running ++ new.later) (taken b l) → OnTrue b ((j : Key) → waiting new j ≡ cond (same_key l.key j) None (waiting c j))
      go true popped = λ j. sym (lookup_both j new.running new.later) ∙ popped.left j ∙ ap (cond (same_key l.key j) None) (lookup_both j c.running c.later)
      go false popped = tt

pub taken_none : (c : Contents) (t : ℕ) (b : Bool) (l : Least) → IfNone (taken b l) (BeginsAt t (c.running ++ c.later)) → OnFalse b ((j : Key) → j.tick < t → waiting c j ≡ None)
taken_none c t true l begins = tt
taken_none c t false l begins = λ j below. sym (lookup_both j c.running c.later) ∙ none_below (c.running ++ c.later) t begins j below

pub taken_below : (t : ℕ) (b : Bool) (l : Least) → IfSome (taken b l) (λ r. r.0.tick < t) → OnTrue b (l.key.tick < t)
taken_below t true l below = below
taken_below t false l below = tt

pub taken_kept : (P : Type 0) (b : Bool) (l : Least) → IfNone (taken b l) P → OnFalse b P
taken_kept P true l kept = tt
taken_kept P false l kept = kept

-- ---- Putting

-- an event goes to the others, or it does not
module _ (running : List (Key × Event)) (old new : Pending) (apart : AreApart (contents running old)) (k : Key) (e : Event) (none : lookup (same_key k) running ≡ None) where
  pub put_later_apart : {A E : Type 0} (r : Result A E) → OnOk r (Sets k (Some e) old.events new.events) → OnErr r (new ≡ old) → AreApart (contents running new)
  put_later_apart (Ok x) sets kept = later_apart (contents running old) apart k (Some e) new.events sets new.due (inr none)
  put_later_apart (Err x) sets kept = subst (λ l. AreApart (contents running l)) (sym kept) apart

  pub put_later_waits : {A E : Type 0} (r : Result A E) → OnOk r (Sets k (Some e) old.events new.events) → OnOk r (IsPut (contents running old) (contents running new) k e)
  put_later_waits (Ok x) sets = later_waits (contents running old) apart k (Some e) new.events sets new.due none
  put_later_waits (Err x) sets = tt

-- an event goes to the others, and its key leaves the queue
module _ (c : Contents) (apart : AreApart c) (k : Key) (e : Event) (running new : List (Key × Event)) (gone : Sets k None c.running running) (sets : Sets k (Some e) c.later new) (due : List ℕ) where
  pub moved_waits : (j : Key) → waiting (record { running = running; later = new; due = due }) j ≡ cond (same_key k j) (Some e) (waiting c j)
  moved_waits j =
      ap (λ o. or_else o (lookup (same_key j) new)) (gone j) ∙ ap (λ o. or_else (cond (same_key k j) None (lookup (same_key j) c.running)) o) (sets j) ∙ go (same_key k j)
    where
      go : (s : Bool) → or_else (cond s None (lookup (same_key j) c.running)) (cond s (Some e) (lookup (same_key j) c.later)) ≡ cond s (Some e) (waiting c j)
      go true = refl
      go false = refl

  pub moved_apart : IsQueue running → AreApart (record { running = running; later = new; due = due })
  moved_apart queue = record { queue = queue; apart = λ j there. go j there (same_key k j) refl }
    where
      go : (j : Key) → IsSome (lookup (same_key j) running) → (s : Bool) → same_key k j ≡ s → lookup (same_key j) new ≡ None
      go j there true same = absurd (not_none (lookup (same_key j) running) there (gone j ∙ ap (λ b. cond b None (lookup (same_key j) c.running)) same))
      go j there false same =
          sets j ∙ ap (λ b. cond b (Some e) (lookup (same_key j) c.later)) same
          ∙ apart.apart j (subst (λ o. IsSome o) (gone j ∙ ap (λ b. cond b None (lookup (same_key j) c.running)) same) there)

-- ---- The least key

pub first_least : (c : Contents) (k : Key) → IsFirst (c.running ++ c.later) k → IsLeast c k
first_least c k first = record {
  waits = subst (λ o. IsSome o) (lookup_both k c.running c.later) first.there;
  none_before = λ j before. sym (lookup_both j c.running c.later) ∙ first.none_before j before;
}

-- the lesser of the first of both
pub later_least : (c : Contents) (k l : Key) → IsFirst c.running k → IsFirst c.later l → is_lt (key_cmp l k) ≡ true → IsLeast c l
later_least c k l running later less = first_least c l (many_is_first c.running c.later (leads_less c.later c.running l k later running less) l later)

pub running_least : (c : Contents) (k l : Key) → IsFirst c.running k → IsFirst c.later l → is_lt (key_cmp l k) ≡ false → IsLeast c k
running_least c k l running later less = first_least c k (few_is_first c.running c.later (leads_not_less c.later c.running l k later running less) k running)
