-- Messages that are put among the events of an agenda.
use Rattle.fb_agenda.proofs.lemmas.Common.{◌≡◌, ℕ, suc, ◌<◌, Bool, true, false, cond, List, [], ◌∷◌, ◌++◌, length, get_or, take, map, refl, sym, ap, subst, ◌∙◌, Option, Some, None, Result, Ok, Err, arith, IsSome, OnOk, OnErr, is_some, lookup, map-append, or_else, same_key, Key, Contents, AreApart, waiting, HasKeys, KeepsOthers, LacksKeys, arrival_at, arrivals_at, Event, Sets}
use Rattle.fb_types.proofs.Common.{◌+◌, drop, take-append-drop, All-head, All-tail, found}
use Rattle.fb_types.specs.declared.run.Message.{Message}
use Rattle.std.proofs.Math.Seq.{take-suc}
use Rattle.fb_types.proofs.lemmas.events.KeyLaws.{same_key_is, same_key_itself}
use Rattle.fb_types.proofs.lemmas.lists.Lookups.{found-append, none_since, or_else_nones, or_else_parts}
use Rattle.fb_types.proofs.lemmas.lists.TakeLaws.{found-put}
use Rattle.fb_agenda.specs.Arrivals.{AreNew}
use Rattle.fb_agenda.proofs.lemmas.QueueAndOthers.{queue_class}
use Rattle.fb_agenda.proofs.lemmas.Orders.{either_some, first_some, not_none}

-- ---- One key more

module _ (es : List (Key × Event)) (k : Key) (v : Event) where
  more_none : (j : Key) → found j (es ++ (k, v) ∷ []) ≡ None → (found j es ≡ None) × (same_key k j ≡ false)
  more_none j none = go (same_key k j) refl
    where
      go : (b : Bool) → same_key k j ≡ b → (found j es ≡ None) × (same_key k j ≡ false)
      go true same = let some : Some v ≡ None = sym (found-put j es k v ∙ ap (λ b. cond b (Some v) (found j es)) same) ∙ none in absurd cc
      go false other = (sym (found-put j es k v ∙ ap (λ b. cond b (Some v) (found j es)) other) ∙ none, other)

  more_some : (j : Key) → IsSome (found j (es ++ (k, v) ∷ [])) → same_key k j ≡ false → IsSome (found j es)
  more_some j there other = subst (λ o. IsSome o) (found-put j es k v ∙ ap (λ b. cond b (Some v) (found j es)) other) there

  module _ (w : Option Event) (mid new : List (Key × Event)) (sets : Sets k w mid new) where
    other_key : (j : Key) → same_key k j ≡ false → lookup (same_key j) new ≡ lookup (same_key j) mid
    other_key j other = sets j ∙ ap (λ b. cond b w (lookup (same_key j) mid)) other

    this_key : (j : Key) → same_key k j ≡ true → lookup (same_key j) new ≡ w
    this_key j same = sets j ∙ ap (λ b. cond b w (lookup (same_key j) mid)) same

    pub keeps_more : (old : List (Key × Event)) → KeepsOthers es old mid → KeepsOthers (es ++ (k, v) ∷ []) old new
    keeps_more old kept j none = let both = more_none j none in other_key j both.1 ∙ kept j both.0

    pub lacks_more : w ≡ None → LacksKeys es mid → LacksKeys (es ++ (k, v) ∷ []) new
    lacks_more gone lacks j there = go (same_key k j) refl
      where
        go : (b : Bool) → same_key k j ≡ b → lookup (same_key j) new ≡ None
        go true same = this_key j same ∙ gone
        go false other = other_key j other ∙ lacks j (more_some j there other)

    pub has_more : IsSome w → HasKeys es mid → HasKeys (es ++ (k, v) ∷ []) new
    has_more some has j there = go (same_key k j) refl
      where
        go : (b : Bool) → same_key k j ≡ b → IsSome (lookup (same_key j) new)
        go true same = subst (λ o. IsSome o) (sym (this_key j same)) some
        go false other = subst (λ o. IsSome o) (sym (other_key j other)) (has j (more_some j there other))

-- a key of the list is found
pub found_there : {X : Type 0} (k : Key) (v : X) (es fs : List (Key × X)) → IsSome (found k (es ++ (k, v) ∷ fs))
found_there k v [] fs = either_some (found k fs) (cond (same_key k k) (Some v) None) (ap (λ b. is_some (cond b (Some v) None)) (same_key_itself k))
found_there k v (e ∷ es) fs = first_some (found k (es ++ (k, v) ∷ fs)) (cond (same_key e.0 k) (Some e.1) None) (found_there k v es fs)

-- if a key is there, putting an event under it succeeds
pub surely : {A E P : Type 0} (r : Result A E) (o : Option Event) → IsSome o → OnErr r (o ≡ None) → OnOk r P → P
surely (Ok x) o there none p = p
surely (Err x) o there none p = absurd (not_none o there none)

-- one more message is under its key
pub filled_more : (es : List (Key × Event)) (k : Key) (v : Event) (old mid new : List (Key × Event))
    → ((j : Key) → lookup (same_key j) mid ≡ or_else (found j es) (lookup (same_key j) old)) → Sets k (Some v) mid new
    → (j : Key) → lookup (same_key j) new ≡ or_else (found j (es ++ (k, v) ∷ [])) (lookup (same_key j) old)
filled_more es k v old mid new filled sets j =
    sets j ∙ ap (cond (same_key k j) (Some v)) (filled j) ∙ go (same_key k j) ∙ ap (λ o. or_else o (lookup (same_key j) old)) (sym (found-put j es k v))
  where
    go : (b : Bool) → cond b (Some v) (or_else (found j es) (lookup (same_key j) old)) ≡ or_else (cond b (Some v) (found j es)) (lookup (same_key j) old)
    go true = refl
    go false = refl

-- ---- Part of the messages

module _ (r : ℕ) where
  -- one message more
  pub arrivals_more : (ms : List Message) (n : ℕ) (m : Message) → n < length ms → m ≡ get_or ms n m → arrivals_at r (take (n + 1) ms) ≡ arrivals_at r (take n ms) ++ arrival_at r m ∷ []
  arrivals_more ms n m within is =
      ap (λ k. arrivals_at r (take k ms)) (let e : n + 1 ≡ suc n = omega arith in e)
      ∙ ap (map (arrival_at r)) (take-suc ms n m within)
      ∙ map-append (arrival_at r) (take n ms) (get_or ms n m ∷ [])
      ∙ ap (λ x. arrivals_at r (take n ms) ++ arrival_at r x ∷ []) (sym is)

  -- what the first messages leave unchanged, all of them leave unchanged
  pub keeps_all : (ms : List Message) (n : ℕ) (old new : List (Key × Event)) → KeepsOthers (arrivals_at r (take n ms)) old new → KeepsOthers (arrivals_at r ms) old new
  keeps_all ms n old new kept j none = kept j (or_else_parts _ (found j (arrivals_at r (take n ms))) (sym (parts j) ∙ none)).1
    where
      parts : (j : Key) → found j (arrivals_at r ms) ≡ or_else (found j (arrivals_at r (drop n ms))) (found j (arrivals_at r (take n ms)))
      parts j =
          ap (λ xs. found j (arrivals_at r xs)) (sym (take-append-drop n ms))
          ∙ ap (found j) (map-append (arrival_at r) (take n ms) (drop n ms))
          ∙ found-append j (arrivals_at r (take n ms)) (arrivals_at r (drop n ms))

  -- ---- The keys of the messages

  -- the key is that of one of the messages, or of none
  Found : (P : Key → Type 0) → List Message → Type 0
  Found P ms = (j : Key) → IsSome (found j (arrivals_at r ms)) → P j

  found_one : (P : Key → Type 0) (m : Message) (ms : List Message) → P (arrival_at r m).0 → Found P ms → Found P (m ∷ ms)
  unfolding Found
  found_one P m ms this others j there = go (found j (arrivals_at r ms)) (others j) there
    where
      k : Key
      k = (arrival_at r m).0

      here : (b : Bool) → same_key k j ≡ b → IsSome (or_else None (cond b (Some (arrival_at r m).1) None)) → P j
      here true same some = subst P (same_key_is k j same) this
      here false other some = absurd (not_none {X = Event} None some refl)

      go : (o : Option Event) → (IsSome o → P j) → IsSome (or_else o (cond (same_key k j) (Some (arrival_at r m).1) None)) → P j
      go (Some x) rest some = rest refl
      go None rest some = here (same_key k j) refl some

  pub arrival_class : (ms : List Message) (j : Key) → IsSome (found j (arrivals_at r ms)) → j.class ≡ 2
  unfolding Found
  arrival_class [] j there = absurd (not_none {X = Event} None there refl)
  arrival_class (m ∷ ms) j there = found_one (λ k. k.class ≡ 2) m ms refl (arrival_class ms) j there

  -- if the keys of the messages are new, nothing is under them
  pub new_none : (ms : List Message) (c : Contents) → AreNew r ms c → (j : Key) → IsSome (found j (arrivals_at r ms)) → waiting c j ≡ None
  unfolding Found
  new_none [] c new j there = absurd (not_none {X = Event} None there refl)
  new_none (m ∷ ms) c new j there =
      found_one (λ k. waiting c k ≡ None) m ms (All-head (λ x. waiting c (arrival_at r x).0 ≡ None) m ms new)
      (new_none ms c (All-tail (λ x. waiting c (arrival_at r x).0 ≡ None) m ms new)) j there

  -- ---- The agenda

  module _ (ms : List Message) (c : Contents) (apart : AreApart c) where
    no_local : (j : Key) → IsSome (found j (arrivals_at r ms)) → lookup (same_key j) c.running ≡ None
    no_local j there = apart.queue.local j (λ local. let two : j.class ≡ 2 = arrival_class ms j there in omega (arith, local, two))

    pub kept_apart : (new : List (Key × Event)) (due : List ℕ) → KeepsOthers (arrivals_at r ms) c.later new → AreApart (record { running = c.running; later = new; due = due })
    kept_apart new due kept = record {
      queue = apart.queue;
      apart = λ j there. same j (queue_class c.running apart.queue j there) ∙ apart.apart j there;
    }
      where
        same : (j : Key) → j.class ≡ 3 → lookup (same_key j) new ≡ lookup (same_key j) c.later
        same j local = kept j (none_since _ (λ e is. not_it j local (ap is_some is)))
          where
            not_it : (j : Key) → j.class ≡ 3 → IsSome (found j (arrivals_at r ms)) → ⊥
            not_it j local there = let two : j.class ≡ 2 = arrival_class ms j there in omega (arith, local, two)

    pub filled_waits : (held new : List (Key × Event)) → KeepsOthers (arrivals_at r ms) c.later held
        → ((j : Key) → lookup (same_key j) new ≡ or_else (found j (arrivals_at r ms)) (lookup (same_key j) held))
        → (j : Key) → waiting (record { running = c.running; later = new; due = c.due }) j ≡ or_else (found j (arrivals_at r ms)) (waiting c j)
    filled_waits held new kept filled j = ap (or_else (lookup (same_key j) c.running)) (filled j) ∙ go (found j (arrivals_at r ms)) refl
      where
        go : (o : Option Event) → found j (arrivals_at r ms) ≡ o → or_else (lookup (same_key j) c.running) (or_else o (lookup (same_key j) held)) ≡ or_else o (waiting c j)
        go None is = ap (or_else (lookup (same_key j) c.running)) (kept j is)
        go (Some e) is = ap (λ z. or_else z (Some e)) (no_local j (ap is_some is))

    pub filled_keeps : (held new : List (Key × Event)) → KeepsOthers (arrivals_at r ms) c.later held
        → ((j : Key) → lookup (same_key j) new ≡ or_else (found j (arrivals_at r ms)) (lookup (same_key j) held))
        → KeepsOthers (arrivals_at r ms) c.later new
    filled_keeps held new kept filled j none = filled j ∙ ap (λ o. or_else o (lookup (same_key j) held)) none ∙ kept j none

    pub freed_keeps : (held new : List (Key × Event)) → KeepsOthers (arrivals_at r ms) c.later held → KeepsOthers (arrivals_at r ms) held new → KeepsOthers (arrivals_at r ms) c.later new
    freed_keeps held new kept left j none = left j none ∙ kept j none

    pub freed_waits : AreNew r ms c → (new : List (Key × Event)) → KeepsOthers (arrivals_at r ms) c.later new → LacksKeys (arrivals_at r ms) new
        → (j : Key) → waiting (record { running = c.running; later = new; due = c.due }) j ≡ waiting c j
    freed_waits none_there new kept freed j = go (found j (arrivals_at r ms)) refl
      where
        go : (o : Option Event) → found j (arrivals_at r ms) ≡ o → or_else (lookup (same_key j) c.running) (lookup (same_key j) new) ≡ waiting c j
        go None is = ap (or_else (lookup (same_key j) c.running)) (kept j is)
        go (Some e) is =
            or_else_nones (lookup (same_key j) c.running) (lookup (same_key j) new) (no_local j (ap is_some is)) (freed j (ap is_some is))
            ∙ sym (new_none ms c none_there j (ap is_some is))
