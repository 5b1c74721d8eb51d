-- A resource to which messages have come.
use Rattle.fb_resource.proofs.lemmas.Common.{◌≡◌, ℕ, Bool, true, false, cond, eqb, List, [], ◌∷◌, map, refl, sym, ap, subst, ◌∙◌, Option, Some, None, All, ⊎_elim, arith, option_map, slice_index, length, eq-eqb, Inputs, system_of, found, or_else, same_key, timer_key, Local, machine, Key, Message, Contents, waiting, Event, event_of, arriving, IsInOrder, MayWait, meaning, IsOf, Represents}
use Rattle.fb_types.proofs.Common.{◌⊎◌, is_some, All-head, All-tail, All-weaker, cases_Bool}
use Rattle.fb_types.specs.declared.run.Event.TheVariants.{Arrival}
use Rattle.fb_types.proofs.lemmas.events.KeyLaws.{same_key_is}
use Rattle.fb_types.proofs.lemmas.lists.Lookups.{none_since, or_else_some}
use Rattle.fb_agenda.specs.Arrivals.{arrival_at, arrivals_at}
use Rattle.fb_agenda.proofs.lemmas.MessagesPut.{arrival_class}
use Rattle.fb_agenda.proofs.lemmas.Timers.{timer_class}
use Rattle.fb_net.specs.Events.{IsEventIn}
use Rattle.fb_resource.specs.Posts.{key_of, receiver_of}
use Rattle.fb_resource.specs.Resources.{HasReceived, IsFor, with_messages}
use Rattle.fb_resource.specs.declared.resource.Resource.{Resource}

-- ---- What is found among the messages

map_or_else : {A B : Type 0} (f : A → B) (o p : Option A) → option_map f (or_else o p) ≡ or_else (option_map f o) (option_map f p)
map_or_else f None p = refl
map_or_else f (Some x) p = refl

map_cond : {A B : Type 0} (f : A → B) (b : Bool) (x : A) → option_map f (cond b (Some x) None) ≡ cond b (Some (f x)) None
map_cond f true x = refl
map_cond f false x = refl

-- what messages to a resource are in the model
pub found_arriving : (i : Inputs) (n : ℕ) (ms : List Message) → All (λ m. receiver_of (system_of i) m ≡ n) ms → (j : Key)
    → found j (map (arriving i) ms) ≡ option_map (event_of i) (found j (arrivals_at n ms))
found_arriving i n [] here j = refl
found_arriving i n (m ∷ ms) here j =
    ap (λ o. or_else o (cond (same_key (key_of (system_of i) m) j) (Some (event_of i (Arrival m))) None))
    (found_arriving i n ms (All-tail (λ x. receiver_of (system_of i) x ≡ n) m ms here) j)
    ∙ ap (λ (r : ℕ). or_else (option_map (event_of i) (found j (arrivals_at n ms))) (cond (same_key (arrival_at r m).0 j) (Some (event_of i (Arrival m))) None))
    (All-head (λ x. receiver_of (system_of i) x ≡ n) m ms here)
    ∙ ap (or_else (option_map (event_of i) (found j (arrivals_at n ms)))) (sym (map_cond (event_of i) (same_key (arrival_at n m).0 j) (Arrival m)))
    ∙ sym (map_or_else (event_of i) (found j (arrivals_at n ms)) (cond (same_key (arrival_at n m).0 j) (Some (Arrival m)) None))

-- what is found is one of the messages
found_of : (P : Key → Event → Type 0) (n : ℕ) (ms : List Message) → All (λ m. P (arrival_at n m).0 (Arrival m)) ms → (j : Key) (e : Event)
    → found j (arrivals_at n ms) ≡ Some e → P j e
found_of P n [] each j e is = absurd cc
found_of P n (m ∷ ms) each j e is =
    ⊎_elim (found_of P n ms (All-tail (λ x. P (arrival_at n x).0 (Arrival x)) m ms each) j e) this
    (or_else_some (found j (arrivals_at n ms)) (cond (same_key (arrival_at n m).0 j) (Some (Arrival m)) None) e is)
  where
    this : cond (same_key (arrival_at n m).0 j) (Some (Arrival m)) None ≡ Some e → P j e
    this h = go (same_key (arrival_at n m).0 j) refl h
      where
        go : (b : Bool) → same_key (arrival_at n m).0 j ≡ b → cond b (Some (Arrival m)) None ≡ Some e → P j e
        go true same g =
            let it : Arrival m ≡ e = cc in
            subst (P j) it (subst (λ (z : Key). P z (Arrival m)) (same_key_is (arrival_at n m).0 j same) (All-head (λ x. P (arrival_at n x).0 (Arrival x)) m ms each))
        go false other g = absurd cc

-- under a key of another class nothing is found
found_none : (n : ℕ) (ms : List Message) (j : Key) → (j.class ≡ 2 → ⊥) → found j (arrivals_at n ms) ≡ None
found_none n ms j other = none_since _ (λ e is. other (arrival_class n ms j (ap is_some is)))

-- ---- What waits

module _ (i : Inputs) (ms : List Message) (old : Resource) (agenda : Contents)
    (put : (j : Key) → waiting agenda j ≡ or_else (found j (arrivals_at old.tree.resource ms)) (waiting old.agenda j))
    (due : agenda.due ≡ old.agenda.due) (of : IsOf i old) (for_it : All (IsFor i old) ms) where
  -- the resource with that agenda
  abbrev new : Resource
  new = record old { agenda = agenda }

  -- a key of another class has what it had
  same_waits : (j : Key) → (j.class ≡ 2 → ⊥) → waiting agenda j ≡ waiting old.agenda j
  same_waits j other = put j ∙ ap (λ o. or_else o (waiting old.agenda j)) (found_none old.tree.resource ms j other)

  may_wait : All (λ m. MayWait i old.clock (arrival_at old.tree.resource m).0 (Arrival m)) ms
  may_wait = All-weaker (IsFor i old) (λ m. MayWait i old.clock (arrival_at old.tree.resource m).0 (Arrival m)) one ms for_it
    where
      one : (m : Message) → IsFor i old m → MayWait i old.clock (arrival_at old.tree.resource m).0 (Arrival m)
      one m it = record {
        event = subst (λ r. IsEventIn i r (Arrival m)) it.here it.message.event;
        resource = of.named;
        later = it.later;
        typed = it.message.typed;
        own = refl;
      }

  order : IsInOrder i old.clock agenda
  order = record {
    waits = λ j e is. ⊎_elim
        (λ h. found_of (λ k f. MayWait i old.clock k f) old.tree.resource ms may_wait j e h)
        (λ h. of.order.waits j e h)
        (or_else_some (found j (arrivals_at old.tree.resource ms)) (waiting old.agenda j) e (sym (put j) ∙ is));
    timed = λ j r k e is timer.
        subst (λ (xs : List ℕ). same_key (timer_key (slice_index xs k) r k) j ≡ true) (sym due)
        (of.order.timed j r k e (sym (same_waits j (λ two. let one = timer_class r k j timer in omega (arith, one, two))) ∙ is) timer);
    home = λ j e is one. of.order.home j e (sym (same_waits j (λ two. omega (arith, one, two))) ∙ is) one;
  }

  at_home : (j : Key) (e : Event) → waiting agenda j ≡ Some e → j.resource ≡ old.tree.resource
  at_home j e is = ⊎_elim
      (λ h. found_of (λ k f. k.resource ≡ old.tree.resource) old.tree.resource ms (All-weaker (IsFor i old) (λ m. (arrival_at old.tree.resource m).0.resource ≡ old.tree.resource) (λ m it. refl) ms for_it) j e h)
      (λ h. of.home j e h)
      (or_else_some (found j (arrivals_at old.tree.resource ms)) (waiting old.agenda j) e (sym (put j) ∙ is))

  receivers : All (λ m. receiver_of (system_of i) m ≡ old.tree.resource) ms
  receivers = All-weaker (IsFor i old) (λ m. receiver_of (system_of i) m ≡ old.tree.resource) (λ m it. it.here) ms for_it

  meaning_is : (j : Key) → meaning i agenda j ≡ or_else (found j (map (arriving i) ms)) (meaning i old.agenda j)
  meaning_is j =
      ap (option_map (event_of i)) (put j)
      ∙ map_or_else (event_of i) (found j (arrivals_at old.tree.resource ms)) (waiting old.agenda j)
      ∙ ap (λ o. or_else o (meaning i old.agenda j)) (sym (found_arriving i old.tree.resource ms receivers j))

  arriving_none : (j : Key) → (j.class ≡ 2 → ⊥) → found j (map (arriving i) ms) ≡ None
  arriving_none j other = found_arriving i old.tree.resource ms receivers j ∙ ap (option_map (event_of i)) (found_none old.tree.resource ms j other)

  represents : (limit : ℕ) (l : Local (machine (system_of i) limit)) → Represents i limit l old → Represents i limit (with_messages i limit ms l) new
  represents limit l before = record {
    state = before.state;
    part = before.part;
    blocks = before.blocks;
    typed = before.typed;
    unused = before.unused;
    counts = before.counts;
    own = before.own;
    inbox = λ j other.
        ap (λ o. or_else o (l.inbox j)) (arriving_none j (λ two. let yes = eq-eqb j.class 2 two in absurd cc)) ∙ before.inbox j other;
    waits = λ j here. both j here (cases_Bool (eqb j.class 2));
    stop = before.stop;
  }
    where
      both : (j : Key) → j.resource ≡ old.tree.resource → (eqb j.class 2 ≡ true) ⊎ (eqb j.class 2 ≡ false)
          → or_else (l.own j) (or_else (found j (map (arriving i) ms)) (l.inbox j)) ≡ meaning i agenda j
      both j here c = ⊎_elim arrival other c
        where
          tail : or_else (found j (map (arriving i) ms)) (or_else (l.own j) (l.inbox j)) ≡ meaning i agenda j
          tail = ap (or_else (found j (map (arriving i) ms))) (before.waits j here) ∙ sym (meaning_is j)

          arrival : eqb j.class 2 ≡ true → or_else (l.own j) (or_else (found j (map (arriving i) ms)) (l.inbox j)) ≡ meaning i agenda j
          arrival is =
              let none : l.own j ≡ None = before.own j is in
              ap (λ o. or_else o (or_else (found j (map (arriving i) ms)) (l.inbox j))) none
              ∙ ap (λ o. or_else (found j (map (arriving i) ms)) (or_else o (l.inbox j))) (sym none)
              ∙ tail

          other : eqb j.class 2 ≡ false → or_else (l.own j) (or_else (found j (map (arriving i) ms)) (l.inbox j)) ≡ meaning i agenda j
          other is =
              let none : found j (map (arriving i) ms) ≡ None = arriving_none j (λ two. let yes = eq-eqb j.class 2 two in absurd cc) in
              ap (λ o. or_else (l.own j) (or_else o (l.inbox j))) none
              ∙ ap (λ o. or_else o (or_else (l.own j) (l.inbox j))) (sym none)
              ∙ tail

  still_of : IsOf i new
  still_of = record {
    named = of.named;
    order = order;
    due = ap length due ∙ of.due;
    counted = of.counted;
    home = at_home;
    represents = λ limit. (with_messages i limit ms (of.represents limit).0, represents limit (of.represents limit).0 (of.represents limit).1);
  }

pub received : (ms : List Message) (old : Resource) (agenda : Contents)
    → ((j : Key) → waiting agenda j ≡ or_else (found j (arrivals_at old.tree.resource ms)) (waiting old.agenda j)) → agenda.due ≡ old.agenda.due
    → HasReceived ms old (record old { agenda = agenda })
received ms old agenda put due = record {
  besides = refl;
  of = λ i of for_it. still_of i ms old agenda put due of for_it;
  represents = λ i limit of for_it l before. represents i ms old agenda put due of for_it limit l before;
}
