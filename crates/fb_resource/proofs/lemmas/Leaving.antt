-- An agenda without its least key.
use Rattle.fb_resource.proofs.lemmas.Common.{◌≡◌, ℕ, ◌<◌, ◌≤◌, Bool, true, false, cond, List, length, sym, ap, subst, ◌∙◌, Option, Some, None, arith, option_map, slice_index, Inputs, same_key, timer_key, Key, Contents, waiting, Event, event_of, AreReady, Traffic, IsInOrder, meaning}
use Rattle.fb_types.proofs.Common.{Precedes, without}
use Rattle.fb_types.specs.States.{Event as AnEvent}
use Rattle.fb_types.proofs.lemmas.events.KeyLaws.{earlier_precedes}

-- an agenda from which one key was taken
abbrev pub Left : Key → Contents → Contents → Type 0
Left k old new = (j : Key) → waiting new j ≡ cond (same_key k j) None (waiting old j)

pub still : (k j : Key) (old new : Contents) (e : Event) → Left k old new → waiting new j ≡ Some e → waiting old j ≡ Some e
still k j old new e left h = go (same_key k j) (sym (left j) ∙ h)
  where
    go : (b : Bool) → cond b None (waiting old j) ≡ Some e → waiting old j ≡ Some e
    go true is = absurd cc
    go false is = is

not_before : (k j : Key) (old : Contents) (e : Event) → ((q : Key) → Precedes q k → waiting old q ≡ None) → waiting old j ≡ Some e → k.tick ≤ j.tick
not_before k j old e least waits = not_less j.tick k.tick clash
  where
    not_less : (a b : ℕ) → ¬ (a < b) → b ≤ a
    not_less a b h = omega (arith, h)

    clash : j.tick < k.tick → ⊥
    clash lt = let none = least j (earlier_precedes j k lt) in absurd cc

pub order_left : (i : Inputs) (t : ℕ) (k : Key) (old new : Contents) → IsInOrder i t old → Left k old new
    → ((q : Key) → Precedes q k → waiting old q ≡ None) → new.due ≡ old.due → IsInOrder i k.tick new
order_left i t k old new order left least due = record {
  waits = λ j e h.
      let was = still k j old new e left h in
      let may = order.waits j e was in
      record { event = may.event; resource = may.resource; later = not_before k j old e least was; typed = may.typed; own = may.own };
  timed = λ j r n e h timer.
      subst (λ (xs : List ℕ). same_key (timer_key (slice_index xs n) r n) j ≡ true) (sym due) (order.timed j r n e (still k j old new e left h) timer);
  home = λ j e h one. order.home j e (still k j old new e left h) one;
}

pub meaning_left : (i : Inputs) (k : Key) (old new : Contents) (a : Key → Option AnEvent) → ((j : Key) → a j ≡ meaning i old j) → Left k old new
    → (j : Key) → without k a j ≡ meaning i new j
meaning_left i k old new a is left j = go (same_key k j) (left j)
  where
    go : (b : Bool) → waiting new j ≡ cond b None (waiting old j) → cond b None (a j) ≡ meaning i new j
    go true h = sym (ap (option_map (event_of i)) h)
    go false h = is j ∙ sym (ap (option_map (event_of i)) h)

-- its traffic from whose agenda the least key was taken, from its tick on
pub ready_left : (i : Inputs) (t : ℕ) (k : Key) (q : Traffic) (a : Contents) → AreReady i t q → Left k q.agenda a
    → ((j : Key) → Precedes j k → waiting q.agenda j ≡ None) → a.due ≡ q.agenda.due → AreReady i k.tick (record q { agenda = a })
ready_left i t k q a ready left least due = record {
  order = order_left i t k q.agenda a ready.order left least due;
  due = ap length due ∙ ready.due;
  counted = ready.counted;
  mail = ready.mail;
  lines = ready.lines;
  none = ready.none;
  keeps = ready.keeps;
}
