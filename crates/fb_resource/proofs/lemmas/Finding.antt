-- The event that is taken next, where a local event waits in addition.
use Rattle.fb_resource.proofs.lemmas.Common.{◌≡◌, ◌<◌, ℕ, Bool, true, false, cond, Option, Some, None, refl, sym, ap, subst, ◌∙◌, same_key, Key, Event, Contents, waiting, IsPut, Finds, with_event}
use Rattle.fb_types.proofs.Common.{OnFalse, OnTrue, Precedes}
use Rattle.fb_types.proofs.lemmas.events.KeyLaws.{same_key_is, same_key_itself}
use Rattle.fb_agenda.specs.Agendas.{IsClear}
use Rattle.fb_agenda.proofs.lemmas.Orders.{not_itself}
use Rattle.fb_agenda.proofs.lemmas.NothingWaits.{clear_before, clear_itself}
use Rattle.fb_resource.proofs.lemmas.Lone.{with_put}

-- what is found on an agenda is found on one on which the same waits
pub finds_alike : (horizon : ℕ) (a b now : Contents) (is : Bool) (k : Key) (e : Event) → ((j : Key) → waiting b j ≡ waiting a j) → Finds horizon b is k e now → Finds horizon a is k e now
finds_alike horizon a b now true k e same finds = record {
  found = sym (same k) ∙ finds.found;
  below = finds.below;
  least = λ j before. sym (same j) ∙ finds.least j before;
  left = λ j. finds.left j ∙ ap (λ (o : Option Event). cond (same_key k j) None o) (same j);
  none = tt;
  kept = tt;
}
finds_alike horizon a b now false k e same finds = record {
  found = tt;
  below = tt;
  least = tt;
  left = tt;
  none = λ j below. sym (same j) ∙ finds.none j below;
  kept = λ j. finds.kept j ∙ same j;
}

-- where nothing else waits up to it, an event that waits in addition is the least one
module _ (horizon : ℕ) (a : Contents) (k : Key) (e : Event) where
  pub finds_raised : k.tick < horizon → ((j : Key) → Precedes j k → waiting a j ≡ None) → waiting a k ≡ None → Finds horizon (with_event k e a) true k e a
  finds_raised below before itself = record {
    found = with_put k e a k ∙ ap (λ b. cond b (Some e) (waiting a k)) (same_key_itself k);
    below = below;
    least = least;
    left = λ j. left j (same_key k j) refl;
    none = tt;
    kept = tt;
  }
    where
      apart : (j : Key) → same_key k j ≡ false → waiting (with_event k e a) j ≡ waiting a j
      apart j other = with_put k e a j ∙ ap (λ b. cond b (Some e) (waiting a j)) other

      least : (j : Key) → Precedes j k → waiting (with_event k e a) j ≡ None
      least j first = go (same_key k j) refl
        where
          go : (b : Bool) → same_key k j ≡ b → waiting (with_event k e a) j ≡ None
          go true same = absurd (not_itself k (subst (λ (z : Key). Precedes z k) (sym (same_key_is k j same)) first))
          go false other = apart j other ∙ before j first

      left : (j : Key) (b : Bool) → same_key k j ≡ b → waiting a j ≡ cond (same_key k j) None (waiting (with_event k e a) j)
      left j true same =
          subst (λ (z : Key). waiting a z ≡ None) (same_key_is k j same) itself
          ∙ ap (λ b. cond b None (waiting (with_event k e a) j)) (sym same)
      left j false other =
          sym (apart j other) ∙ ap (λ b. cond b None (waiting (with_event k e a) j)) (sym other)

-- where nothing waits at its moment or before, an event that waits in addition is the least one
pub finds_clear : (horizon : ℕ) (a : Contents) (k : Key) (e : Event) → k.tick < horizon → IsClear k.tick k.resource a → Finds horizon (with_event k e a) true k e a
finds_clear horizon a k e below clear = finds_raised horizon a k e below (clear_before a k clear) (clear_itself a k clear)

-- what taking the least event of an agenda found
pub finds_taken :
    (horizon : ℕ) (a now : Contents) (is : Bool) (k : Key) (e : Event) → OnTrue is (waiting a k ≡ Some e) → OnTrue is (k.tick < horizon) → OnTrue is ((j : Key) → Precedes j k → waiting a j ≡ None)
    → OnTrue is ((j : Key) → waiting now j ≡ cond (same_key k j) None (waiting a j)) → OnFalse is ((j : Key) → j.tick < horizon → waiting a j ≡ None) → OnFalse is (now ≡ a)
    → Finds horizon a is k e now
finds_taken horizon a now true k e found below least left none kept = record { found = found; below = below; least = least; left = left; none = tt; kept = tt }
finds_taken horizon a now false k e found below least left none kept =
    record { found = tt; below = tt; least = tt; left = tt; none = none; kept = λ j. ap (λ (c : Contents). waiting c j) kept }

-- Putting an event puts it where it waits in addition.
pub put_next : (k : Key) (e : Event) (a new : Contents) → IsPut a new k e → (j : Key) → waiting new j ≡ waiting (with_event k e a) j
put_next k e a new put j = put j ∙ sym (with_put k e a j)
