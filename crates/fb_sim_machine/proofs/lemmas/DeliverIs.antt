-- Messages that go to the one agenda.
use Rattle.fb_types.proofs.Common.{◌≡◌, ◌∷◌, ◌++◌, ℕ, ◌<◌, ◌≤◌, ◌^◌, Bool, true, false, cond, List, [], length, map, refl, sym, ap, ◌∙◌, Option, Some, arith, length-map, Inputs, AreAccepted, system_of, or_else, found, same_key, IsWithinLimits, path_at}
use Rattle.fb_types.specs.declared.key.Key.{Key}
use Rattle.fb_types.specs.declared.run.Message.{Message}
use Rattle.fb_types.specs.declared.run.Event.TheVariants.{Arrival}
use Rattle.fb_types.specs.States as model
use Rattle.fb_types.proofs.lemmas.lists.TakeLaws.{found-put}
use Rattle.fb_agenda.specs.Agendas.{Contents}
use Rattle.fb_net.specs.Events.{event_of}
use Rattle.fb_resource.specs.Posts.{IsMessage, IsPut, arriving, key_of, receiver_of}
use Rattle.fb_resource.specs.Waiting.{MayWait, meaning}
use Rattle.fb_resource.proofs.lemmas.PostLaws.{map_push, meaning_put}
use Rattle.fb_resource.proofs.lemmas.ReadyIs.{sound_system}

pub message_waits : (i : Inputs) (tick : ℕ) (m : Message) → AreAccepted i → IsWithinLimits i.plan → IsMessage i m → tick < m.arrives
    → MayWait i tick (key_of (system_of i) m) (Arrival m)
message_waits i tick m accepted limits is later = record {
  event = is.event;
  resource = (sound_system i accepted limits).counted (path_at (system_of i) m.target.instance);
  later = omega (arith, later);
  typed = is.typed;
  own = refl;
}

-- one message more is delivered
pub delivered_more : (i : Inputs) (base mid new : Contents) (ms : List Message) (m : Message) → IsPut mid new (key_of (system_of i) m) (Arrival m)
    → ((j : Key) → meaning i mid j ≡ or_else (found j (map (arriving i) ms)) (meaning i base j))
    → (j : Key) → meaning i new j ≡ or_else (found j (map (arriving i) (ms ++ m ∷ []))) (meaning i base j)
delivered_more i base mid new ms m put before j =
    meaning_put i mid new key (Arrival m) put j
    ∙ ap (λ o. cond (same_key key j) (Some e) o) (before j)
    ∙ first (same_key key j) (found j (map (arriving i) ms))
    ∙ ap (λ o. or_else o (meaning i base j)) (sym (found-put j (map (arriving i) ms) key e))
    ∙ ap (λ es. or_else (found j es) (meaning i base j)) (sym (map_push (arriving i) ms m))
  where
    key : Key
    key = key_of (system_of i) m

    e : model.Event
    e = event_of i (Arrival m)

    first : (b : Bool) (o : Option model.Event) → cond b (Some e) (or_else o (meaning i base j)) ≡ or_else (cond b (Some e) o) (meaning i base j)
    first true o = refl
    first false o = refl

pub narrow_receiver : (i : Inputs) → AreAccepted i → IsWithinLimits i.plan → (m : Message) → receiver_of (system_of i) m < 2 ^ 32
narrow_receiver i accepted limits m =
    let below = (sound_system i accepted limits).counted (path_at (system_of i) m.target.instance) in
    let same : length (system_of i).resource_names ≡ length i.plan.resources = length-map i.plan.resources (λ x. x.name) in
    let few = limits.few_resources in
    omega (arith, below, same, few)

-- ---- One message at most

-- the one that leaves is the only one
pub only_popped : (old new : List Message) (m : Message) → old ≡ new ++ m ∷ [] → length old ≤ 1 → old ≡ m ∷ []
only_popped old [] m is few = is
only_popped old (x ∷ []) m is few = let count = ap length is in absurd (omega (arith, count, few))
only_popped old (x ∷ y ∷ new) m is few = let count = ap length is in absurd (omega (arith, count, few))

pub none_left : (old new : List Message) (m : Message) → old ≡ new ++ m ∷ [] → length old ≤ 1 → new ≡ []
none_left old [] m is few = refl
none_left old (x ∷ []) m is few = let count = ap length is in absurd (omega (arith, count, few))
none_left old (x ∷ y ∷ new) m is few = let count = ap length is in absurd (omega (arith, count, few))
