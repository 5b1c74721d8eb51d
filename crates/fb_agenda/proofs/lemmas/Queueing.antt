-- The queue of the running tick, as local events with the targets that it has.
use Rattle.fb_agenda.proofs.lemmas.Common.{◌≡◌, ℕ, zero, suc, ◌<◌, Bool, true, false, cond, List, [], ◌∷◌, ◌++◌, length, get_or, refl, sym, ap, subst, ◌∙◌, Option, Some, None, Result, Ok, Err, arith, IsSome, OnErr, OnOk, map, OnTrue, insert_entry, lookup, map-append, nil_from_length, Precedes, key_cmp, local_key, same_key, Key, Target, AllByRecursion, remove, IsStrictlySortedBy, Event, AreApart, AreRising, Contents, IsFirst, IsQueue, keyed, local_events, waiting, IsPopped, Sets}
use Rattle.fb_types.proofs.Common.{eqb, option_map, eqb-true, nat_cmp, ordering_then, get_or-map, get_or_default, length-map}
use Rattle.std.specs.Prelude.{OnSome}
use Rattle.std.specs.Map.{keys_of}
use Rattle.fb_types.specs.declared.run.Event.TheVariants.{Local}
use Rattle.fb_types.proofs.lemmas.lists.Lookups.{cmp_equal}
use Rattle.fb_agenda.specs.Agendas.{IsAt, MayFollow, event_of}
use Rattle.fb_agenda.specs.Lists.{IsIndexOf}
use Rattle.fb_agenda.specs.Moments.{IsMomentOf}
use Rattle.fb_agenda.proofs.lemmas.QueueAndOthers.{queue_apart, queue_class, queue_less, queue_more, queue_waits}
use Rattle.fb_agenda.proofs.lemmas.Moments.{number_less}
use Rattle.fb_agenda.proofs.lemmas.Lists.{front_popped, index_here, put_rises, put_sets, removed_rises, removed_sets, rest_rises}
use Rattle.fb_agenda.proofs.lemmas.Orders.{AllBefore, Rise, all_before, first_is, not_none, put_last}

-- ---- Targets and events

keys_same : (ts : List (Key × Target)) → keys_of (local_events ts) ≡ keys_of ts
keys_same [] = refl
keys_same (t ∷ ts) = ap (λ ks. t.0 ∷ ks) (keys_same ts)

pub rise_targets : (ts : List (Key × Target)) → AreRising (local_events ts) → Rise ts
rise_targets ts rising = subst (λ ks. IsStrictlySortedBy key_cmp ks) (keys_same ts) rising

lookup_same : (j : Key) (ts : List (Key × Target)) → lookup (same_key j) (local_events ts) ≡ option_map Local (lookup (same_key j) ts)
lookup_same j [] = refl
lookup_same j (t ∷ ts) = go (same_key j t.0) (lookup_same j ts)
  where
    go : (b : Bool) → lookup (same_key j) (local_events ts) ≡ option_map Local (lookup (same_key j) ts)
        → cond b (Some (Local t.1)) (lookup (same_key j) (local_events ts)) ≡ option_map Local (cond b (Some t.1) (lookup (same_key j) ts))
    go true rest = refl
    go false rest = rest

no_target : Key × Target
no_target = (local_key 0 0 0, record { instance = 0; event = 0; is_output = false })

-- the key at an index
pub indexed : (ts : List (Key × Target)) (i : ℕ) (k : Key) → i < length ts → ((d : Key × Target) → (get_or ts i d).0 ≡ k) → IsIndexOf (local_events ts) k i
indexed ts i k within there = record {
  within = let same = length-map ts event_of in omega (arith, same, within);
  there = λ d. ap (λ (e : Key × Event). e.0) (get_or-map event_of ts i no_target d within) ∙ there no_target;
}

pub index_within : (ts : List (Key × Target)) (k : Key) (i : ℕ) → IsIndexOf (local_events ts) k i → i < length ts
index_within ts k i index = let same = length-map ts event_of in let within = index.within in omega (arith, same, within)

pub numbers_length : (t r : ℕ) (es : List (ℕ × Target)) (ts : List (Key × Target)) → map (keyed t r) es ≡ ts → length ts ≡ length es
numbers_length t r es ts is = ap length (sym is) ∙ length-map es (keyed t r)

-- the key of an event by its number
pub key_of : (t r : ℕ) (es : List (ℕ × Target)) (i : ℕ) (e : ℕ × Target) (ts : List (Key × Target)) → map (keyed t r) es ≡ ts → i < length es → e ≡ get_or es i e → (d : Key × Target)
    → (get_or ts i d).0 ≡ local_key t r e.0
key_of t r es i e ts is within at d =
    ap (λ l. (get_or l i d).0) (sym is) ∙ ap (λ (x : Key × Target). x.0) (get_or-map (keyed t r) es i e d within) ∙ ap (λ (x : ℕ × Target). local_key t r x.0) (sym at)

-- no event of the queue has the key
pub absent_all : (k : Key) (ts : List (Key × Target)) → ((j : ℕ) (d : Key × Target) → j < length ts → same_key k (get_or ts j d).0 ≡ false) → lookup (same_key k) (local_events ts) ≡ None
absent_all k [] none = refl
absent_all k (t ∷ ts) none =
    ap (λ b. cond b (Some (Local t.1)) (lookup (same_key k) (local_events ts))) (none zero t (omega arith)) ∙ absent_all k ts (λ j d less. none (suc j) d (omega (arith, less)))

-- ---- The first

pub first_number : (t r : ℕ) (es : List (ℕ × Target)) (e : ℕ × Target) → AreRising (local_events (map (keyed t r) es)) → 0 < length es → e ≡ get_or es 0 e
    → IsFirst (local_events (map (keyed t r) es)) (local_key t r e.0)
first_number t r [] e rising some at = absurd (omega (arith, some))
first_number t r (x ∷ es) e rising some at =
    first_is (local_events (map (keyed t r) (x ∷ es))) (local_key t r e.0) (event_of (keyed t r x)) rising (omega arith) (ap (λ (z : ℕ × Target). local_key t r z.0) at)

-- ---- What follows the last

pub local_precedes : (j k : Key) → j.tick ≡ k.tick → j.resource ≡ k.resource → j.class ≡ k.class → j.a < k.a → Precedes j k
local_precedes j k tick resource class less =
    ap (λ o. ordering_then o (ordering_then (nat_cmp j.resource k.resource) (ordering_then (nat_cmp j.class k.class) (ordering_then (nat_cmp j.a k.a) (nat_cmp j.b k.b))))) (cmp_equal j.tick k.tick tick)
    ∙ ap (λ o. ordering_then o (ordering_then (nat_cmp j.class k.class) (ordering_then (nat_cmp j.a k.a) (nat_cmp j.b k.b)))) (cmp_equal j.resource k.resource resource)
    ∙ ap (λ o. ordering_then o (ordering_then (nat_cmp j.a k.a) (nat_cmp j.b k.b))) (cmp_equal j.class k.class class)
    ∙ ap (λ o. ordering_then o (nat_cmp j.b k.b)) (number_less j.a k.a less)

pub follows_last : (ts : List (Key × Target)) (k last : Key) (n : ℕ) (d : Key × Target) → IsQueue (local_events ts) → k.class ≡ 3 → length ts ≡ suc n → (get_or ts n d).0 ≡ last
    → last.tick ≡ k.tick → last.resource ≡ k.resource → last.a < k.a → MayFollow (local_events ts) k
follows_last ts k last n d queue local count is tick resource less =
    let here : IsSome (lookup (same_key last) (local_events ts)) = subst (λ o. IsSome o) (sym (lookup_same last ts)) (mapped (lookup (same_key last) ts) (index_here ts last n (omega (arith, count)) at)) in
    let before : Precedes last k = local_precedes last k tick resource (queue_class (local_events ts) queue last here ∙ sym local) less in
    let all : AllBefore k ts = all_before k ts n d (rise_targets ts queue.rising) count (subst (λ (z : Key). Precedes z k) (sym is) before) in
    record { before = subst (λ ks. AllByRecursion (λ j. Precedes j k) ks) (sym (keys_same ts)) all; tick = λ j there. queue.tick j last there here ∙ tick }
  where
    mapped : (o : Option Target) → IsSome o → IsSome (option_map Local o)
    mapped None there = absurd (not_none {X = Target} None there refl)
    mapped (Some t) there = refl

    at : (e : Key × Target) → (get_or ts n e).0 ≡ last
    at e = ap (λ (t : Key × Target). t.0) (get_or_default ts n e d (omega (arith, count))) ∙ is

-- an event of the same tick and resource with a later number than the last
pub follows_number : (t r : ℕ) (es : List (ℕ × Target)) (n number : ℕ) (last : ℕ × Target) → IsQueue (local_events (map (keyed t r) es)) → length es ≡ suc n → last ≡ get_or es n last → last.0 < number
    → MayFollow (local_events (map (keyed t r) es)) (local_key t r number)
follows_number t r es n number last queue count at less =
    follows_last (map (keyed t r) es) (local_key t r number) (local_key t r last.0) n (keyed t r last) queue refl (length-map es (keyed t r) ∙ count)
    (ap (λ (x : Key × Target). x.0) (get_or-map (keyed t r) es n last (keyed t r last) (omega (arith, count))) ∙ ap (λ (x : ℕ × Target). local_key t r x.0) (sym at)) refl refl less

pub all_at : (t r : ℕ) (es : List (ℕ × Target)) → AllByRecursion (IsAt t r) (map (keyed t r) es)
all_at t r [] = tt
all_at t r (e ∷ es) = ((refl, refl), all_at t r es)

-- events of one tick and resource have them as their own
pub same_moment : (t r u s : ℕ) (es : List (ℕ × Target)) → AllByRecursion (IsAt u s) (map (keyed t r) es) → map (keyed u s) es ≡ map (keyed t r) es
same_moment t r u s [] all = refl
same_moment t r u s (e ∷ es) all =
    ap (λ x. (local_key x s e.0, e.1) ∷ map (keyed u s) es) (sym all.0.0) ∙ ap (λ x. (local_key t x e.0, e.1) ∷ map (keyed u s) es) (sym all.0.1)
    ∙ ap (λ l. (local_key t r e.0, e.1) ∷ l) (same_moment t r u s es all.1)

pub pushed : (t r u s : ℕ) (old new : List (ℕ × Target)) (e : ℕ × Target) → AllByRecursion (IsAt u s) (map (keyed t r) old) → new ≡ old ++ e ∷ [] → map (keyed u s) new ≡ map (keyed t r) old ++ (local_key u s e.0, e.1) ∷ []
pushed t r u s old new e all is = ap (map (keyed u s)) is ∙ map-append (keyed u s) old (e ∷ []) ∙ ap (λ l. l ++ (local_key u s e.0, e.1) ∷ []) (same_moment t r u s old all)

-- ---- Changes of the queue

-- an event is appended
module _ (ts new : List (Key × Target)) (k : Key) (t : Target) (queue : IsQueue (local_events ts)) (local : k.class ≡ 3) (may : MayFollow (local_events ts) k) (is : new ≡ ts ++ (k, t) ∷ []) where
  put_is : local_events new ≡ insert_entry key_cmp (local_events ts) k (Local t)
  put_is = ap local_events is ∙ map-append event_of ts ((k, t) ∷ []) ∙ put_last k (Local t) (local_events ts) may.before

  pub pushed_sets : Sets k (Some (Local t)) (local_events ts) (local_events new)
  pushed_sets = put_sets (local_events ts) (local_events new) k (Local t) put_is

  pub pushed_queue : IsQueue (local_events new)
  pushed_queue = queue_more (local_events ts) (local_events new) k queue (put_rises (local_events ts) (local_events new) k (Local t) queue.rising put_is) (Local t) local may.tick pushed_sets

module _ (ts new : List (Key × Target)) (later : List (Key × Event)) (due : List ℕ) (k : Key) (t : Target)
    (apart : AreApart (record { running = local_events ts; later = later; due = due })) (local : k.class ≡ 3) (may : MayFollow (local_events ts) k) (alone : lookup (same_key k) later ≡ None) where
  abbrev before : Contents
  before = record { running = local_events ts; later = later; due = due }

  pub put_now_apart : {A E : Type 0} (r : Result A E) → OnOk r (new ≡ ts ++ (k, t) ∷ []) → OnErr r (new ≡ ts) → AreApart (record { running = local_events new; later = later; due = due })
  put_now_apart (Ok x) ok err =
      queue_apart before apart k (Some (Local t)) (local_events new) (pushed_sets ts new k t apart.queue local may ok) alone (pushed_queue ts new k t apart.queue local may ok)
  put_now_apart (Err x) ok err = subst (λ l. AreApart (record { running = local_events l; later = later; due = due })) (sym err) apart

  pub put_now_waits : {A E : Type 0} (r : Result A E) → OnOk r (new ≡ ts ++ (k, t) ∷ [])
      → OnOk r ((j : Key) → waiting (record { running = local_events new; later = later; due = due }) j ≡ cond (same_key k j) (Some (Local t)) (waiting (record { running = local_events ts; later = later; due = due }) j))
  put_now_waits (Ok x) ok = queue_waits before apart k (Some (Local t)) (local_events new) (pushed_sets ts new k t apart.queue local may ok) alone
  put_now_waits (Err x) ok = tt

-- an event is removed
pub number_removed : (t r : ℕ) (es : List (ℕ × Target)) (i : ℕ) → map (keyed t r) (remove es i) ≡ remove (map (keyed t r) es) i
number_removed t r [] zero = refl
number_removed t r [] (suc i) = refl
number_removed t r (e ∷ es) zero = refl
number_removed t r (e ∷ es) (suc i) = ap (λ l. keyed t r e ∷ l) (number_removed t r es i)

remove_same : (ts : List (Key × Target)) (i : ℕ) → local_events (remove ts i) ≡ remove (local_events ts) i
remove_same [] zero = refl
remove_same [] (suc i) = refl
remove_same (x ∷ ts) zero = refl
remove_same (x ∷ ts) (suc i) = ap (λ es. event_of x ∷ es) (remove_same ts i)

module _ (ts new : List (Key × Target)) (k : Key) (i : ℕ) (queue : IsQueue (local_events ts)) (index : IsIndexOf (local_events ts) k i) (is : new ≡ remove ts i) where
  gone_is : local_events new ≡ remove (local_events ts) i
  gone_is = ap local_events is ∙ remove_same ts i

  pub gone_sets : Sets k None (local_events ts) (local_events new)
  gone_sets = subst (λ es. Sets k None (local_events ts) es) (sym gone_is) (removed_sets (local_events ts) k i queue.rising index.within index.there)

  pub gone_queue : IsQueue (local_events new)
  gone_queue = queue_less (local_events ts) (local_events new) k queue (subst (λ es. AreRising es) (sym gone_is) (removed_rises (local_events ts) i queue.rising)) gone_sets

-- the first event is taken
module _ (t r : ℕ) (old new : List (ℕ × Target)) (p : ℕ × Target) (ts : List (Key × Target)) (k : Key) (e : Event)
    (view : map (keyed t r) old ≡ ts) (rising : AreRising (local_events ts)) (items : old ≡ p ∷ new) (key : k ≡ local_key t r p.0) (event : e ≡ Local p.1) where
  abbrev rest : List (Key × Event)
  rest = local_events (map (keyed t r) new)

  first_of : local_events ts ≡ (k, e) ∷ rest
  first_of =
      ap local_events (sym view) ∙ ap (λ es. local_events (map (keyed t r) es)) items ∙ ap (λ (z : Key). (z, Local p.1) ∷ rest) (sym key)
      ∙ ap (λ (z : Event). (k, z) ∷ rest) (sym event)

  pub number_popped : IsPopped (local_events ts) rest (Some (k, e))
  number_popped = front_popped (local_events ts) rest rising (Some (k, e)) first_of

  pub number_rises : AreRising rest
  number_rises = rest_rises (local_events ts) rest rising (Some (k, e)) first_of

-- the moment of the first
pub moment_of_first : (t r : ℕ) (es : List (ℕ × Target)) → AreRising (local_events (map (keyed t r) es)) → 0 < length es → IsMomentOf (local_events (map (keyed t r) es)) (record { tick = t; resource = r })
moment_of_first t r [] rising some = absurd (omega (arith, some))
moment_of_first t r (e ∷ es) rising some = record { key = local_key t r e.0; first = first_number t r (e ∷ es) e rising some refl; tick = refl; resource = refl }

pub some_if : (b : Bool) (n : ℕ) (es : List (ℕ × Target)) → b ≡ eqb n 0 → b ≡ false → length es ≡ n → 0 < length es
some_if true n es is other count = absurd cc
some_if false n [] is other count = let zero_is : eqb n 0 ≡ true = ap (λ m. eqb m 0) (sym count) in absurd cc
some_if false n (e ∷ es) is other count = omega arith

-- whether there is none
pub empty_if : (b : Bool) (n : ℕ) (t r : ℕ) (es : List (ℕ × Target)) (ts : List (Key × Target)) → map (keyed t r) es ≡ ts → b ≡ eqb n 0 → length es ≡ n → OnTrue b (ts ≡ [])
empty_if false n t r es ts view is count = tt
empty_if true n t r es ts view is count = sym view ∙ ap (map (keyed t r)) (nil_from_length es (count ∙ eqb-true n 0 (sym is)))

-- what holds of a result that is there
pub where_some : {A P : Type 0} (o : Option A) → IsSome o → OnSome o P → P
where_some {A} None there p = absurd (not_none {X = A} None there refl)
where_some (Some a) there p = p
