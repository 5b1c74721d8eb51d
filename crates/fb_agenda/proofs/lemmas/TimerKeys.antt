-- Timers, as events under their keys.
use Rattle.fb_agenda.proofs.lemmas.Common.{◌≡◌, ℕ, zero, suc, ◌<◌, ◌≤◌, Bool, true, false, cond, List, [], ◌∷◌, ◌++◌, length, get_or, refl, sym, ap, subst, ◌∙◌, Option, Some, None, arith, IsSome, lookup, insert_entry, is_eq, Less, Equal, Greater, map-append, Precedes, key_cmp, same_key, timer_key, Key, Timer, remove, Event, AreRising, IsFirst, Sets, timer_event, timer_events, Timed}
use Rattle.fb_types.proofs.Common.{set, option_map, get_or-map, length-map}
use Rattle.std.specs.Prelude.{option_to_list}
use Rattle.std.specs.List.{insert}
use Rattle.std.specs.Ordering.{ordering_index}
use Rattle.fb_types.proofs.lemmas.events.KeyLaws.{same_key_is}
use Rattle.fb_agenda.proofs.lemmas.Orders.{first_is, AllBefore, all_before, put_between, put_last, put_over, searchable}
use Rattle.fb_agenda.proofs.lemmas.Lists.{absent_before, absent_between, index_here, removed_rises, removed_sets}

-- ---- Lists of timers and of events

pub timer_at : (ts : List Timed) (i : ℕ) (d : Timed) (e : Key × Event) → i < length ts → get_or (timer_events ts) i e ≡ timer_event (get_or ts i d)
timer_at ts i d e within = get_or-map timer_event ts i d e within

pub timers_length : (ts : List Timed) → length (timer_events ts) ≡ length ts
timers_length ts = length-map ts timer_event

timer_set : (ts : List Timed) (i : ℕ) (t : Timed) → timer_events (set ts i t) ≡ set (timer_events ts) i (timer_event t)
timer_set [] i t = refl
timer_set (x ∷ ts) zero t = refl
timer_set (x ∷ ts) (suc i) t = ap (λ es. timer_event x ∷ es) (timer_set ts i t)

timer_inserted : (ts : List Timed) (i : ℕ) (t : Timed) → timer_events (insert ts i t) ≡ insert (timer_events ts) i (timer_event t)
timer_inserted [] zero t = refl
timer_inserted [] (suc i) t = refl
timer_inserted (x ∷ ts) zero t = refl
timer_inserted (x ∷ ts) (suc i) t = ap (λ es. timer_event x ∷ es) (timer_inserted ts i t)

timer_removed : (ts : List Timed) (i : ℕ) → timer_events (remove ts i) ≡ remove (timer_events ts) i
timer_removed [] zero = refl
timer_removed [] (suc i) = refl
timer_removed (x ∷ ts) zero = refl
timer_removed (x ∷ ts) (suc i) = ap (λ es. timer_event x ∷ es) (timer_removed ts i)

-- ---- The first and the last

pub first_timer : (ts : List Timed) (t d : Timed) → AreRising (timer_events ts) → 0 < length ts → get_or ts 0 d ≡ t → IsFirst (timer_events ts) (timer_key t.tick t.resource t.instance)
first_timer [] t d rising some is = absurd (omega (arith, some))
first_timer (x ∷ ts) t d rising some is =
    first_is (timer_events (x ∷ ts)) (timer_key t.tick t.resource t.instance) (timer_event x) rising (omega arith) (ap (λ (z : Timed). timer_key z.tick z.resource z.instance) (sym is))

-- all timers come before the key, if the last one does
pub before_timer : (k : Key) (ts : List Timed) (n : ℕ) (d : Timed) → AreRising (timer_events ts) → length ts ≡ suc n → Precedes (timer_event (get_or ts n d)).0 k → AllBefore k (timer_events ts)
before_timer k ts n d rising count before =
    all_before k (timer_events ts) n (timer_event d) rising (timers_length ts ∙ count) (subst (λ (e : Key × Event). Precedes e.0 k) (sym (timer_at ts n d (timer_event d) (omega (arith, count)))) before)

-- the key comes before the first timer
pub absent_timer : (k : Key) (ts : List Timed) (d : Timed) → AreRising (timer_events ts) → 0 < length ts → Precedes k (timer_event (get_or ts 0 d)).0 → lookup (same_key k) (timer_events ts) ≡ None
absent_timer k ts d rising some before =
    let same = timers_length ts in
    absent_before k (timer_events ts) (timer_event d) rising (omega (arith, same, some)) (subst (λ (e : Key × Event). Precedes k e.0) (sym (timer_at ts 0 d (timer_event d) some)) before)

-- ---- The search

pub timers_searchable : (k : Key) (ts : List Timed) → AreRising (timer_events ts) → (i j : ℕ) (d : Timed) → i ≤ j → j < length ts
    → ordering_index (key_cmp (timer_event (get_or ts i d)).0 k) ≤ ordering_index (key_cmp (timer_event (get_or ts j d)).0 k)
timers_searchable k ts rising i j d le within =
    let same = timers_length ts in
    let at = λ (n : ℕ) (less : n < length ts). timer_at ts n d (timer_event d) less in
    subst (λ (e : Key × Event). ordering_index (key_cmp e.0 k) ≤ ordering_index (key_cmp (timer_event (get_or ts j d)).0 k)) (at i (omega (arith, le, within)))
    (subst (λ (e : Key × Event). ordering_index (key_cmp (get_or (timer_events ts) i (timer_event d)).0 k) ≤ ordering_index (key_cmp e.0 k)) (at j within)
    (searchable k (timer_events ts) rising i j (timer_event d) le (omega (arith, same, within))))

no_timed : Timed
no_timed = record { tick = 0; resource = 0; instance = 0 }

module _ (k : Key) (ts : List Timed) (i : ℕ) where
  -- a timer of the key is at the index
  module _ (within : i < length ts) (found : (d : Timed) → key_cmp (timer_event (get_or ts i d)).0 k ≡ Equal) where
    equal_at : (e : Key × Event) → key_cmp (get_or (timer_events ts) i e).0 k ≡ Equal
    equal_at e = ap (λ (x : Key × Event). key_cmp x.0 k) (timer_at ts i no_timed e within) ∙ found no_timed

    within_events : i < length (timer_events ts)
    within_events = let same = timers_length ts in omega (arith, same, within)

    pub timer_put_over : (t : Timed) → AreRising (timer_events ts) → timer_key t.tick t.resource t.instance ≡ k → timer_events (set ts i t) ≡ insert_entry key_cmp (timer_events ts) k (Timer t.instance)
    timer_put_over t rising is =
        timer_set ts i t ∙ ap (λ (z : Key). set (timer_events ts) i (z, Timer t.instance)) is ∙ put_over k (Timer t.instance) (timer_events ts) i rising within_events equal_at

    pub timer_here : IsSome (lookup (same_key k) (timer_events ts))
    timer_here = index_here (timer_events ts) k i within_events (λ e. same_key_is (get_or (timer_events ts) i e).0 k (ap is_eq (equal_at e)))

    pub timer_gone : AreRising (timer_events ts) → Sets k None (timer_events ts) (timer_events (remove ts i))
    timer_gone rising =
        subst (λ es. Sets k None (timer_events ts) es) (sym (timer_removed ts i))
        (removed_sets (timer_events ts) k i rising within_events (λ e. same_key_is (get_or (timer_events ts) i e).0 k (ap is_eq (equal_at e))))

    pub timer_gone_rises : AreRising (timer_events ts) → AreRising (timer_events (remove ts i))
    timer_gone_rises rising = subst (λ es. AreRising es) (sym (timer_removed ts i)) (removed_rises (timer_events ts) i rising)

  -- the key belongs at the index
  module _ (below : (j : ℕ) (d : Timed) → j < i → key_cmp (timer_event (get_or ts j d)).0 k ≡ Less)
      (above : (j : ℕ) (d : Timed) → i ≤ j → j < length ts → key_cmp (timer_event (get_or ts j d)).0 k ≡ Greater) (within : i ≤ length ts) where
    below_events : (j : ℕ) (e : Key × Event) → j < i → key_cmp (get_or (timer_events ts) j e).0 k ≡ Less
    below_events j e less = ap (λ (x : Key × Event). key_cmp x.0 k) (timer_at ts j no_timed e (omega (arith, less, within))) ∙ below j no_timed less

    above_events : (j : ℕ) (e : Key × Event) → i ≤ j → j < length (timer_events ts) → key_cmp (get_or (timer_events ts) j e).0 k ≡ Greater
    above_events j e le less =
        let same = timers_length ts in
        let here : j < length ts = omega (arith, same, less) in
        ap (λ (x : Key × Event). key_cmp x.0 k) (timer_at ts j no_timed e here) ∙ above j no_timed le here

    pub timer_put_between : (t : Timed) → timer_key t.tick t.resource t.instance ≡ k → timer_events (insert ts i t) ≡ insert_entry key_cmp (timer_events ts) k (Timer t.instance)
    timer_put_between t is =
        let same = timers_length ts in
        timer_inserted ts i t ∙ ap (λ (z : Key). insert (timer_events ts) i (z, Timer t.instance)) is
        ∙ put_between k (Timer t.instance) (timer_events ts) i (omega (arith, same, within)) below_events above_events

    pub timer_absent : lookup (same_key k) (timer_events ts) ≡ None
    timer_absent = absent_between k (timer_events ts) i below_events above_events

-- one timer more, after all others
pub timer_pushed : (ts new : List Timed) (t : Timed) (es : List (Key × Event)) → timer_events ts ≡ es → new ≡ ts ++ t ∷ [] → AllBefore (timer_key t.tick t.resource t.instance) es
    → timer_events new ≡ insert_entry key_cmp es (timer_key t.tick t.resource t.instance) (Timer t.instance)
timer_pushed ts new t es view is before =
    ap timer_events is ∙ map-append timer_event ts (t ∷ []) ∙ ap (λ l. l ++ timer_event t ∷ []) view ∙ put_last (timer_key t.tick t.resource t.instance) (Timer t.instance) es before

-- if there is no event under the key, removing it changes nothing
pub none_sets : (k : Key) (es : List (Key × Event)) → lookup (same_key k) es ≡ None → Sets k None es es
none_sets k es none j = go (same_key k j) refl
  where
    go : (b : Bool) → same_key k j ≡ b → lookup (same_key j) es ≡ cond b None (lookup (same_key j) es)
    go true same = subst (λ (z : Key). lookup (same_key z) es ≡ None) (same_key_is k j same) none
    go false other = refl

-- there is no timer
pub before_no_timer : (k : Key) (ts : List Timed) → (0 < length ts → ⊥) → AllBefore k (timer_events ts)
before_no_timer k [] none = tt
before_no_timer k (t ∷ ts) none = absurd (none (omega arith))

pub absent_no_timer : (k : Key) (ts : List Timed) → (0 < length ts → ⊥) → lookup (same_key k) (timer_events ts) ≡ None
absent_no_timer k [] none = refl
absent_no_timer k (t ∷ ts) none = absurd (none (omega arith))

-- the first timer is taken
pub timer_popped : (ts new : List Timed) (o : Option Timed) (es : List (Key × Event)) → timer_events ts ≡ es → ts ≡ option_to_list o ++ new → es ≡ option_to_list (option_map timer_event o) ++ timer_events new
timer_popped ts new None es view is = sym view ∙ ap timer_events is
timer_popped ts new (Some t) es view is = sym view ∙ ap timer_events is
