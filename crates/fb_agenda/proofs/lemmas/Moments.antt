-- The tick and the resource of keys, and where events wait by these.
use Rattle.fb_agenda.proofs.lemmas.Common.{◌≡◌, ℕ, zero, suc, ◌<◌, ◌≤◌, Bool, true, false, cond, List, refl, sym, ap, subst, ◌∙◌, Option, Some, None, arith, IfSome, IfNone, OnTrue, lookup, Less, Precedes, same_key, Key, Event, IsFirst, Sets, IsPast, Moment}
use Rattle.fb_types.proofs.Common.{ltb, OnFalse, nat_cmp, ordering_then, lt-ltb, ltb-false, ltb-true}
use Rattle.std.proofs.lemmas.Bool.{OnFalse_from, OnTrue_from}
use Rattle.fb_types.proofs.lemmas.events.KeyLaws.{earlier_precedes, key_cmp_total, same_key_is}
use Rattle.fb_types.proofs.lemmas.lists.Lookups.{cmp_equal}
use Rattle.fb_agenda.specs.Moments.{IsNoLater, IsQuiet, IsSooner}
use Rattle.fb_agenda.proofs.lemmas.Orders.{not_below, not_itself}

-- ---- The order of keys by tick and resource

pub number_less : (n m : ℕ) → n < m → nat_cmp n m ≡ Less
number_less n m less = rw (lt-ltb n m less) refl

pub sooner_precedes : (j k : Key) → j.tick ≡ k.tick → j.resource < k.resource → Precedes j k
sooner_precedes j k tick less =
    ap (λ o. ordering_then o (ordering_then (nat_cmp j.resource k.resource) (ordering_then (nat_cmp j.class k.class) (ordering_then (nat_cmp j.a k.a) (nat_cmp j.b k.b))))) (cmp_equal j.tick k.tick tick)
    ∙ ap (λ o. ordering_then o (ordering_then (nat_cmp j.class k.class) (ordering_then (nat_cmp j.a k.a) (nat_cmp j.b k.b)))) (number_less j.resource k.resource less)

pub precedes_resource : (j k : Key) → Precedes j k → j.tick ≡ k.tick → j.resource ≤ k.resource
precedes_resource j k before tick = not_below k.resource j.resource (λ less. not_itself j (key_cmp_total.trans j k j before (sooner_precedes k j (sym tick) less)))

-- of two ticks the first is below the second, or they are the same
pub either_tick : {P : Type 0} (s t : ℕ) → s ≤ t → (s < t → P) → (s ≡ t → P) → P
either_tick zero zero le sooner same = same refl
either_tick zero (suc t) le sooner same = sooner (omega arith)
either_tick (suc s) zero le sooner same = absurd (omega (arith, le))
either_tick (suc s) (suc t) le sooner same = either_tick s t (omega (arith, le)) (λ less. sooner (omega (arith, less))) (λ e. same (ap suc e))

-- ---- The moment before which nothing waits

pub quiet_less : (q r : Moment) (es : List (Key × Event)) → IsQuiet q es → IsNoLater r q → IsQuiet r es
quiet_less q r es quiet le = record {
  below = λ j less. quiet.below j (let tick = le.tick in omega (arith, tick, less));
  before = λ j same less. either_tick r.tick q.tick le.tick (λ sooner. quiet.below j (omega (arith, same, sooner)))
      (λ at. quiet.before j (same ∙ at) (let resource = le.resource at in omega (arith, resource, less)));
}

-- an event is put under a key, or removed
module _ (q r m : Moment) (k : Key) (w : Option Event) (old new : List (Key × Event)) (quiet : IsQuiet q old) (less : IsNoLater r q) (later : IsNoLater r m) (tick : m.tick ≡ k.tick) (resource : m.resource ≡ k.resource) where
  pub quiet_put : Sets k w old new → IsQuiet r new
  quiet_put sets = record { below = λ j below. sets j ∙ low j below (same_key k j) refl; before = λ j same before. sets j ∙ mid j same before (same_key k j) refl }
    where
      earlier : IsQuiet r old
      earlier = quiet_less q r old quiet less

      low : (j : Key) → j.tick < r.tick → (b : Bool) → same_key k j ≡ b → cond b w (lookup (same_key j) old) ≡ None
      low j below true e =
          let at : k.tick ≡ j.tick = ap (λ (z : Key). z.tick) (same_key_is k j e) in
          let le = later.tick in
          absurd (omega (arith, at, below, le, tick))
      low j below false e = earlier.below j below

      mid : (j : Key) → j.tick ≡ r.tick → j.resource < r.resource → (b : Bool) → same_key k j ≡ b → cond b w (lookup (same_key j) old) ≡ None
      mid j same before true e =
          let at : k.tick ≡ j.tick = ap (λ (z : Key). z.tick) (same_key_is k j e) in
          let here : k.resource ≡ j.resource = ap (λ (z : Key). z.resource) (same_key_is k j e) in
          let le : r.resource ≤ m.resource = later.resource (sym (tick ∙ at ∙ same)) in
          absurd (omega (arith, here, le, before, resource))
      mid j same before false e = earlier.before j same before

pub quiet_gone : (q : Moment) (k : Key) (old new : List (Key × Event)) → IsQuiet q old → Sets k None old new → IsQuiet q new
quiet_gone q k old new quiet sets = record { below = λ j less. sets j ∙ go (same_key k j) (quiet.below j less); before = λ j same less. sets j ∙ go (same_key k j) (quiet.before j same less) }
  where
    go : {o : Option Event} (b : Bool) → o ≡ None → cond b None o ≡ None
    go true e = refl
    go false e = e

pub quiet_popped : (q : Moment) (old new : List (Key × Event)) → IsQuiet q old → (o : Option (Key × Event)) → IfSome o (λ p. Sets p.0 None old new) → IfNone o (new ≡ old) → IsQuiet q new
quiet_popped q old new quiet None sets kept = subst (λ es. IsQuiet q es) (sym kept) quiet
quiet_popped q old new quiet (Some p) sets kept = quiet_gone q p.0 old new quiet sets

pub quiet_first : (m : Moment) (es : List (Key × Event)) (k : Key) → m.tick ≡ k.tick → m.resource ≡ k.resource → IsFirst es k → IsQuiet m es
quiet_first m es k tick resource first = record {
  below = λ j less. first.none_before j (earlier_precedes j k (omega (arith, tick, less)));
  before = λ j same less. first.none_before j (sooner_precedes j k (same ∙ tick) (omega (arith, resource, less)));
}

-- ---- The moment up to which nothing waits

pub past_of_quiet : (m q : Moment) (es : List (Key × Event)) → IsSooner m q → IsQuiet q es → IsPast m es
past_of_quiet m q es sooner quiet = record {
  below = λ j less. quiet.below j (let tick = sooner.tick in omega (arith, tick, less));
  up_to = λ j same le. either_tick m.tick q.tick sooner.tick (λ less. quiet.below j (omega (arith, same, less)))
      (λ at. quiet.before j (same ∙ at) (let resource = sooner.resource at in omega (arith, resource, le)));
}

pub past_sooner : (b : Bool) (m q : Moment) (es : List (Key × Event)) → OnTrue b (IsSooner m q) → IsQuiet q es → OnTrue b (IsPast m es)
past_sooner true m q es sooner quiet = past_of_quiet m q es sooner quiet
past_sooner false m q es sooner quiet = tt

-- ---- Which of two moments is the earlier

pub no_later : (m n : Moment) → IsSooner m n → IsNoLater m n
no_later m n sooner = record { tick = sooner.tick; resource = λ same. let less : m.resource < n.resource = sooner.resource same in omega arith }

pub no_later_itself : (m : Moment) → IsNoLater m m
no_later_itself m = record { tick = omega arith; resource = λ same. omega arith }

-- by their resources, where the ticks are the same
pub sooner_if : (m n : Moment) → m.tick ≡ n.tick → OnTrue (ltb m.resource n.resource) (IsSooner m n)
sooner_if m n same =
    OnTrue_from (ltb m.resource n.resource) (IsSooner m n)
    (λ yes. let less : m.resource < n.resource = ltb-true m.resource n.resource yes in record { tick = omega arith; resource = λ at. less })

pub later_if : (m n : Moment) → m.tick ≡ n.tick → OnFalse (ltb m.resource n.resource) (IsNoLater n m)
later_if m n same =
    OnFalse_from (ltb m.resource n.resource) (IsNoLater n m)
    (λ no. let other : n.resource ≤ m.resource = ltb-false m.resource n.resource no in record { tick = omega arith; resource = λ at. other })
