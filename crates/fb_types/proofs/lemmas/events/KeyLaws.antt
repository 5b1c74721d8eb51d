-- The order of keys.
use Rattle.fb_types.proofs.Common.{◌≡◌, ◌<◌, true, false, refl, ap, subst, ◌∙◌, Option, Some, None, IsSome, ordering_then, is_eq, Ordering, Less, Equal, Greater, tied_itself, lt-ltb, key_cmp, Precedes, same_key, Key}
use Rattle.std.specs.Cmp.{IsTotalOrder, nat_cmp_total, on_total}
use Rattle.std.specs.Ordering.{ordering_reverse, is_gt}
use Rattle.std.proofs.lemmas.Cmp.{then_total}
use Rattle.std.proofs.lemmas.Map.Lookups.{exact_unsigned}

-- the order is total
pub key_cmp_total : IsTotalOrder key_cmp
key_cmp_total =
    then_total (on_total (λ (k : Key). k.tick) nat_cmp_total)
    (then_total (on_total (λ (k : Key). k.resource) nat_cmp_total)
    (then_total (on_total (λ (k : Key). k.class) nat_cmp_total)
    (then_total (on_total (λ (k : Key). k.a) nat_cmp_total) (on_total (λ (k : Key). k.b) nat_cmp_total))))

-- an earlier tick comes first
pub earlier_precedes : (j k : Key) → j.tick < k.tick → Precedes j k
earlier_precedes j k lt = rw (lt-ltb j.tick k.tick lt) refl

-- what comes before the least key is not there
pub before_least : {X : Type 0} (m : Key → Option X) (k : Key) → ((q : Key) → IsSome (m q) → is_gt (key_cmp k q) ≡ false)
    → (j : Key) → Precedes j k → m j ≡ None
before_least m k least j before = go (m j) refl
  where
    go : (o : Option _) → m j ≡ o → m j ≡ None
    go None e = e
    go (Some x) e =
        let there : IsSome (m j) = rw e refl in
        let after : key_cmp k j ≡ Greater = key_cmp_total.antisymm k j ∙ ap ordering_reverse before in
        let no : is_gt (key_cmp k j) ≡ false = least j there in
        let yes : is_gt (key_cmp k j) ≡ true = ap is_gt after in
        absurd cc

both_equal : (o p : Ordering) → ordering_then o p ≡ Equal → (o ≡ Equal) × (p ≡ Equal)
both_equal Less p h = absurd cc
both_equal Equal p h = (refl, h)
both_equal Greater p h = absurd cc

equal_is : (o : Ordering) → is_eq o ≡ true → o ≡ Equal
equal_is Less h = absurd cc
equal_is Equal h = refl
equal_is Greater h = absurd cc

-- keys that the test does not distinguish are the same
pub same_key_is : (j k : Key) → same_key j k ≡ true → j ≡ k
same_key_is j k h =
    let a = both_equal _ _ (equal_is (key_cmp j k) h) in
    let b = both_equal _ _ a.1 in
    let c = both_equal _ _ b.1 in
    let d = both_equal _ _ c.1 in
    let tick : j.tick ≡ k.tick = exact_unsigned _ _ a.0 in
    let resource : j.resource ≡ k.resource = exact_unsigned _ _ b.0 in
    let class : j.class ≡ k.class = exact_unsigned _ _ c.0 in
    let x : j.a ≡ k.a = exact_unsigned _ _ d.0 in
    let y : j.b ≡ k.b = exact_unsigned _ _ d.1 in
    λ i. record { tick = tick i; resource = resource i; class = class i; a = x i; b = y i }

pub same_key_itself : (k : Key) → same_key k k ≡ true
same_key_itself k = ap is_eq (tied_itself key_cmp_total k)

pub same_key_from : (j k : Key) → j ≡ k → same_key j k ≡ true
same_key_from j k e = subst (λ (z : Key). same_key j z ≡ true) e (same_key_itself j)
