-- Messages that were dealt to their receivers and sorted there.
use Rattle.fb_types.proofs.Common.{◌≡◌, ℕ, Bool, true, false, List, [], ◌∷◌, refl, sym, ap, ◌∙◌, subst, ⊎_elim, IsPermutation, Ordering, is_lt, nat_cmp, ordering_then, Less, Equal, Greater, eqb-true, eqb-false, All-permutation, key_cmp, same_key, found, Each, System}
use Rattle.fb_types.specs.declared.key.Key.{Key}
use Rattle.fb_types.specs.declared.run.Message.{Message}
use Rattle.std.proofs.Common.{filter}
use Rattle.std.specs.Cmp.{IsTotalOrder, nat_cmp_total, on_total}
use Rattle.std.specs.List.Sorted.{IsSortedByKey, IsStableByKey}
use Rattle.std.proofs.lemmas.Bool.{cond_both}
use Rattle.std.proofs.lemmas.Cmp.{then_total}
use Rattle.std.proofs.lemmas.List.Elements.{All-from_recursion, recursion_from_All}
use Rattle.std.proofs.lemmas.List.Sorted.{ranks_by}
use Rattle.fb_types.proofs.lemmas.lists.Lookups.{cmp_equal, same_cases}
use Rattle.fb_link.specs.Messages.{key_of, receiver_of}
use Rattle.fb_link.specs.Exchanges.{goes_to, keyed, AreSorted}
use Rattle.fb_link.proofs.lemmas.Keyed.{found_kept, found_stable, keys_rise}
use Rattle.fb_types.proofs.lemmas.lists.EachLaws.{each_map}

-- the parts of a key in which the messages for one resource differ
abbrev pub index_of : Message → ℕ × ℕ × ℕ
index_of m = (m.arrives, m.link, m.number)

abbrev pub index_cmp : ℕ × ℕ × ℕ → ℕ × ℕ × ℕ → Ordering
index_cmp x y = ordering_then (ordering_then (nat_cmp x.0 y.0) (nat_cmp x.1 y.1)) (nat_cmp x.2 y.2)

abbrev less : Message → Message → Bool
less x y = is_lt (index_cmp (index_of x) (index_of y))

index_cmp_total : IsTotalOrder index_cmp
index_cmp_total = then_total (then_total (on_total (λ t. t.0) nat_cmp_total) (on_total (λ t. t.1) nat_cmp_total)) (on_total (λ t. t.2) nat_cmp_total)

then_assoc : (a b c : Ordering) → ordering_then (ordering_then a b) c ≡ ordering_then a (ordering_then b c)
then_assoc Less b c = refl
then_assoc Equal b c = refl
then_assoc Greater b c = refl

-- the rest of the two keys is the same
agrees : (sys : System) (r : ℕ) (x y : Message) → receiver_of sys x ≡ r → receiver_of sys y ≡ r → less x y ≡ is_lt (key_cmp (key_of sys x) (key_of sys y))
agrees sys r x y p q =
    ap is_lt (then_assoc (nat_cmp x.arrives y.arrives) (nat_cmp x.link y.link) (nat_cmp x.number y.number)
    ∙ sym (ap (λ o. ordering_then (nat_cmp x.arrives y.arrives) (ordering_then o (ordering_then (nat_cmp x.link y.link) (nat_cmp x.number y.number)))) (cmp_equal (receiver_of sys x) (receiver_of sys y) (p ∙ sym q))))

passing : {X : Type 0} (p : X → Bool) (xs : List X) → Each (λ x. p x ≡ true) (filter p xs)
passing p [] = tt
passing p (x ∷ xs) = cond_both (p x) (x ∷ filter p xs) (filter p xs) (Each (λ x. p x ≡ true)) (λ e. (e, passing p xs)) (λ e. passing p xs)

each_all : {X : Type 0} (P : X → Type 0) (xs : List X) → ((x : X) → P x) → Each P xs
each_all P [] f = tt
each_all P (x ∷ xs) f = (f x, each_all P xs f)

-- among the messages to a resource, a key of the resource has what it has among all
pub found_to : (sys : System) (r : ℕ) (ms : List Message) (k : Key) → k.resource ≡ r → found k (keyed sys (filter (goes_to sys r) ms)) ≡ found k (keyed sys ms)
found_to sys r ms k e = sym (found_kept (key_of sys) k (goes_to sys r) ms (each_all _ ms (λ m n. elsewhere m n)))
  where
    elsewhere : (m : Message) → goes_to sys r m ≡ false → same_key (key_of sys m) k ≡ false
    elsewhere m n = ⊎_elim (λ s. absurd (eqb-false (receiver_of sys m) r n (ap (λ z. z.resource) s ∙ e))) (λ s. s) (same_cases (key_of sys m) k)

-- what a stable sort by these parts makes of the messages for a resource
pub sorted : (xs ys : List Message) → IsPermutation xs ys → IsSortedByKey index_of index_cmp ys → IsStableByKey index_of index_cmp xs ys → AreSorted xs ys
sorted xs ys moved up stable sys r all e =
    let mine : Each (λ m. receiver_of sys m ≡ r) xs =
    subst (Each (λ m. receiver_of sys m ≡ r)) (sym e) (each_map _ _ (filter (goes_to sys r) all) (λ m h. eqb-true (receiver_of sys m) r h) (passing (goes_to sys r) all)) in
    let same : Each (λ m. receiver_of sys m ≡ r) ys =
    recursion_from_All (λ m. receiver_of sys m ≡ r) ys (All-permutation (λ m. receiver_of sys m ≡ r) xs ys moved (All-from_recursion (λ m. receiver_of sys m ≡ r) xs mine)) in
    record {
      those = subst (λ z. IsPermutation z ys) e moved;
      order = keys_rise (key_of sys) less (λ m. receiver_of sys m ≡ r) (agrees sys r) (ranks_by index_cmp_total index_of) ys same up;
      last = λ k h.
          found_stable (key_of sys) less (λ m. receiver_of sys m ≡ r) (agrees sys r) xs ys mine same stable k
          ∙ ap (λ z. found k (keyed sys z)) e
          ∙ found_to sys r all k h;
    }
