-- Lists of events under their keys: what is found in two of them, which comes first, and how they change.
use Rattle.fb_agenda.proofs.lemmas.Common.{◌≡◌, ℕ, zero, suc, ◌<◌, ◌≤◌, Bool, true, false, cond, List, [], ◌∷◌, ◌++◌, length, get_or, refl, sym, ap, subst, ◌∙◌, Option, Some, None, Result, Ok, Err, arith, IsSome, IfSome, IfNone, OnOk, OnErr, is_some, OnTrue, lookup, insert_entry, is_eq, is_lt, Less, Equal, Greater, Precedes, key_cmp, or_else, same_key, Key, remove, IsStrictlySortedBy, AreRising, IsFirst, BeginsAt, IsPopped, Sets, IsPast, Moment, Event}
use Rattle.fb_types.proofs.Common.{set, Bor, OnFalse, Ordering}
use Rattle.std.specs.Prelude.{option_to_list}
use Rattle.std.specs.List.Sorted.{IsBinarySearchResult, IsSearchInRange}
use Rattle.std.specs.Result.{result_ok}
use Rattle.std.specs.Map.{keys_of}
use Rattle.std.specs.Ordering.{is_gt}
use Rattle.std.proofs.lemmas.Map.Keys.{sorted_tail}
use Rattle.fb_types.proofs.lemmas.events.KeyLaws.{before_least, earlier_precedes, key_cmp_total, same_key_is, same_key_itself}
use Rattle.fb_agenda.specs.Lists.{AreSplit, IsIndexOf, Leads}
use Rattle.fb_types.proofs.lemmas.lists.Lookups.{or_else_none}
use Rattle.fb_agenda.proofs.lemmas.Moments.{either_tick, precedes_resource}
use Rattle.fb_agenda.proofs.lemmas.Orders.{AllAfter, AllBefore, Rise, absent, after_at, all_later, before_both, either_some, first_is, first_some, follows, found_after, not_none, precedes, precedes_tick, put_over, rise_after, searchable, without_first}

-- ---- What is found in both

pub lookup_both : (j : Key) (xs ys : List (Key × Event)) → lookup (same_key j) (xs ++ ys) ≡ or_else (lookup (same_key j) xs) (lookup (same_key j) ys)
lookup_both j [] ys = refl
lookup_both j (e ∷ xs) ys = go (same_key j e.0) (lookup_both j xs ys)
  where
    go : (b : Bool) → lookup (same_key j) (xs ++ ys) ≡ or_else (lookup (same_key j) xs) (lookup (same_key j) ys)
        → cond b (Some e.1) (lookup (same_key j) (xs ++ ys)) ≡ or_else (cond b (Some e.1) (lookup (same_key j) xs)) (lookup (same_key j) ys)
    go true rest = refl
    go false rest = rest

-- ---- The first key

pub first_one : (es : List (Key × Event)) (k l : Key) → IsFirst es k → IsFirst es l → k ≡ l
first_one es k l first other = go (key_cmp k l) refl
  where
    go : (r : Ordering) → key_cmp k l ≡ r → k ≡ l
    go Less h = absurd (not_none (lookup (same_key k) es) first.there (other.none_before k h))
    go Equal h = same_key_is k l (ap is_eq h)
    go Greater h = absurd (not_none (lookup (same_key l) es) other.there (first.none_before l (precedes k l h)))

pub leads_less : (xs ys : List (Key × Event)) (k l : Key) → IsFirst xs k → IsFirst ys l → is_lt (key_cmp k l) ≡ true → Leads xs ys
leads_less xs ys k l first other less = record {
  none_before = λ i is j before. other.none_before j (key_cmp_total.trans j k l (subst (λ (z : Key). Precedes j z) (first_one xs i k is first) before) (lt_less (key_cmp k l) less));
  none = λ empty. absurd (not_none (lookup (same_key k) xs) first.there (ap (λ es. lookup (same_key k) es) empty));
}
  where
    lt_less : (o : Ordering) → is_lt o ≡ true → o ≡ Less
    lt_less Less h = refl
    lt_less Equal h = absurd cc
    lt_less Greater h = absurd cc

pub leads_not_less : (xs ys : List (Key × Event)) (k l : Key) → IsFirst xs k → IsFirst ys l → is_lt (key_cmp k l) ≡ false → Leads ys xs
leads_not_less xs ys k l first other not_less = record {
  none_before = λ i is j before. first.none_before j (before_both j l k (subst (λ (z : Key). Precedes j z) (first_one ys i l is other) before) not_less);
  none = λ empty. absurd (not_none (lookup (same_key l) ys) other.there (ap (λ es. lookup (same_key l) es) empty));
}

-- if nothing is there, nothing comes before the others
pub leads_none : (xs ys : List (Key × Event)) → ys ≡ [] → Leads xs ys
leads_none xs ys empty = record { none_before = λ i is j before. ap (λ es. lookup (same_key j) es) empty; none = λ none. empty }

-- if nothing is there at the moment of the first or before, nothing comes before it
pub leads_past : (xs ys : List (Key × Event)) (k : Key) (m : Moment) → m.tick ≡ k.tick → m.resource ≡ k.resource → IsFirst xs k → IsPast m ys → Leads xs ys
leads_past xs ys k m tick resource first past = record {
  none_before = λ i is j before. none j (subst (λ (z : Key). Precedes j z) (first_one xs i k is first) before);
  none = λ empty. absurd (not_none (lookup (same_key k) xs) first.there (ap (λ es. lookup (same_key k) es) empty));
}
  where
    none : (j : Key) → Precedes j k → lookup (same_key j) ys ≡ None
    none j before =
        either_tick j.tick k.tick (precedes_tick j k before) (λ less. past.below j (omega (arith, tick, less)))
        (λ same. past.up_to j (same ∙ sym tick) (let le = precedes_resource j k before same in omega (arith, resource, le)))

-- a truth value that is one of the two results
pub when_true : {P : Type 0} (b : Bool) → (b ≡ true → P) → OnTrue b P
when_true true f = f refl
when_true false f = tt

pub when_false : {P : Type 0} (b : Bool) → (b ≡ false → P) → OnFalse b P
when_false true f = tt
when_false false f = f refl

pub put_sets : (es new : List (Key × Event)) (k : Key) (v : Event) → new ≡ insert_entry key_cmp es k v → Sets k (Some v) es new
put_sets es new k v is j = ap (λ l. lookup (same_key j) l) is ∙ found_after j k v es

pub put_rises : (es new : List (Key × Event)) (k : Key) (v : Event) → AreRising es → new ≡ insert_entry key_cmp es k v → AreRising new
put_rises es new k v rising is = subst (λ l. AreRising l) (sym is) (rise_after k v es rising)

module _ (few many : List (Key × Event)) where
  pub few_is_first : Leads few many → (k : Key) → IsFirst few k → IsFirst (few ++ many) k
  few_is_first leads k first = record {
    there = subst (λ o. IsSome o) (sym (lookup_both k few many)) (first_some (lookup (same_key k) few) (lookup (same_key k) many) first.there);
    none_before = λ j before.
        lookup_both j few many ∙ ap (λ o. or_else o (lookup (same_key j) many)) (first.none_before j before) ∙ leads.none_before k first j before;
  }

  pub many_is_first : Leads many few → (k : Key) → IsFirst many k → IsFirst (few ++ many) k
  many_is_first leads k first = record {
    there = subst (λ o. IsSome o) (sym (lookup_both k few many)) (either_some (lookup (same_key k) few) (lookup (same_key k) many) first.there);
    none_before = λ j before.
        lookup_both j few many ∙ ap (λ o. or_else o (lookup (same_key j) many)) (leads.none_before k first j before) ∙ first.none_before j before;
  }

  pub few_first : Leads few many → (o : Option (Bor Key)) → IfSome o (λ k. IsFirst few k.now) → IfSome o (λ k. IsFirst (few ++ many) k.now)
  few_first leads None first = tt
  few_first leads (Some k) first = few_is_first leads k.now first

  pub many_first : Leads many few → (o : Option (Bor Key)) → IfSome o (λ k. IsFirst many k.now) → IfSome o (λ k. IsFirst (few ++ many) k.now)
  many_first leads None first = tt
  many_first leads (Some k) first = many_is_first leads k.now first

  pub none_of_many : Leads many few → many ≡ [] → few ++ many ≡ []
  none_of_many leads none = ap (λ es. es ++ many) (leads.none none) ∙ none

  pub none_of_few : Leads few many → few ≡ [] → few ++ many ≡ []
  none_of_few leads none = ap (λ es. es ++ many) none ∙ leads.none none

  pub first_few : Leads few many → (o : Option Key) → IfSome o (IsFirst few) → IfSome o (IsFirst (few ++ many))
  first_few leads None first = tt
  first_few leads (Some k) first = few_is_first leads k first

  pub none_first : {X : Type 0} → Leads few many → (o : Option X) → IfNone o (few ≡ []) → IfNone o (few ++ many ≡ [])
  none_first leads None none = none_of_few leads none
  none_first leads (Some x) none = tt

  -- if the first of both is not below a tick
  pub begins_few : Leads few many → (t : ℕ) (o : Option (Key × Event)) → IfNone o (BeginsAt t few) → IfNone o (BeginsAt t (few ++ many))
  begins_few leads t (Some f) begins = tt
  begins_few leads t None begins = λ some.
      let first = begins (λ none. some (none_of_few leads none)) in
      (first.0, first.1, few_is_first leads first.0 first.2)

  pub begins_many : Leads many few → (t : ℕ) (o : Option (Key × Event)) → IfNone o (BeginsAt t many) → IfNone o (BeginsAt t (few ++ many))
  begins_many leads t (Some f) begins = tt
  begins_many leads t None begins = λ some.
      let first = begins (λ none. some (none_of_many leads none)) in
      (first.0, first.1, many_is_first leads first.0 first.2)

  -- ---- Changes of one of the two

  module _ (split : AreSplit few many) where
    pub few_none : (j : Key) → IsSome (lookup (same_key j) many) → lookup (same_key j) few ≡ None
    few_none j there = go (lookup (same_key j) few) (split.apart j)
      where
        go : (o : Option Event) → (IsSome o → lookup (same_key j) many ≡ None) → o ≡ None
        go None apart = refl
        go (Some e) apart = absurd (not_none (lookup (same_key j) many) there (apart refl))

    module _ (k : Key) (w : Option Event) (new : List (Key × Event)) where
      pub few_sets : Sets k w few new → lookup (same_key k) many ≡ None → Sets k w (few ++ many) (new ++ many)
      few_sets sets none j = lookup_both j new many ∙ ap (λ o. or_else o (lookup (same_key j) many)) (sets j) ∙ go (same_key k j) refl
        where
          go : (b : Bool) → same_key k j ≡ b → or_else (cond b w (lookup (same_key j) few)) (lookup (same_key j) many) ≡ cond b w (lookup (same_key j) (few ++ many))
          go true same =
              let here : lookup (same_key j) many ≡ None = subst (λ (z : Key). lookup (same_key z) many ≡ None) (same_key_is k j same) none in
              ap (λ o. or_else w o) here ∙ or_else_none w
          go false same = sym (lookup_both j few many)

      pub many_sets : Sets k w many new → lookup (same_key k) few ≡ None → Sets k w (few ++ many) (few ++ new)
      many_sets sets none j = lookup_both j few new ∙ ap (λ o. or_else (lookup (same_key j) few) o) (sets j) ∙ go (same_key k j) refl
        where
          go : (b : Bool) → same_key k j ≡ b → or_else (lookup (same_key j) few) (cond b w (lookup (same_key j) many)) ≡ cond b w (lookup (same_key j) (few ++ many))
          go true same =
              let here : lookup (same_key j) few ≡ None = subst (λ (z : Key). lookup (same_key z) few ≡ None) (same_key_is k j same) none in
              ap (λ o. or_else o w) here
          go false same = sym (lookup_both j few many)

      pub few_split : Sets k w few new → AreRising new → lookup (same_key k) many ≡ None → AreSplit new many
      few_split sets rising none = record { rising = rising; apart = λ j there. go j there (same_key k j) refl }
        where
          go : (j : Key) → IsSome (lookup (same_key j) new) → (b : Bool) → same_key k j ≡ b → lookup (same_key j) many ≡ None
          go j there true same = subst (λ (z : Key). lookup (same_key z) many ≡ None) (same_key_is k j same) none
          go j there false same = split.apart j (subst (λ o. IsSome o) (sets j ∙ ap (λ b. cond b w (lookup (same_key j) few)) same) there)

      pub many_split : Sets k w many new → lookup (same_key k) few ≡ None → AreSplit few new
      many_split sets none = record { rising = split.rising; apart = λ j there. go j there (same_key k j) refl }
        where
          go : (j : Key) → IsSome (lookup (same_key j) few) → (b : Bool) → same_key k j ≡ b → lookup (same_key j) new ≡ None
          go j there true same =
              let here : lookup (same_key j) few ≡ None = subst (λ (z : Key). lookup (same_key z) few ≡ None) (same_key_is k j same) none in
              absurd (not_none (lookup (same_key j) few) there here)
          go j there false same = sets j ∙ ap (λ b. cond b w (lookup (same_key j) many)) same ∙ split.apart j there

    -- ---- The first of both is taken

    pub popped_few : Leads few many → (new : List (Key × Event)) (o : Option (Key × Event)) → IsPopped few new o → IsPopped (few ++ many) (new ++ many) o
    popped_few leads new None popped = record { value = tt; none_before = tt; left = tt; kept = ap (λ es. es ++ many) popped.kept }
    popped_few leads new (Some f) popped =
        let first : IsFirst few f.0 = record { there = ap is_some popped.value; none_before = popped.none_before } in
        record {
          value = lookup_both f.0 few many ∙ ap (λ o. or_else o (lookup (same_key f.0) many)) popped.value;
          none_before = (few_is_first leads f.0 first).none_before;
          left = few_sets f.0 None new popped.left (split.apart f.0 first.there);
          kept = tt;
        }

    pub popped_many : Leads many few → (new : List (Key × Event)) (o : Option (Key × Event)) → IsPopped many new o → IsPopped (few ++ many) (few ++ new) o
    popped_many leads new None popped = record { value = tt; none_before = tt; left = tt; kept = ap (λ es. few ++ es) popped.kept }
    popped_many leads new (Some f) popped =
        let first : IsFirst many f.0 = record { there = ap is_some popped.value; none_before = popped.none_before } in
        let none = few_none f.0 first.there in
        record {
          value = lookup_both f.0 few many ∙ ap (λ o. or_else o (lookup (same_key f.0) many)) none ∙ popped.value;
          none_before = (many_is_first leads f.0 first).none_before;
          left = many_sets f.0 None new popped.left none;
          kept = tt;
        }

    pub few_popped_split : (new : List (Key × Event)) (o : Option (Key × Event)) → AreRising new → IsPopped few new o → AreSplit new many
    few_popped_split new None rising popped = subst (λ es. AreSplit es many) (sym popped.kept) split
    few_popped_split new (Some f) rising popped = few_split f.0 None new popped.left rising (split.apart f.0 (ap is_some popped.value))

    pub many_popped_split : (new : List (Key × Event)) (o : Option (Key × Event)) → IsPopped many new o → AreSplit few new
    many_popped_split new None popped = subst (λ es. AreSplit few es) (sym popped.kept) split
    many_popped_split new (Some f) popped = many_split f.0 None new popped.left (few_none f.0 (ap is_some popped.value))

    -- ---- An event is put into the row, and the map has none

    module _ {A E : Type 0} (k : Key) (e : Event) (r : Result A E) (new : List (Key × Event)) (alone : lookup (same_key k) many ≡ None) where
      pub put_split : OnOk r (new ≡ insert_entry key_cmp few k e) → OnErr r (new ≡ few) → AreSplit new many
      put_split = go r
        where
          go : (r : Result A E) → OnOk r (new ≡ insert_entry key_cmp few k e) → OnErr r (new ≡ few) → AreSplit new many
          go (Ok x) ok err = few_split k (Some e) new (put_sets few new k e ok) (put_rises few new k e split.rising ok) alone
          go (Err x) ok err = subst (λ es. AreSplit es many) (sym err) split

      pub put_both : OnOk r (new ≡ insert_entry key_cmp few k e) → OnOk r (Sets k (Some e) (few ++ many) (new ++ many))
      put_both = go r
        where
          go : (r : Result A E) → OnOk r (new ≡ insert_entry key_cmp few k e) → OnOk r (Sets k (Some e) (few ++ many) (new ++ many))
          go (Ok x) ok = few_sets k (Some e) new (put_sets few new k e ok) alone
          go (Err x) ok = tt

      pub put_absent : OnErr r (lookup (same_key k) few ≡ None) → OnErr r (lookup (same_key k) (few ++ many) ≡ None)
      put_absent = go r
        where
          go : (r : Result A E) → OnErr r (lookup (same_key k) few ≡ None) → OnErr r (lookup (same_key k) (few ++ many) ≡ None)
          go (Ok x) none = tt
          go (Err x) none = lookup_both k few many ∙ ap (λ o. or_else o (lookup (same_key k) many)) none ∙ alone

-- what follows from a fact of a result
pub true_weaker : {P Q : Type 0} (b : Bool) → OnTrue b P → (P → Q) → OnTrue b Q
true_weaker true p f = f p
true_weaker false p f = tt

pub false_weaker : {P Q : Type 0} (b : Bool) → OnFalse b P → (P → Q) → OnFalse b Q
false_weaker true p f = tt
false_weaker false p f = f p

pub none_weaker : {X P Q : Type 0} (o : Option X) → IfNone o P → (P → Q) → IfNone o Q
none_weaker None p f = f p
none_weaker (Some x) p f = tt

-- ---- The first of one list is taken

module _ (es rest : List (Key × Event)) (rising : AreRising es) where
  pub front_popped : (o : Option (Key × Event)) → es ≡ option_to_list o ++ rest → IsPopped es rest o
  front_popped None items = record { value = tt; none_before = tt; left = tt; kept = sym items }
  front_popped (Some f) items =
      let rises : AreRising (f ∷ rest) = subst (λ l. AreRising l) items rising in
      record {
        value = ap (λ l. lookup (same_key f.0) l) items ∙ ap (λ b. cond b (Some f.1) (lookup (same_key f.0) rest)) (same_key_itself f.0);
        none_before = λ j before. ap (λ l. lookup (same_key j) l) items ∙ (first_is (f ∷ rest) f.0 f rises (omega arith) refl).none_before j before;
        left = λ j. without_first f rest rises j ∙ ap (λ l. cond (same_key f.0 j) None (lookup (same_key j) l)) (sym items);
        kept = tt;
      }

  pub rest_rises : (o : Option (Key × Event)) → es ≡ option_to_list o ++ rest → AreRising rest
  rest_rises None items = subst (λ l. AreRising l) items rising
  rest_rises (Some f) items = sorted_tail key_cmp f.0 (keys_of rest) (subst (λ l. AreRising l) items rising)

-- the first of a map
pub least_popped : (es new : List (Key × Event)) {U : Key × Event → Type 0} → ((p : Key × Event) → U p → Sets p.0 None es new) → (o : Option (Key × Event)) → IfSome o (λ p. lookup (same_key p.0) es ≡ Some p.1)
    → IfSome o (λ p. (q : Key) → IsSome (lookup (same_key q) es) → is_gt (key_cmp p.0 q) ≡ false) → IfSome o U → IfNone o (new ≡ es) → IsPopped es new o
least_popped es new sets None value least updates kept = record { value = tt; none_before = tt; left = tt; kept = kept }
least_popped es new sets (Some p) value least updates kept =
    record { value = value; none_before = λ j before. before_least (λ q. lookup (same_key q) es) p.0 least j before; left = sets p updates; kept = tt }

-- a first event that is below a tick
pub below_first : (es new : List (Key × Event)) (k : Key) (horizon : ℕ) → IsFirst es k → k.tick < horizon → (o : Option (Key × Event)) → IsPopped es new o → IfSome o (λ p. p.0.tick < horizon)
below_first es new k horizon first below None popped = tt
below_first es new k horizon first below (Some p) popped =
    let one : k ≡ p.0 = first_one es k p.0 first (record { there = ap is_some popped.value; none_before = popped.none_before }) in
    subst (λ (z : Key). z.tick < horizon) one below

pub begins_empty : (es : List (Key × Event)) (t : ℕ) (o : Option (Key × Event)) → IfNone o (es ≡ []) → IfNone o (BeginsAt t es)
begins_empty es t None none = λ some. absurd (some none)
begins_empty es t (Some p) none = tt

-- nothing is below the tick at which a list begins
pub none_below : (es : List (Key × Event)) (t : ℕ) → BeginsAt t es → (j : Key) → j.tick < t → lookup (same_key j) es ≡ None
none_below [] t begins j below = refl
none_below (e ∷ es) t begins j below = let first = begins (λ h. absurd cc) in first.2.none_before j (earlier_precedes j first.0 (omega (arith, first.1, below)))

pub err_known : {A E P : Type 0} (r : Result A E) → P → OnErr r P
err_known (Ok x) p = tt
err_known (Err x) p = p

-- ---- A key in the row

pub index_here : {X : Type 0} (es : List (Key × X)) (k : Key) (i : ℕ) → i < length es → ((d : Key × X) → (get_or es i d).0 ≡ k) → IsSome (lookup (same_key k) es)
index_here [] k i within there = absurd (omega arith)
index_here (e ∷ es) k zero within there =
    subst (λ (z : Key). IsSome (lookup (same_key z) (e ∷ es))) (there e) (ap (λ b. is_some (cond b (Some e.1) (lookup (same_key e.0) es))) (same_key_itself e.0))
index_here {X} (e ∷ es) k (suc i) within there = go (same_key k e.0) (index_here es k i (omega arith) there)
  where
    go : (b : Bool) → IsSome (lookup (same_key k) es) → IsSome (cond b (Some e.1) (lookup (same_key k) es))
    go true rest = refl
    go false rest = rest

-- the key at an index is in the row, and so not in the map
pub alone : (few many : List (Key × Event)) → AreSplit few many → (k : Key) (i : ℕ) → IsIndexOf few k i → lookup (same_key k) many ≡ None
alone few many split k i index = split.apart k (index_here few k i index.within index.there)

-- an event replaces another
pub over_is : (es : List (Key × Event)) (k : Key) (v : Event) (i : ℕ) → AreRising es → IsIndexOf es k i → set es i (k, v) ≡ insert_entry key_cmp es k v
over_is es k v i rising index = put_over k v es i rising index.within (λ d. subst (λ (z : Key). key_cmp z k ≡ Equal) (sym (index.there d)) (equal_itself k))
  where
    equal_itself : (z : Key) → key_cmp z z ≡ Equal
    equal_itself z = go (key_cmp z z) (same_key_itself z)
      where
        go : (o : Ordering) → is_eq o ≡ true → o ≡ Equal
        go Less h = absurd cc
        go Equal h = refl
        go Greater h = absurd cc

-- an event is removed
pub removed_sets : (es : List (Key × Event)) (k : Key) (i : ℕ) → AreRising es → i < length es → ((d : Key × Event) → (get_or es i d).0 ≡ k) → Sets k None es (remove es i)
unfolding IsStrictlySortedBy
removed_sets [] k i rising within there j = absurd (omega arith)
removed_sets (e ∷ es) k zero rising within there j =
    subst (λ (z : Key). lookup (same_key j) es ≡ cond (same_key z j) None (lookup (same_key j) (e ∷ es))) (there e) (without_first e es rising j)
removed_sets (e ∷ es) k (suc i) rising within there j = go (same_key j e.0) refl (removed_sets es k i rising.1 (omega arith) there j)
  where
    before : Precedes e.0 k
    before = subst (λ (z : Key). Precedes e.0 z) (there e) (after_at e.0 es i e rising.0 (omega arith))

    apart : (b : Bool) → same_key k j ≡ b → same_key j e.0 ≡ true → Some e.1 ≡ cond b None (Some e.1)
    apart true same here =
        let one : k ≡ e.0 = same_key_is k j same ∙ same_key_is j e.0 here in
        let itself : key_cmp e.0 e.0 ≡ Less = subst (λ (z : Key). Precedes e.0 z) one before in
        let equal : is_eq (key_cmp e.0 e.0) ≡ true = same_key_itself e.0 in
        absurd cc
    apart false other here = refl

    go : (b : Bool) → same_key j e.0 ≡ b → lookup (same_key j) (remove es i) ≡ cond (same_key k j) None (lookup (same_key j) es)
        → cond b (Some e.1) (lookup (same_key j) (remove es i)) ≡ cond (same_key k j) None (cond b (Some e.1) (lookup (same_key j) es))
    go true here rest = apart (same_key k j) refl here
    go false other rest = rest

all_after_removed : (k : Key) (es : List (Key × Event)) (i : ℕ) → AllAfter k es → AllAfter k (remove es i)
all_after_removed k [] zero h = tt
all_after_removed k [] (suc i) h = tt
all_after_removed k (e ∷ es) zero h = h.1
all_after_removed k (e ∷ es) (suc i) h = (h.0, all_after_removed k es i h.1)

pub removed_rises : (es : List (Key × Event)) (i : ℕ) → AreRising es → AreRising (remove es i)
unfolding IsStrictlySortedBy
removed_rises [] zero rising = rising
removed_rises [] (suc i) rising = rising
removed_rises (e ∷ es) zero rising = rising.1
removed_rises (e ∷ es) (suc i) rising = (all_after_removed e.0 es i rising.0, removed_rises es i rising.1)

-- ---- Where a key is searched for

-- all keys of the row precede this one
pub absent_past : (k : Key) (es : List (Key × Event)) → AllBefore k es → lookup (same_key k) es ≡ None
absent_past k [] h = refl
absent_past k (e ∷ es) h = ap (λ o. cond (is_eq o) (Some e.1) (lookup (same_key k) es)) (follows e.0 k h.0) ∙ absent_past k es h.1

-- the key is between those before its index and those after it
pub absent_between : {X : Type 0} (k : Key) (es : List (Key × X)) (i : ℕ) → ((j : ℕ) (d : Key × X) → j < i → key_cmp (get_or es j d).0 k ≡ Less)
    → ((j : ℕ) (d : Key × X) → i ≤ j → j < length es → key_cmp (get_or es j d).0 k ≡ Greater) → lookup (same_key k) es ≡ None
absent_between k [] i below above = refl
absent_between k (e ∷ es) zero below above =
    ap (λ o. cond (is_eq o) (Some e.1) (lookup (same_key k) es)) (precedes e.0 k (above zero e (omega arith) (omega arith)))
    ∙ absent_between k es zero (λ j d less. absurd (omega arith)) (λ j d le less. above (suc j) d (omega arith) (omega arith))
absent_between k (e ∷ es) (suc i) below above =
    ap (λ o. cond (is_eq o) (Some e.1) (lookup (same_key k) es)) (follows e.0 k (below zero e (omega arith)))
    ∙ absent_between k es i (λ j d less. below (suc j) d (omega arith)) (λ j d le less. above (suc j) d (omega arith) (omega arith))

-- the key precedes the first
pub absent_before : (k : Key) (es : List (Key × Event)) (d : Key × Event) → AreRising es → 0 < length es → Precedes k (get_or es 0 d).0 → lookup (same_key k) es ≡ None
unfolding IsStrictlySortedBy
absent_before k [] d rising some before = absurd (omega arith)
absent_before k (e ∷ es) d rising some before = absent k (e ∷ es) (before, all_later k e.0 es before rising.0)

-- what a search returns
pub index_found : (es : List (Key × Event)) (k : Key) (r : Result ℕ ℕ) (n : ℕ) → n ≡ length es → IsSearchInRange r n → IsBinarySearchResult (λ e. key_cmp e.0 k) es r
    → IfSome (result_ok r) (IsIndexOf es k)
index_found es k (Ok i) n count within found = record { within = subst (λ m. i < m) count within; there = λ d. same_key_is (get_or es i d).0 k (ap is_eq (found d)) }
index_found es k (Err i) n count within found = tt

pub index_none : {X : Type 0} (es : List (Key × X)) (k : Key) → Rise es → (r : Result ℕ ℕ) → IsBinarySearchResult (λ e. key_cmp e.0 k) es r → IfNone (result_ok r) (lookup (same_key k) es ≡ None)
index_none es k rising (Ok i) found = tt
index_none es k rising (Err i) found =
    let parted = found (searchable k es rising) in
    absent_between k es i (λ j d less. parted.0 j d (omega arith) less) (λ j d le less. parted.1 j d le less)
