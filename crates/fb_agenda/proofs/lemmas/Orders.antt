-- Lists of events whose keys rise.
use Rattle.fb_agenda.proofs.lemmas.Common.{◌≡◌, ℕ, zero, suc, ◌<◌, ◌≤◌, Bool, true, false, cond, List, [], ◌∷◌, ◌++◌, length, get_or, refl, sym, ap, subst, ◌∙◌, Option, Some, None, arith, IsSome, is_some, lookup, insert_entry, is_eq, is_lt, Less, Equal, Greater, Precedes, key_cmp, same_key, or_else, Key, AllByRecursion, IsStrictlySortedBy, Event, AreRising, IsFirst}
use Rattle.fb_types.proofs.Common.{set, nat_cmp, Ordering}
use Rattle.std.specs.List.{insert}
use Rattle.std.specs.Map.{keys_of}
use Rattle.std.specs.Ordering.{match_ordering, ordering_index, ordering_reverse, is_some_and, partial_ordering_then}
use Rattle.std.specs.Cmp.{Some-then}
use Rattle.std.proofs.lemmas.Cmp.{alike_right, eq_by_cmp_equiv, tied_back}
use Rattle.fb_types.proofs.lemmas.events.KeyLaws.{earlier_precedes, key_cmp_total, same_key_from, same_key_is, same_key_itself}

pub follows : (j k : Key) → Precedes j k → key_cmp k j ≡ Greater
follows j k before = key_cmp_total.antisymm k j ∙ ap ordering_reverse before

pub precedes : (j k : Key) → key_cmp j k ≡ Greater → Precedes k j
precedes j k after = key_cmp_total.antisymm k j ∙ ap ordering_reverse after

-- what `<` returns
pub less_is : (j k : Key)
    → is_some_and is_lt
    (partial_ordering_then (Some (nat_cmp j.tick k.tick))
    (partial_ordering_then (Some (nat_cmp j.resource k.resource))
    (partial_ordering_then (Some (nat_cmp j.class k.class)) (partial_ordering_then (Some (nat_cmp j.a k.a)) (Some (nat_cmp j.b k.b))))))
    ≡ is_lt (key_cmp j k)
less_is j k = simp Some-then

pub less_from : (o : Ordering) → is_lt o ≡ true → o ≡ Less
less_from Less h = refl
less_from Equal h = absurd cc
less_from Greater h = absurd cc

pub same_back : (j k : Key) → same_key j k ≡ same_key k j
same_back j k = (eq_by_cmp_equiv key_cmp_total).symm j k

pub not_none : {X : Type 0} (o : Option X) → IsSome o → o ≡ None → ⊥
not_none None there none = absurd cc
not_none (Some x) there none = absurd cc

-- the keys of a list rise
abbrev pub Rise : {X : Type 0} → List (Key × X) → Type 0
Rise es = IsStrictlySortedBy key_cmp (keys_of es)

-- each key of a list precedes this one
abbrev pub AllBefore : {X : Type 0} → Key → List (Key × X) → Type 0
AllBefore k es = AllByRecursion (λ j. Precedes j k) (keys_of es)

-- this key precedes each key of a list
abbrev pub AllAfter : {X : Type 0} → Key → List (Key × X) → Type 0
AllAfter k es = AllByRecursion (λ j. Precedes k j) (keys_of es)

pub all_later : {X : Type 0} (j k : Key) (es : List (Key × X)) → Precedes j k → AllAfter k es → AllAfter j es
all_later j k [] before h = tt
all_later j k (e ∷ es) before h = (key_cmp_total.trans j k e.0 before h.0, all_later j k es before h.1)

pub after_at : {X : Type 0} (k : Key) (es : List (Key × X)) (i : ℕ) (d : Key × X) → AllAfter k es → i < length es → Precedes k (get_or es i d).0
after_at k [] i d h within = absurd (omega arith)
after_at k (e ∷ es) zero d h within = h.0
after_at k (e ∷ es) (suc i) d h within = after_at k es i d h.1 (omega arith)

pub absent : {X : Type 0} (q : Key) (es : List (Key × X)) → AllAfter q es → lookup (same_key q) es ≡ None
absent q [] h = refl
absent q (e ∷ es) h = ap (λ o. cond (is_eq o) (Some e.1) (lookup (same_key q) es)) h.0 ∙ absent q es h.1

-- ---- The first

pub without_first : {X : Type 0} (f : Key × X) (es : List (Key × X)) → Rise (f ∷ es) → (q : Key) → lookup (same_key q) es ≡ cond (same_key f.0 q) None (lookup (same_key q) (f ∷ es))
unfolding IsStrictlySortedBy
without_first f es rise q = go (same_key f.0 q) refl
  where
    go : (s : Bool) → same_key f.0 q ≡ s → lookup (same_key q) es ≡ cond s None (lookup (same_key q) (f ∷ es))
    go true h = absent q es (subst (λ (k : Key). AllAfter k es) (same_key_is f.0 q h) rise.0)
    go false h = sym (ap (λ b. cond b (Some f.1) (lookup (same_key q) es)) (same_back q f.0 ∙ h))

-- ---- The last

pub all_before : {X : Type 0} (k : Key) (es : List (Key × X)) (n : ℕ) (d : Key × X) → Rise es → length es ≡ suc n → Precedes (get_or es n d).0 k → AllBefore k es
unfolding IsStrictlySortedBy
all_before k [] n d rise count last = tt
all_before k (e ∷ []) zero d rise count last = (last, tt)
all_before k (e ∷ []) (suc n) d rise count last = absurd (omega arith)
all_before k (e ∷ f ∷ es) zero d rise count last = absurd (omega arith)
all_before k (e ∷ f ∷ es) (suc n) d rise count last =
    let rest : AllBefore k (f ∷ es) = all_before k (f ∷ es) n d rise.1 (omega arith) last in
    (key_cmp_total.trans e.0 f.0 k rise.0.0 rest.0, rest)

pub all_before_none : {X : Type 0} (k : Key) (es : List (Key × X)) → (0 < length es → ⊥) → AllBefore k es
all_before_none k [] none = tt
all_before_none k (e ∷ es) none = absurd (none (omega arith))

-- ---- One more

put_step : {X : Type 0} (k : Key) (v : X) (e : Key × X) (es : List (Key × X)) (r : Ordering) → key_cmp k e.0 ≡ r
    → insert_entry key_cmp (e ∷ es) k v ≡ match_ordering r ((k, v) ∷ e ∷ es) ((e.0, v) ∷ es) (e ∷ insert_entry key_cmp es k v)
put_step k v e es r h = ap (λ o. match_ordering o ((k, v) ∷ e ∷ es) ((e.0, v) ∷ es) (e ∷ insert_entry key_cmp es k v)) h

pub put_last : {X : Type 0} (k : Key) (v : X) (es : List (Key × X)) → AllBefore k es → es ++ (k, v) ∷ [] ≡ insert_entry key_cmp es k v
put_last k v [] h = refl
put_last k v (e ∷ es) h = ap (λ l. e ∷ l) (put_last k v es h.1) ∙ sym (put_step k v e es Greater (follows e.0 k h.0))

pub put_over : {X : Type 0} (k : Key) (v : X) (es : List (Key × X)) (i : ℕ) → Rise es → i < length es
    → ((d : Key × X) → key_cmp (get_or es i d).0 k ≡ Equal) → set es i (k, v) ≡ insert_entry key_cmp es k v
unfolding IsStrictlySortedBy
put_over k v [] i rise within here = absurd (omega arith)
put_over k v (e ∷ es) zero rise within here =
    let same : e.0 ≡ k = same_key_is e.0 k (ap is_eq (here e)) in
    ap (λ q. (q, v) ∷ es) (sym same) ∙ sym (put_step k v e es Equal (tied_back key_cmp_total e.0 k (here e)))
put_over k v (e ∷ es) (suc i) rise within here =
    let less : i < length es = omega arith in
    let before : Precedes e.0 k = sym (alike_right key_cmp_total (get_or es i e).0 k e.0 (here e)) ∙ after_at e.0 es i e rise.0 less in
    ap (λ l. e ∷ l) (put_over k v es i rise.1 less here) ∙ sym (put_step k v e es Greater (follows e.0 k before))

pub put_between : {X : Type 0} (k : Key) (v : X) (es : List (Key × X)) (i : ℕ) → i ≤ length es
    → ((j : ℕ) (d : Key × X) → j < i → key_cmp (get_or es j d).0 k ≡ Less)
    → ((j : ℕ) (d : Key × X) → i ≤ j → j < length es → key_cmp (get_or es j d).0 k ≡ Greater)
    → insert es i (k, v) ≡ insert_entry key_cmp es k v
put_between k v [] zero within below above = refl
put_between k v [] (suc i) within below above = absurd (omega arith)
put_between k v (e ∷ es) zero within below above = sym (put_step k v e es Less (precedes e.0 k (above zero e (omega arith) (omega arith))))
put_between k v (e ∷ es) (suc i) within below above =
    ap (λ l. e ∷ l) (put_between k v es i (omega arith) (λ j d less. below (suc j) d (omega arith)) (λ j d more less. above (suc j) d (omega arith) (omega arith)))
    ∙ sym (put_step k v e es Greater (follows e.0 k (below zero e (omega arith))))

-- what is found where one more was put
pub found_after : {X : Type 0} (q k : Key) (v : X) (es : List (Key × X)) → lookup (same_key q) (insert_entry key_cmp es k v) ≡ cond (same_key k q) (Some v) (lookup (same_key q) es)
found_after q k v [] = ap (λ b. cond b (Some v) None) (same_back q k)
found_after {X} q k v (e ∷ es) = go (key_cmp k e.0) refl (found_after q k v es)
  where
    absorbed : (s : Bool) (l : Option X) → cond s (Some v) l ≡ cond s (Some v) (cond s (Some e.1) l)
    absorbed true l = refl
    absorbed false l = refl

    apart : (s t : Bool) → same_key q e.0 ≡ s → same_key k q ≡ t → key_cmp k e.0 ≡ Greater → (l : Option X)
        → cond s (Some e.1) (cond t (Some v) l) ≡ cond t (Some v) (cond s (Some e.1) l)
    apart true true is_e is_k h l =
        let one : k ≡ e.0 = same_key_is k q is_k ∙ same_key_is q e.0 is_e in
        let back : key_cmp e.0 e.0 ≡ Greater = subst (λ (z : Key). key_cmp z e.0 ≡ Greater) one h in
        let here : key_cmp e.0 e.0 ≡ Less = precedes e.0 e.0 back in
        absurd cc
    apart true false is_e is_k h l = refl
    apart false true is_e is_k h l = refl
    apart false false is_e is_k h l = refl

    go : (r : Ordering) → key_cmp k e.0 ≡ r → lookup (same_key q) (insert_entry key_cmp es k v) ≡ cond (same_key k q) (Some v) (lookup (same_key q) es)
        → lookup (same_key q) (match_ordering r ((k, v) ∷ e ∷ es) ((e.0, v) ∷ es) (e ∷ insert_entry key_cmp es k v)) ≡ cond (same_key k q) (Some v) (lookup (same_key q) (e ∷ es))
    go Less h rest = ap (λ b. cond b (Some v) (lookup (same_key q) (e ∷ es))) (same_back q k)
    go Equal h rest =
        let one : k ≡ e.0 = same_key_is k e.0 (ap is_eq h) in
        absorbed (same_key q e.0) (lookup (same_key q) es)
        ∙ ap (λ b. cond b (Some v) (lookup (same_key q) (e ∷ es))) (same_back q e.0 ∙ ap (λ (z : Key). same_key z q) (sym one))
    go Greater h rest =
        ap (λ l. cond (same_key q e.0) (Some e.1) l) rest
        ∙ apart (same_key q e.0) (same_key k q) refl refl h (lookup (same_key q) es)

all_put : {X : Type 0} (P : Key → Type 0) (k : Key) (v : X) (es : List (Key × X)) → AllByRecursion P (keys_of es) → P k → AllByRecursion P (keys_of (insert_entry key_cmp es k v))
all_put P k v [] h p = (p, tt)
all_put {X} P k v (e ∷ es) h p = go (key_cmp k e.0) (all_put P k v es h.1 p)
  where
    go : (r : Ordering) → AllByRecursion P (keys_of (insert_entry key_cmp es k v)) → AllByRecursion P (keys_of (match_ordering r ((k, v) ∷ e ∷ es) ((e.0, v) ∷ es) (e ∷ insert_entry key_cmp es k v)))
    go Less rest = (p, h)
    go Equal rest = h
    go Greater rest = (h.0, rest)

pub rise_after : {X : Type 0} (k : Key) (v : X) (es : List (Key × X)) → Rise es → Rise (insert_entry key_cmp es k v)
unfolding IsStrictlySortedBy
rise_after k v [] rise = (tt, tt)
rise_after {X} k v (e ∷ es) rise = go (key_cmp k e.0) refl (rise_after k v es rise.1)
  where
    go : (r : Ordering) → key_cmp k e.0 ≡ r → Rise (insert_entry key_cmp es k v) → Rise (match_ordering r ((k, v) ∷ e ∷ es) ((e.0, v) ∷ es) (e ∷ insert_entry key_cmp es k v))
    go Less h rest = ((h, all_later k e.0 es h rise.0), rise)
    go Equal h rest = rise
    go Greater h rest = (all_put (λ j. Precedes e.0 j) k v es rise.0 (precedes k e.0 h), rest)

-- ---- The search

steps : (e f k : Key) → Precedes e f → ordering_index (key_cmp e k) ≤ ordering_index (key_cmp f k)
steps e f k before = go (key_cmp e k) refl
  where
    go : (r : Ordering) → key_cmp e k ≡ r → ordering_index r ≤ ordering_index (key_cmp f k)
    go Less h = omega arith
    go Equal h =
        let at : key_cmp f k ≡ Greater = sym (alike_right key_cmp_total e k f h) ∙ follows e f before in
        subst (λ o. 1 ≤ ordering_index o) (sym at) (omega arith)
    go Greater h =
        let at : key_cmp f k ≡ Greater = follows k f (key_cmp_total.trans k e f (precedes e k h) before) in
        subst (λ o. 2 ≤ ordering_index o) (sym at) (omega arith)

pub searchable : {X : Type 0} (k : Key) (es : List (Key × X)) → Rise es → (i j : ℕ) (d : Key × X) → i ≤ j → j < length es
    → ordering_index (key_cmp (get_or es i d).0 k) ≤ ordering_index (key_cmp (get_or es j d).0 k)
unfolding IsStrictlySortedBy
searchable k [] rise i j d le within = absurd (omega arith)
searchable k (e ∷ es) rise zero zero d le within = omega arith
searchable k (e ∷ es) rise zero (suc j) d le within = steps e.0 (get_or es j d).0 k (after_at e.0 es j d rise.0 (omega arith))
searchable k (e ∷ es) rise (suc i) zero d le within = absurd (omega arith)
searchable k (e ∷ es) rise (suc i) (suc j) d le within = searchable k es rise.1 i j d (omega arith) (omega arith)

-- ---- The first key

-- the first of those whose keys rise
pub first_is : (es : List (Key × Event)) (k : Key) (d : Key × Event) → AreRising es → 0 < length es → k ≡ (get_or es 0 d).0 → IsFirst es k
unfolding IsStrictlySortedBy
first_is [] k d rise some is = absurd (omega arith)
first_is (f ∷ es) k d rise some is = record {
  there = ap (λ b. is_some (cond b (Some f.1) (lookup (same_key k) es))) (same_key_from k f.0 is);
  none_before = λ j before. let first : Precedes j f.0 = subst (λ (z : Key). Precedes j z) is before in absent j (f ∷ es) (first, all_later j f.0 es first rise.0);
}

pub either_some : {X : Type 0} (o p : Option X) → IsSome p → IsSome (or_else o p)
either_some None p there = there
either_some (Some x) p there = refl

pub first_some : {X : Type 0} (o p : Option X) → IsSome o → IsSome (or_else o p)
first_some {X} None p there = absurd (not_none {X = X} None there refl)
first_some (Some x) p there = refl

pub before_both : (j k l : Key) → Precedes j k → is_lt (key_cmp l k) ≡ false → Precedes j l
before_both j k l before not_less = go (key_cmp l k) refl
  where
    go : (r : Ordering) → key_cmp l k ≡ r → Precedes j l
    go Less h =
        let no : is_lt Less ≡ false = subst (λ o. is_lt o ≡ false) h not_less in
        absurd cc
    go Equal h = alike_right key_cmp_total l k j h ∙ before
    go Greater h = key_cmp_total.trans j k l before (precedes l k h)

pub not_below : (j k : ℕ) → (j < k → ⊥) → k ≤ j
not_below j zero h = omega arith
not_below zero (suc k) h = absurd (h (omega arith))
not_below (suc j) (suc k) h = let rest = not_below j k (λ less. h (omega arith)) in omega arith

pub not_itself : (j : Key) → Precedes j j → ⊥
not_itself j before = let equal : is_eq Less ≡ true = subst (λ o. is_eq o ≡ true) before (same_key_itself j) in absurd cc

pub precedes_tick : (j k : Key) → Precedes j k → j.tick ≤ k.tick
precedes_tick j k before = not_below k.tick j.tick (λ less. not_itself j (key_cmp_total.trans j k j before (earlier_precedes k j less)))
