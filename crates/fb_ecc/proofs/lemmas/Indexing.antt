-- Numbers from maps, and names that are picked out in their order.
use Rattle.fb_types.proofs.Common.{◌≡◌, ℕ, suc, ◌+◌, ◌<◌, Bool, true, false, cond, ◌&&◌, ◌||◌, List, [], ◌∷◌, ◌++◌, length, map, Option, Some, None, Bor, Contains, refl, sym, ◌∙◌, ap, subst, arith, inl, inr, position, option_map, unwrap_or, is_some, BTreeMap, insert_entry, list_any, nat_cmp, Less, Equal, Greater, true≢false, false_from_ne_true, nat_tests, list_any-append, Name, same_name, among, event_names, Twice}
use Rattle.fb_types.specs.declared.library.EventPort.{EventPort}
use Rattle.std.specs.Ordering.{match_ordering}
use Rattle.fb_types.proofs.lemmas.names.NameLaws.{any_from_contains, same_from_same_name, same_name-flip, same_name-itself}
use Rattle.fb_check_names.specs.Indexes.{IsIndex, index_in}
use Rattle.fb_types.proofs.lemmas.lists.Elements.{Contains-cons_cases, Contains-here, Contains-there}
use Rattle.fb_types.proofs.lemmas.lists.Positions.{is_some-position, position-cons, position-first}
use Rattle.fb_st.proofs.lemmas.Indexes.{position-later}
use Rattle.fb_ecc.specs.Numbered.{number_in}
use Rattle.fb_ecc.specs.Indexed.{entry_of, picked}
use Rattle.fb_ecc.specs.Located.{slots_among}
use Rattle.fb_ecc.proofs.lemmas.Located.{slots_same}

-- ---- Numbers

position_map : {A : Type 0} (f : A → Name) (n : Name) (xs : List A) → position (same_name n) (map f xs) ≡ position (λ x. same_name n (f x)) xs
position_map f n [] = refl
position_map f n (x ∷ xs) =
    position-cons (same_name n) (f x) (map f xs)
    ∙ ap (λ o. cond (same_name n (f x)) (Some 0) (option_map (λ i. i + 1) o)) (position_map f n xs) ∙ sym (position-cons (λ y. same_name n (f y)) x xs)

pub numbered :
    {A : Type 0} (f : A → Name) (xs : List A) (indexes : BTreeMap (Bor Name) ℕ) (count : ℕ) (n : Name) (r : ℕ) → IsIndex (map f xs) indexes → count ≡ length xs
    → r ≡ unwrap_or (index_in indexes n) count → r ≡ number_in f xs n
numbered f xs indexes count n r index counted shown =
    shown ∙ ap (λ o. unwrap_or o count) (index.index n ∙ position_map f n xs)
    ∙ ap (λ k. unwrap_or (position (λ x. same_name n (f x)) xs) k) counted

pub numbered_if_named :
    {A : Type 0} (f : A → Name) (xs : List A) (indexes : BTreeMap (Bor Name) ℕ) (count : ℕ) (o : Option Name) (r : Option ℕ) → IsIndex (map f xs) indexes
    → count ≡ length xs → r ≡ option_map (λ n. unwrap_or (index_in indexes n) count) o → r ≡ option_map (number_in f xs) o
numbered_if_named f xs indexes count None r index counted shown = shown
numbered_if_named f xs indexes count (Some n) r index counted shown =
    shown ∙ ap Some (numbered f xs indexes count n (unwrap_or (index_in indexes n) count) index counted refl)

-- ---- Names that are picked

pub picked_none : (ns : List Name) (k : ℕ) → picked (among []) ns k ≡ []
picked_none [] k = refl
picked_none (n ∷ ns) k = picked_none ns (suc k)

picked_same : (p q : Name → Bool) (ns : List Name) (k : ℕ) → ((n : Name) → Contains ns n → p n ≡ q n) → picked p ns k ≡ picked q ns k
picked_same p q [] k same = refl
picked_same p q (n ∷ ns) k same =
    ap (λ (l : List (ℕ × Name)). cond (p n) ((k, n) ∷ l) l) (picked_same p q ns (suc k) (λ m c. same m (Contains-there n ns m c)))
    ∙ ap (λ b. cond b ((k, n) ∷ picked q ns (suc k)) (picked q ns (suc k))) (same n (Contains-here n ns))

-- an index before all others is put before them
insert_before : (p : Name → Bool) (ns : List Name) (k index : ℕ) (m : Name) → index < k → insert_entry nat_cmp (picked p ns k) index m ≡ (index, m) ∷ picked p ns k
insert_before p [] k index m less = refl
insert_before p (n ∷ ns) k index m less =
    let below : nat_cmp index k ≡ Less = grind (arith, nat_tests, less) in
    let rest : List (ℕ × Name) = picked p ns (suc k) in
    elim (p n) as (λ b. insert_entry nat_cmp (cond b ((k, n) ∷ rest) rest) index m ≡ (index, m) ∷ cond b ((k, n) ∷ rest) rest) [
      | true ↦ ap (λ o. match_ordering o ((index, m) ∷ (k, n) ∷ rest) ((k, m) ∷ rest) ((k, n) ∷ insert_entry nat_cmp rest index m)) below
      | false ↦ insert_before p ns (suc k) index m (omega (arith, less))
    ]

abbrev OneMore : (Name → Bool) → (Name → Bool) → Name → Type 0
OneMore p q m = (n : Name) → q n ≡ (p n || same_name n m)

or_false : (b : Bool) → (b || false) ≡ b
or_false true = refl
or_false false = refl

or_true : (b : Bool) → (b || true) ≡ true
or_true true = refl
or_true false = refl

-- a name that is not in the list picks nothing more
not_in : (m n : Name) (ns : List Name) → ¬ (Contains ns m) → Contains ns n → same_name n m ≡ false
not_in m n ns absent c =
    false_from_ne_true (same_name n m)
    (λ t. absent (let P : Name → Type 0 = λ x. Contains ns x in subst P (same_from_same_name n m t) c))

picked_apart : (p q : Name → Bool) (ns : List Name) (m : Name) (k : ℕ) → OneMore p q m → ¬ (Contains ns m) → picked p ns k ≡ picked q ns k
picked_apart p q ns m k more absent =
    picked_same p q ns k (λ n c. sym (more n ∙ ap (λ b. p n || b) (not_in m n ns absent c) ∙ or_false (p n)))

at_here :
    (p q : Name → Bool) (n : Name) (ns : List Name) (m : Name) (k index : ℕ) → ¬ (Contains ns n) → OneMore p q m → m ≡ n → index ≡ k
    → insert_entry nat_cmp (picked p (n ∷ ns) k) index m ≡ picked q (n ∷ ns) k
at_here p q n ns m k index absent more is at =
    let rest : List (ℕ × Name) = picked p ns (suc k) in
    let passes : q n ≡ true =
    more n ∙ ap (λ x. p n || same_name n x) is ∙ ap (λ b. p n || b) (same_name-itself n) ∙ or_true (p n) in
    let absent_m : ¬ (Contains ns m) = λ c. absent (let P : Name → Type 0 = λ x. Contains ns x in subst P is c) in
    let others : rest ≡ picked q ns (suc k) = picked_apart p q ns m (suc k) more absent_m in
    let equal : nat_cmp k k ≡ Equal = grind (arith, nat_tests) in
    let inserted : insert_entry nat_cmp (cond (p n) ((k, n) ∷ rest) rest) k n ≡ (k, n) ∷ rest =
    elim (p n) as (λ b. insert_entry nat_cmp (cond b ((k, n) ∷ rest) rest) k n ≡ (k, n) ∷ rest) [
      | true ↦ ap (λ o. match_ordering o ((k, n) ∷ (k, n) ∷ rest) ((k, n) ∷ rest) ((k, n) ∷ insert_entry nat_cmp rest k n)) equal
      | false ↦ insert_before p ns (suc k) k n (omega arith)
    ] in
    ap (λ (x : Name). insert_entry nat_cmp (picked p (n ∷ ns) k) index x) is ∙ ap (λ i. insert_entry nat_cmp (picked p (n ∷ ns) k) i n) at
    ∙ inserted ∙ ap (λ (l : List (ℕ × Name)). (k, n) ∷ l) others
    ∙ sym (ap (λ b. cond b ((k, n) ∷ picked q ns (suc k)) (picked q ns (suc k))) passes)

pub some_suc : (o : Option ℕ) (i : ℕ) → option_map (λ j. suc j) o ≡ Some i → (j : ℕ) × (o ≡ Some j) × (i ≡ suc j)
some_suc None i h = absurd (cc)
some_suc (Some j) i h = (j, refl, let e : suc j ≡ i = cc in sym e)

-- a name that is at an index is picked as well
picked_at :
    (p q : Name → Bool) (ns : List Name) (m : Name) (k i index : ℕ) → ¬ (Twice ns) → OneMore p q m → position (same_name m) ns ≡ Some i → index ≡ k + i
    → insert_entry nat_cmp (picked p ns k) index m ≡ picked q ns k
picked_at p q [] m k i index once more found at = absurd (cc)
picked_at p q (n ∷ ns) m k i index once more found at =
    elim (same_name m n) as (λ b. same_name m n ≡ b → insert_entry nat_cmp (picked p (n ∷ ns) k) index m ≡ picked q (n ∷ ns) k) [
      | true ↦ λ e.
          let first : Some 0 ≡ Some i = sym (position-first (same_name m) n ns e) ∙ found in
          let zeroth : 0 ≡ i = cc in
          at_here p q n ns m k index (λ c. once (inl c)) more (same_from_same_name m n e) (omega (arith, at, zeroth))
      | false ↦ λ e.
          let later = some_suc (position (same_name m) ns) i (sym (position-later (same_name m) n ns e) ∙ found) in
          let next : index ≡ suc k + later.0 = let f = later.2 in omega (arith, at, f) in
          let above : nat_cmp index k ≡ Greater = let less : k < index = omega (arith, next) in grind (arith, nat_tests, less) in
          let rest = picked_at p q ns m (suc k) later.0 index (λ t. once (inr t)) more later.1 next in
          let same : q n ≡ p n = more n ∙ ap (λ b. p n || b) (same_name-flip n m ∙ e) ∙ or_false (p n) in
          let others : List (ℕ × Name) = picked p ns (suc k) in
          (elim (p n) as (λ b. insert_entry nat_cmp (cond b ((k, n) ∷ others) others) index m ≡ cond b ((k, n) ∷ picked q ns (suc k)) (picked q ns (suc k))) [
            | true ↦ ap (λ o. match_ordering o ((index, m) ∷ (k, n) ∷ others) ((k, m) ∷ others) ((k, n) ∷ insert_entry nat_cmp others index m)) above
                ∙ ap (λ (l : List (ℕ × Name)). (k, n) ∷ l) rest
            | false ↦ rest
          ])
          ∙ ap (λ b. cond b ((k, n) ∷ picked q ns (suc k)) (picked q ns (suc k))) (sym same)
    ] refl

insert_named :
    (es : List (ℕ × Bor Name)) (k : ℕ) (b : Bor Name) → map entry_of (insert_entry nat_cmp es k b) ≡ insert_entry nat_cmp (map entry_of es) k b.now
insert_named [] k b = refl
insert_named (e ∷ es) k b =
    elim (nat_cmp k e.0) as (λ o. map entry_of (match_ordering o ((k, b) ∷ e ∷ es) ((e.0, b) ∷ es) (e ∷ insert_entry nat_cmp es k b))
    ≡ match_ordering o ((k, b.now) ∷ entry_of e ∷ map entry_of es) ((e.0, b.now) ∷ map entry_of es) (entry_of e ∷ insert_entry nat_cmp (map entry_of es) k b.now)) [
      | Less ↦ refl
      | Equal ↦ refl
      | Greater ↦ ap (λ (l : List (ℕ × Name)). entry_of e ∷ l) (insert_named es k b)
    ]

among_more : (ns : List Name) (m n : Name) → among (ns ++ m ∷ []) n ≡ (among ns n || same_name n m)
among_more ns m n = list_any-append (same_name n) ns (m ∷ []) ∙ ap (λ b. among ns n || b) (or_false (same_name n m))

-- one more name is visited, which is at an index ..
pub picks_found :
    (all sofar : List Name) (old new : List (ℕ × Bor Name)) (m : Bor Name) (index : ℕ) (indexes : BTreeMap (Bor Name) ℕ) → IsIndex all indexes
    → index_in indexes m.now ≡ Some index → new ≡ insert_entry nat_cmp old index m → map entry_of old ≡ picked (among sofar) all 0
    → map entry_of new ≡ picked (among (sofar ++ m.now ∷ [])) all 0
picks_found all sofar old new m i indexes index found inserted shown =
    ap (map entry_of) inserted ∙ insert_named old i m ∙ ap (λ (l : List (ℕ × Name)). insert_entry nat_cmp l i m.now) shown
    ∙ picked_at (among sofar) (among (sofar ++ m.now ∷ [])) all m.now 0 i i index.once (among_more sofar m.now) (sym (index.index m.now) ∙ found) (omega arith)

-- a name that is none of all is skipped
pub picks_none :
    (all sofar : List Name) (old : List (ℕ × Bor Name)) (m : Name) (indexes : BTreeMap (Bor Name) ℕ) → IsIndex all indexes
    → index_in indexes m ≡ None → map entry_of old ≡ picked (among sofar) all 0 → map entry_of old ≡ picked (among (sofar ++ m ∷ [])) all 0
picks_none all sofar old m indexes index nowhere shown =
    shown
    ∙ picked_apart (among sofar) (among (sofar ++ m ∷ [])) all m 0 (among_more sofar m)
    (λ c. true≢false (sym (any_from_contains m all c) ∙ sym (is_some-position (same_name m) all) ∙ ap is_some (sym (index.index m) ∙ nowhere)))

-- ---- Lists of events

abbrev pub goes_with : List EventPort → Name → Name → Bool
goes_with events e v = list_any (λ p. same_name p.name e && among p.with v) events

nowhere_named : (events : List EventPort) (e v : Name) → ¬ (Contains (event_names events) e) → goes_with events e v ≡ false
nowhere_named [] e v absent = refl
nowhere_named (p ∷ events) e v absent =
    let apart : same_name p.name e ≡ false = not_in e p.name (event_names (p ∷ events)) absent (Contains-here p.name (event_names events)) in
    ap (λ b. (b && among p.with v) || goes_with events e v) apart
    ∙ nowhere_named events e v (λ c. absent (Contains-there p.name (event_names events) e c))

names_contain : (events : List EventPort) (e : EventPort) → Contains events e → Contains (event_names events) e.name
names_contain [] e c = absurd (let f = c.1 in omega (arith, f))
names_contain (p ∷ events) e c =
    elim (Contains-cons_cases p events e c) [
      | inl same ↦ let P : EventPort → Type 0 = λ x. Contains (event_names (p ∷ events)) x.name in
          subst P same (Contains-here p.name (event_names events))
      | inr rest ↦ Contains-there p.name (event_names events) e.name (names_contain events e rest)
    ]

-- A variable goes WITH an event where it is in the event's own list.
own_list : (events : List EventPort) (e : EventPort) (v : Name) → ¬ (Twice (event_names events)) → Contains events e → goes_with events e.name v ≡ among e.with v
own_list [] e v once c = absurd (let f = c.1 in omega (arith, f))
own_list (p ∷ events) e v once c =
    elim (Contains-cons_cases p events e c) [
      | inl same ↦
          let P : EventPort → Type 0 = λ x. goes_with (p ∷ events) x.name v ≡ among x.with v in
          let here : goes_with (p ∷ events) p.name v ≡ among p.with v =
          ap (λ b. (b && among p.with v) || goes_with events p.name v) (same_name-itself p.name)
          ∙ ap (λ b. among p.with v || b) (nowhere_named events p.name v (λ d. once (inl d))) ∙ or_false (among p.with v) in
          subst P same here
      | inr rest ↦
          let apart : same_name p.name e.name ≡ false =
          false_from_ne_true (same_name p.name e.name)
          (λ t. once (inl (let P : Name → Type 0 = λ x. Contains (event_names events) x in subst P (sym (same_from_same_name p.name e.name t)) (names_contain events e rest)))) in
          ap (λ b. (b && among p.with v) || goes_with events e.name v) apart ∙ own_list events e v (λ t. once (inr t)) rest
    ]

map_same : {A : Type 0} (f g : EventPort → A) (xs : List EventPort) → ((x : EventPort) → Contains xs x → f x ≡ g x) → map f xs ≡ map g xs
map_same f g [] same = refl
map_same {A} f g (x ∷ xs) same =
    ap (λ (l : List A). f x ∷ l) (map_same f g xs (λ y c. same y (Contains-there x xs y c))) ∙ ap (λ y. y ∷ map g xs) (same x (Contains-here x xs))

pub own_lists :
    (events : List EventPort) (ns : List Name) (first : ℕ) → ¬ (Twice (event_names events))
    → map (λ e. slots_among (among e.with) ns first) events ≡ map (λ e. slots_among (goes_with events e.name) ns first) events
own_lists events ns first once =
    map_same (λ e. slots_among (among e.with) ns first) (λ e. slots_among (goes_with events e.name) ns first) events
    (λ e c. slots_same (among e.with) (goes_with events e.name) ns first (λ v. sym (own_list events e v once c)))
