-- The indexes of the variables that a WITH list names, and those of the variables WITH an event.
use Rattle.fb_types.proofs.Common.{◌≡◌, ℕ, zero, suc, ◌<◌, ◌+◌, Bool, true, false, ◌&&◌, ◌||◌, List, [], ◌∷◌, length, map, get_or, Option, Some, None, Contains, Bor, refl, sym, ◌∙◌, ap, subst, inl, inr, arith, IsPermutation, slice_get, unwrap_or, option_map, position, Decides, filter, list_any, nat_cmp, BTreeMap, false_from_ne_true, length-map, Contains-get_or, slice_get-map, slice_get_within, same_Some, Name, same_name, among, event_names, variable_names, variables_with, Twice}
use Rattle.fb_types.specs.declared.library.EventPort.{EventPort}
use Rattle.fb_types.specs.declared.library.Variable.{Variable}
use Rattle.std.specs.Prelude.{IsSorted}
use Rattle.std.specs.List.Sorted.{IsNonDecreasing}
use Rattle.std.proofs.lemmas.List.Elements.{filter_agree}
use Rattle.std.proofs.lemmas.List.Sorted.{Contains-permutation, IsPermutation-sym, IsNonDecreasingBy-from_sort}
use Rattle.std.proofs.lemmas.Option.{slice_get_cases}
use Rattle.fb_check_names.specs.Indexes.{index_in}
use Rattle.fb_types.proofs.lemmas.lists.Positions.{is_some-position, position_is, position_of_once, slice_get-Contains}
use Rattle.fb_types.proofs.lemmas.lists.Elements.{Contains-here, Contains-there, Contains-map, map-Contains}
use Rattle.fb_types.proofs.lemmas.names.NameLaws.{same_name-itself, same_from_same_name, any_from_contains, contains_from_any}
use Rattle.fb_types.proofs.lemmas.lists.Options.{some_from_is_some}
use Rattle.fb_system.specs.IndexLists.{AreIndexes, variable_at}
use Rattle.fb_system.specs.Lookups.{AreIndexedFrom, IsList, AreEvents}
use Rattle.fb_system.proofs.lemmas.types.Rising.{AreOnce, once_nil, once_cons, once_permuted, sorted_filter}

abbrev name_of : Variable → Name
name_of v = v.name

-- ---- One name

-- the index of a name among variables, or 0 if it is none of them
abbrev pub own_index : List Variable → Name → ℕ
own_index vs n = unwrap_or (position (same_name n) (variable_names vs)) 0

-- a known name has an index among the variables
record IsAt (vs : List Variable) (n : Name) : Type 0 where
  pub variable : Variable
  pub there : slice_get vs (own_index vs n) ≡ Some variable
  pub name : variable.name ≡ n

known_at : (vs : List Variable) (n : Name) → Contains (variable_names vs) n → IsAt vs n
known_at vs n c =
    let found = some_from_is_some (position (same_name n) (variable_names vs)) (is_some-position (same_name n) (variable_names vs) ∙ any_from_contains n (variable_names vs) c) in
    let at = position_is name_of n vs found.0 found.1 in
    record {
      variable = at.0;
      there = ap (λ (o : Option ℕ). slice_get vs (unwrap_or o 0)) found.1 ∙ at.1;
      name = at.2;
    }

known_index :
    (vs : List Variable) (indexes : BTreeMap (Bor Name) ℕ) (first : ℕ) (n : Name) → AreIndexedFrom first vs indexes → Contains (variable_names vs) n
    → index_in indexes n ≡ Some (first + own_index vs n)
known_index vs indexes first n stand c =
    let at = known_at vs n c in
    ap (index_in indexes) (sym at.name) ∙ stand.index (own_index vs n) at.variable at.there

known_within : (vs : List Variable) (n : Name) → Contains (variable_names vs) n → own_index vs n < length vs
known_within vs n c = let at = known_at vs n c in slice_get_within vs (own_index vs n) at.variable at.there

-- the lookup of the name at an index of a list, that there are variables, and that its own index is one of them
pub found_index :
    (vs : List Variable) (indexes : BTreeMap (Bor Name) ℕ) (first : ℕ) (list : List Name) (i : ℕ) (n b : Name) (o : Option ℕ) → AreIndexedFrom first vs indexes
    → IsList vs list → i < length list → n ≡ get_or list i n → b ≡ n → o ≡ index_in indexes b → (o ≡ Some (first + own_index vs n)) × (0 < length vs) × (own_index vs n < length vs)
found_index vs indexes first list i n b o stand is h e same looked =
    let listed : Contains list n = subst (λ (m : Name). Contains list m) (sym e) (Contains-get_or list i n h) in
    let known = is.known n listed in
    let within = known_within vs n known in
    (looked ∙ ap (index_in indexes) same ∙ known_index vs indexes first n stand known, omega (arith, within), within)

-- the index of a variable is its own
own_index_of : (vs : List Variable) (i : ℕ) (n : Name) → ¬ (Twice (variable_names vs)) → slice_get (variable_names vs) i ≡ Some n → own_index vs n ≡ i
own_index_of vs i n once h =
    elim (slice_get_cases vs i).1 [
      | inl w ↦
          let named : Some w.0.name ≡ Some n = sym (slice_get-map name_of vs i ∙ ap (option_map name_of) w.2) ∙ h in
          let same : w.0.name ≡ n = same_Some w.0.name n named in
          let at : position (same_name w.0.name) (variable_names vs) ≡ Some i = position_of_once name_of vs i w.0 once w.2 in
          ap (own_index vs) (sym same) ∙ ap (λ (o : Option ℕ). unwrap_or o 0) at
      | inr w ↦
          let g : None ≡ Some n = sym (slice_get-map name_of vs i ∙ ap (option_map name_of) w.1) ∙ h in absurd (cc)
    ]

-- the name at the index of a known name is the name
name_there : (vs : List Variable) (n : Name) → Contains (variable_names vs) n → variable_at vs (own_index vs n) ≡ n
name_there vs n c =
    let at = known_at vs n c in
    ap (λ (o : Option Name). unwrap_or o []) (slice_get-map name_of vs (own_index vs n) ∙ ap (option_map name_of) at.there) ∙ at.name

-- ---- A list of names

-- indexes of names that differ differ
own_once : (vs : List Variable) (ns : List Name) → ¬ (Twice ns) → ((n : Name) → Contains ns n → Contains (variable_names vs) n) → AreOnce (map (own_index vs) ns)
own_once vs [] once known = once_nil
own_once vs (n ∷ ns) once known =
    once_cons (own_index vs n) (map (own_index vs) ns)
    (λ c.
    let m = map-Contains (own_index vs) ns (own_index vs n) c in
    let same : m.0 ≡ n =
    sym (name_there vs m.0 (known m.0 (Contains-there n ns m.0 m.1))) ∙ ap (variable_at vs) m.2 ∙ name_there vs n (known n (Contains-here n ns)) in
    once (inl (subst (λ (k : Name). Contains ns k) same m.1)))
    (own_once vs ns (λ t. once (inr t)) (λ m c. known m (Contains-there n ns m c)))

-- sorted, the indexes of the names of a list are those of the variables that it names
pub list_indexes :
    (vs : List Variable) (indexes : BTreeMap (Bor Name) ℕ) (first : ℕ) (list : List Name) (found ks : List ℕ) → AreIndexedFrom first vs indexes → IsList vs list
    → found ≡ map (own_index vs) list → IsPermutation found ks → IsSorted nat_cmp ks → AreIndexes vs (filter (among list) (variable_names vs)) ks
list_indexes vs indexes first list found ks stand is made moved sorted =
    let up : IsNonDecreasing ks = IsNonDecreasingBy-from_sort (λ (k : ℕ). k) ks sorted in
    let once : AreOnce ks = once_permuted found ks moved (subst AreOnce (sym made) (own_once vs list is.once is.known)) in
    let of_name : (k : ℕ) → Contains ks k → (n : Name) × Contains list n × (own_index vs n ≡ k) =
    λ k c. map-Contains (own_index vs) list k (subst (λ (l : List ℕ). Contains l k) made (Contains-permutation ks found k (IsPermutation-sym found ks moved) c)) in
    let of_index : (n : Name) → Contains list n → Contains ks (own_index vs n) =
    λ n c. Contains-permutation found ks (own_index vs n) moved (subst (λ (l : List ℕ). Contains l (own_index vs n)) (sym made) (Contains-map (own_index vs) list n c)) in
    let below : (k : ℕ) → Contains ks k → k < length vs =
    λ k c.
    let o = of_name k c in
    let at = known_at vs o.0 (is.known o.0 o.1) in
    subst (λ (j : ℕ). j < length vs) o.2 (slice_get_within vs (own_index vs o.0) at.variable at.there) in
    let counted : length (variable_names vs) ≡ length vs = length-map vs name_of in
    record {
      named =
          sorted_filter (variable_at vs) (among list) (variable_names vs) ks up once (λ k c. let h = below k c in omega (arith, counted, h))
          (record {
            name = λ i n h. let e : 0 + i ≡ i = omega arith in ap (variable_at vs) e ∙ ap (λ (o : Option Name). unwrap_or o []) h;
            kept = λ i n h.
                let e : 0 + i ≡ i = omega arith in
                subst (λ (j : ℕ). Decides (among list n) (Contains ks j)) (sym e) (
                  λ t. subst (λ (j : ℕ). Contains ks j) (own_index_of vs i n stand.once h) (of_index n (contains_from_any n list t)),
                  λ c.
                      let o = of_name i c in
                      let same : o.0 ≡ n =
                      sym (name_there vs o.0 (is.known o.0 o.1)) ∙ ap (variable_at vs) o.2 ∙ ap (λ (o : Option Name). unwrap_or o []) h in
                      any_from_contains n list (subst (λ (m : Name). Contains list m) same o.1),
                );
          });
      within = λ k d h. below (get_or ks k d) (Contains-get_or ks k d h);
    }

-- ---- An event

or_false : (b : Bool) → (b || false) ≡ b
or_false true = refl
or_false false = refl

-- no event with another name has the name
none_named : (events : List EventPort) (n v : Name) → ¬ (Contains (event_names events) n) → list_any (λ p. same_name p.name n && among p.with v) events ≡ false
none_named [] n v new = refl
none_named (p ∷ ps) n v new =
    let apart : same_name p.name n ≡ false =
    false_from_ne_true (same_name p.name n)
    (λ t. new (subst (λ (m : Name). Contains (p.name ∷ event_names ps) m) (same_from_same_name p.name n t) (Contains-here p.name (event_names ps)))) in
    ap (λ b. b && among p.with v || list_any (λ q. same_name q.name n && among q.with v) ps) apart
    ∙ none_named ps n v (λ c. new (Contains-there p.name (event_names ps) n c))

-- among events of different names, only one has a name
with_of_once :
    (events : List EventPort) (i : ℕ) (x : EventPort) → ¬ (Twice (event_names events)) → slice_get events i ≡ Some x → (v : Name)
    → list_any (λ p. same_name p.name x.name && among p.with v) events ≡ among x.with v
with_of_once [] i x once h v = absurd (cc)
with_of_once (p ∷ ps) zero x once h v =
    let e : p ≡ x = cc in
    let P : EventPort → Type 0 = λ q. (same_name q.name x.name && among q.with v || list_any (λ q. same_name q.name x.name && among q.with v) ps) ≡ among x.with v in
    let rest = none_named ps x.name v (λ c. once (inl (subst (λ (q : EventPort). Contains (event_names ps) q.name) (sym e) c))) in
    subst P (sym e)
    (ap (λ b. b && among x.with v || list_any (λ q. same_name q.name x.name && among q.with v) ps) (same_name-itself x.name)
    ∙ ap (λ b. among x.with v || b) rest ∙ or_false (among x.with v))
with_of_once (p ∷ ps) (suc i) x once h v =
    let apart : same_name p.name x.name ≡ false =
    false_from_ne_true (same_name p.name x.name)
    (λ t. once (inl (subst (λ (n : Name). Contains (event_names ps) n) (sym (same_from_same_name p.name x.name t)) (slice_get-Contains (λ (q : EventPort). q.name) ps i x h)))) in
    ap (λ b. b && among p.with v || list_any (λ q. same_name q.name x.name && among q.with v) ps) apart
    ∙ with_of_once ps i x (λ t. once (inr t)) h v

-- what an event lists is WITH it
pub with_event :
    (events : List EventPort) (vs : List Variable) (i : ℕ) (x : EventPort) (ks : List ℕ) → AreEvents vs events → slice_get events i ≡ Some x
    → AreIndexes vs (filter (among x.with) (variable_names vs)) ks → AreIndexes vs (variables_with events vs x.name) ks
with_event events vs i x ks are h indexes =
    subst (λ (ns : List Name). AreIndexes vs ns ks)
    (filter_agree (among x.with) (λ v. list_any (λ p. same_name p.name x.name && among p.with v) events) (λ v. sym (with_of_once events i x are.once h v)) (variable_names vs)) indexes
