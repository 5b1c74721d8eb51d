-- One more element of a loop that fills a set or a map by names.
use Rattle.fb_types.proofs.Common.{◌≡◌, ℕ, zero, suc, ◌<◌, ◌+◌, Bool, true, false, ◌&&◌, ◌||◌, cond, List, [], ◌∷◌, ◌++◌, length, map, take, get_or, Option, Some, None, Bor, refl, sym, ◌∙◌, ap, subst, arith, option_map, option_and_then, is_some, position, slice_get, list_any, is_eq, ordering_then, lookup, true≢false, length-map, length-take-le, map-append, take_more, slice_get-map, Name, same_name, same_port, among, ports_of_event_block, ArePortsOfKinds, kind_index, port_in}
use Rattle.fb_types.specs.declared.event_kind.EventKind.{EventKind}
use Rattle.fb_types.specs.declared.library.EventPort.{EventPort}
use Rattle.fb_types.specs.declared.library.Connection.{Connection}
use Rattle.fb_types.specs.declared.library.Ports.{Ports}
use Rattle.std.proofs.Common.{Ordering}
use Rattle.std.specs.declared.cmp.Ordering.TheVariants as order
use Rattle.std.specs.BTreeMap as tree
use Rattle.std.specs.BTreeSet as set
use Rattle.std.proofs.lemmas.List.Folds.{list_any_more}
use Rattle.fb_types.specs.NameOrder as names
use Rattle.fb_types.proofs.lemmas.lists.ByIndex.{slice_get-append_here, slice_get-append_left}
use Rattle.fb_types.proofs.lemmas.lists.LoopSteps.{more_of_part}
use Rattle.fb_types.proofs.lemmas.lists.Positions.{is_some-position, position-append_old, position-push_new, position_is}
use Rattle.fb_types.proofs.lemmas.names.NameLaws.{same_from_same_name, same_name-flip}
use Rattle.fb_types.proofs.lemmas.names.NameOrders.{name_cmp-is}
use Rattle.fb_check.specs.Directory.{Pair, has_pair, first_of, read_in, lists, leads_to, AreFirst, IsExtended, AreWiths, AreTargets, IsInputs, IsFound, AreInputs}
use Rattle.fb_check.specs.declared.directory_making.TypeInputs.{TypeInputs}

-- ---- Comparisons

abbrev pub name_cmp : Bor Name → Bor Name → Ordering
name_cmp x y = names.name_cmp x.now y.now

abbrev pub pair_cmp : Pair → Pair → Ordering
pair_cmp a b = ordering_then (name_cmp a.0 b.0) (name_cmp a.1 b.1)

abbrev pub at_name : Name → Bor Name
at_name n = record { ref_ptr = (0, 0); now = n }

then-is : (r s : Ordering) → is_eq (ordering_then r s) ≡ (is_eq r && is_eq s)
then-is order.Less s = refl
then-is order.Equal s = refl
then-is order.Greater s = refl

pub pair_cmp-is : (a b : Pair) → is_eq (pair_cmp a b) ≡ (same_name a.0.now b.0.now && same_name a.1.now b.1.now)
pair_cmp-is a b =
    then-is (name_cmp a.0 b.0) (name_cmp a.1 b.1)
    ∙ ap (λ x. x && is_eq (name_cmp a.1 b.1)) (name_cmp-is a.0.now b.0.now) ∙ ap (λ y. same_name a.0.now b.0.now && y) (name_cmp-is a.1.now b.1.now)

cond-or : (a b : Bool) → cond a true b ≡ (b || a)
cond-or true true = refl
cond-or true false = refl
cond-or false true = refl
cond-or false false = refl

-- ---- Variables WITH events

pub extended_none : (event : Name) (s : set.BTreeSet Pair) → IsExtended event [] s s
extended_none event s = record {
  has = λ n m.
      elim (has_pair s n m) as (λ b. b ≡ (b || (same_name event n && false))) [
        | true ↦ refl
        | false ↦ elim (same_name event n) as (λ b. false ≡ (b && false)) [ true ↦ refl | false ↦ refl ]
      ];
}

more-or : (a b o m : Bool) → cond (a && b) true (o || (a && m)) ≡ (o || (a && (m || b)))
more-or true true true m = refl
more-or true true false true = refl
more-or true true false false = refl
more-or true false true m = refl
more-or true false false true = refl
more-or true false false false = refl
more-or false b true m = refl
more-or false b false m = refl

pub extended_more :
    (event : Name) (vs : List Name) (i : ℕ) (v : Name) (old s t : set.BTreeSet Pair) (k : Pair) → i < length vs → v ≡ get_or vs i v → k.0.now ≡ event → k.1.now ≡ v
    → IsExtended event (take i vs) old s → ((q : Pair) → set.contains pair_cmp t q ≡ cond (is_eq (pair_cmp k q)) true (set.contains pair_cmp s q))
    → IsExtended event (take (i + 1) vs) old t
extended_more event vs i v old s t k h at is_event is so_far updates = record {
  has = λ n m.
      updates (at_name n, at_name m)
      ∙ ap (λ b. cond b true (has_pair s n m))
      (pair_cmp-is k (at_name n, at_name m) ∙ (λ j. same_name (is_event j) n && same_name (is j) m) ∙ ap (λ b. same_name event n && b) (same_name-flip v m))
      ∙ ap (λ b. cond (same_name event n && same_name m v) true b) (so_far.has n m)
      ∙ more-or (same_name event n) (same_name m v) (has_pair old n m) (among (take i vs) m)
      ∙ ap (λ b. has_pair old n m || (same_name event n && b))
      (ap (λ (w : Name). among (take i vs) m || same_name m w) at ∙ sym (list_any_more (same_name m) vs i v h));
}

pub withs_none : (s : set.BTreeSet Pair) → s.keys ≡ [] → AreWiths [] s
withs_none s e = record {
  has = λ n m. ap (list_any (λ (k : Pair). is_eq (ordering_then (names.name_cmp n k.0.now) (names.name_cmp m k.1.now)))) e;
}

pub withs_more :
    (es : List EventPort) (i : ℕ) (e : EventPort) (s t : set.BTreeSet Pair) (name : Name) (vs : List Name) → i < length es → e ≡ get_or es i e → name ≡ e.name → vs ≡ e.with
    → AreWiths (take i es) s → IsExtended name vs s t → AreWiths (take (i + 1) es) t
withs_more es i e s t name vs h at is with so_far extended = record {
  has = λ n m.
      extended.has n m
      ∙ ap (λ b. b || (same_name name n && among vs m)) (so_far.has n m)
      ∙ (λ j. lists (take i es) n m || (same_name (is j) n && among (with j) m))
      ∙ ap (λ (q : EventPort). lists (take i es) n m || (same_name q.name n && among q.with m)) at
      ∙ sym (list_any_more (λ q. same_name q.name n && among q.with m) es i e h);
}

-- ---- The first with a name

abbrev or_new : {X : Type 0} → Option X → Option X → Option X
or_new {X} o new = elim o as (λ _. Option X) [ None ↦ new | Some x ↦ Some x ]

first_of-append :
    {A X : Type 0} (name : A → Name) (made : ℕ → A → X) (xs : List A) (y : A) (n : Name)
    → first_of name made (xs ++ y ∷ []) n ≡ or_new (first_of name made xs n) (cond (same_name n (name y)) (Some (made (length xs) y)) None)
first_of-append {A} {X} name made xs y n =
    let new : Option X = cond (same_name n (name y)) (Some (made (length xs) y)) None in
    let read : ℕ → Option X = λ k. option_map (made k) (slice_get (xs ++ y ∷ []) k) in
    let names : position (same_name n) (map name (xs ++ y ∷ [])) ≡ position (same_name n) (map name xs ++ name y ∷ []) =
    ap (position (same_name n)) (map-append name xs (y ∷ [])) in
    elim (position (same_name n) (map name xs)) as (λ o. position (same_name n) (map name xs) ≡ o
    → first_of name made (xs ++ y ∷ []) n ≡ or_new (option_and_then (λ k. option_map (made k) (slice_get xs k)) o) new) [
      | Some k ↦ λ e.
          let at = position_is name n xs k e in
          ap (option_and_then read) (names ∙ position-append_old (same_name n) (map name xs) (name y ∷ []) k e)
          ∙ ap (option_map (made k)) (slice_get-append_left xs (y ∷ []) k at.0 at.1)
          ∙ sym (ap (λ (o : Option A). or_new (option_map (made k) o) new) at.1)
      | None ↦ λ e.
          let absent : list_any (same_name n) (map name xs) ≡ false = sym (is_some-position (same_name n) (map name xs)) ∙ ap is_some e in
          ap (option_and_then read) (names ∙ position-push_new (same_name n) (map name xs) (name y) absent)
          ∙ (elim (same_name n (name y)) as (λ b. option_and_then read (cond b (Some (length (map name xs))) None) ≡ cond b (Some (made (length xs) y)) None) [
            | true ↦ ap read (length-map xs name) ∙ ap (option_map (made (length xs))) (slice_get-append_here xs y)
            | false ↦ refl
          ])
    ] refl

pub first_none : {A X : Type 0} (name : A → Name) (made : ℕ → A → X) (m : tree.BTreeMap (Bor Name) X) → m.entries ≡ [] → AreFirst name made [] m
first_none name made m e = record { first = λ n. ap (lookup (λ (k : Bor Name). is_eq (names.name_cmp n k.now))) e }

-- one more, if one with its name is there already
pub first_kept :
    {A X : Type 0} (name : A → Name) (made : ℕ → A → X) (xs : List A) (i : ℕ) (x : A) (m : tree.BTreeMap (Bor Name) X) (k : Name) → i < length xs → x ≡ get_or xs i x
    → k ≡ name x → is_some (read_in m k) ≡ true → AreFirst name made (take i xs) m → AreFirst name made (take (i + 1) xs) m
first_kept {A} {X} name made xs i x m k h at is there so_far =
    let old : Name → Option X = first_of name made (take i xs) in
    let new : Option X = Some (made (length (take i xs)) x) in
    let P : List A → Type 0 = λ ys. AreFirst name made ys m in
    let Q : A → Type 0 = λ y. P (take i xs ++ y ∷ []) in
    let found : is_some (old (name x)) ≡ true = ap is_some (sym (so_far.first (name x))) ∙ ap (λ (n : Name). is_some (read_in m n)) (sym is) ∙ there in
    subst P (sym (take_more xs i x h))
    (subst Q at (record {
      first = λ n.
          so_far.first n
          ∙ (elim (old n) as (λ o. old n ≡ o → o ≡ or_new o (cond (same_name n (name x)) new None)) [
            | Some y ↦ λ e. refl
            | None ↦ λ e.
                (elim (same_name n (name x)) as (λ b. same_name n (name x) ≡ b → None ≡ cond b new None) [
                  | true ↦ λ same. absurd (true≢false (sym found ∙ ap (λ (w : Name). is_some (old w)) (sym (same_from_same_name n (name x) same)) ∙ ap is_some e))
                  | false ↦ λ _. refl
                ] refl)
          ] refl)
          ∙ sym (first_of-append name made (take i xs) x n);
    }))

-- if it is new
pub first_more :
    {A X : Type 0} (name : A → Name) (made : ℕ → A → X) (xs : List A) (i : ℕ) (x : A) (m m' : tree.BTreeMap (Bor Name) X) (k : Bor Name) (value : X)
    → i < length xs → x ≡ get_or xs i x → k.now ≡ name x → value ≡ made i x → is_some (read_in m k.now) ≡ false → AreFirst name made (take i xs) m
    → ((q : Bor Name) → tree.get name_cmp m' q ≡ cond (is_eq (name_cmp k q)) (Some value) (tree.get name_cmp m q))
    → AreFirst name made (take (i + 1) xs) m'
first_more {A} {X} name made xs i x m m' k value h at is made_is absent so_far updates =
    let old : Name → Option X = first_of name made (take i xs) in
    let here : X = made (length (take i xs)) x in
    let same_value : value ≡ here = made_is ∙ ap (λ (j : ℕ). made j x) (sym (length-take-le i xs (omega (arith, h)))) in
    let P : List A → Type 0 = λ ys. AreFirst name made ys m' in
    let Q : A → Type 0 = λ y. P (take i xs ++ y ∷ []) in
    let none : is_some (old (name x)) ≡ false = ap is_some (sym (so_far.first (name x))) ∙ ap (λ (n : Name). is_some (read_in m n)) (sym is) ∙ absent in
    subst P (sym (take_more xs i x h))
    (subst Q at (record {
      first = λ n.
          updates (at_name n)
          ∙ ap (λ b. cond b (Some value) (read_in m n)) (name_cmp-is k.now n ∙ ap (λ (w : Name). same_name w n) is ∙ same_name-flip (name x) n)
          ∙ ap (λ (o : Option X). cond (same_name n (name x)) (Some value) o) (so_far.first n)
          ∙ ap (λ (v : X). cond (same_name n (name x)) (Some v) (old n)) same_value
          ∙ (elim (same_name n (name x)) as (λ b. same_name n (name x) ≡ b → cond b (Some here) (old n) ≡ or_new (old n) (cond b (Some here) None)) [
            | true ↦ λ same.
                let none' : is_some (old n) ≡ false = ap (λ (w : Name). is_some (old w)) (same_from_same_name n (name x) same) ∙ none in
                (elim (old n) as (λ o. old n ≡ o → Some here ≡ or_new o (Some here)) [
                  | None ↦ λ e. refl
                  | Some y ↦ λ e. absurd (true≢false (ap is_some (sym e) ∙ none'))
                ] refl)
            | false ↦ λ _. (elim (old n) as (λ o. o ≡ or_new o None) [ None ↦ refl | Some y ↦ refl ])
          ] refl)
          ∙ sym (first_of-append name made (take i xs) x n);
    }))

-- ---- Targets of connections

-- the port of one more connection, and whether it is the one
abbrev is_target : Connection → Name → Name → Bool
is_target w c n = same_port (port_in [] w.to) (record { at = c ∷ []; name = n })

or-false : (b : Bool) → b ≡ (b || false)
or-false true = refl
or-false false = refl

-- it leads to the boundary
pub targets_kept :
    (ws : List Connection) (i : ℕ) (w : Connection) (s : set.BTreeSet Pair) → i < length ws → w ≡ get_or ws i w → w.to.component ≡ None
    → AreTargets (take i ws) s → AreTargets (take (i + 1) ws) s
targets_kept ws i w s h at none so_far = record {
  has = λ c n.
      let P : Option Name → Type 0 = λ o. same_port (port_in [] (record { component = o; port = w.to.port })) (record { at = c ∷ []; name = n }) ≡ false in
      let apart : is_target w c n ≡ false = subst P (sym none) refl in
      so_far.has c n
      ∙ or-false (leads_to (take i ws) c n)
      ∙ ap (λ b. leads_to (take i ws) c n || b) (sym apart)
      ∙ ap (λ (u : Connection). leads_to (take i ws) c n || is_target u c n) at
      ∙ sym (list_any_more (λ u. is_target u c n) ws i w h);
}

and-true : (a b : Bool) → (a && b) ≡ ((a && true) && b)
and-true true b = refl
and-true false b = refl

-- it leads to a component
pub targets_more :
    (ws : List Connection) (i : ℕ) (w : Connection) (component : Name) (s t : set.BTreeSet Pair) (k : Pair) → i < length ws → w ≡ get_or ws i w
    → w.to.component ≡ Some component → k.0.now ≡ component → k.1.now ≡ w.to.port → AreTargets (take i ws) s
    → ((q : Pair) → set.contains pair_cmp t q ≡ cond (is_eq (pair_cmp k q)) true (set.contains pair_cmp s q))
    → AreTargets (take (i + 1) ws) t
targets_more ws i w component s t k h at some is_component is_port so_far updates = record {
  has = λ c n.
      let P : Option Name → Type 0 =
      λ o. ((same_name component c && true) && same_name w.to.port n) ≡ same_port (port_in [] (record { component = o; port = w.to.port })) (record { at = c ∷ []; name = n }) in
      let here : (same_name component c && same_name w.to.port n) ≡ is_target w c n =
      and-true (same_name component c) (same_name w.to.port n) ∙ subst P (sym some) refl in
      updates (at_name c, at_name n)
      ∙ ap (λ b. cond b true (has_pair s c n))
      (pair_cmp-is k (at_name c, at_name n) ∙ (λ j. same_name (is_component j) c && same_name (is_port j) n) ∙ here)
      ∙ cond-or (is_target w c n) (has_pair s c n)
      ∙ ap (λ b. b || is_target w c n) (so_far.has c n)
      ∙ ap (λ (u : Connection). leads_to (take i ws) c n || is_target u c n) at
      ∙ sym (list_any_more (λ u. is_target u c n) ws i w h);
}

-- ---- One more type

inputs_push :
    (ps : List Ports) (xs : List TypeInputs) (p : Ports) (x : TypeInputs) → ((i : ℕ) → IsFound (slice_get ps i) (slice_get xs i)) → IsInputs p x
    → (i : ℕ) → IsFound (slice_get (ps ++ p ∷ []) i) (slice_get (xs ++ x ∷ []) i)
inputs_push [] [] p x each is zero = is
inputs_push [] [] p x each is (suc i) = tt
inputs_push [] (y ∷ ys) p x each is i = absurd (each 0)
inputs_push (q ∷ qs) [] p x each is i = absurd (each 0)
inputs_push (q ∷ qs) (y ∷ ys) p x each is zero = each 0
inputs_push (q ∷ qs) (y ∷ ys) p x each is (suc i) = inputs_push qs ys p x (λ j. each (suc j)) is i

pub inputs_more :
    {A : Type 0} (f : A → Ports) (ts : List A) (i : ℕ) (a : A) (p : Ports) (xs ys : List TypeInputs) (x : TypeInputs) → i < length ts → a ≡ get_or ts i a → p ≡ f a
    → AreInputs (map f (take i ts)) xs → IsInputs p x → ys ≡ xs ++ x ∷ [] → AreInputs (map f (take (i + 1) ts)) ys
inputs_more f ts i a p xs ys x h at is so_far new grown =
    let R : List TypeInputs → Type 0 = λ zs. AreInputs (map f (take i ts) ++ p ∷ []) zs in
    let P : List Ports → Type 0 = λ qs. AreInputs qs ys in
    more_of_part P f ts i a p h at is (subst R (sym grown) (record { each = inputs_push (map f (take i ts)) xs p x so_far.each new }))

-- the event blocks at the indexes of their interfaces
pub event_inputs :
    (ps : List Ports) (xs : List TypeInputs) → ArePortsOfKinds ps → AreInputs (map (λ p. p) ps) xs → (k : EventKind)
    → IsFound (Some (ports_of_event_block k)) (slice_get xs (kind_index k))
event_inputs ps xs known made k =
    subst (λ (o : Option Ports). IsFound o (slice_get xs (kind_index k)))
    (slice_get-map (λ (p : Ports). p) ps (kind_index k) ∙ ap (option_map (λ (p : Ports). p)) (known k)) (made.each (kind_index k))
