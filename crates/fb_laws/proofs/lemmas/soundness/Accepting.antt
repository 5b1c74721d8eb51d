-- Every accepted system is sound.
use Rattle.fb_types.proofs.Common.{◌≡◌, ℕ, zero, suc, ◌<◌, ◌≤◌, refl, sym, ap, ◌∙◌, subst, inl, inr, ⊎_elim, List, [], ◌∷◌, ◌++◌, map, length, Bool, true, false, ◌&&◌, Option, Some, None, arith, flat_map, ◌^◌, cond, slice_get, slice_index_or, unwrap_or, Contains, nat_le, filter, position_or_len, lt-ltb, le-ltb, cases_lt, cases_Bool, and_parts, length-map, All-contains, Contains-append_left, Contains-append_right, slice_get_within, slice_get-get_or, unwrap_or-slice_get, Name, Path, same_name, Port, same_port, among, last_of, network_at, parent, port_in, pairs_in, events_inside, targets_of, resource_names_of, holder, resource_of, latency_at, Twice, block_type_names, port_names, basics, algorithm_names, state_names, networks, instance_names, with_lists, interfaces, parameter_lists, name_spaces, NoLink, Inputs, system_of, Each}
use Rattle.fb_types.specs.declared.library.Library.{Library}
use Rattle.fb_types.specs.declared.library.Connection.{Connection}
use Rattle.fb_types.specs.declared.library.PortName.{PortName}
use Rattle.fb_types.specs.declared.library.Network.{Network}
use Rattle.fb_types.specs.declared.latency.Entry.{Entry}
use Rattle.fb_types.specs.declared.deploy.Plan.{Plan}
use Rattle.fb_types.specs.declared.deploy.Link.{Link}
use Rattle.std.specs.List.{position}
use Rattle.std.proofs.lemmas.List.Quantifiers.{position-Some}
use Rattle.std.proofs.lemmas.List.Sums.{position_or_len_is}
use Rattle.fb_types.specs.Flat.{flat, events_at, name_of_resource, link_between, latency_of, end_of}
use Rattle.fb_types.specs.Mapped.{event_pairs_of, data_pairs_of}
use Rattle.fb_types.specs.Latencies.{IsLatencyTable}
use Rattle.fb_types.proofs.lemmas.names.NameLaws.{same_from_same_name, same_name-itself}
use Rattle.fb_types.proofs.lemmas.names.PathLaws.{same_port_is}
use Rattle.fb_laws.specs.Sound.{AreGood, IsLink, IsLinked, IsSound}
use Rattle.fb_types.proofs.lemmas.lists.Lookups.{option_cases, none_some}
use Rattle.fb_types.proofs.lemmas.lists.ByIndex.{element_of_index}
use Rattle.fb_types.proofs.lemmas.lists.EachLaws.{each_append}

-- ---- Indexes in lists

each_contained : {X : Type 0} (P : X → Type 0) (xs : List X) → ((x : X) → Contains xs x → P x) → Each P xs
each_contained P [] h = tt
each_contained P (x ∷ xs) h = (h x (element_of_index (x ∷ xs) 0 x refl), each_contained P xs (λ y c. h y (Contains-append_right (x ∷ []) xs y c)))

index_below : {X : Type 0} (p : X → Bool) (xs : List X) → 1 ≤ length xs → unwrap_or (position p xs) 0 < length xs
index_below p xs h =
    ⊎_elim (λ b. rw (lt-ltb (position_or_len p xs) (length xs) b) b) (λ b. rw (le-ltb (position_or_len p xs) (length xs) b) (omega arith))
    (cases_lt (position_or_len p xs) (length xs))

index_is : {X : Type 0} (p : X → Bool) (xs : List X) (i : ℕ) → position_or_len p xs ≡ i → i < length xs → unwrap_or (position p xs) 0 ≡ i
index_is p xs i e b = rw (e, lt-ltb i (length xs) b) refl

placed : {X : Type 0} (p : X → Bool) (xs : List X) (i : ℕ) → position p xs ≡ Some i → (x : X) × (slice_get xs i ≡ Some x) × (p x ≡ true)
placed p [] i e = absurd (none_some None i refl e)
placed p (y ∷ ys) i e =
    let h = position-Some p (y ∷ ys) i y e in
    (slice_index_or (y ∷ ys) i y, slice_get-get_or (y ∷ ys) i y h.0, h.1)

-- of two that are equal, at two indexes
twice_at : {X : Type 0} (xs : List X) (i j : ℕ) (x : X) → i < j → slice_get xs i ≡ Some x → slice_get xs j ≡ Some x → Twice xs
twice_at [] i j x b e f = absurd (none_some None x refl e)
twice_at (y ∷ ys) i zero x b e f = absurd (omega arith)
twice_at (y ∷ ys) zero (suc j) x b e f =
    let g : Some y ≡ Some x = e in
    let h : y ≡ x = cc in
    inl (subst (λ z. Contains ys z) (sym h) (element_of_index ys j x f))
twice_at (y ∷ ys) (suc i) (suc j) x b e f = inr (twice_at ys i j x (omega arith) e f)

-- a name that occurs once is found at its index
name_index : (names : List Name) → (Twice names → ⊥) → (r : ℕ) → r < length names → unwrap_or (position (same_name (unwrap_or (slice_get names r) [])) names) 0 ≡ r
name_index names once r b =
    let n = unwrap_or (slice_get names r) [] in
    let here : n ≡ slice_index_or names r [] = unwrap_or-slice_get names r [] in
    let at_r : slice_get names r ≡ Some n = slice_get-get_or names r [] b ∙ ap Some (sym here) in
    index_is (same_name n) names r
    (position_or_len_is (same_name n) names r [] (omega arith)
    (λ k c. ⊎_elim
    (λ t. let e : n ≡ slice_index_or names k [] = same_from_same_name n (slice_index_or names k []) t in
    absurd (once (twice_at names k r n c (slice_get-get_or names k [] (omega arith) ∙ ap Some (sym e)) at_r)))
    (λ f. f) (cases_Bool (same_name n (slice_index_or names k []))))
    (λ c. subst (λ (z : Name). same_name n z ≡ true) here (same_name-itself n)))
    b

-- ---- Latencies

last_each : {X : Type 0} (P : X → Type 0) (test : X → Bool) (xs : List X) → Each P xs → Each P (filter test xs)
last_each P test [] h = tt
last_each P test (x ∷ xs) h = go (test x) refl (last_each P test xs h.1)
  where
    go : (b : Bool) → test x ≡ b → Each P (filter test xs) → Each P (filter test (x ∷ xs))
    go true e rest = rw e (h.0, rest)
    go false e rest = rw e rest

last_is : {X : Type 0} (P : X → Type 0) (xs : List X) (x : X) → Each P xs → last_of xs ≡ Some x → P x
last_is P [] x h e = absurd (none_some None x refl e)
last_is P (y ∷ []) x h e = let f : y ≡ x = (let g : Some y ≡ Some x = e in cc) in subst P f h.0
last_is P (y ∷ z ∷ zs) x h e = last_is P (z ∷ zs) x h.1 e

latency_positive : (table : List Entry) → IsLatencyTable table → (sent : ℕ) → 1 ≤ latency_at table sent
latency_positive table h sent =
    ⊎_elim
    (λ (n : last_of (filter (λ (e : Entry). nat_le e.from sent) table) ≡ None). rw (latency_at, n) (omega arith))
    (λ (s : (e : Entry) × (last_of (filter (λ (e : Entry). nat_le e.from sent) table) ≡ Some e)). let each : Each (λ (e : Entry). 1 ≤ e.latency) table = each_contained _ table (λ e c. (All-contains (λ e. (1 ≤ e.latency) × (e.latency ≤ 10 ^ 6)) table e h.latencies c).0) in
    let p : 1 ≤ s.0.latency = last_is _ (filter (λ (e : Entry). nat_le e.from sent) table) s.0 (last_each _ (λ (e : Entry). nat_le e.from sent) table each) s.1 in
    rw (latency_at, s.1) p)
    (option_cases (last_of (filter (λ (e : Entry). nat_le e.from sent) table)))

-- ---- Resources

module _ (plan : Plan) (some : 1 ≤ length plan.resources) where
  names_some : 1 ≤ length (resource_names_of plan)
  names_some = let e = length-map plan.resources (λ r. r.name) in omega arith

  holder_below : (n : Name) → holder plan n < length (resource_names_of plan)
  holder_below n =
      let e = length-map plan.resources (λ r. r.name) in
      go plan.holds_all (let b = index_below (λ r. among r.instances n) plan.resources some in omega arith)
    where
      go : (b : Bool) → unwrap_or (position (λ r. among r.instances n) plan.resources) 0 < length (resource_names_of plan)
          → (cond b 0 (unwrap_or (position (λ r. among r.instances n) plan.resources) 0)) < length (resource_names_of plan)
      go true h = let s = names_some in omega arith
      go false h = h

  pub resource_below : (p : Path) → resource_of plan p < length (resource_names_of plan)
  resource_below [] = let s = names_some in omega arith
  resource_below (n ∷ []) = holder_below n
  resource_below (n ∷ m ∷ p) = resource_below (m ∷ p)

  pub end_below : (side : Link → Name) (l : ℕ) → end_of side plan l < length (resource_names_of plan)
  end_below side l =
      ⊎_elim
      (λ (n : slice_get plan.links l ≡ None). rw (end_of, n) (let s = names_some in omega arith))
      (λ (x : (y : Link) × (slice_get plan.links l ≡ Some y)). rw (end_of, x.1) (index_below (same_name (side x.0)) (resource_names_of plan) names_some))
      (option_cases (slice_get plan.links l))

-- ---- Links

module _ (lib : Library) (plan : Plan) (some : 1 ≤ length plan.resources) (once : Twice (resource_names_of plan) → ⊥) (linked : NoLink lib plan → ⊥) where
  -- the link between two resources, if there is one
  link_is : (r s l : ℕ) → r < length (resource_names_of plan) → s < length (resource_names_of plan) → link_between plan r s ≡ Some l → IsLink (flat lib plan) r s
  link_is r s l b c e =
      let x = placed (λ l. same_name l.from (name_of_resource plan r) && same_name l.to (name_of_resource plan s)) plan.links l e in
      let parts = and_parts _ _ x.2 in
      let from : x.0.from ≡ name_of_resource plan r = same_from_same_name _ _ parts.0 in
      let to : x.0.to ≡ name_of_resource plan s = same_from_same_name _ _ parts.1 in
      let link : unwrap_or (link_between plan r s) 0 ≡ l = ap (λ o. unwrap_or o 0) e in
      record {
        there = rw link (slice_get_within plan.links l x.0 x.1);
        sender = rw (link, end_of, x.1, from) (name_index (resource_names_of plan) once r b);
        receiver = rw (link, end_of, x.1, to) (name_index (resource_names_of plan) once s c);
      }

  abbrev IsWired : Port × Port → Type 0
  IsWired c = (resource_of plan c.1.at ≡ resource_of plan c.0.at → ⊥) → IsLink (flat lib plan) (resource_of plan c.0.at) (resource_of plan c.1.at)

  -- a connection of the application
  outer_wired : Each IsWired (event_pairs_of lib)
  outer_wired = each_contained IsWired (event_pairs_of lib) (λ c there n.
      ⊎_elim
      (λ none. absurd (linked (c, Contains-append_left (event_pairs_of lib) (data_pairs_of lib) c there, (λ e. n (sym e)), none)))
      (λ s. link_is (resource_of plan c.0.at) (resource_of plan c.1.at) s.0 (resource_below plan some c.0.at) (resource_below plan some c.1.at) s.1)
      (option_cases (link_between plan (resource_of plan c.0.at) (resource_of plan c.1.at))))

  -- the ports inside a composite are in its resource
  port_lies : (n : Name) (p : Path) (e : PortName) → resource_of plan (port_in (n ∷ p) e).at ≡ resource_of plan (n ∷ p)
  port_lies n p e = go e.component
    where
      go : (o : Option Name) → resource_of plan (elim o as (λ _. Port) [ None ↦ record { at = n ∷ p; name = e.port } | Some c ↦ record { at = c ∷ n ∷ p; name = e.port } ]).at ≡ resource_of plan (n ∷ p)
      go None = refl
      go (Some c) = refl

  inner_wired : (n : Name) (p : Path) (cs : List Connection) → Each IsWired (pairs_in (n ∷ p) cs)
  inner_wired n p [] = tt
  inner_wired n p (c ∷ cs) = ((λ d. absurd (d (port_lies n p c.to ∙ sym (port_lies n p c.from)))), inner_wired n p cs)

  inside_wired : (p : Path) → Each IsWired (events_inside lib p)
  inside_wired [] = outer_wired
  inside_wired (n ∷ p) = go (network_at lib (n ∷ p))
    where
      go : (o : Option Network) → Each IsWired (elim o as (λ _. List (Port × Port)) [ None ↦ [] | Some net ↦ pairs_in (n ∷ p) net.event_connections ])
      go None = tt
      go (Some net) = inner_wired n p net.event_connections

  chosen : (q : Port) (cs : List (Port × Port)) → Each IsWired cs → Each (IsLinked (flat lib plan) (resource_of plan q.at)) (map (λ c. c.1) (filter (λ c. same_port c.0 q) cs))
  chosen q [] h = tt
  chosen q (c ∷ cs) h = go (same_port c.0 q) refl (chosen q cs h.1)
    where
      go : (b : Bool) → same_port c.0 q ≡ b → Each (IsLinked (flat lib plan) (resource_of plan q.at)) (map (λ c. c.1) (filter (λ c. same_port c.0 q) cs)) → Each (IsLinked (flat lib plan) (resource_of plan q.at)) (map (λ c. c.1) (filter (λ c. same_port c.0 q) (c ∷ cs)))
      go true e rest =
          let f : c.0 ≡ q = same_port_is c.0 q e in
          let g : IsLinked (flat lib plan) (resource_of plan q.at) c.1 = subst (λ (z : Port). IsLinked (flat lib plan) (resource_of plan z.at) c.1) f h.0 in
          rw e (g, rest)
      go false e rest = rw e rest

  pub targets_linked : (q : Port) → Each (IsLinked (flat lib plan) (resource_of plan q.at)) (targets_of lib q)
  targets_linked q = chosen q (events_at lib q.at) (each_append IsWired (events_inside lib (parent q.at)) (events_inside lib q.at) (inside_wired (parent q.at)) (inside_wired q.at))

-- ---- Acceptance

last_contained : {X : Type 0} (xs : List X) (x : X) → Contains (xs ++ x ∷ []) x
last_contained xs x = Contains-append_right xs (x ∷ []) x (element_of_index (x ∷ []) 0 x refl)

names_spaced : (lib : Library) (plan : Plan) → Contains (name_spaces lib plan) (resource_names_of plan)
names_spaced lib plan =
    last_contained
    (block_type_names lib ∷ map port_names lib.blocks ++ map algorithm_names (basics lib) ++ map state_names (basics lib)
    ++ map (λ n. instance_names n.1) (networks lib) ++ flat_map with_lists (interfaces lib) ++ flat_map (λ n. parameter_lists n.1) (networks lib))
    (resource_names_of plan)

no_twice : (i : Inputs) → AreGood i → Twice (resource_names_of i.plan) → ⊥
no_twice i good h = good.accepted 20 (inl (refl, inl (resource_names_of i.plan, names_spaced i.library i.plan, h)))

no_link : (i : Inputs) → AreGood i → NoLink i.library i.plan → ⊥
no_link i good h = good.accepted 27 (inr (inr (inr (inr (inr (inr (inr (inl (refl, h)))))))))

pub sound_of : (i : Inputs) → AreGood i → IsSound (system_of i)
sound_of i good =
    let some = good.limits.some_resource in
    record {
      later = λ l sent b.
          ⊎_elim
          (λ (n : slice_get i.plan.links l ≡ None). let e : latency_of i.plan l sent ≡ 1 = rw (latency_of, n) refl in omega arith)
          (λ (x : (y : Link) × (slice_get i.plan.links l ≡ Some y)). let e : latency_of i.plan l sent ≡ latency_at x.0.latency sent = rw (latency_of, x.1) refl in
          let p = latency_positive x.0.latency (good.limits.latencies x.0 (element_of_index i.plan.links l x.0 x.1)) sent in omega arith)
          (option_cases (slice_get i.plan.links l));
      linked = λ p. targets_linked i.library i.plan some (no_twice i good) (no_link i good) p;
      counted = λ p. resource_below i.plan some p;
      receivers = λ l b. end_below i.plan some (λ x. x.to) l;
      senders = λ l b. end_below i.plan some (λ x. x.from) l;
    }
