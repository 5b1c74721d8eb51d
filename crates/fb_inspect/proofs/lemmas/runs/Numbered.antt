-- Each instance of a system that was accepted is at its number.
use Rattle.fb_types.proofs.Common.{◌≡◌, ◌⊎◌, ◌<◌, ℕ, zero, suc, ◌+◌, Bool, true, false, List, [], ◌∷◌, length, Option, Some, Contains, inl, inr, refl, sym, ap, subst, ◌∙◌, arith, option_map, position, slice_get, unwrap_or, both_ways, same_Some, Kind, inside, instance_at, instance_in, kind_at, kind_of_instance, network_at, paths_inside, paths_of, TooHigh, Name, Path, same_path}
use Rattle.fb_types.specs.declared.library.Instance.{Instance}
use Rattle.fb_types.specs.declared.library.Library.{Library}
use Rattle.fb_types.specs.declared.library.Network.{Network}
use Rattle.fb_types.specs.Flat.{number_of}
use Rattle.fb_types.proofs.lemmas.lists.Elements.{Contains-cons_cases, Contains-flat_map, Contains-here, Contains-nil, Contains-there}
use Rattle.fb_types.proofs.lemmas.names.NameLaws.{named-Contains}
use Rattle.fb_types.proofs.lemmas.lists.Options.{and_then_parts}
use Rattle.fb_types.proofs.lemmas.names.PathLaws.{same_path_is, same_path_itself}
use Rattle.fb_types.proofs.lemmas.lists.Positions.{position-first, position-later}
use Rattle.fb_laws.proofs.lemmas.typing.Declared.{named-name}
use Rattle.fb_laws.proofs.lemmas.lists.Indexes.{is_at}
use Rattle.fb_system.proofs.lemmas.networks.Distinct.{below, paths_from}
use Rattle.fb_system.proofs.lemmas.networks.Sites.{IsDeep, deep_inside, never_deeper}

-- ---- Where a path is among others

-- The path is at its number.
abbrev IsAt : List Path → Path → Type 0
IsAt ps p = (k : ℕ) × (position (same_path p) ps ≡ Some k) × (slice_get ps k ≡ Some p)

found_here : (q : Path) (ps : List Path) (p : Path) → same_path p q ≡ true → IsAt (q ∷ ps) p
found_here q ps p e = (0, position-first (same_path p) q ps e, ap (λ (z : Path). Some z) (sym (same_path_is p q e)))

found_later : (q : Path) (ps : List Path) (p : Path) → same_path p q ≡ false → IsAt ps p → IsAt (q ∷ ps) p
found_later q ps p e at =
    let next : at.0 + 1 ≡ suc at.0 = omega arith in
    (at.0 + 1, position-later (same_path p) q ps e ∙ ap (option_map (λ k. k + 1)) at.1, ap (slice_get (q ∷ ps)) next ∙ at.2)

found_among : (q : Path) (ps : List Path) (p : Path) → (Contains ps p → IsAt ps p) → Contains (q ∷ ps) p → IsAt (q ∷ ps) p
found_among q ps p rest c = by (same_path p q) refl
  where
    apart : same_path p q ≡ false → (q ≡ p) ⊎ Contains ps p → IsAt (q ∷ ps) p
    apart e (inl same) = absurd (both_ways (same_path p q) e (subst (λ (z : Path). same_path p z ≡ true) (sym same) (same_path_itself p)))
    apart e (inr later) = found_later q ps p e (rest later)

    by : (b : Bool) → same_path p q ≡ b → IsAt (q ∷ ps) p
    by true e = found_here q ps p e
    by false e = apart e (Contains-cons_cases q ps p c)

path_found : (ps : List Path) (p : Path) → Contains ps p → IsAt ps p
path_found [] p c = absurd (Contains-nil p c)
path_found (q ∷ ps) p c = found_among q ps p (path_found ps p) c

-- ---- Instances

module _ (lib : Library) (low : TooHigh lib → ⊥) where
  -- The paths inside the network at a path are among those of the system, to this depth.
  record IsReached (p : Path) (net : Network) : Type 0 where
    depth : ℕ
    deep : IsDeep lib depth net
    within : (q : Path) → Contains (paths_inside depth lib p net) q → Contains (paths_of lib) q

  name_is : (net : Network) (n : Name) (i : Instance) → instance_in net n ≡ Some i → i.name ≡ n
  name_is net n i h = named-name (λ (i : Instance). i.name) n net.instances i h

  among_is : (net : Network) (n : Name) (i : Instance) → instance_in net n ≡ Some i → Contains net.instances i
  among_is net n i h = named-Contains (λ (i : Instance). i.name) n net.instances i h

  deeper : (p : Path) (net : Network) (n : Name) (i : Instance) (inner : Network) → instance_in net n ≡ Some i → inside lib i ≡ Some inner → (d : ℕ) → IsDeep lib d net
      → ((q : Path) → Contains (paths_inside d lib p net) q → Contains (paths_of lib) q) → IsReached (n ∷ p) inner
  deeper p net n i inner named is zero deep within = absurd (never_deeper lib net low deep)
  deeper p net n i inner named is (suc d) deep within =
      let own : (q : Path) → Contains (paths_inside d lib (i.name ∷ p) inner) q → Contains (paths_from d lib p i) q =
      λ q c. Contains-there (i.name ∷ p) (below d lib (i.name ∷ p) (inside lib i)) q (subst (λ (o : Option Network). Contains (below d lib (i.name ∷ p) o) q) (sym is) c) in
      record {
        depth = d;
        deep = deep_inside lib d net i inner deep (among_is net n i named) is;
        within = λ q c. within q (Contains-flat_map (paths_from d lib p) net.instances i q (among_is net n i named)
            (own q (subst (λ (m : Name). Contains (paths_inside d lib (m ∷ p) inner) q) (sym (name_is net n i named)) c)));
      }

  reached : (p : Path) (net : Network) → network_at lib p ≡ Some net → IsReached p net
  reached [] net h =
      subst (λ (z : Network). IsReached [] z) (same_Some lib.application.network net h)
      (record { depth = 17; deep = inl refl; within = λ q c. c })
  reached (n ∷ p) net h =
      let i = and_then_parts (inside lib) (instance_at lib (n ∷ p)) net h in
      let m = and_then_parts (λ (net : Network). instance_in net n) (network_at lib p) i.0 i.1 in
      let r = reached p m.0 m.1 in
      deeper p m.0 n i.0 net m.2 i.2 r.depth r.deep r.within

  component_among : (p : Path) (net : Network) (n : Name) (i : Instance) → instance_in net n ≡ Some i → (d : ℕ) → IsDeep lib d net
      → ((q : Path) → Contains (paths_inside d lib p net) q → Contains (paths_of lib) q) → Contains (paths_of lib) (n ∷ p)
  component_among p net n i named zero deep within = absurd (never_deeper lib net low deep)
  component_among p net n i named (suc d) deep within =
      within (n ∷ p) (Contains-flat_map (paths_from d lib p) net.instances i (n ∷ p) (among_is net n i named)
      (subst (λ (m : Name). Contains (paths_from d lib p i) (m ∷ p)) (name_is net n i named) (Contains-here (i.name ∷ p) (below d lib (i.name ∷ p) (inside lib i)))))

  instance_among : (p : Path) (i : Instance) → instance_at lib p ≡ Some i → Contains (paths_of lib) p
  instance_among [] i h = absurd (cc)
  instance_among (n ∷ p) i h =
      let m = and_then_parts (λ (net : Network). instance_in net n) (network_at lib p) i h in
      let r = reached p m.0 m.1 in
      component_among p m.0 n i m.2 r.depth r.deep r.within

  -- The number of an instance is within the paths, and its path is there.
  pub record IsNumbered (p : Path) : Type 0 where
    pub within : number_of (paths_of lib) p < length (paths_of lib)
    pub there : slice_get (paths_of lib) (number_of (paths_of lib) p) ≡ Some p

  pub numbered : (p : Path) (kind : Kind) → kind_at lib p ≡ Some kind → IsNumbered p
  numbered p kind h =
      let i = and_then_parts (kind_of_instance lib) (instance_at lib p) kind h in
      let at = path_found (paths_of lib) p (instance_among p i.0 i.1) in
      let number : number_of (paths_of lib) p ≡ at.0 = ap (λ (o : Option ℕ). unwrap_or o 0) at.1 in
      let there : slice_get (paths_of lib) (number_of (paths_of lib) p) ≡ Some p = ap (slice_get (paths_of lib)) number ∙ at.2 in
      record { within = is_at (paths_of lib) (number_of (paths_of lib) p) p there; there = there }
