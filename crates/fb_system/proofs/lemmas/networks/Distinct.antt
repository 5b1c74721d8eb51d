-- The paths of an application differ, if the names in each network do.
use Rattle.fb_types.proofs.Common.{◌≡◌, ◌⊎◌, ℕ, zero, suc, ◌+◌, false, List, [], ◌∷◌, ◌++◌, map, length, Option, Some, None, Contains, refl, sym, ◌∙◌, ap, subst, inl, inr, arith, append_assoc, slice_get, option_map, position, flat_map, false_from_ne_true, length-append, Contains-append_left, Contains-append_cases, Name, Path, same_path, inside, paths_inside, Twice, OwnedNetwork, networks, instance_names}
use Rattle.fb_types.specs.declared.library.Library.{Library}
use Rattle.fb_types.specs.declared.library.Instance.{Instance}
use Rattle.fb_types.specs.declared.library.Network.{Network}
use Rattle.fb_types.proofs.lemmas.names.PathLaws.{same_path_is, same_path_itself}
use Rattle.fb_types.proofs.lemmas.lists.Positions.{position-first, position-later}
use Rattle.fb_types.proofs.lemmas.lists.ByIndex.{element_of_index}
use Rattle.fb_types.proofs.lemmas.lists.Elements.{Contains-nil, Contains-cons_cases, Contains-here, Contains-there, Contains-map}
use Rattle.fb_system.proofs.lemmas.networks.InsideInstances.{network_known}

-- ---- Lists with an element twice

pub Twice-append_cases : {A : Type 0} (xs ys : List A) → Twice (xs ++ ys) → Twice xs ⊎ (Twice ys ⊎ ((x : A) × Contains xs x × Contains ys x))
Twice-append_cases [] ys h = inr (inl h)
Twice-append_cases {A} (x ∷ xs) ys h =
    elim h [
      | inl c ↦ elim (Contains-append_cases xs ys x c) [ inl l ↦ inl (inl l) | inr r ↦ inr (inr (x, Contains-here x xs, r)) ]
      | inr t ↦ elim (Twice-append_cases xs ys t) [
        | inl l ↦ inl (inr l)
        | inr r ↦ elim r [ inl o ↦ inr (inl o) | inr b ↦ inr (inr (b.0, Contains-there x xs b.0 b.1, b.2)) ]
      ]
    ]

-- ---- Paths that end alike

-- what is before an end shows which element the end begins with
pub same_end : {A : Type 0} (r s : List A) (x y : A) (p : List A) → r ++ x ∷ p ≡ s ++ y ∷ p → x ≡ y
same_end [] [] x y p h = cc
same_end [] (z ∷ s) x y p h =
    let rest : p ≡ s ++ y ∷ p = cc in
    let long : length p ≡ length s + suc (length p) = ap length rest ∙ length-append s (y ∷ p) in
    absurd (omega (arith, long))
same_end (w ∷ r) [] x y p h =
    let rest : r ++ x ∷ p ≡ p = cc in
    let long : length r + suc (length p) ≡ length p = sym (length-append r (x ∷ p)) ∙ ap length rest in
    absurd (omega (arith, long))
same_end (w ∷ r) (z ∷ s) x y p h = let rest : r ++ x ∷ p ≡ s ++ y ∷ p = cc in same_end r s x y p rest

-- ---- Where the paths inside a network are

-- the path leads through an instance of the list
pub record IsThrough (p : Path) (is : List Instance) (q : Path) : Type 0 where
  pub instance : Instance
  pub among : Contains is instance
  pub deeper : Path
  pub path : q ≡ deeper ++ instance.name ∷ p

-- the paths inside an instance, if its type has a network
abbrev pub below : ℕ → Library → Path → Option Network → List Path
below d lib p o = elim o [ None ↦ [] | Some net ↦ paths_inside d lib p net ]

abbrev pub paths_from : ℕ → Library → Path → Instance → List Path
paths_from d lib p i = (i.name ∷ p) ∷ below d lib (i.name ∷ p) (inside lib i)

later : (p : Path) (i : Instance) (is : List Instance) (q : Path) → IsThrough p is q → IsThrough p (i ∷ is) q
later p i is q h = record { instance = h.instance; among = Contains-there i is h.instance h.among; deeper = h.deeper; path = h.path }

-- the paths of instances, if those inside each are known to be inside it
through_each :
    (d : ℕ) (lib : Library) (p : Path) (is : List Instance) (q : Path)
    → ((i : Instance) (q : Path) → Contains (below d lib (i.name ∷ p) (inside lib i)) q → (r : Path) × (m : Name) × (q ≡ r ++ m ∷ i.name ∷ p))
    → Contains (flat_map (paths_from d lib p) is) q → IsThrough p is q
through_each d lib p [] q inner h = absurd (Contains-nil q h)
through_each d lib p (i ∷ is) q inner h =
    elim (Contains-append_cases (paths_from d lib p i) (flat_map (paths_from d lib p) is) q h) [
      | inl one ↦ elim (Contains-cons_cases (i.name ∷ p) (below d lib (i.name ∷ p) (inside lib i)) q one) [
        | inl e ↦ record { instance = i; among = Contains-here i is; deeper = []; path = sym e }
        | inr b ↦
            let s = inner i q b in
            record {
              instance = i;
              among = Contains-here i is;
              deeper = s.0 ++ s.1 ∷ [];
              path = s.2 ∙ sym (append_assoc s.0 (s.1 ∷ []) (i.name ∷ p));
            }
      ]
      | inr rest ↦ later p i is q (through_each d lib p is q inner rest)
    ]

pub below_through :
    (d : ℕ) (lib : Library) (p : Path) (o : Option Network) (q : Path) → Contains (below d lib p o) q → (r : Path) × (m : Name) × (q ≡ r ++ m ∷ p)
below_through d lib p None q h = absurd (Contains-nil q h)
below_through zero lib p (Some net) q h = absurd (Contains-nil q h)
below_through (suc d) lib p (Some net) q h =
    let t = through_each d lib p net.instances q (λ i q. below_through d lib (i.name ∷ p) (inside lib i) q) h in
    (t.deeper, t.instance.name, t.path)

-- ---- Paths that differ

-- the names in each network differ
pub record AreOnce (lib : Library) : Type 0 where
  pub each : (n : OwnedNetwork) → Contains (networks lib) n → ¬ (Twice (instance_names n.1))

once_each :
    (d : ℕ) (lib : Library) (p : Path) (is : List Instance) → ¬ (Twice (map (λ (i : Instance). i.name) is))
    → ((i : Instance) → ¬ (Twice (below d lib (i.name ∷ p) (inside lib i)))) → ¬ (Twice (flat_map (paths_from d lib p) is))
once_each d lib p [] once inner t = t
once_each d lib p (i ∷ is) once inner t =
    let q : Path = i.name ∷ p in
    elim (Twice-append_cases (paths_from d lib p i) (flat_map (paths_from d lib p) is) t) [
      | inl one ↦ elim one [
        | inl c ↦
            let s = below_through d lib q (inside lib i) q c in
            let long : length q ≡ length s.0 + suc (length q) = ap length s.2 ∙ length-append s.0 (s.1 ∷ q) in
            omega (arith, long)
        | inr b ↦ inner i b
      ]
      | inr other ↦ elim other [
        | inl rest ↦ once_each d lib p is (λ t. once (inr t)) inner rest
        | inr both ↦
            let a = through_each d lib p (i ∷ []) both.0 (λ i q. below_through d lib (i.name ∷ p) (inside lib i) q)
            (Contains-append_left (paths_from d lib p i) [] both.0 both.1) in
            let b = through_each d lib p is both.0 (λ i q. below_through d lib (i.name ∷ p) (inside lib i) q) both.2 in
            let same : a.instance.name ≡ b.instance.name =
            same_end a.deeper b.deeper a.instance.name b.instance.name p (sym a.path ∙ b.path) in
            let first : i ≡ a.instance =
            elim (Contains-cons_cases i [] a.instance a.among) [ inl e ↦ e | inr none ↦ absurd (Contains-nil a.instance none) ] in
            let P : Name → Type 0 = λ n. Contains (map (λ (i : Instance). i.name) is) n in
            once (inl (subst P (sym same ∙ ap (λ (i : Instance). i.name) (sym first)) (Contains-map (λ (i : Instance). i.name) is b.instance b.among)))
      ]
    ]

below_once :
    (d : ℕ) (lib : Library) (p : Path) (i : Instance) → ((n : OwnedNetwork) → Contains (networks lib) n → ¬ (Twice (paths_inside d lib p n.1)))
    → ¬ (Twice (below d lib p (inside lib i)))
below_once d lib p i once =
    elim (inside lib i) as (λ o. inside lib i ≡ o → ¬ (Twice (below d lib p o))) [
      | None ↦ λ e t. t
      | Some net ↦ λ e. let known = network_known lib i net e in once (Some known.0, net) known.1
    ] refl

pub paths_once : (d : ℕ) (lib : Library) (p : Path) (n : OwnedNetwork) → AreOnce lib → Contains (networks lib) n → ¬ (Twice (paths_inside d lib p n.1))
paths_once zero lib p n once h = λ t. t
paths_once (suc d) lib p n once h =
    once_each d lib p n.1.instances (once.each n h) (λ i. below_once d lib (i.name ∷ p) i (λ n h. paths_once d lib (i.name ∷ p) n once h))

-- ---- Numbers of paths

pub position_of_path : (ps : List Path) (k : ℕ) (p : Path) → ¬ (Twice ps) → slice_get ps k ≡ Some p → position (same_path p) ps ≡ Some k
position_of_path [] k p once h = absurd (cc)
position_of_path (q ∷ qs) zero p once h =
    let e : q ≡ p = cc in
    position-first (same_path p) q qs (ap (same_path p) e ∙ same_path_itself p)
position_of_path (q ∷ qs) (suc k) p once h =
    let apart : same_path p q ≡ false =
    false_from_ne_true (same_path p q)
    (λ t. once (inl (subst (λ (p : Path). Contains qs p) (same_path_is p q t) (element_of_index qs k p h)))) in
    position-later (same_path p) q qs apart
    ∙ ap (option_map (λ i. i + 1)) (position_of_path qs k p (λ t. once (inr t)) h)
    ∙ (let e : k + 1 ≡ suc k = omega arith in ap (λ n. Some n) e)
