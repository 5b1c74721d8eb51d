-- The resource that holds an instance is that of the application's instance on the path to it.
use Rattle.fb_system.proofs.lemmas.Common.{◌≡◌, ℕ, ◌<◌, List, [], ◌∷◌, ◌++◌, map, length, get_or, Option, Some, None, Contains, refl, sym, ◌∙◌, ap, subst, inl, inr, append_assoc, ◌+◌, length-append, flat_map, position, slice_get, unwrap_or, same_Some, slice_get-get_or, slice_get_within, inside, paths_of, Inputs, Name, Path, same_name, Plan, Instance, Library, path_of, index_at, route_to, IsLinked, inputs_of, AreTables, Whole}
use Rattle.fb_types.proofs.Common.{below_more, Contains-append_cases, get_or_from_slice_get, holder, resource_of}
use Rattle.fb_types.proofs.lemmas.lists.ByIndex.{element_of_index, slice_get-append_here, slice_get-append_left}
use Rattle.fb_types.proofs.lemmas.lists.Positions.{is_some-position, position_is}
use Rattle.fb_types.proofs.lemmas.lists.Elements.{Contains-cons_cases, Contains-here, Contains-nil, Contains-there, Contains-map}
use Rattle.fb_types.proofs.lemmas.names.NameLaws.{any_from_contains}
use Rattle.fb_system.proofs.lemmas.networks.Distinct.{below, below_through, IsThrough, paths_from}
use Rattle.fb_types.proofs.lemmas.lists.Options.{some_from_is_some}
use Rattle.fb_system.specs.Linking.{holder_at, Linked}

-- ---- Every path leads through an instance of the application

later : (p : Path) (i : Instance) (is : List Instance) (q : Path) → IsThrough p is q → IsThrough p (i ∷ is) q
later p i is q h = record { instance = h.instance; among = Contains-there i is h.instance h.among; deeper = h.deeper; path = h.path }

through_each : (d : ℕ) (lib : Library) (p : Path) (is : List Instance) (q : Path) → Contains (flat_map (paths_from d lib p) is) q → IsThrough p is q
through_each d lib p [] q h = absurd (Contains-nil q h)
through_each d lib p (i ∷ is) q h =
    elim (Contains-append_cases (paths_from d lib p i) (flat_map (paths_from d lib p) is) q h) [
      | inl one ↦ elim (Contains-cons_cases (i.name ∷ p) (below d lib (i.name ∷ p) (inside lib i)) q one) [
        | inl e ↦ record { instance = i; among = Contains-here i is; deeper = []; path = sym e }
        | inr b ↦
            let s = below_through d lib (i.name ∷ p) (inside lib i) q b in
            record {
              instance = i;
              among = Contains-here i is;
              deeper = s.0 ++ s.1 ∷ [];
              path = s.2 ∙ sym (append_assoc s.0 (s.1 ∷ []) (i.name ∷ p));
            }
      ]
      | inr rest ↦ later p i is q (through_each d lib p is q rest)
    ]

pub through : (lib : Library) (k : ℕ) → k < length (paths_of lib) → IsThrough [] lib.application.network.instances (path_of lib k)
through lib k h =
    let there : slice_get (paths_of lib) k ≡ Some (get_or (paths_of lib) k []) = slice_get-get_or (paths_of lib) k [] h in
    let is : path_of lib k ≡ get_or (paths_of lib) k [] = ap (λ (o : Option Path). unwrap_or o []) there in
    subst (λ (q : Path). IsThrough [] lib.application.network.instances q) (sym is)
    (through_each 16 lib [] lib.application.network.instances (get_or (paths_of lib) k []) (element_of_index (paths_of lib) k (get_or (paths_of lib) k []) there))

-- ---- The path begins at that instance

first_stays : (xs ys : List ℕ) (x : ℕ) → slice_get xs 0 ≡ Some x → slice_get (xs ++ ys) 0 ≡ Some x
first_stays [] ys x h = absurd (cc)
first_stays (z ∷ xs) ys x h = h

first_of_route : (lib : Library) (r : List Name) (n : Name) → slice_get (route_to lib (r ++ n ∷ [])) 0 ≡ Some (index_at lib [] n)
first_of_route lib [] n = refl
first_of_route lib (m ∷ r) n =
    first_stays (route_to lib (r ++ n ∷ [])) (index_at lib (r ++ n ∷ []) m ∷ []) (index_at lib [] n) (first_of_route lib r n)

resource_outside : (plan : Plan) (r : List Name) (n : Name) → resource_of plan (r ++ n ∷ []) ≡ holder plan n
resource_outside plan [] n = refl
resource_outside plan (m ∷ []) n = refl
resource_outside plan (m ∷ k ∷ r) n = resource_outside plan (k ∷ r) n

-- the resource of an instance of the application, by its index
holder_there :
    (lib : Library) (plan : Plan) (x : Linked) (i : Instance) → IsLinked lib plan x → Contains lib.application.network.instances i
    → holder_at x (index_at lib [] i.name) ≡ holder plan i.name
holder_there lib plan x i linked among =
    let own : Instance → Name = λ y. y.name in
    let is = lib.application.network.instances in
    let at = some_from_is_some (position (same_name i.name) (map own is))
    (is_some-position (same_name i.name) (map own is) ∙ any_from_contains i.name (map own is) (Contains-map own is i among)) in
    let there = position_is own i.name is at.0 at.1 in
    ap (λ (o : Option ℕ). holder_at x (unwrap_or o 0)) at.1 ∙ linked.holders at.0 there.0 there.1 ∙ ap (holder plan) there.2

abbrev pub indexes_through : (lib : Library) (k : ℕ) → k < length (paths_of lib) → ℕ
indexes_through lib k h = index_at lib [] (through lib k h).instance.name

pub first_index : (lib : Library) (k : ℕ) (h : k < length (paths_of lib)) → slice_get (route_to lib (path_of lib k)) 0 ≡ Some (indexes_through lib k h)
first_index lib k h =
    let t = through lib k h in
    ap (λ (q : Path). slice_get (route_to lib q) 0) t.path ∙ first_of_route lib t.deeper t.instance.name

-- the resource of an instance, by the first index on the path to it
pub resource_by_index :
    (lib : Library) (plan : Plan) (x : Linked) (k index : ℕ) → IsLinked lib plan x → k < length (paths_of lib)
    → slice_get (route_to lib (path_of lib k)) 0 ≡ Some index → holder_at x index ≡ resource_of plan (path_of lib k)
resource_by_index lib plan x k index linked h found =
    let t = through lib k h in
    let same : index ≡ indexes_through lib k h = same_Some index (indexes_through lib k h) (sym found ∙ first_index lib k h) in
    ap (holder_at x) same
    ∙ holder_there lib plan x t.instance linked t.among
    ∙ sym (ap (resource_of plan) t.path ∙ resource_outside plan t.deeper t.instance.name)

-- ---- In a system

pub instance_resource_there : (v w : Whole) (i : Inputs) (k : ℕ) → AreTables w → v ≡ w → inputs_of w ≡ i → k < length (paths_of i.library) → k < length v.instance_resources
instance_resource_there v w i k is e s h =
    let lt : k < length (paths_of w.netlist) = subst (λ (i : Inputs). k < length (paths_of i.library)) (sym s) h in
    subst (λ (w : Whole). k < length w.instance_resources) (sym e) (slice_get_within w.instance_resources k (resource_of w.deploy (path_of w.netlist k)) (is.instance_resources k lt))

pub instance_resource_seen :
    (v w : Whole) (i : Inputs) (k d : ℕ) → AreTables w → v ≡ w → inputs_of w ≡ i → k < length (paths_of i.library)
    → get_or v.instance_resources k d ≡ resource_of i.plan (path_of i.library k)
instance_resource_seen v w i k d is e s h =
    let lt : k < length (paths_of w.netlist) = subst (λ (i : Inputs). k < length (paths_of i.library)) (sym s) h in
    ap (λ (w : Whole). get_or w.instance_resources k d) e
    ∙ get_or_from_slice_get w.instance_resources k (resource_of w.deploy (path_of w.netlist k)) d (is.instance_resources k lt)
    ∙ ap (λ (i : Inputs). resource_of i.plan (path_of i.library k)) s

-- ---- Making

-- the first homes
abbrev pub InstanceResourcesSoFar : Library → Linked → ℕ → List ℕ → Type 0
InstanceResourcesSoFar lib x n instance_resources =
    (length instance_resources ≡ n) × ((plan : Plan) → IsLinked lib plan x → (k : ℕ) → k < n → slice_get instance_resources k ≡ Some (resource_of plan (path_of lib k)))

pub instance_resources_next :
    (lib : Library) (x : Linked) (n instance_resource : ℕ) (instance_resources : List ℕ) → InstanceResourcesSoFar lib x n instance_resources
    → ((plan : Plan) → IsLinked lib plan x → instance_resource ≡ resource_of plan (path_of lib n)) → InstanceResourcesSoFar lib x (n + 1) (instance_resources ++ instance_resource ∷ [])
instance_resources_next lib x n instance_resource instance_resources far is = (
  length-append instance_resources (instance_resource ∷ []) ∙ ap (λ m. m + 1) far.0,
  λ plan linked. below_more _ _ (λ k lt. slice_get-append_left instance_resources (instance_resource ∷ []) k (resource_of plan (path_of lib k)) (far.1 plan linked k lt))
      (ap (slice_get (instance_resources ++ instance_resource ∷ [])) (sym far.0) ∙ slice_get-append_here instance_resources instance_resource ∙ ap (λ m. Some m) (is plan linked)),
)

-- a path has a first index
pub first_there : (lib : Library) (k : ℕ) (route : List ℕ) → k < length (paths_of lib) → route ≡ route_to lib (path_of lib k) → slice_get route 0 ≡ None → ⊥
first_there lib k route h r none =
    let g : None ≡ Some (indexes_through lib k h) = sym none ∙ ap (λ (ks : List ℕ). slice_get ks 0) r ∙ first_index lib k h in cc
