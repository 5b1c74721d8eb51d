-- What acceptance says of the instances and the variables of a system.
use Rattle.fb_types.proofs.Common.{◌≡◌, ℕ, zero, suc, ◌<◌, Bool, true, false, List, [], ◌∷◌, ◌++◌, length, Option, Some, None, Contains, refl, subst, inl, inr, arith, if◌then◌else◌, option_map, slice_get, unwrap_or, same_Some, Event, Kind, event_blocks, event_names, named, ports, ports_of, ports_of_event_block, variable_names, inside, instance_at, kind_at, kind_of, kind_of_instance, paths_inside, paths_of, type_name, type_named, AreAccepted, Inputs, system_of, Name, Path, path_at, ports_at, NameTwice, Twice, internals_of, port_names as type_names}
use Rattle.fb_types.specs.declared.deploy.Plan.{Plan}
use Rattle.fb_types.specs.declared.event_kind.EventKind.{EventKind}
use Rattle.fb_types.specs.declared.library.BlockType.{BlockType}
use Rattle.fb_types.specs.declared.library.Library.{Library}
use Rattle.fb_types.specs.declared.library.Network.{Network}
use Rattle.fb_types.specs.declared.library.Ports.{Ports}
use Rattle.fb_types.specs.declared.library.BlockType.TheVariants as block
use Rattle.fb_types.proofs.lemmas.lists.Elements.{Contains-cons_cases, Contains-here, Contains-nil, Contains-there, flat_map-Contains}
use Rattle.fb_types.proofs.lemmas.names.NameLaws.{named-Contains}
use Rattle.fb_types.proofs.lemmas.lists.Options.{and_then_parts, map_parts}
use Rattle.fb_types.proofs.lemmas.lists.TwiceLaws.{Twice-append_left, Twice-append_right}
use Rattle.fb_types.proofs.lemmas.events.EventNames.{events_once as event_names_once}
use Rattle.fb_check_names.proofs.lemmas.twice.NameTwice.{block_twice}
use Rattle.fb_system.proofs.lemmas.networks.Distinct.{below, paths_from}
use Rattle.fb_system.proofs.lemmas.types.Naming.{variables_once}

-- ---- The variables of an instance have different names

type_of : (lib : Library) (p : Path) (k : Kind) → kind_at lib p ≡ Some k → (n : Name) × (type_named lib n ≡ Some k)
type_of lib p k h = let parts = and_then_parts (kind_of_instance lib) (instance_at lib p) k h in (parts.0.block_type, parts.2)

variables_apart :
    (i : Inputs) → AreAccepted i → (p : Path)
    → ¬ (Twice (variable_names (ports_at (system_of i) p).inputs ++ variable_names (ports_at (system_of i) p).outputs))
variables_apart i accepted p =
    elim ((system_of i).kind p) as
    (λ o. (system_of i).kind p ≡ o
    → (let its : Ports = elim o [ None ↦ ports [] [] [] [] | Some k ↦ ports_of k ] in ¬ (Twice (variable_names its.inputs ++ variable_names its.outputs)))) [
      | None ↦ λ e t. t
      | Some k ↦ λ e. (let n = type_of i.library p k e in (variables_once i.library i.plan n.0 k (λ t. accepted 20 (inl (refl, t))) n.1).once)
    ] refl

pub inputs_once : (i : Inputs) → AreAccepted i → (p : Path) → ¬ (Twice (variable_names (ports_at (system_of i) p).inputs))
inputs_once i accepted p t =
    let its = ports_at (system_of i) p in variables_apart i accepted p (Twice-append_left (variable_names its.inputs) (variable_names its.outputs) t)

pub outputs_once : (i : Inputs) → AreAccepted i → (p : Path) → ¬ (Twice (variable_names (ports_at (system_of i) p).outputs))
outputs_once i accepted p t =
    let its = ports_at (system_of i) p in variables_apart i accepted p (Twice-append_right (variable_names its.inputs) (variable_names its.outputs) t)

-- ---- The events of an instance have different names

abbrev events_of : Ports → Bool → List Name
events_of its taken = event_names (if taken then its.event_inputs else its.event_outputs)

event_block_once : (k : EventKind) (taken : Bool) → ¬ (Twice (events_of (ports_of_event_block k) taken))
event_block_once k true t =
    let p = ports_of_event_block k in event_names_once k (Twice-append_left (event_names p.event_inputs) (event_names p.event_outputs) t)
event_block_once k false t =
    let p = ports_of_event_block k in event_names_once k (Twice-append_right (event_names p.event_inputs) (event_names p.event_outputs) t)

types_once : (lib : Library) (plan : Plan) (t : BlockType) → ¬ (NameTwice lib plan) → Contains lib.blocks t → ¬ (Twice (type_names t))
types_once lib plan (block.Basic b) once c t = once (block_twice lib plan (block.Basic b) c (inl (inl t)))
types_once lib plan (block.Composite b) once c t = once (block_twice lib plan (block.Composite b) c (inl (inl t)))

declared_once : (lib : Library) (plan : Plan) (t : BlockType) → ¬ (NameTwice lib plan) → Contains lib.blocks t → (taken : Bool) → ¬ (Twice (events_of (ports_of (kind_of t)) taken))
declared_once lib plan t once c true twice =
    let its = ports_of (kind_of t) in
    types_once lib plan t once c
    (Twice-append_left (((event_names its.event_inputs ++ event_names its.event_outputs) ++ variable_names its.inputs) ++ variable_names its.outputs) (variable_names (internals_of (kind_of t)))
    (Twice-append_left ((event_names its.event_inputs ++ event_names its.event_outputs) ++ variable_names its.inputs) (variable_names its.outputs)
    (Twice-append_left (event_names its.event_inputs ++ event_names its.event_outputs) (variable_names its.inputs)
    (Twice-append_left (event_names its.event_inputs) (event_names its.event_outputs) twice))))
declared_once lib plan t once c false twice =
    let its = ports_of (kind_of t) in
    types_once lib plan t once c
    (Twice-append_left (((event_names its.event_inputs ++ event_names its.event_outputs) ++ variable_names its.inputs) ++ variable_names its.outputs) (variable_names (internals_of (kind_of t)))
    (Twice-append_left ((event_names its.event_inputs ++ event_names its.event_outputs) ++ variable_names its.inputs) (variable_names its.outputs)
    (Twice-append_left (event_names its.event_inputs ++ event_names its.event_outputs) (variable_names its.inputs)
    (Twice-append_right (event_names its.event_inputs) (event_names its.event_outputs) twice))))

-- the events of a type have different names
kind_events_once : (lib : Library) (plan : Plan) (n : Name) (k : Kind) → ¬ (NameTwice lib plan) → type_named lib n ≡ Some k → (taken : Bool) → ¬ (Twice (events_of (ports_of k) taken))
kind_events_once lib plan n k once h taken =
    elim (named (λ (e : Name × EventKind). e.0) n event_blocks) as
    (λ o. elim o as (λ _. Option Kind) [ Some e ↦ Some (Event e.1) | None ↦ option_map kind_of (named type_name n lib.blocks) ] ≡ Some k → ¬ (Twice (events_of (ports_of k) taken))) [
      | Some e ↦ λ h.
          subst (λ (k : Kind). ¬ (Twice (events_of (ports_of k) taken))) (same_Some (Event e.1) k h)
          (event_block_once e.1 taken)
      | None ↦ λ h.
          (let from = map_parts kind_of (named type_name n lib.blocks) k h in
          subst (λ (k : Kind). ¬ (Twice (events_of (ports_of k) taken))) from.2
          (declared_once lib plan from.0 once (named-Contains type_name n lib.blocks from.0 from.1) taken))
    ] h

pub events_once : (i : Inputs) → AreAccepted i → (p : Path) (taken : Bool) → (let its : Ports = ports_at (system_of i) p in ¬ (Twice (event_names (if taken then its.event_inputs else its.event_outputs))))
events_once i accepted p taken =
    elim ((system_of i).kind p) as
    (λ o. (system_of i).kind p ≡ o → (let its : Ports = elim o [ None ↦ ports [] [] [] [] | Some k ↦ ports_of k ] in ¬ (Twice (event_names (if taken then its.event_inputs else its.event_outputs))))) [
      | None ↦ λ e. none_once taken
      | Some k ↦ λ e. (let n = type_of i.library p k e in kind_events_once i.library i.plan n.0 k (λ t. accepted 20 (inl (refl, t))) n.1 taken)
    ] refl
  where
    none_once : (b : Bool) → ¬ (Twice (event_names (if b then (ports [] [] [] []).event_inputs else (ports [] [] [] []).event_outputs)))
    none_once true t = t
    none_once false t = t

-- ---- No path is empty

some_below :
    (d : ℕ) (lib : Library) (p q : Path) → ((net : Network) → Contains (paths_inside d lib p net) q → 0 < length q) → (o : Option Network)
    → Contains (below d lib p o) q → 0 < length q
some_below d lib p q inner None c = absurd (Contains-nil q c)
some_below d lib p q inner (Some net) c = inner net c

some_inside : (d : ℕ) (lib : Library) (p : Path) (net : Network) (q : Path) → Contains (paths_inside d lib p net) q → 0 < length q
some_inside zero lib p net q c = absurd (Contains-nil q c)
some_inside (suc d) lib p net q c =
    let f = flat_map-Contains (paths_from d lib p) net.instances q c in
    elim (Contains-cons_cases (f.0.name ∷ p) (below d lib (f.0.name ∷ p) (inside lib f.0)) q f.2) [
      | inl e ↦ subst (λ (z : Path). 0 < length z) e (omega arith)
      | inr b ↦ some_below d lib (f.0.name ∷ p) q (λ net. some_inside d lib (f.0.name ∷ p) net q) (inside lib f.0) b
    ]

-- what is at an index of a list
pub there : {A : Type 0} (xs : List A) (k : ℕ) (d : A) → k < length xs → Contains xs (unwrap_or (slice_get xs k) d)
there [] k d h = absurd (omega (arith, h))
there (x ∷ xs) zero d h = Contains-here x xs
there (x ∷ xs) (suc k) d h = Contains-there x xs (unwrap_or (slice_get xs k) d) (there xs k d (omega (arith, h)))

pub path_some : (i : Inputs) (k : ℕ) → k < length (system_of i).paths → 0 < length (path_at (system_of i) k)
path_some i k h =
    some_inside 17 i.library [] i.library.application.network (path_at (system_of i) k) (there (paths_of i.library) k [] h)
