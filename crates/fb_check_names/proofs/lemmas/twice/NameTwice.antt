-- E20 is what a block type, the application's network or the deployment gives twice, or the block types together.
use Rattle.fb_types.proofs.Common.{◌≡◌, ◌⊎◌, List, [], ◌∷◌, ◌++◌, map, Some, None, Contains, sym, ap, subst, inl, inr, flat_map, Name, ports_of, kind_of, resource_names_of, Twice, OwnedNetwork, networks, networks_in, basics, basics_in, interfaces, block_type_names, port_names, algorithm_names, state_names, instance_names, with_lists, parameter_lists, name_spaces, NameTwice}
use Rattle.fb_types.specs.declared.library.Library.{Library}
use Rattle.fb_types.specs.declared.library.BlockType.{BlockType}
use Rattle.fb_types.specs.declared.library.BasicType.{BasicType}
use Rattle.fb_types.specs.declared.library.CompositeType.{CompositeType}
use Rattle.fb_types.specs.declared.deploy.Plan.{Plan}
use Rattle.fb_types.specs.declared.library.BlockType.TheVariants as block
use Rattle.fb_check_names.specs.GivenTwice.{TwiceIn, BlockTwice, NetworkTwice, PlanTwice, TypeTwice}
use Rattle.fb_types.proofs.lemmas.lists.Elements.{Contains-nil, Contains-cons_cases, Contains-here, Contains-there, Contains-flat_map, flat_map-Contains, Contains-map, map-Contains}
use Rattle.fb_check_names.proofs.lemmas.twice.TwiceIn.{TwiceIn-left, TwiceIn-right, TwiceIn-cases, TwiceIn-one, TwiceIn-only, TwiceIn-map, map-TwiceIn, TwiceIn-flat_map, flat_map-TwiceIn}

-- ---- The name spaces, one kind at a time

abbrev of_types : Library → List (List Name)
of_types lib = block_type_names lib ∷ []

abbrev of_ports : Library → List (List Name)
of_ports lib = map port_names lib.blocks

abbrev of_algorithms : Library → List (List Name)
of_algorithms lib = map algorithm_names (basics lib)

abbrev of_states : Library → List (List Name)
of_states lib = map state_names (basics lib)

abbrev of_instances : Library → List (List Name)
of_instances lib = map (λ (n : OwnedNetwork). instance_names n.1) (networks lib)

abbrev of_with : Library → List (List Name)
of_with lib = flat_map with_lists (interfaces lib)

abbrev of_parameters : Library → List (List Name)
of_parameters lib = flat_map (λ (n : OwnedNetwork). parameter_lists n.1) (networks lib)

abbrev of_resources : Plan → List (List Name)
of_resources plan = resource_names_of plan ∷ []

abbrev to_ports : Library → List (List Name)
to_ports lib = of_types lib ++ of_ports lib

abbrev to_algorithms : Library → List (List Name)
to_algorithms lib = to_ports lib ++ of_algorithms lib

abbrev to_states : Library → List (List Name)
to_states lib = to_algorithms lib ++ of_states lib

abbrev to_instances : Library → List (List Name)
to_instances lib = to_states lib ++ of_instances lib

abbrev to_with : Library → List (List Name)
to_with lib = to_instances lib ++ of_with lib

abbrev to_parameters : Library → List (List Name)
to_parameters lib = to_with lib ++ of_parameters lib

-- ---- What is twice in them gives E20

from_parameters : (lib : Library) (plan : Plan) → TwiceIn (to_parameters lib) → NameTwice lib plan
from_parameters lib plan t = inl (TwiceIn-left (to_parameters lib) (of_resources plan) t)

from_with : (lib : Library) (plan : Plan) → TwiceIn (to_with lib) → NameTwice lib plan
from_with lib plan t = from_parameters lib plan (TwiceIn-left (to_with lib) (of_parameters lib) t)

from_instances : (lib : Library) (plan : Plan) → TwiceIn (to_instances lib) → NameTwice lib plan
from_instances lib plan t = from_with lib plan (TwiceIn-left (to_instances lib) (of_with lib) t)

from_states : (lib : Library) (plan : Plan) → TwiceIn (to_states lib) → NameTwice lib plan
from_states lib plan t = from_instances lib plan (TwiceIn-left (to_states lib) (of_instances lib) t)

from_algorithms : (lib : Library) (plan : Plan) → TwiceIn (to_algorithms lib) → NameTwice lib plan
from_algorithms lib plan t = from_states lib plan (TwiceIn-left (to_algorithms lib) (of_states lib) t)

from_ports : (lib : Library) (plan : Plan) → TwiceIn (to_ports lib) → NameTwice lib plan
from_ports lib plan t = from_algorithms lib plan (TwiceIn-left (to_ports lib) (of_algorithms lib) t)

-- ---- Parts of a declaration

basic_in : (ts : List BlockType) (t : BasicType) → Contains ts (block.Basic t) → Contains (flat_map basics_in ts) t
basic_in ts t c = Contains-flat_map basics_in ts (block.Basic t) t c (Contains-here t [])

basic_of : (t : BlockType) (b : BasicType) → Contains (basics_in t) b → t ≡ block.Basic b
basic_of (block.Basic t) b c =
    elim (Contains-cons_cases t [] b c) [ inl e ↦ ap block.Basic e | inr none ↦ absurd (Contains-nil b none) ]
basic_of (block.Composite t) b c = absurd (Contains-nil b c)

in_basics : (ts : List BlockType) (b : BasicType) → Contains (flat_map basics_in ts) b → Contains ts (block.Basic b)
in_basics ts b c =
    let r = flat_map-Contains basics_in ts b c in
    subst (λ (t : BlockType). Contains ts t) (basic_of r.0 b r.2) r.1

abbrev owned : CompositeType → OwnedNetwork
owned t = (Some t, t.network)

network_in : (lib : Library) (t : CompositeType) → Contains lib.blocks (block.Composite t) → Contains (networks lib) (owned t)
network_in lib t c =
    Contains-there (None, lib.application.network) (flat_map networks_in lib.blocks) (owned t)
    (Contains-flat_map networks_in lib.blocks (block.Composite t) (owned t) c (Contains-here (owned t) []))

application_in : (lib : Library) → Contains (networks lib) (None, lib.application.network)
application_in lib = Contains-here (None, lib.application.network) (flat_map networks_in lib.blocks)

-- ---- A part that gives something twice

pub types_twice : (lib : Library) (plan : Plan) → TypeTwice lib.blocks → NameTwice lib plan
types_twice lib plan t = from_ports lib plan (TwiceIn-left (of_types lib) (of_ports lib) (TwiceIn-one (block_type_names lib) t))

ports_twice : (lib : Library) (plan : Plan) (t : BlockType) → Contains lib.blocks t → Twice (port_names t) → NameTwice lib plan
ports_twice lib plan t c twice = from_ports lib plan (TwiceIn-right (of_types lib) (of_ports lib) (TwiceIn-map port_names lib.blocks t c twice))

with_twice : (lib : Library) (plan : Plan) (t : BlockType) → Contains lib.blocks t → TwiceIn (with_lists (ports_of (kind_of t))) → NameTwice lib plan
with_twice lib plan t c twice =
    from_with lib plan (TwiceIn-right (to_instances lib) (of_with lib)
    (TwiceIn-flat_map with_lists (interfaces lib) (ports_of (kind_of t)) (Contains-map (λ (t : BlockType). ports_of (kind_of t)) lib.blocks t c) twice))

owned_twice : (lib : Library) (plan : Plan) (n : OwnedNetwork) → Contains (networks lib) n → NetworkTwice n.1 → NameTwice lib plan
owned_twice lib plan n c twice =
    elim twice [
      | inl t ↦ from_instances lib plan (TwiceIn-right (to_states lib) (of_instances lib) (TwiceIn-map (λ (n : OwnedNetwork). instance_names n.1) (networks lib) n c t))
      | inr rest ↦ elim rest [
        | inl t ↦ from_parameters lib plan (TwiceIn-right (to_with lib) (of_parameters lib) (TwiceIn-flat_map (λ (n : OwnedNetwork). parameter_lists n.1) (networks lib) n c t))
        | inr t ↦ inr (inl (n, c, t))
      ]
    ]

pub network_twice : (lib : Library) (plan : Plan) → NetworkTwice lib.application.network → NameTwice lib plan
network_twice lib plan twice = owned_twice lib plan (None, lib.application.network) (application_in lib) twice

pub block_twice : (lib : Library) (plan : Plan) (t : BlockType) → Contains lib.blocks t → BlockTwice t → NameTwice lib plan
block_twice lib plan (block.Basic t) c twice =
    elim twice [
      | inl ports ↦ elim ports [ inl p ↦ ports_twice lib plan (block.Basic t) c p | inr w ↦ with_twice lib plan (block.Basic t) c w ]
      | inr rest ↦ elim rest [
        | inl s ↦ from_states lib plan (TwiceIn-right (to_algorithms lib) (of_states lib) (TwiceIn-map state_names (basics lib) t (basic_in lib.blocks t c) s))
        | inr a ↦ from_algorithms lib plan (TwiceIn-right (to_ports lib) (of_algorithms lib) (TwiceIn-map algorithm_names (basics lib) t (basic_in lib.blocks t c) a))
      ]
    ]
block_twice lib plan (block.Composite t) c twice =
    elim twice [
      | inl ports ↦ elim ports [ inl p ↦ ports_twice lib plan (block.Composite t) c p | inr w ↦ with_twice lib plan (block.Composite t) c w ]
      | inr n ↦ owned_twice lib plan (owned t) (network_in lib t c) n
    ]

pub plan_twice : (lib : Library) (plan : Plan) → PlanTwice plan → NameTwice lib plan
plan_twice lib plan twice =
    elim twice [
      | inl r ↦ inl (TwiceIn-right (to_parameters lib) (of_resources plan) (TwiceIn-one (resource_names_of plan) r))
      | inr l ↦ inr (inr l)
    ]

-- ---- If no part does, there is no E20

-- No part gives anything twice.
pub record ArePartsOnce (lib : Library) (plan : Plan) : Type 0 where
  pub types : ¬ (TypeTwice lib.blocks)
  pub blocks : (t : BlockType) → Contains lib.blocks t → ¬ (BlockTwice t)
  pub network : ¬ (NetworkTwice lib.application.network)
  pub deployment : ¬ (PlanTwice plan)

-- what a basic type gives twice, from a test that its parts pass
in_basic : (lib : Library) (plan : Plan) (b : BasicType) → ArePartsOnce lib plan → Contains (basics lib) b → Twice (state_names b) ⊎ Twice (algorithm_names b) → ⊥
in_basic lib plan b once c t = once.blocks (block.Basic b) (in_basics lib.blocks b c) (inr t)

port_once : (lib : Library) (plan : Plan) (t : BlockType) → ArePartsOnce lib plan → Contains lib.blocks t → ¬ (Twice (port_names t))
port_once lib plan (block.Basic b) once c t = once.blocks (block.Basic b) c (inl (inl t))
port_once lib plan (block.Composite b) once c t = once.blocks (block.Composite b) c (inl (inl t))

with_once : (lib : Library) (plan : Plan) (t : BlockType) → ArePartsOnce lib plan → Contains lib.blocks t → ¬ (TwiceIn (with_lists (ports_of (kind_of t))))
with_once lib plan (block.Basic b) once c t = once.blocks (block.Basic b) c (inl (inr t))
with_once lib plan (block.Composite b) once c t = once.blocks (block.Composite b) c (inl (inr t))

inside_once : (lib : Library) (plan : Plan) (t : BlockType) (n : OwnedNetwork) → ArePartsOnce lib plan → Contains lib.blocks t → Contains (networks_in t) n → ¬ (NetworkTwice n.1)
inside_once lib plan (block.Basic b) n once c h t = Contains-nil n h
inside_once lib plan (block.Composite b) n once c h t =
    elim (Contains-cons_cases (owned b) [] n h) [
      | inl e ↦ once.blocks (block.Composite b) c (inr (subst (λ (n : OwnedNetwork). NetworkTwice n.1) (sym e) t))
      | inr none ↦ Contains-nil n none
    ]

owned_once : (lib : Library) (plan : Plan) (n : OwnedNetwork) → ArePartsOnce lib plan → Contains (networks lib) n → ¬ (NetworkTwice n.1)
owned_once lib plan n once c t =
    elim (Contains-cons_cases (None, lib.application.network) (flat_map networks_in lib.blocks) n c) [
      | inl e ↦ once.network (subst (λ (n : OwnedNetwork). NetworkTwice n.1) (sym e) t)
      | inr rest ↦
          let r = flat_map-Contains networks_in lib.blocks n rest in
          inside_once lib plan r.0 n once r.1 r.2 t
    ]

types_and_ports_once : (lib : Library) (plan : Plan) → ArePartsOnce lib plan → ¬ (TwiceIn (to_ports lib))
types_and_ports_once lib plan once t =
    elim (TwiceIn-cases (of_types lib) (of_ports lib) t) [
      | inl a ↦ once.types (TwiceIn-only (block_type_names lib) a)
      | inr b ↦ let r = map-TwiceIn port_names lib.blocks b in port_once lib plan r.0 once r.1 r.2
    ]

to_states_once : (lib : Library) (plan : Plan) → ArePartsOnce lib plan → ¬ (TwiceIn (to_states lib))
to_states_once lib plan once t =
    elim (TwiceIn-cases (to_algorithms lib) (of_states lib) t) [
      | inl a ↦ elim (TwiceIn-cases (to_ports lib) (of_algorithms lib) a) [
        | inl p ↦ types_and_ports_once lib plan once p
        | inr q ↦ let r = map-TwiceIn algorithm_names (basics lib) q in in_basic lib plan r.0 once r.1 (inr r.2)
      ]
      | inr b ↦ let r = map-TwiceIn state_names (basics lib) b in in_basic lib plan r.0 once r.1 (inl r.2)
    ]

to_with_once : (lib : Library) (plan : Plan) → ArePartsOnce lib plan → ¬ (TwiceIn (to_with lib))
to_with_once lib plan once t =
    elim (TwiceIn-cases (to_instances lib) (of_with lib) t) [
      | inl a ↦ elim (TwiceIn-cases (to_states lib) (of_instances lib) a) [
        | inl s ↦ to_states_once lib plan once s
        | inr i ↦ let r = map-TwiceIn (λ (n : OwnedNetwork). instance_names n.1) (networks lib) i in owned_once lib plan r.0 once r.1 (inl r.2)
      ]
      | inr w ↦
          let r = flat_map-TwiceIn with_lists (interfaces lib) w in
          let s = map-Contains (λ (t : BlockType). ports_of (kind_of t)) lib.blocks r.0 r.1 in
          with_once lib plan s.0 once s.1 (subst (λ (p : _). TwiceIn (with_lists p)) (sym s.2) r.2)
    ]

spaces_once : (lib : Library) (plan : Plan) → ArePartsOnce lib plan → ¬ (TwiceIn (name_spaces lib plan))
spaces_once lib plan once t =
    elim (TwiceIn-cases (to_parameters lib) (of_resources plan) t) [
      | inl a ↦ elim (TwiceIn-cases (to_with lib) (of_parameters lib) a) [
        | inl w ↦ to_with_once lib plan once w
        | inr p ↦ let r = flat_map-TwiceIn (λ (n : OwnedNetwork). parameter_lists n.1) (networks lib) p in owned_once lib plan r.0 once r.1 (inr (inl r.2))
      ]
      | inr r ↦ once.deployment (inl (TwiceIn-only (resource_names_of plan) r))
    ]

pub name_once : (lib : Library) (plan : Plan) → ArePartsOnce lib plan → ¬ (NameTwice lib plan)
name_once lib plan once t =
    elim t [
      | inl a ↦ spaces_once lib plan once a
      | inr b ↦ elim b [
        | inl c ↦ owned_once lib plan c.0 once c.1 (inr (inr c.2))
        | inr l ↦ once.deployment (inr l)
      ]
    ]
