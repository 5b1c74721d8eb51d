-- The interfaces of types, for the inputs that a system represents.
use Rattle.fb_system.proofs.lemmas.Common.{◌≡◌, ℕ, ◌<◌, List, [], length, get_or, Option, Some, None, refl, sym, ◌∙◌, ap, subst, arith, option_map, slice_get, same_Some, slice_get_read, Kind, ports, ports_of, kind_at, kind_of, Inputs, system_of, path_at, ports_at, BlockType, Library, Ports, kind_of_number, TypeNumber, path_of, AreIndexes, AreWithIndexes, WithIndexes, inputs_of, Whole}
use Rattle.fb_types.proofs.Common.{inputs_with, outputs_with, event_at}
use Rattle.fb_check_names.specs.declared.numbers.TypeNumber.TheVariants as number
use Rattle.fb_system.proofs.lemmas.inputs.TablesOfInputs.{library_seen}
use Rattle.fb_types.proofs.lemmas.lists.Options.{map_parts}

-- ---- Types of the declaration

pub declared_indexes :
    (lib : Library) (t : TypeNumber) (index : ℕ) (x : WithIndexes) (k : Kind) → t ≡ number.Declared index
    → ((b : BlockType) → slice_get lib.blocks index ≡ Some b → AreWithIndexes (ports_of (kind_of b)) x) → kind_of_number lib t ≡ Some k
    → AreWithIndexes (ports_of k) x
declared_indexes lib t index x k is all h =
    let b = map_parts kind_of (slice_get lib.blocks index) k (ap (kind_of_number lib) (sym is) ∙ h) in
    subst (λ (k : Kind). AreWithIndexes (ports_of k) x) b.2 (all b.0 b.1)

-- ---- The type of an instance

interface_is : (o : Option Kind) (p : Ports) → option_map ports_of o ≡ Some p → p ≡ elim o [ None ↦ ports [] [] [] [] | Some k ↦ ports_of k ]
interface_is None p h = absurd (cc)
interface_is (Some k) p h = sym (same_Some (ports_of k) p h)

pub ports_of_instance :
    (v w : Whole) (i : Inputs) (n : ℕ) (t : TypeNumber) (p : Ports) → v ≡ w → inputs_of w ≡ i → kind_of_number v.netlist t ≡ kind_at v.netlist (path_of v.netlist n)
    → option_map ports_of (kind_of_number v.netlist t) ≡ Some p → p ≡ ports_at (system_of i) (path_at (system_of i) n)
ports_of_instance v w i n t p e s is h =
    interface_is (kind_at i.library (path_of i.library n)) p
    (subst (λ (lib : Library). option_map ports_of (kind_at lib (path_of lib n)) ≡ Some p) (library_seen v w i e s) (ap (option_map ports_of) (sym is) ∙ h))

pub with_indexes_of_instance :
    (v w : Whole) (i : Inputs) (n : ℕ) (t : TypeNumber) (x : WithIndexes) → v ≡ w → inputs_of w ≡ i → kind_of_number v.netlist t ≡ kind_at v.netlist (path_of v.netlist n)
    → (k : Kind) × (kind_of_number v.netlist t ≡ Some k) → ((k : Kind) → kind_of_number v.netlist t ≡ Some k → AreWithIndexes (ports_of k) x)
    → AreWithIndexes (ports_at (system_of i) (path_at (system_of i) n)) x
with_indexes_of_instance v w i n t x e s is known all =
    let same : ports_of known.0 ≡ ports_at (system_of i) (path_at (system_of i) n) =
    ports_of_instance v w i n t (ports_of known.0) e s is (ap (option_map ports_of) known.1) in
    subst (λ (p : Ports). AreWithIndexes p x) same (all known.0 known.1)

-- ---- The variables WITH an event

pub inputs_read :
    (its : Ports) (x : WithIndexes) (e : ℕ) (all : List (List ℕ)) (ks ls : List ℕ) → AreWithIndexes its x → e < length its.event_inputs → all ≡ x.inputs
    → ks ≡ get_or all e ks → ls ≡ ks → AreIndexes its.inputs (inputs_with its (event_at its.event_inputs e)) ls
inputs_read its x e all ks ls are h same read out =
    let within : e < length x.inputs = omega (arith, h, are.inputs_counted) in
    let there : slice_get x.inputs e ≡ Some ks =
    slice_get_read x.inputs (length x.inputs) e ks refl within (subst (λ (l : List (List ℕ)). ks ≡ get_or l e ks) same read) in
    subst (λ (l : List ℕ). AreIndexes its.inputs (inputs_with its (event_at its.event_inputs e)) l) (sym out) (are.inputs e ks there)

pub outputs_read :
    (its : Ports) (x : WithIndexes) (e : ℕ) (all : List (List ℕ)) (ks ls : List ℕ) → AreWithIndexes its x → e < length its.event_outputs → all ≡ x.outputs
    → ks ≡ get_or all e ks → ls ≡ ks → AreIndexes its.outputs (outputs_with its (event_at its.event_outputs e)) ls
outputs_read its x e all ks ls are h same read out =
    let within : e < length x.outputs = omega (arith, h, are.outputs_counted) in
    let there : slice_get x.outputs e ≡ Some ks =
    slice_get_read x.outputs (length x.outputs) e ks refl within (subst (λ (l : List (List ℕ)). ks ≡ get_or l e ks) same read) in
    subst (λ (l : List ℕ). AreIndexes its.outputs (outputs_with its (event_at its.event_outputs e)) l) (sym out) (are.outputs e ks there)
