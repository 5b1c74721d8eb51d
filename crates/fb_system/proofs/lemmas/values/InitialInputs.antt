-- The initial values of the variables of an instance, for the inputs that a system represents.
use Rattle.fb_system.proofs.lemmas.Common.{◌≡◌, ℕ, List, [], map, Option, Some, None, refl, sym, ◌∙◌, ap, subst, option_and_then, Path, Kind, initial_of, ports, ports_of, variable_names, instance_at, kind_at, kind_of_instance, Inputs, system_of, path_at, ports_at, Twice, data_ins, Instance, Library, Ports, each_or_none, parameter_numbers, index_of, path_of, parameter_names, inputs_of, Whole}
use Rattle.fb_types.proofs.Common.{AreAccepted}
use Rattle.fb_types.specs.declared.library.Parameter.{Parameter}
use Rattle.fb_types.specs.Flat.{initial_at}
use Rattle.fb_system.specs.Begins.{begins_with}
use Rattle.fb_system.proofs.lemmas.values.InitialValues.{inputs_begin, outputs_begin}
use Rattle.fb_system.proofs.lemmas.types.Naming.{inputs_once, parameters_once, parameters_placed}
use Rattle.fb_system.specs.Stimuli.{initial_inputs, initial_outputs}
use Rattle.fb_system.proofs.lemmas.inputs.TablesOfInputs.{known_of, library_seen, once_of}

abbrev ports_from : Option Kind → Ports
ports_from o = elim o [ None ↦ ports [] [] [] [] | Some k ↦ ports_of k ]

-- ---- Outputs

kind_known : (lib : Library) (q : Path) (k : Kind) → kind_at lib q ≡ Some k → (x : Instance) × (instance_at lib q ≡ Some x) × (kind_of_instance lib x ≡ Some k)
kind_known lib q k h =
    elim (instance_at lib q) as
    (λ o. instance_at lib q ≡ o → option_and_then (kind_of_instance lib) o ≡ Some k → (x : Instance) × (instance_at lib q ≡ Some x) × (kind_of_instance lib x ≡ Some k)) [
      | None ↦ λ _ h. absurd (cc)
      | Some x ↦ λ e h. (x, e, h)
    ] refl h

outputs_stand : (i : Inputs) (q : Path) → AreAccepted i → initial_outputs (system_of i) q ≡ map initial_of (ports_at (system_of i) q).outputs
outputs_stand i q ok =
    elim (kind_at i.library q) as
    (λ o. kind_at i.library q ≡ o
    → map (λ n. initial_at i.library (record { at = q; name = n })) (variable_names (ports_from o).outputs) ≡ map initial_of (ports_from o).outputs) [
      | None ↦ λ _. refl
      | Some k ↦ λ e.
          let x = kind_known i.library q k e in
          outputs_begin i.library i.plan q x.0 k (once_of i ok) (known_of i ok) x.1 x.2
    ] refl

pub outputs_begun :
    (i : Inputs) (q : Path) (p : Ports) → AreAccepted i → p ≡ ports_at (system_of i) q → map initial_of p.outputs ≡ initial_outputs (system_of i) q
outputs_begun i q p ok is = ap (λ (p : Ports). map initial_of p.outputs) is ∙ sym (outputs_stand i q ok)

-- ---- Inputs

-- What `input_values` takes and returns.
pub record IsBegun (i : Inputs) (q : Path) (p : Ports) (xs : List Parameter) (ks : List ℕ) : Type 0 where
  pub indexes : each_or_none (λ (x : Parameter). index_of (data_ins p) x.name) xs ≡ Some ks
  pub inputs : ¬ (Twice (variable_names p.inputs))
  pub parameters : ¬ (Twice (parameter_names xs))
  pub begins : begins_with p xs ≡ initial_inputs (system_of i) q

kind_there : (lib : Library) (x : Instance) (ks : List ℕ) → parameter_numbers lib x ≡ Some ks → (k : Kind) × (kind_of_instance lib x ≡ Some k)
kind_there lib x ks h =
    elim (kind_of_instance lib x) as
    (λ o. elim o as (λ _. Option (List ℕ)) [ None ↦ None | Some k ↦ each_or_none (λ x. index_of (data_ins (ports_of k)) x.name) x.parameters ] ≡ Some ks
    → (k : Kind) × (o ≡ Some k)) [
      | None ↦ λ h. absurd (cc)
      | Some k ↦ λ _. (k, refl)
    ] h

ports_there :
    (i : Inputs) (q : Path) (x : Instance) (k : Kind) → instance_at i.library q ≡ Some x → kind_of_instance i.library x ≡ Some k → ports_of k ≡ ports_at (system_of i) q
ports_there i q x k at of =
    let e : kind_at i.library q ≡ Some k = ap (option_and_then (kind_of_instance i.library)) at ∙ of in
    sym (ap ports_from e)

begun :
    (i : Inputs) (q : Path) (x : Instance) (ks : List ℕ) (k : Kind) → AreAccepted i → instance_at i.library q ≡ Some x → parameter_numbers i.library x ≡ Some ks
    → kind_of_instance i.library x ≡ Some k → IsBegun i q (ports_of k) x.parameters ks
begun i q x ks k ok at h of =
    record {
      indexes = parameters_placed i.library x k ks of h;
      inputs = inputs_once i.library i.plan x.block_type k (once_of i ok) of;
      parameters = parameters_once i.library i.plan q x (once_of i ok) at;
      begins =
          sym (inputs_begin i.library i.plan q x k (once_of i ok) at of)
          ∙ ap (λ (p : Ports). map (λ n. initial_at i.library (record { at = q; name = n })) (variable_names p.inputs)) (ports_there i q x k at of);
    }

inputs_begun :
    (i : Inputs) (q : Path) (p : Ports) (x : Instance) (xs : List Parameter) (ks : List ℕ) → AreAccepted i → instance_at i.library q ≡ Some x
    → parameter_numbers i.library x ≡ Some ks → p ≡ ports_at (system_of i) q → xs ≡ x.parameters → IsBegun i q p xs ks
inputs_begun i q p x xs ks ok at h is read =
    let k = kind_there i.library x ks h in
    let same : ports_of k.0 ≡ p = ports_there i q x k.0 at k.1 ∙ sym is in
    subst (λ (p : Ports). IsBegun i q p xs ks) same
    (subst (λ (xs : List Parameter). IsBegun i q (ports_of k.0) xs ks) (sym read) (begun i q x ks k.0 ok at h k.1))

-- ---- As the tables have it

abbrev NumbersAt : Library → (instance : ℕ) → List ℕ → Type 0
NumbersAt lib n ks = (x : Instance) → instance_at lib (path_of lib n) ≡ Some x → parameter_numbers lib x ≡ Some ks

pub inputs_seen :
    (v w : Whole) (i : Inputs) (n : ℕ) (p : Ports) (x : Instance) (xs : List Parameter) (ks : List ℕ) → v ≡ w → inputs_of w ≡ i → AreAccepted i
    → instance_at v.netlist (path_of v.netlist n) ≡ Some x → NumbersAt v.netlist n ks → p ≡ ports_at (system_of i) (path_at (system_of i) n) → xs ≡ x.parameters
    → IsBegun i (path_at (system_of i) n) p xs ks
inputs_seen v w i n p x xs ks e s ok at numbers is read =
    let lib = library_seen v w i e s in
    let there : instance_at i.library (path_of i.library n) ≡ Some x = subst (λ (lib : Library). instance_at lib (path_of lib n) ≡ Some x) lib at in
    let given : NumbersAt i.library n ks = subst (λ (lib : Library). NumbersAt lib n ks) lib numbers in
    inputs_begun i (path_at (system_of i) n) p x xs ks ok there (given x there) is read
