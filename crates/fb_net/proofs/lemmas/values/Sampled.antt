-- What a source shows is what the model says of its port.
use Rattle.fb_net.proofs.lemmas.Common.{◌≡◌, ◌≢◌, ◌==◌, [], true, false, Contains, refl, ap, sym, ◌∙◌, subst, inl, arith, nat_tests, Option, Some, None, if◌then◌else◌, unwrap_or, Kind, ports, ports_of, variable_names, AreAccepted, Inputs, system_of, path_at, World, Ports, Value, InstanceVariable, IsVariable, variable_of, held_at, InForest, Forest}
use Rattle.fb_types.proofs.Common.{shown, zero_value}
use Rattle.fb_types.specs.Reactions.{is_input_of, seen}
use Rattle.fb_types.proofs.lemmas.names.NameLaws.{any_from_contains}
use Rattle.fb_system.specs.Ports.{IsSource, variables_at}
use Rattle.fb_net.specs.Changes.{ShowsInside}
use Rattle.fb_net.specs.Worlds.{IsComposite, Reads, Samples, Sees, Shows}
use Rattle.fb_net.proofs.lemmas.values.NamesDiffer.{kind_apart}
use Rattle.fb_types.proofs.lemmas.lists.ByIndex.{element_of_index}
use Rattle.fb_net.proofs.lemmas.values.ShownValues.{at_is, name_there}

module _ (i : Inputs) (x : InstanceVariable) (variable : IsVariable (system_of i) x) where
  named : Contains (variable_names (variables_at (system_of i) x)) (variable_of (system_of i) x).name
  named = element_of_index (variable_names (variables_at (system_of i) x)) x.variable (variable_of (system_of i) x).name (name_there (system_of i) x variable)

  of_kind : (k : Kind) → (system_of i).kind (path_at (system_of i) x.instance) ≡ Some k →
      variables_at (system_of i) x ≡ (if x.is_output then (ports_of k).outputs else (ports_of k).inputs)
  of_kind k e =
      ap (λ o. let its : Ports = elim o [ None ↦ ports [] [] [] [] | Some j ↦ ports_of j ] in if x.is_output then its.outputs else its.inputs) e

  output_name : AreAccepted i → x.is_output ≡ true → (k : Option Kind) → (system_of i).kind (path_at (system_of i) x.instance) ≡ k →
      is_input_of k (variable_of (system_of i) x).name ≡ false
  output_name accepted out None e = refl
  output_name accepted out (Some k) e =
      (kind_apart i.library i.plan (λ t. accepted 20 (inl (refl, t))) (path_at (system_of i) x.instance) k e).apart (variable_of (system_of i) x).name
      (subst (λ vs. Contains (variable_names vs) (variable_of (system_of i) x).name)
      (of_kind k e ∙ ap (λ b. if b then (ports_of k).outputs else (ports_of k).inputs) out) named)

  input_name : x.is_output ≡ false → (k : Kind) → (system_of i).kind (path_at (system_of i) x.instance) ≡ Some k →
      is_input_of ((system_of i).kind (path_at (system_of i) x.instance)) (variable_of (system_of i) x).name ≡ true
  input_name into k e =
      ap (λ o. is_input_of o (variable_of (system_of i) x).name) e
      ∙ any_from_contains (variable_of (system_of i) x).name (variable_names (ports_of k).inputs)
      (subst (λ vs. Contains (variable_names vs) (variable_of (system_of i) x).name)
      (of_kind k e ∙ ap (λ b. if b then (ports_of k).outputs else (ports_of k).inputs) into) named)

  at_own_path : is_input_of ((system_of i).kind (variable_of (system_of i) x).at) (variable_of (system_of i) x).name ≡ is_input_of ((system_of i).kind (path_at (system_of i) x.instance)) (variable_of (system_of i) x).name
  at_own_path = ap (λ p. is_input_of ((system_of i).kind p) (variable_of (system_of i) x).name) (at_is (system_of i) x)

  pub output_seen : AreAccepted i → x.is_output ≡ true → (w : World) →
      (w.blocks (variable_of (system_of i) x).at).published (variable_of (system_of i) x).name ≡ seen (system_of i) w (variable_of (system_of i) x)
  output_seen accepted out w =
      sym (ap (λ b. if b then (w.blocks (variable_of (system_of i) x).at).variables (variable_of (system_of i) x).name
      else (w.blocks (variable_of (system_of i) x).at).published (variable_of (system_of i) x).name)
      (at_own_path ∙ output_name accepted out ((system_of i).kind (path_at (system_of i) x.instance)) refl))

  pub input_seen : x.is_output ≡ false → IsComposite (system_of i) x → (w : World) →
      (w.blocks (variable_of (system_of i) x).at).variables (variable_of (system_of i) x).name ≡ seen (system_of i) w (variable_of (system_of i) x)
  input_seen into composite w =
      sym (ap (λ b. if b then (w.blocks (variable_of (system_of i) x).at).variables (variable_of (system_of i) x).name
      else (w.blocks (variable_of (system_of i) x).at).published (variable_of (system_of i) x).name)
      (at_own_path ∙ input_name into _ composite.1))

-- ---- Where a source is

-- a source in the resource shows what connections see at it
pub shown_here : (i : Inputs) (t : Forest) (x : InstanceVariable) (v : Value) → InForest i t x.instance → Sees i t x v → Shows i t x v
shown_here i t x v lies sees w tree read is_source =
    let sys = system_of i in
    let q = variable_of sys x in
    let at : sys.resource q.at ≡ t.resource = ap sys.resource (at_is sys x) ∙ lies in
    let test : (sys.resource q.at == t.resource) ≡ true = grind (arith, nat_tests) in
    sees w tree lies is_source ∙ sym (ap (λ b. if b then seen sys w q else w.held q) test)

-- a source in another resource shows its held copy
pub shown_away : (i : Inputs) (t : Forest) (x : InstanceVariable) (v : Value) → IsVariable (system_of i) x → (InForest i t x.instance → ⊥) → v ≡ unwrap_or (held_at t.held x) zero_value
    → Shows i t x v
shown_away i t x v variable away is w tree read is_source =
    let sys = system_of i in
    let q = variable_of sys x in
    let apart : sys.resource q.at ≢ t.resource = λ e. away (sym (ap sys.resource (at_is sys x)) ∙ e) in
    let test : (sys.resource q.at == t.resource) ≡ false = grind (arith, nat_tests) in
    is ∙ ap (λ o. unwrap_or o zero_value) (tree.held x variable read away) ∙ sym (ap (λ b. if b then seen sys w q else w.held q) test)

pub source_sampled :
    (i : Inputs) (t : Forest) (x s : InstanceVariable) (v : Value) → IsVariable (system_of i) x → IsSource (system_of i) s →
    Some (variable_of (system_of i) s) ≡ (system_of i).source (variable_of (system_of i) x) → Shows i t s v → Samples i t x v
source_sampled i t x s v is_x is_s comes shows w tree within =
    shows w tree (record { to = x; variable = is_x; within = within; source = sym comes }) is_s
    ∙ ap (λ o. elim o [ None ↦ (w.blocks (variable_of (system_of i) x).at).slots (variable_of (system_of i) x).name | Some q ↦ shown (system_of i) t.resource w q ]) comes

-- the same for a data output of a composite, from inside
pub source_inside :
    (i : Inputs) (t : Forest) (x s : InstanceVariable) (v : Value) → IsVariable (system_of i) x → IsSource (system_of i) s →
    Some (variable_of (system_of i) s) ≡ (system_of i).source (variable_of (system_of i) x) → Shows i t s v → ShowsInside i t x v
source_inside i t x s v is_x is_s comes shows w tree within =
    shows w tree (record { to = x; variable = is_x; within = within; source = sym comes }) is_s
    ∙ ap (λ o. elim o [ None ↦ (w.blocks (variable_of (system_of i) x).at).published (variable_of (system_of i) x).name | Some q ↦ shown (system_of i) t.resource w q ]) comes

-- without a source a data input has what a stimulus has set
pub slot_sampled :
    (i : Inputs) (t : Forest) (x : InstanceVariable) (v : Value) → None ≡ (system_of i).source (variable_of (system_of i) x) → Reads i t x (λ b. b.slots) v → Samples i t x v
slot_sampled i t x v comes reads w tree within =
    reads w tree within
    ∙ ap (λ o. elim o [ None ↦ (w.blocks (variable_of (system_of i) x).at).slots (variable_of (system_of i) x).name | Some q ↦ shown (system_of i) t.resource w q ]) comes

-- without a source a data output of a composite shows what it showed before
pub published_inside :
    (i : Inputs) (t : Forest) (x : InstanceVariable) (v : Value) → None ≡ (system_of i).source (variable_of (system_of i) x) → Reads i t x (λ b. b.published) v → ShowsInside i t x v
published_inside i t x v comes reads w tree within =
    reads w tree within
    ∙ ap (λ o. elim o [ None ↦ (w.blocks (variable_of (system_of i) x).at).published (variable_of (system_of i) x).name | Some q ↦ shown (system_of i) t.resource w q ]) comes
