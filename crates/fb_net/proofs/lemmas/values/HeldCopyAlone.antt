-- A held copy changes alone: different variables of an accepted system have different numbers.
use Rattle.fb_net.proofs.lemmas.Common.{◌≡◌, ℕ, ◌<◌, [], length, Bool, true, false, Contains, refl, ap, sym, ◌∙◌, inl, true≢false, Some, None, slice_get, if◌then◌else◌, Name, Path, Port, same_name, same_path, ports, ports_of, variable_names, AreAccepted, Inputs, system_of, path_at, World, Ports, Value, InstanceVariable, IsVariable, variable_of, IsSet, held_at, HeldCopies, Forest}
use Rattle.fb_types.proofs.Common.{◌&&◌, same_port}
use Rattle.fb_types.proofs.lemmas.names.PathLaws.{same_path_is, same_path_itself}
use Rattle.fb_types.proofs.lemmas.names.NameLaws.{any_from_contains, same_from_same_name, same_name-itself}
use Rattle.fb_types.proofs.lemmas.lists.Elements.{Contains-nil}
use Rattle.fb_net.specs.Changes.{Holds}
use Rattle.fb_net.specs.Worlds.{input_names, output_names}
use Rattle.fb_types.proofs.lemmas.lists.ByIndex.{element_of_index}
use Rattle.fb_net.proofs.lemmas.values.NamesDiffer.{kind_apart}
use Rattle.fb_net.proofs.lemmas.values.ShownValues.{at_is}
use Rattle.fb_net.proofs.lemmas.values.Writing.{input_there, inputs_once, one_index, output_there, outputs_once}

both : (a b : Bool) → (a && b) ≡ true → (a ≡ true) × (b ≡ true)
both true b e = (refl, e)
both false b e = absurd (true≢false (sym e))

same_index : (x y : InstanceVariable) → x.instance ≡ y.instance → x.variable ≡ y.variable → x.is_output ≡ y.is_output → x ≡ y
same_index x y instances variables sides = λ i. record { instance = instances i; variable = variables i; is_output = sides i }

-- ---- Variables

never_both : (i : Inputs) → AreAccepted i → (p : Path) (n : Name) → Contains (output_names (system_of i) p) n → Contains (input_names (system_of i) p) n → ⊥
never_both i accepted p n =
    elim ((system_of i).kind p) as
    (λ o. (system_of i).kind p ≡ o →
    (let its : Ports = elim o [ None ↦ ports [] [] [] [] | Some k ↦ ports_of k ] in Contains (variable_names its.outputs) n → Contains (variable_names its.inputs) n → ⊥)) [
      | None ↦ λ e out into. Contains-nil n out
      | Some k ↦ λ e out into.
          true≢false (sym (any_from_contains n (variable_names (ports_of k).inputs) into) ∙ (kind_apart i.library i.plan (λ t. accepted 20 (inl (refl, t))) p k e).apart n out)
    ] refl

module _ (i : Inputs) (accepted : AreAccepted i) (numbered : (k : ℕ) → k < length (system_of i).paths → (system_of i).number (path_at (system_of i) k) ≡ k) where
  module _ (x y : InstanceVariable) (is_x : IsVariable (system_of i) x) (is_y : IsVariable (system_of i) y) (paths : path_at (system_of i) x.instance ≡ path_at (system_of i) y.instance)
      (names : (variable_of (system_of i) x).name ≡ (variable_of (system_of i) y).name) where
    same_instance : x.instance ≡ y.instance
    same_instance = sym (numbered x.instance is_x.instance) ∙ ap (system_of i).number paths ∙ numbered y.instance is_y.instance

    its_input : y.is_output ≡ false → slice_get (input_names (system_of i) (path_at (system_of i) x.instance)) y.variable ≡ Some (variable_of (system_of i) x).name
    its_input e = ap (λ p. slice_get (input_names (system_of i) p) y.variable) paths ∙ input_there (system_of i) y is_y e ∙ ap Some (sym names)

    its_output : y.is_output ≡ true → slice_get (output_names (system_of i) (path_at (system_of i) x.instance)) y.variable ≡ Some (variable_of (system_of i) x).name
    its_output e = ap (λ p. slice_get (output_names (system_of i) p) y.variable) paths ∙ output_there (system_of i) y is_y e ∙ ap Some (sym names)

    same_by_side : (a b : Bool) → x.is_output ≡ a → y.is_output ≡ b → x ≡ y
    same_by_side true true e f =
        same_index x y same_instance
        (one_index (output_names (system_of i) (path_at (system_of i) x.instance)) (outputs_once i accepted (path_at (system_of i) x.instance)) x.variable y.variable (variable_of (system_of i) x).name
        (output_there (system_of i) x is_x e) (its_output f)) (e ∙ sym f)
    same_by_side false false e f =
        same_index x y same_instance
        (one_index (input_names (system_of i) (path_at (system_of i) x.instance)) (inputs_once i accepted (path_at (system_of i) x.instance)) x.variable y.variable (variable_of (system_of i) x).name
        (input_there (system_of i) x is_x e) (its_input f)) (e ∙ sym f)
    same_by_side true false e f =
        absurd (never_both i accepted (path_at (system_of i) x.instance) (variable_of (system_of i) x).name
        (element_of_index (output_names (system_of i) (path_at (system_of i) x.instance)) x.variable (variable_of (system_of i) x).name (output_there (system_of i) x is_x e))
        (element_of_index (input_names (system_of i) (path_at (system_of i) x.instance)) y.variable (variable_of (system_of i) x).name (its_input f)))
    same_by_side false true e f =
        absurd (never_both i accepted (path_at (system_of i) x.instance) (variable_of (system_of i) x).name
        (element_of_index (output_names (system_of i) (path_at (system_of i) x.instance)) y.variable (variable_of (system_of i) x).name (its_output f))
        (element_of_index (input_names (system_of i) (path_at (system_of i) x.instance)) x.variable (variable_of (system_of i) x).name (input_there (system_of i) x is_x e)))

  -- a port determines the variable
  same_by_port : (x y : InstanceVariable) → IsVariable (system_of i) x → IsVariable (system_of i) y → same_port (variable_of (system_of i) y) (variable_of (system_of i) x) ≡ true → x ≡ y
  same_by_port x y is_x is_y e =
      let parts = both (same_path (variable_of (system_of i) y).at (variable_of (system_of i) x).at) (same_name (variable_of (system_of i) y).name (variable_of (system_of i) x).name) e in
      same_by_side x y is_x is_y
      (sym (at_is (system_of i) x) ∙ sym (same_path_is (variable_of (system_of i) y).at (variable_of (system_of i) x).at parts.0) ∙ at_is (system_of i) y)
      (sym (same_from_same_name (variable_of (system_of i) y).name (variable_of (system_of i) x).name parts.1)) x.is_output y.is_output refl refl

  -- ---- What is held

  pub held_changes : (old : Forest) (x : InstanceVariable) (v : Value) (held : HeldCopies) → IsVariable (system_of i) x → IsSet old.held x v held → Holds i old x v (record old { held = held })
  held_changes old x v held is_x set =
      record {
        resource = refl;
        represents = λ w forest.
            record {
              blocks = forest.blocks;
              ways = forest.ways;
              shells = forest.shells;
              has_shells = forest.has_shells;
              apart = forest.apart;
              held = λ y is_y read other.
                  by_port w y is_y (w.held (variable_of (system_of i) y)) (forest.held y is_y read other) (same_port (variable_of (system_of i) y) (variable_of (system_of i) x)) refl;
            };
      }
    where
      port_itself : (q : Port) → same_port q q ≡ true
      port_itself q = ap (λ b. b && same_name q.name q.name) (same_path_itself q.at) ∙ same_name-itself q.name

      by_port :
          (w : World) (y : InstanceVariable) → IsVariable (system_of i) y → (u : Value) → held_at old.held y ≡ Some u →
          (b : Bool) → same_port (variable_of (system_of i) y) (variable_of (system_of i) x) ≡ b → held_at held y ≡ Some (if b then v else u)
      by_port w y is_y u was true e =
          let same : x ≡ y = same_by_port x y is_x is_y e in
          ap (λ z. held_at held z) (sym same) ∙ set.here u (ap (λ z. held_at old.held z) same ∙ was)
      by_port w y is_y u was false e =
          set.elsewhere y
          (λ (t : y ≡ x). true≢false (sym (ap (λ z. same_port (variable_of (system_of i) y) (variable_of (system_of i) z)) (sym t) ∙ port_itself (variable_of (system_of i) y)) ∙ e)) ∙ was
