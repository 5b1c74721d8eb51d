-- Initial values of the variables of an instance of an accepted system: the inputs with the parameters, the outputs as
-- they are declared.
use Rattle.fb_types.proofs.Common.{◌≡◌, ℕ, suc, ◌+◌, List, [], ◌∷◌, ◌++◌, length, map, Option, Some, None, Contains, refl, sym, ◌∙◌, ap, subst, inl, inr, append-nil, slice_get, option_and_then, map-append, Contains-append_right, Name, Path, Kind, Basic, Event, Composite, named, initial_of, ports_of, variable_names, zero_value, variables_in, instance_at, kind_of_instance, Twice, NameTwice, NameUnknown}
use Rattle.fb_types.specs.declared.deploy.Plan.{Plan}
use Rattle.fb_types.specs.declared.library.Instance.{Instance}
use Rattle.fb_types.specs.declared.library.Library.{Library}
use Rattle.fb_types.specs.declared.library.Parameter.{Parameter}
use Rattle.fb_types.specs.declared.library.Variable.{Variable}
use Rattle.fb_types.specs.declared.value.Value.{Value}
use Rattle.fb_types.specs.Flat.{declared_initial, initial_at}
use Rattle.fb_types.proofs.lemmas.lists.Positions.{named_of_once, slice_get-Contains}
use Rattle.fb_types.proofs.lemmas.lists.Elements.{Contains-nil, Contains-cons_cases}
use Rattle.fb_system.specs.Begins.{begin_value, begins_with, parameter_names}
use Rattle.fb_types.proofs.lemmas.lists.ByIndex.{slice_get-append_left, slice_get-after}
use Rattle.fb_system.proofs.lemmas.lists.Named.{named-append_old, named_none}
use Rattle.fb_system.proofs.lemmas.types.Naming.{AreOnce, variables_once, parameter_unknown}

abbrev name_of : Variable → Name
name_of v = v.name

abbrev called : Parameter → Name
called x = x.name

-- ---- Lists

Twice-both : (n : Name) (xs ys : List Name) → Contains xs n → Contains ys n → Twice (xs ++ ys)
Twice-both n [] ys c d = absurd (Contains-nil n c)
Twice-both n (x ∷ xs) ys c d =
    elim (Contains-cons_cases x xs n c) [
      | inl e ↦ inl (Contains-append_right xs ys x (subst (λ (m : Name). Contains ys m) (sym e) d))
      | inr rest ↦ inr (Twice-both n xs ys rest d)
    ]

-- a function of the names of variables that agrees with one of the variables
by_name : {B : Type 0} (f : Name → B) (g : Variable → B) (vs : List Variable) → ((k : ℕ) (v : Variable) → slice_get vs k ≡ Some v → f v.name ≡ g v) → map f (variable_names vs) ≡ map g vs
by_name f g [] same = refl
by_name f g (v ∷ vs) same = λ i. same 0 v refl i ∷ by_name f g vs (λ k w h. same (suc k) w h) i

-- ---- What is declared

-- Variables of a type that come after its inputs and outputs.
record HasRest (k : Kind) : Type 0 where
  pub rest : List Variable
  pub is : variables_in k ≡ ((ports_of k).inputs ++ (ports_of k).outputs) ++ rest

rest_of : (k : Kind) → HasRest k
rest_of (Basic t) = record { rest = t.internals; is = refl }
rest_of (Event e) = record { rest = []; is = sym (append-nil ((ports_of (Event e)).inputs ++ (ports_of (Event e)).outputs)) }
rest_of (Composite t) = record { rest = []; is = sym (append-nil (t.ports.inputs ++ t.ports.outputs)) }

abbrev declared_from : Option Variable → Value
declared_from o = elim o as (λ _. Value) [ None ↦ zero_value | Some x ↦ initial_of x ]

-- a variable of the interface begins with what it declares
declared_is :
    (k : Kind) (j : ℕ) (v : Variable) → AreOnce (ports_of k) → slice_get ((ports_of k).inputs ++ (ports_of k).outputs) j ≡ Some v
    → declared_initial (Some k) v.name ≡ initial_of v
declared_is k j v once h =
    let p = ports_of k in
    let all = p.inputs ++ p.outputs in
    let r = rest_of k in
    let names : ¬ (Twice (map name_of all)) = subst (λ (ns : List Name). ¬ (Twice ns)) (sym (map-append name_of p.inputs p.outputs)) once.once in
    let here : named name_of v.name (all ++ r.rest) ≡ Some v = named-append_old name_of v.name all r.rest v (named_of_once name_of all j v names h) in
    ap (λ (vs : List Variable). declared_from (named name_of v.name vs)) r.is ∙ ap declared_from here

-- ---- Initial values of an instance

abbrev value_from : Option Kind → Name → Option Parameter → Value
value_from o n x = elim x as (λ _. Value) [ Some x ↦ x.value | None ↦ declared_initial o n ]

-- the parameter of the instance at a path, else what its type declares
initial_is :
    (lib : Library) (p : Path) (i : Instance) (k : Kind) (n : Name) → instance_at lib p ≡ Some i → kind_of_instance lib i ≡ Some k
    → initial_at lib (record { at = p; name = n }) ≡ value_from (Some k) n (named called n i.parameters)
initial_is lib p i k n h of =
    ap (λ (o : Option Instance). value_from (option_and_then (kind_of_instance lib) o) n (option_and_then (λ (i : Instance). named called n i.parameters) o)) h
    ∙ ap (λ (o : Option Kind). value_from o n (named called n i.parameters)) of

-- the initial value of a data input
pub input_begins :
    (lib : Library) (p : Path) (i : Instance) (k : Kind) (j : ℕ) (v : Variable) → AreOnce (ports_of k) → instance_at lib p ≡ Some i
    → kind_of_instance lib i ≡ Some k → slice_get (ports_of k).inputs j ≡ Some v
    → initial_at lib (record { at = p; name = v.name }) ≡ begin_value i.parameters v
input_begins lib p i k j v once h of at =
    initial_is lib p i k v.name h of
    ∙ (elim (named called v.name i.parameters) as
    (λ o. value_from (Some k) v.name o ≡ elim o as (λ _. Value) [ None ↦ initial_of v | Some x ↦ x.value ]) [
      | Some x ↦ refl
      | None ↦ declared_is k j v once (slice_get-append_left (ports_of k).inputs (ports_of k).outputs j v at)
    ])

-- the initial value of a data output that no parameter names
pub output_begins :
    (lib : Library) (p : Path) (i : Instance) (k : Kind) (j : ℕ) (v : Variable) → AreOnce (ports_of k) → instance_at lib p ≡ Some i
    → kind_of_instance lib i ≡ Some k → ¬ (Contains (parameter_names i.parameters) v.name) → slice_get (ports_of k).outputs j ≡ Some v
    → initial_at lib (record { at = p; name = v.name }) ≡ initial_of v
output_begins lib p i k j v once h of none at =
    initial_is lib p i k v.name h of ∙ ap (value_from (Some k) v.name) (named_none called v.name i.parameters none)
    ∙ declared_is k (length (ports_of k).inputs + j) v once (slice_get-after (ports_of k).inputs (ports_of k).outputs j ∙ at)

-- ---- All variables of an instance

-- In a declaration where no name is given twice, `input_values` returns the initial values of the inputs.
pub inputs_begin :
    (lib : Library) (plan : Plan) (p : Path) (i : Instance) (k : Kind) → ¬ (NameTwice lib plan) → instance_at lib p ≡ Some i → kind_of_instance lib i ≡ Some k
    → map (λ n. initial_at lib (record { at = p; name = n })) (variable_names (ports_of k).inputs) ≡ begins_with (ports_of k) i.parameters
inputs_begin lib plan p i k once h of =
    by_name (λ n. initial_at lib (record { at = p; name = n })) (begin_value i.parameters) (ports_of k).inputs
    (λ j v at. input_begins lib p i k j v (variables_once lib plan i.block_type k once of) h of at)

-- If in addition each name is known, `output_values` returns the initial values of the outputs.
pub outputs_begin :
    (lib : Library) (plan : Plan) (p : Path) (i : Instance) (k : Kind) → ¬ (NameTwice lib plan) → ¬ (NameUnknown lib plan) → instance_at lib p ≡ Some i
    → kind_of_instance lib i ≡ Some k
    → map (λ n. initial_at lib (record { at = p; name = n })) (variable_names (ports_of k).outputs) ≡ map initial_of (ports_of k).outputs
outputs_begin lib plan p i k once known h of =
    let apart = variables_once lib plan i.block_type k once of in
    by_name (λ n. initial_at lib (record { at = p; name = n })) initial_of (ports_of k).outputs
    (λ j v at.
    let no_input : ¬ (Contains (variable_names (ports_of k).inputs) v.name) = λ c.
    apart.once (Twice-both v.name (variable_names (ports_of k).inputs) (variable_names (ports_of k).outputs) c (slice_get-Contains name_of (ports_of k).outputs j v at)) in
    output_begins lib p i k j v apart h of (parameter_unknown lib plan p i k v.name known h of no_input) at)
