-- In an accepted declaration each variable begins with a value of its type, and stimuli set such values.
use Rattle.fb_types.proofs.Common.{◌≡◌, inl, inr, refl, sym, subst, ap, ◌∙◌, true, false, List, [], ◌∷◌, ◌++◌, map, Option, Some, None, Contains, All, option_and_then, flat_map, list_all, both_ways, All-map, Contains-get_or, Contains-append_left, Contains-append_right, Name, Path, fits, Kind, Event, ports_of, named, among, variable_names, initial_of, Bound, instance_in, kind_of_instance, network_at, instance_at, kind_at, variables_in, zero_value, IsGood, BadStimulus, KindWrong, declared_right, OwnedNetwork, networks, basics, interfaces, Required, required, all_of, required_types, required_withs, required_chart, required_parameters, required_deployment, NameUnknown, stimulus_of, same_Some}
use Rattle.fb_types.specs.declared.event_kind.EventKind.{EventKind}
use Rattle.fb_types.specs.declared.event_kind.EventKind.TheVariants.{Restart}
use Rattle.fb_types.specs.declared.library.Library.{Library}
use Rattle.fb_types.specs.declared.library.Instance.{Instance}
use Rattle.fb_types.specs.declared.library.Network.{Network}
use Rattle.fb_types.specs.declared.library.Parameter.{Parameter}
use Rattle.fb_types.specs.declared.library.Variable.{Variable}
use Rattle.fb_types.specs.declared.deploy.Plan.{Plan}
use Rattle.fb_types.specs.declared.deploy.Setting.{Setting}
use Rattle.fb_types.specs.declared.deploy.Stimulus.{Stimulus}
use Rattle.fb_types.specs.declared.value.Ty.{Ty}
use Rattle.fb_types.specs.declared.value.Value.{Value}
use Rattle.std.proofs.lemmas.Bool.{true_from_ne_false}
use Rattle.fb_types.specs.Values.{zero_of}
use Rattle.fb_types.specs.Flat.{flat, declared_initial}
use Rattle.fb_types.specs.Accepted.{is_held}
use Rattle.fb_types.specs.Kinds.{parameter_right, parameters_right}
use Rattle.fb_types.specs.declared.value.Ty.TheVariants.{Sint}
use Rattle.fb_types.proofs.lemmas.lists.Elements.{Contains-map, Contains-flat_map}
use Rattle.fb_types.proofs.lemmas.names.NameLaws.{any_from_contains, named-Contains}
use Rattle.fb_laws.specs.Typed.{variable_named, FitsAt}
use Rattle.fb_types.proofs.lemmas.lists.Options.{and_then_parts}
use Rattle.fb_types.proofs.lemmas.lists.ListTests.{passes_at}
use Rattle.fb_laws.specs.Simulations.{BeginsTyped, IsTypedStimulus}
use Rattle.fb_laws.proofs.lemmas.typing.DeclaredVariables.{IsNamed, named-among}
use Rattle.fb_laws.proofs.lemmas.typing.Values.{kind_one, port_variables, port-found, input-found}
use Rattle.fb_laws.proofs.lemmas.typing.Declared.{IsDeclared, kind-declared, network-declared, named-name}

-- ---- Declared values

zero-fits : (t : Ty) → fits t (zero_of t) ≡ true
zero-fits Sint = refl
zero-fits _ = refl

initial-fits : (x : Variable) → declared_right x ≡ true → fits x.ty (initial_of x) ≡ true
initial-fits x h = go x.initial h
  where
    go : (o : Option Value) → elim o [ None ↦ true | Some w ↦ fits x.ty w ] ≡ true → fits x.ty (elim o [ None ↦ zero_of x.ty | Some w ↦ w ]) ≡ true
    go None h = zero-fits x.ty
    go (Some w) h = h

event-declared : (e : EventKind) → list_all declared_right (variables_in (Event e)) ≡ true
event-declared Restart = refl
event-declared _ = refl

kind-right : (lib : Library) → (KindWrong lib → ⊥) → (k : Kind) → IsDeclared lib k → (x : Variable) → Contains (variables_in k) x → declared_right x ≡ true
kind-right lib right k (inl e) x c =
    passes_at declared_right (variables_in (Event e.0)) x (event-declared e.0) (subst (λ (z : Kind). Contains (variables_in z) x) e.1 c)
kind-right lib right k (inr b) x c =
    true_from_ne_false (declared_right x) (λ no. right (inr (inl (b.0, x, b.1, subst (λ (z : Kind). Contains (variables_in z) x) b.2 c, no))))

declared-fits : (lib : Library) → (KindWrong lib → ⊥) → (p : Path) (k : Kind) (n : Name) (x : Variable) → kind_at lib p ≡ Some k
    → variable_named n (variables_in k) ≡ Some x → fits x.ty (declared_initial (kind_at lib p) n) ≡ true
declared-fits lib right p k n x is h =
    subst (λ (o : Option Kind). fits x.ty (declared_initial o n) ≡ true) (sym is)
    (subst (λ (o : Option Variable). fits x.ty (elim o [ None ↦ zero_value | Some y ↦ initial_of y ]) ≡ true) (sym h)
    (initial-fits x (kind-right lib right k (kind-declared lib p k is) x (named-Contains (λ v. v.name) n (variables_in k) x h))))

-- ---- Parameters

-- an instance is one of a network of the declaration
instance-known : (lib : Library) (p : Path) (i : Instance) → instance_at lib p ≡ Some i → (n : OwnedNetwork) × Contains (networks lib) n × Contains n.1.instances i
instance-known lib [] i h = absurd cc
instance-known lib (m ∷ p) i h =
    let net = and_then_parts (λ (z : Network). instance_in z m) (network_at lib p) i h in
    let a = network-declared lib p net.0 net.1 in
    ((a.composite, net.0), a.declared, named-Contains (λ (z : Instance). z.name) m net.0.instances i net.2)

module _ (lib : Library) (plan : Plan) (known : NameUnknown lib plan → ⊥) (right : KindWrong lib → ⊥) where
  parameter-required : (n : OwnedNetwork) → Contains (networks lib) n → (i : Instance) → Contains n.1.instances i → (k : Kind) → kind_of_instance lib i ≡ Some k
      → (x : Parameter) → Contains i.parameters x → Contains (required lib plan) (x.name, variable_names (ports_of k).inputs)
  parameter-required n cn i ci k is x c =
      Contains-append_left (types ++ withs ++ charts ++ parameters) (required_deployment lib plan) w
      (Contains-append_right (types ++ withs ++ charts) parameters w
      (Contains-flat_map (λ (n : OwnedNetwork). flat_map (required_parameters lib) n.1.instances) (networks lib) n w cn
      (Contains-flat_map (required_parameters lib) n.1.instances i w ci
      (subst
      (λ (o : Option Kind). Contains (elim o [ None ↦ [] | Some l ↦ all_of (map (λ y. y.name) i.parameters) (variable_names (ports_of l).inputs) ]) w)
      (sym is)
      (Contains-map (λ (m : Name). (m, variable_names (ports_of k).inputs)) (map (λ y. y.name) i.parameters) x.name
      (Contains-map (λ (y : Parameter). y.name) i.parameters x c))))))
    where
      w : Required
      w = (x.name, variable_names (ports_of k).inputs)

      types : List Required
      types = flat_map (λ (n : OwnedNetwork). required_types lib n.1) (networks lib)

      withs : List Required
      withs = flat_map required_withs (interfaces lib)

      charts : List Required
      charts = flat_map required_chart (basics lib)

      parameters : List Required
      parameters = flat_map (λ (n : OwnedNetwork). flat_map (required_parameters lib) n.1.instances) (networks lib)

  -- a parameter sets an input
  parameter-input : (n : OwnedNetwork) → Contains (networks lib) n → (i : Instance) → Contains n.1.instances i → (k : Kind) → kind_of_instance lib i ≡ Some k
      → (x : Parameter) → Contains i.parameters x → IsNamed (ports_of k).inputs x.name
  parameter-input n cn i ci k is x c =
      let names = variable_names (ports_of k).inputs in
      named-among (ports_of k).inputs x.name
      (true_from_ne_false (among names x.name) (λ no.
      known (inl ((x.name, names), parameter-required n cn i ci k is x c, λ there. both_ways (among names x.name) no (any_from_contains x.name names there)))))

  -- a parameter has a value of the type of its input
  parameter-fits : (n : OwnedNetwork) → Contains (networks lib) n → (i : Instance) → Contains n.1.instances i → (k : Kind) → kind_of_instance lib i ≡ Some k
      → (x : Parameter) → Contains i.parameters x → (y : Variable) → variable_named x.name (variables_in k) ≡ Some y → fits y.ty x.value ≡ true
  parameter-fits n cn i ci k is x c y h =
      let v = parameter-input n cn i ci k is x c in
      let same : v.0 ≡ y = same_Some v.0 y (sym (port-found k x.name v.0 (input-found k x.name v.0 v.1)) ∙ h) in
      let all : parameters_right lib i ≡ true = true_from_ne_false (parameters_right lib i) (λ no. right (inr (inr (n, i, cn, ci, no)))) in
      let listed : list_all (parameter_right (ports_of k)) i.parameters ≡ true =
      subst (λ (o : Option Kind). elim o [ None ↦ true | Some l ↦ list_all (parameter_right (ports_of l)) i.parameters ] ≡ true) is all in
      subst (λ (z : Variable). fits z.ty x.value ≡ true) same
      (subst (λ (o : Option Variable). elim o [ None ↦ true | Some z ↦ fits z.ty x.value ] ≡ true) v.1
      (passes_at (parameter_right (ports_of k)) i.parameters x listed c))

  pub begins-typed : BeginsTyped (flat lib plan)
  begins-typed p k is n y h = go (option_and_then (λ (i : Instance). named (λ x. x.name) n i.parameters) (instance_at lib p)) refl
    where
      go : (o : Option Parameter) → option_and_then (λ (i : Instance). named (λ x. x.name) n i.parameters) (instance_at lib p) ≡ o
          → fits y.ty (elim o [ Some x ↦ x.value | None ↦ declared_initial (kind_at lib p) n ]) ≡ true
      go None e = declared-fits lib right p k n y is h
      go (Some x) e =
          let i = and_then_parts (λ (i : Instance). named (λ x. x.name) n i.parameters) (instance_at lib p) x e in
          let there = instance-known lib p i.0 i.1 in
          let kind : kind_of_instance lib i.0 ≡ Some k = sym (ap (option_and_then (kind_of_instance lib)) i.1) ∙ is in
          parameter-fits there.0 there.1 i.0 there.2 k kind x (named-Contains (λ (z : Parameter). z.name) n i.0.parameters x i.2) y
          (subst (λ (z : Name). variable_named z (variables_in k) ≡ Some y) (sym (named-name (λ (z : Parameter). z.name) n i.0.parameters x i.2)) h)

-- ---- Stimuli

all-contained : {X : Type 0} (P : X → Type 0) (xs : List X) → ((x : X) → Contains xs x → P x) → All P xs
all-contained P xs h k d lt = h _ (Contains-get_or xs k d lt)

held-fits : (lib : Library) (plan : Plan) (s : Stimulus) → IsGood lib s → (x : Setting) → Contains s.settings x
    → FitsAt (flat lib plan) (record { at = s.instance ∷ []; name = x.variable }) x.value
held-fits lib plan s good x c l y there h = go (variable_named x.variable (ports_of good.kind).inputs) refl (passes_at (is_held (ports_of good.kind)) s.settings x good.held c)
  where
    same : l ≡ good.kind
    same = kind_one (kind_at lib (s.instance ∷ [])) l good.kind there good.of_kind

    go : (o : Option Variable) → variable_named x.variable (ports_of good.kind).inputs ≡ o → elim o [ None ↦ false | Some v ↦ fits v.ty x.value ] ≡ true
        → fits y.ty x.value ≡ true
    go None e f = absurd cc
    go (Some v) e f =
        let named : variable_named x.variable (port_variables good.kind) ≡ Some y = subst (λ (z : Kind). variable_named x.variable (port_variables z) ≡ Some y) same h in
        subst (λ (z : Variable). fits z.ty x.value ≡ true) (same_Some v y (sym (input-found good.kind x.variable v e) ∙ named)) f

stimulus-typed : (lib : Library) (plan : Plan) (ss : List Stimulus) → (BadStimulus lib ss → ⊥) → (s : Stimulus) → Contains ss s
    → IsTypedStimulus (flat lib plan) (stimulus_of s)
stimulus-typed lib plan ss good s cs =
    All-map (λ (b : Bound). FitsAt (flat lib plan) (record { at = s.instance ∷ []; name = b.variable }) b.value)
    (λ (x : Setting). record { variable = x.variable; value = x.value }) s.settings
    (all-contained (λ (x : Setting). FitsAt (flat lib plan) (record { at = s.instance ∷ []; name = x.variable }) x.value) s.settings (λ x c l y there h.
    true_from_ne_false (fits y.ty x.value) (λ no.
    good (s, cs, λ is. both_ways (fits y.ty x.value) no (held-fits lib plan s is x c l y there h)))))

pub stimuli-typed : (lib : Library) (plan : Plan) (ss : List Stimulus) → (BadStimulus lib ss → ⊥) → All (IsTypedStimulus (flat lib plan)) (map stimulus_of ss)
stimuli-typed lib plan ss good =
    All-map (IsTypedStimulus (flat lib plan)) stimulus_of ss
    (all-contained (λ (s : Stimulus). IsTypedStimulus (flat lib plan) (stimulus_of s)) ss (stimulus-typed lib plan ss good))
