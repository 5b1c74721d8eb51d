-- Held copies before the first event.
use Rattle.fb_types.proofs.Common.{◌≡◌, ◌≢◌, ℕ, ◌<◌, ◌+◌, Bool, true, false, List, [], ◌∷◌, ◌++◌, map, length, Option, Some, None, refl, sym, ◌∙◌, ap, subst, inl, inr, arith, if◌then◌else◌, option_map, position, slice_get, unwrap_or, cases_eq, cases_lt, slice_get-map, same_Some, Name, Port, same_name, Kind, ports, ports_of, variable_names, AreAccepted, Inputs, system_of, path_at, ports_at, Twice, System}
use Rattle.fb_types.specs.declared.library.Ports.{Ports}
use Rattle.fb_types.specs.declared.library.Variable.{Variable}
use Rattle.fb_types.specs.declared.value.Value.{Value}
use Rattle.fb_types.specs.declared.run.InstanceVariable.{InstanceVariable}
use Rattle.fb_types.proofs.lemmas.lists.Positions.{position_of_once}
use Rattle.fb_system.specs.Ports.{IsVariable, variable_of, variables_at}
use Rattle.fb_system.specs.Stimuli.{initial_inputs, initial_outputs}
use Rattle.fb_net.specs.HeldAt.{IsAdded, IsSet, held_at, side_index_of}
use Rattle.fb_net.specs.Opening.{Covers, CoversSources, KeepsCovers, KeepsInitial}
use Rattle.fb_net.specs.declared.held_copies.HeldCopies.{HeldCopies}
use Rattle.fb_net.proofs.lemmas.values.HeldSides.{side_once}
use Rattle.fb_net.proofs.lemmas.values.ShownValues.{name_there, variable_is, name_is as shown_name}
use Rattle.fb_net.proofs.lemmas.values.Writing.{AreNumbered}
use Rattle.fb_types.proofs.lemmas.lists.ByIndex.{slice_get-append_left, slice_get-after, element_at}
use Rattle.fb_net.proofs.lemmas.values.Acceptance.{kind_once, kind_there, known_of, once_of, stood}

-- ---- A variable is known by its port

abbrev both_of : Ports → List Variable
both_of its = its.inputs ++ its.outputs

abbrev name_of : Variable → Name
name_of v = v.name

-- the index among the data inputs and outputs together
abbrev index_in : Ports → (variable : ℕ) → (is_output : Bool) → ℕ
index_in its v o = if o then length its.inputs + v else v

abbrev side_of : Ports → Bool → List Variable
side_of its o = if o then its.outputs else its.inputs

at_index : (its : Ports) (v : ℕ) (o : Bool) (x : Variable) → slice_get (side_of its o) v ≡ Some x → slice_get (both_of its) (index_in its v o) ≡ Some x
at_index its v true x h = slice_get-after its.inputs its.outputs v ∙ h
at_index its v false x h = slice_get-append_left its.inputs its.outputs v x h

names_both : (vs ws : List Variable) → map name_of (vs ++ ws) ≡ variable_names vs ++ variable_names ws
names_both [] ws = refl
names_both (v ∷ vs) ws = ap (λ (ns : List Name). v.name ∷ ns) (names_both vs ws)

index_split : (its : Ports) (v w : ℕ) (a b : Bool) → v < length (side_of its a) → w < length (side_of its b) → index_in its v a ≡ index_in its w b → (a ≡ b) × (v ≡ w)
index_split its v w true true h g e = (refl, omega (arith, e))
index_split its v w true false h g e = absurd (omega (arith, g, e))
index_split its v w false true h g e = absurd (omega (arith, h, e))
index_split its v w false false h g e = (refl, e)

-- the name at an index of a side
abbrev name_in : Ports → ℕ → Bool → Name
name_in its v o = if o then unwrap_or (slice_get (variable_names its.outputs) v) [] else unwrap_or (slice_get (variable_names its.inputs) v) []

named_at : (its : Ports) (v : ℕ) (o : Bool) (x : Variable) → slice_get (side_of its o) v ≡ Some x → name_in its v o ≡ x.name
named_at its v true x h = ap (λ (o : Option Name). unwrap_or o []) (slice_get-map name_of its.outputs v ∙ ap (option_map name_of) h)
named_at its v false x h = ap (λ (o : Option Name). unwrap_or o []) (slice_get-map name_of its.inputs v ∙ ap (option_map name_of) h)

one_index : (its : Ports) (v w : ℕ) (a b : Bool) → ¬ (Twice (variable_names its.inputs ++ variable_names its.outputs)) → v < length (side_of its a) → w < length (side_of its b)
    → name_in its v a ≡ name_in its w b → (a ≡ b) × (v ≡ w)
one_index its v w a b once h g e =
    let x = element_at (side_of its a) v h in
    let y = element_at (side_of its b) w g in
    let apart : ¬ (Twice (map name_of (both_of its))) = λ t. once (subst (λ (ns : List Name). Twice ns) (names_both its.inputs its.outputs) t) in
    let same : x.0.name ≡ y.0.name = sym (named_at its v a x.0 x.1) ∙ e ∙ named_at its w b y.0 y.1 in
    let one = position_of_once name_of (both_of its) (index_in its v a) x.0 apart (at_index its v a x.0 x.1) in
    let two = position_of_once name_of (both_of its) (index_in its w b) y.0 apart (at_index its w b y.0 y.1) in
    index_split its v w a b h g
    (same_Some (index_in its v a) (index_in its w b)
    (sym one ∙ ap (λ (n : Name). position (same_name n) (map name_of (both_of its))) same ∙ two))

abbrev ports_by : Option Kind → Ports
ports_by None = ports [] [] [] []
ports_by (Some k) = ports_of k

module _ (i : Inputs) (accepted : AreAccepted i) (numbered : AreNumbered i) where
  ports_once : (k : ℕ) → k < length (system_of i).paths →
      ¬ (Twice (variable_names (ports_at (system_of i) (path_at (system_of i) k)).inputs ++ variable_names (ports_at (system_of i) (path_at (system_of i) k)).outputs))
  ports_once k h =
      let sys = system_of i in
      let p = path_at sys k in
      let s = stood i k accepted h in
      let known = kind_there i.library i.plan (known_of i accepted) p s.instance s.is_instance in
      subst (λ (o : Option Kind). ¬ (Twice (variable_names (ports_by o).inputs ++ variable_names (ports_by o).outputs))) (sym known.2)
      (kind_once i.library i.plan (once_of i accepted) p known.0 known.2)

  at_is : (x : InstanceVariable) → (variable_of (system_of i) x).at ≡ path_at (system_of i) x.instance
  at_is x = of x.is_output
    where
      of : (b : Bool) → (variable_of (system_of i) (record { instance = x.instance; variable = x.variable; is_output = b })).at ≡ path_at (system_of i) x.instance
      of true = refl
      of false = refl

  name_is : (k v : ℕ) (o : Bool) → (variable_of (system_of i) (record { instance = k; variable = v; is_output = o })).name ≡ name_in (ports_at (system_of i) (path_at (system_of i) k)) v o
  name_is k v true = refl
  name_is k v false = refl

  within : (k v : ℕ) (o : Bool) → v < length (variables_at (system_of i) (record { instance = k; variable = v; is_output = o })) → v < length (side_of (ports_at (system_of i) (path_at (system_of i) k)) o)
  within k v true h = h
  within k v false h = h

  one_instance : (k v w : ℕ) (a b : Bool) → IsVariable (system_of i) (record { instance = k; variable = v; is_output = a }) → IsVariable (system_of i) (record { instance = k; variable = w; is_output = b })
      → (variable_of (system_of i) (record { instance = k; variable = v; is_output = a })).name ≡ (variable_of (system_of i) (record { instance = k; variable = w; is_output = b })).name
      → (a ≡ b) × (v ≡ w)
  one_instance k v w a b x y e =
      one_index (ports_at (system_of i) (path_at (system_of i) k)) v w a b (ports_once k x.instance) (within k v a x.variable) (within k w b y.variable)
      (sym (name_is k v a) ∙ e ∙ name_is k w b)

  pub variable_once : (x y : InstanceVariable) → IsVariable (system_of i) x → IsVariable (system_of i) y → variable_of (system_of i) x ≡ variable_of (system_of i) y → x ≡ y
  variable_once x y hx hy e =
      let sys = system_of i in
      let paths : path_at sys x.instance ≡ path_at sys y.instance = sym (at_is x) ∙ ap (λ (p : Port). p.at) e ∙ at_is y in
      let k : x.instance ≡ y.instance = sym (numbered x.instance hx.instance) ∙ ap sys.number paths ∙ numbered y.instance hy.instance in
      let moved : IsVariable sys (record { instance = x.instance; variable = y.variable; is_output = y.is_output }) =
      subst (λ (n : ℕ). IsVariable sys (record { instance = n; variable = y.variable; is_output = y.is_output })) (sym k) hy in
      let same = one_instance x.instance x.variable y.variable x.is_output y.is_output hx moved
      (ap (λ (p : Port). p.name) e
      ∙ ap (λ (n : ℕ). (variable_of sys (record { instance = n; variable = y.variable; is_output = y.is_output })).name) (sym k)) in
      λ j. record { instance = k j; variable = same.1 j; is_output = same.0 j }

  -- ---- A copy more

  module _ (r : ℕ) (old new : HeldCopies) (s : InstanceVariable) (is : IsVariable (system_of i) s) (there : held_at new s ≡ Some ((system_of i).initial (variable_of (system_of i) s))) where
    pub held_covers : (to : InstanceVariable) → option_map (variable_of (system_of i)) (Some s) ≡ (system_of i).source (variable_of (system_of i) to) → Covers i r new to
    held_covers to comes x hx from outside =
        let same : s ≡ x = variable_once s x is hx (same_Some (variable_of (system_of i) s) (variable_of (system_of i) x) (comes ∙ from)) in
        subst (λ (z : InstanceVariable). held_at new z ≡ Some ((system_of i).initial (variable_of (system_of i) z))) same there

-- what keeps initial values keeps copies
pub held_keeps : (i : Inputs) (r : ℕ) (old new : HeldCopies) → KeepsInitial i old new → KeepsCovers i r old new
held_keeps i r old new keeps to covers x hx from outside = keeps x hx (covers x hx from outside)

-- ---- What the variables on a side of an instance begin with

abbrev starts : System → InstanceVariable → List Value
starts sys x = if x.is_output then initial_outputs sys (path_at sys x.instance) else initial_inputs sys (path_at sys x.instance)

side_starts : (sys : System) (x : InstanceVariable) → starts sys x ≡ map (λ n. sys.initial (record { at = path_at sys x.instance; name = n })) (variable_names (variables_at sys x))
side_starts sys x = of x.is_output
  where
    of : (o : Bool) → starts sys (record x { is_output = o }) ≡ map (λ n. sys.initial (record { at = path_at sys x.instance; name = n })) (variable_names (variables_at sys (record x { is_output = o })))
    of true = refl
    of false = refl

-- the value of one of them
pub starts_there : (sys : System) (x y : InstanceVariable) → side_index_of y ≡ side_index_of x → IsVariable sys y → (vs : List Value) → vs ≡ starts sys x → slice_get vs y.variable ≡ Some (sys.initial (variable_of sys y))
starts_there sys x y side_index is vs start =
    let once = side_once x y (sym side_index) in
    let same : starts sys x ≡ starts sys y = λ j. starts sys (record { instance = once.0 j; variable = y.variable; is_output = once.1 j }) in
    let its : Name → Value = λ n. sys.initial (record { at = path_at sys y.instance; name = n }) in
    ap (λ (ws : List Value). slice_get ws y.variable) (start ∙ same ∙ side_starts sys y)
    ∙ slice_get-map its (variable_names (variables_at sys y)) y.variable
    ∙ ap (option_map its) (name_there sys y is)
    ∙ ap (λ (q : Port). Some (sys.initial q)) (ap (λ (m : Name). record { at = path_at sys y.instance; name = m }) (shown_name sys y) ∙ sym (variable_is sys y))

-- a side more has its copies
pub side_starts_so : (i : Inputs) (old new : HeldCopies) (x : InstanceVariable) → IsVariable (system_of i) x → (vs : List Value) → vs ≡ starts (system_of i) x → IsAdded old x vs new
    → held_at new x ≡ Some ((system_of i).initial (variable_of (system_of i) x))
side_starts_so i old new x is vs start added = added.here x refl ∙ starts_there (system_of i) x x refl is vs start

pub side_keeps : (i : Inputs) (old new : HeldCopies) (x : InstanceVariable) (vs : List Value) → vs ≡ starts (system_of i) x → IsAdded old x vs new → KeepsInitial i old new
side_keeps i old new x vs start added y is was =
    elim (cases_eq (side_index_of y) (side_index_of x)) [
      | inl same ↦ added.here y same ∙ starts_there (system_of i) x y same is vs start
      | inr other ↦ added.elsewhere y other ((system_of i).initial (variable_of (system_of i) y)) was
    ]

-- a copy that begins again has what its variable begins with
pub set_starts : (i : Inputs) (old new : HeldCopies) (x : InstanceVariable) (v u : Value) → v ≡ (system_of i).initial (variable_of (system_of i) x) → Some u ≡ held_at old x → IsSet old x v new
    → held_at new x ≡ Some ((system_of i).initial (variable_of (system_of i) x))
set_starts i old new x v u start was set = set.here u (sym was) ∙ ap (λ (w : Value). Some w) start

pub set_keeps : (i : Inputs) (old new : HeldCopies) (x : InstanceVariable) (v u : Value) → v ≡ (system_of i).initial (variable_of (system_of i) x) → Some u ≡ held_at old x → IsSet old x v new → KeepsInitial i old new
set_keeps i old new x v u start was set y is before =
    elim (cases_eq (side_index_of y) (side_index_of x)) [
      | inr other ↦ set.elsewhere y (λ (e : y ≡ x). other (ap side_index_of e)) ∙ before
      | inl same ↦ elim (cases_eq y.variable x.variable) [
        | inr other ↦ set.elsewhere y (λ (e : y ≡ x). other (ap (λ (z : InstanceVariable). z.variable) e)) ∙ before
        | inl there ↦
            let once = side_once x y (sym same) in
            let e : x ≡ y = λ j. record { instance = once.0 j; variable = sym there j; is_output = once.1 j } in
            subst (λ (z : InstanceVariable). held_at new z ≡ Some ((system_of i).initial (variable_of (system_of i) z))) e (set_starts i old new x v u start was set)
      ]
    ]

-- ---- The steps of the loops

pub below_next : (P : ℕ → Type 0) (n v : ℕ) → v < n + 1 → ((w : ℕ) → w < n → P w) → P n → P v
below_next P n v h before here =
    elim (cases_lt v n) [
      | inl less ↦ before v less
      | inr more ↦ (let e : n ≡ v = omega (arith, h, more) in subst P e here)
    ]

pub within_side :
    (i : Inputs) (k v : ℕ) (o : Bool) (vs : List Variable) → vs ≡ (if o then (ports_at (system_of i) (path_at (system_of i) k)).outputs else (ports_at (system_of i) (path_at (system_of i) k)).inputs)
    → IsVariable (system_of i) (record { instance = k; variable = v; is_output = o }) → v < length vs
within_side i k v o vs e is = subst (λ (ws : List Variable). v < length ws) (sym e) is.variable

module _ (i : Inputs) (r n : ℕ) (old : HeldCopies) where
  abbrev BelowCovered : Type 0
  BelowCovered =
      (to : InstanceVariable) → to.instance < n → IsVariable (system_of i) to → (system_of i).resource (path_at (system_of i) to.instance) ≡ r → Covers i r old to

  side_covered : (held : HeldCopies) → CoversSources i r held n false → CoversSources i r held n true → (v : ℕ) (o : Bool)
      → IsVariable (system_of i) (record { instance = n; variable = v; is_output = o }) → Covers i r held (record { instance = n; variable = v; is_output = o })
  side_covered held ins outs v true is = outs v is
  side_covered held ins outs v false is = ins v is

  pub instance_covered : (a b : HeldCopies) → BelowCovered → CoversSources i r a n false → KeepsCovers i r old a → CoversSources i r b n true → KeepsCovers i r a b →
      (to : InstanceVariable) → to.instance < n + 1 → IsVariable (system_of i) to → (system_of i).resource (path_at (system_of i) to.instance) ≡ r → Covers i r b to
  instance_covered a b before ins first outs second to h is lies =
      elim (cases_lt to.instance n) [
        | inl less ↦ second to (first to (before to less is lies))
        | inr more ↦
            let e : n ≡ to.instance = omega (arith, h, more) in
            subst (λ (k : ℕ). Covers i r b (record { instance = k; variable = to.variable; is_output = to.is_output })) e
            (side_covered b (λ v x. second (record { instance = n; variable = v; is_output = false }) (ins v x)) outs to.variable to.is_output
            (subst (λ (k : ℕ). IsVariable (system_of i) (record { instance = k; variable = to.variable; is_output = to.is_output })) (sym e) is))
      ]

  pub instance_skipped : BelowCovered → (system_of i).resource (path_at (system_of i) n) ≢ r →
      (to : InstanceVariable) → to.instance < n + 1 → IsVariable (system_of i) to → (system_of i).resource (path_at (system_of i) to.instance) ≡ r → Covers i r old to
  instance_skipped before outside to h is lies =
      elim (cases_lt to.instance n) [
        | inl less ↦ before to less is lies
        | inr more ↦
            let e : n ≡ to.instance = omega (arith, h, more) in
            absurd (outside (ap (λ (k : ℕ). (system_of i).resource (path_at (system_of i) k)) e ∙ lies))
      ]
