-- What an event block samples: all its inputs, or none.
use Rattle.fb_inspect.proofs.lemmas.Common.{◌≡◌, ◌<◌, ◌≤◌, ◌⊎◌, ℕ, zero, suc, Bool, true, List, [], ◌∷◌, ◌++◌, length, map, Some, refl, sym, ◌∙◌, ap, subst, arith, inl, inr, if◌then◌else◌, and_parts, Bound, inputs_with, ports_of_event_block, variable_names, Name, event_at, pair_up, with_values, Values, fits, EventKind, Variable, Value, AllFit, FitInputs, AreIndexes, fit_each, type_at}
use Rattle.fb_types.specs.declared.value.Ty.{Ty}
use Rattle.fb_types.specs.declared.event_kind.EventKind.TheVariants as kind
use Rattle.fb_types.proofs.lemmas.lists.ByIndex.{all_at}
use Rattle.fb_types.proofs.lemmas.events.EventCounts.{one_input}
use Rattle.fb_types.proofs.lemmas.names.NameLaws.{same_name-itself}
use Rattle.fb_event.specs.Reactions.{FitTheirTypes}
use Rattle.fb_event.proofs.lemmas.Inputs.{all_fit}
use Rattle.fb_laws.specs.Typed.{variable_named}
use Rattle.fb_inspect.specs.walk.Timing.{inputs_after}

-- The names are those of all variables, of which there is one, or there is no name.
abbrev pub AllOrNone : List Variable → List Name → Type 0
AllOrNone vs ns = (ns ≡ []) ⊎ ((x : Variable) × (vs ≡ x ∷ []) × (ns ≡ x.name ∷ []))

pub all_or_none :
    (k : EventKind) (e : ℕ) → e < length (ports_of_event_block k).event_inputs
    → AllOrNone (ports_of_event_block k).inputs (inputs_with (ports_of_event_block k) (event_at (ports_of_event_block k).event_inputs e))
all_or_none kind.Restart e h = absurd (omega arith)
all_or_none kind.Split zero h = inl refl
all_or_none kind.Split (suc e) h = absurd (omega arith)
all_or_none kind.Merge zero h = inl refl
all_or_none kind.Merge (suc zero) h = inl refl
all_or_none kind.Merge (suc (suc e)) h = absurd (omega arith)
all_or_none kind.Rendezvous zero h = inl refl
all_or_none kind.Rendezvous (suc zero) h = inl refl
all_or_none kind.Rendezvous (suc (suc zero)) h = inl refl
all_or_none kind.Rendezvous (suc (suc (suc e))) h = absurd (omega arith)
all_or_none kind.Permit zero h = inr (_, refl, refl)
all_or_none kind.Permit (suc e) h = absurd (omega arith)
all_or_none kind.Select zero h = inr (_, refl, refl)
all_or_none kind.Select (suc zero) h = inr (_, refl, refl)
all_or_none kind.Select (suc (suc e)) h = absurd (omega arith)
all_or_none kind.Switch zero h = inr (_, refl, refl)
all_or_none kind.Switch (suc e) h = absurd (omega arith)
all_or_none kind.Delay zero h = inr (_, refl, refl)
all_or_none kind.Delay (suc zero) h = inl refl
all_or_none kind.Delay (suc (suc e)) h = absurd (omega arith)
all_or_none kind.Cycle zero h = inr (_, refl, refl)
all_or_none kind.Cycle (suc zero) h = inl refl
all_or_none kind.Cycle (suc (suc e)) h = absurd (omega arith)
all_or_none kind.SetReset zero h = inl refl
all_or_none kind.SetReset (suc zero) h = inl refl
all_or_none kind.SetReset (suc (suc e)) h = absurd (omega arith)
all_or_none kind.DataLatch zero h = inr (_, refl, refl)
all_or_none kind.DataLatch (suc e) h = absurd (omega arith)
all_or_none kind.RisingEdge zero h = inr (_, refl, refl)
all_or_none kind.RisingEdge (suc e) h = absurd (omega arith)
all_or_none kind.FallingEdge zero h = inr (_, refl, refl)
all_or_none kind.FallingEdge (suc e) h = absurd (omega arith)
all_or_none kind.CountUp zero h = inr (_, refl, refl)
all_or_none kind.CountUp (suc zero) h = inl refl
all_or_none kind.CountUp (suc (suc e)) h = absurd (omega arith)

pair_nil : (ns : List Name) → pair_up ns [] ≡ []
pair_nil [] = refl
pair_nil (n ∷ ns) = refl

module _ (vs : List Variable) (ns : List Name) where
  -- the inputs hold what the variables do, also after they were sampled
  pub sampled_are :
      (values inputs : List Value) (vars : Values) → AllOrNone vs ns → length values ≡ length ns → inputs ≡ map vars (variable_names vs)
      → inputs_after inputs values ≡ map (with_values (pair_up ns values) vars) (variable_names vs)
  sampled_are [] inputs vars some counted are = are ∙ ap (λ (bs : List Bound). map (with_values bs vars) (variable_names vs)) (sym (pair_nil ns))
  sampled_are (v ∷ rest) inputs vars (inl none) counted are = absurd (omega (arith, ap length none))
  sampled_are (v ∷ []) inputs vars (inr h) counted are =
      sym (ap (λ (l : List Name). map (with_values (pair_up l (v ∷ [])) vars) (variable_names vs)) h.2
      ∙ ap (λ (l : List Variable). map (with_values (record { variable = h.0.name; value = v } ∷ []) vars) (variable_names l)) h.1
      ∙ ap (λ (b : Bool). (if b then v else vars h.0.name) ∷ []) (same_name-itself h.0.name))
  sampled_are (v ∷ (w ∷ rest)) inputs vars (inr h) counted are = absurd (omega (arith, ap length h.2))

  -- sampled inputs hold values of their types
  pub sampled_fit :
      (values inputs : List Value) (indexes : List ℕ) → AllOrNone vs ns → AreIndexes vs ns indexes → fit_each (map (type_at vs) indexes) values ≡ true
      → length values ≡ length ns → FitTheirTypes vs inputs → FitTheirTypes vs (inputs_after inputs values)
  sampled_fit [] inputs ks some stand typed counted fit = fit
  sampled_fit (v ∷ rest) inputs ks (inl none) stand typed counted fit = absurd (omega (arith, ap length none))
  sampled_fit (v ∷ []) inputs [] (inr h) stand typed counted fit = absurd (let e = stand.named ∙ h.2 in cc)
  sampled_fit (v ∷ []) inputs (k ∷ ks) (inr h) stand typed counted fit =
      let within : k < length vs = all_at (λ (j : ℕ). j < length vs) (k ∷ ks) 0 k stand.within refl in
      let first : k ≡ 0 = omega (arith, ap length h.1) in
      let ty : type_at vs k ≡ h.0.ty = ap (type_at vs) first ∙ ap (λ (l : List Variable). type_at l 0) h.1 in
      subst (λ (l : List Variable). FitTheirTypes l (v ∷ [])) (sym h.1)
      (subst (λ (t : Ty). fits t v ≡ true) ty (and_parts (fits (type_at vs k) v) (fit_each (map (type_at vs) ks) []) typed).0, tt)
  sampled_fit (v ∷ (w ∷ rest)) inputs ks (inr h) stand typed counted fit = absurd (omega (arith, ap length h.2))

-- sampled inputs of an event block are as its reaction asks
pub sampled_typed :
    (k : EventKind) (ns : List Name) (values inputs : List Value) (indexes : List ℕ) → AllOrNone (ports_of_event_block k).inputs ns → AreIndexes (ports_of_event_block k).inputs ns indexes
    → fit_each (map (type_at (ports_of_event_block k).inputs) indexes) values ≡ true → length values ≡ length ns → FitInputs k inputs → FitInputs k (inputs_after inputs values)
sampled_typed kind.Delay ns values inputs ks some stand typed counted fit = sampled_fit (ports_of_event_block kind.Delay).inputs ns values inputs ks some stand typed counted fit
sampled_typed kind.Cycle ns values inputs ks some stand typed counted fit = sampled_fit (ports_of_event_block kind.Cycle).inputs ns values inputs ks some stand typed counted fit
sampled_typed _ ns values inputs ks some stand typed counted fit = tt

-- ---- Before the first event

first_named : (x : Variable) (vs : List Variable) → variable_named x.name (x ∷ vs) ≡ Some x
first_named x vs = rw (same_name-itself x.name) refl

one_fits : (vs ws : List Variable) (all : Values) → length vs ≤ 1 → AllFit (vs ++ ws) all → FitTheirTypes vs (map all (variable_names vs))
one_fits [] ws all few fit = tt
one_fits (x ∷ []) ws all few fit = (fit x.name x (first_named x ws), tt)
one_fits (x ∷ (y ∷ vs)) ws all few fit = absurd (omega arith)

-- the inputs of an event block are as its reaction asks where all variables hold values of their types
pub inputs_fit :
    (k : EventKind) (all : Values) → AllFit ((ports_of_event_block k).inputs ++ (ports_of_event_block k).outputs) all
    → FitInputs k (map all (variable_names (ports_of_event_block k).inputs))
inputs_fit k all fit =
    let its = ports_of_event_block k in
    all_fit k (map all (variable_names its.inputs)) (one_fits its.inputs its.outputs all (one_input k) fit)
