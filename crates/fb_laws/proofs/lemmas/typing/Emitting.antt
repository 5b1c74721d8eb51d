-- What is emitted carries values of the types of the outputs, and publishes such.
use Rattle.fb_types.proofs.Common.{◌≡◌, ℕ, sym, ◌∙◌, ap, subst, eqb, Bool, true, false, cond, List, [], ◌∷◌, ◌++◌, Some, All, All-nil, All-cons, All-head, All-tail, All-append, All-map, All-weaker, Name, Path, Port, Values, fits, Kind, ports_of, outputs_with, variable_names, Bound, bound, Emission, Block, System, World, Sends, Outcome, silent, spread, carried_from, with_values, emitted, emitted_all, same_Some}
use Rattle.fb_types.specs.declared.key.Key.{Key}
use Rattle.fb_types.specs.declared.library.Variable.{Variable}
use Rattle.fb_types.specs.declared.value.Value.{Value}
use Rattle.fb_types.specs.Reactions.{Local}
use Rattle.fb_laws.specs.Typed.{variable_named, AllFit, FitsAt, IsTypedOut, AreTyped, KeepsTypes, IsTypedSystem}
use Rattle.fb_laws.proofs.lemmas.typing.DeclaredVariables.{among-filter, named-among, All-bound}
use Rattle.fb_laws.proofs.lemmas.typing.Values.{FitsIn, with_values-fit, kind_one, output-found}
use Rattle.fb_laws.proofs.lemmas.typing.Worlds.{with_block-typed}

-- each value of an emission is of the type of the variable of its name
abbrev pub IsFittingAt : System → Path → Emission → Type 0
IsFittingAt sys p e = All (λ (b : Bound). FitsAt sys (record { at = p; name = b.variable }) b.value) e.values

pub silent-typed : (sys : System) (w : World) (left : ℕ) → AreTyped sys w → KeepsTypes sys (silent w left)
silent-typed sys w left typed = record { world = typed; outs = All-nil (IsTypedOut sys) }

-- ---- What goes out

pub spread-typed : (sys : System) (r : ℕ) (carried : List (Port × Value)) (qs : List Port) → All (λ (c : Port × Value). FitsAt sys c.0 c.1) carried
    → All (IsTypedOut sys) (spread sys r carried qs)
spread-typed sys r carried [] fit = All-nil (IsTypedOut sys)
spread-typed sys r carried (q ∷ qs) fit =
    All-cons (IsTypedOut sys) _ (spread sys r carried qs) (go (eqb (sys.resource q.at) r)) (spread-typed sys r carried qs fit)
  where
    go : (b : Bool) → IsTypedOut sys (cond b (Local q) (Sends q carried))
    go true = tt
    go false = fit

module _ (sys : System) (sound : IsTypedSystem sys) where
  -- ---- One emission

  pub emitted-typed : (k : Key) (p : Path) (e : Emission) (o : Outcome) → IsFittingAt sys p e → KeepsTypes sys o → KeepsTypes sys (emitted sys k p e o)
  emitted-typed k p e o fitting kept = record {
    world = with_block-typed sys o.world kept.world p (record b { published = with_values e.values b.published })
        (λ l is. let t = kept.world.blocks p l is in record {
          memory = t.memory;
          variables = t.variables;
          slots = t.slots;
          published = with_values-fit (ports_of l).outputs e.values b.published
              (All-weaker (λ (c : Bound). FitsAt sys (record { at = p; name = c.variable }) c.value) (λ c. FitsIn (ports_of l).outputs c.variable c.value)
              (λ c f x h. f l x is (output-found sys sound p l c.variable x is h)) e.values fitting)
              t.published;
        });
    outs = All-append (IsTypedOut sys) o.outs _ kept.outs
        (spread-typed sys k.resource (carried_from p e.values) (sys.targets (record { at = p; name = e.event }))
        (All-map (λ (c : Port × Value). FitsAt sys c.0 c.1) (λ (b : Bound). (record { at = p; name = b.variable }, b.value)) e.values fitting));
  }
    where
      b : Block
      b = o.world.blocks p

  pub emitted_all-typed : (k : Key) (p : Path) (es : List Emission) (o : Outcome) → All (IsFittingAt sys p) es → KeepsTypes sys o
      → KeepsTypes sys (emitted_all sys k p es o)
  emitted_all-typed k p [] o fitting kept = kept
  emitted_all-typed k p (e ∷ es) o fitting kept =
      emitted_all-typed k p es (emitted sys k p e o) (All-tail (IsFittingAt sys p) e es fitting)
      (emitted-typed k p e o (All-head (IsFittingAt sys p) e es fitting) kept)

  -- ---- Values that outputs show

  -- an emission carries values of the types, if those are values of outputs
  pub outputs-fitting : (p : Path) (k : Kind) → sys.kind p ≡ Some k → (vars : Values) → AllFit (ports_of k).outputs vars → (e : Name)
      → IsFittingAt sys p (record { event = e; values = bound (outputs_with (ports_of k) e) vars })
  outputs-fitting p k is vars fit e =
      All-bound (λ (b : Bound). FitsAt sys (record { at = p; name = b.variable }) b.value) vars (outputs_with (ports_of k) e) (λ n a l x there h.
      let output = named-among (ports_of k).outputs n (among-filter _ (variable_names (ports_of k).outputs) n a) in
      let same : k ≡ l = kind_one (sys.kind p) k l is there in
      go n output.0 output.1 x (subst (λ (z : Kind). variable_named n ((ports_of z).inputs ++ (ports_of z).outputs) ≡ Some x) (sym same) h))
    where
      go : (n : Name) (y : Variable) → variable_named n (ports_of k).outputs ≡ Some y → (x : Variable)
          → variable_named n ((ports_of k).inputs ++ (ports_of k).outputs) ≡ Some x → fits x.ty (vars n) ≡ true
      go n y output x h =
          let same : y ≡ x = same_Some y x (sym (output-found sys sound p k n y is output) ∙ h) in
          fit n x (output ∙ ap Some same)
