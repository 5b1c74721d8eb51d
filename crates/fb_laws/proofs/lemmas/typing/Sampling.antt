-- An event that is taken samples values of the types of its variables.
use Rattle.fb_types.proofs.Common.{◌≡◌, ℕ, refl, sym, ◌∙◌, ap, Bool, true, false, cond, Option, Some, None, Name, Path, Port, fits, Kind, ports_of, inputs_with, among, variable_names, variables_in, Block, System, World, sampled_from, sampled, taking, shown, same_Some}
use Rattle.fb_types.specs.declared.key.Key.{Key}
use Rattle.fb_types.specs.declared.library.Variable.{Variable}
use Rattle.fb_laws.specs.Typed.{variable_named, AllFit, IsTypedBlock, AreTyped, IsTypedSystem}
use Rattle.fb_laws.proofs.lemmas.typing.DeclaredVariables.{among-filter, named-among}
use Rattle.fb_laws.proofs.lemmas.typing.Values.{port-found, input-found}
use Rattle.fb_laws.proofs.lemmas.typing.Worlds.{with_block-typed, at_kind, shown-fits}

module _ (sys : System) (sound : IsTypedSystem sys) (r : ℕ) (w : World) (typed : AreTyped sys w) where
  -- a data input samples a value of its type
  sampled_from-fits : (q : Port) (k : Kind) (x : Variable) → sys.kind q.at ≡ Some k → variable_named q.name (ports_of k).inputs ≡ Some x
      → fits x.ty (sampled_from sys r w q) ≡ true
  sampled_from-fits q k x is h = go (sys.source q) refl
    where
      t : IsTypedBlock k (w.blocks q.at)
      t = typed.blocks q.at k is

      go : (o : Option Port) → sys.source q ≡ o
          → fits x.ty (elim o [ None ↦ (w.blocks q.at).slots q.name | Some s ↦ shown sys r w s ]) ≡ true
      go None e = t.slots q.name x h
      go (Some s) e = shown-fits sys sound r w typed q s e k x is (input-found k q.name x h)

  -- the variables of an instance, once those WITH an event are sampled
  sampled-fits : (p : Path) (k : Kind) (e : Name) → sys.kind p ≡ Some k → AllFit (variables_in k) (sampled sys r w p (inputs_with (ports_of k) e))
  sampled-fits p k e is n x h = go (among (inputs_with (ports_of k) e) n) refl
    where
      t : IsTypedBlock k (w.blocks p)
      t = typed.blocks p k is

      go : (b : Bool) → among (inputs_with (ports_of k) e) n ≡ b
          → fits x.ty (cond b (sampled_from sys r w (record { at = p; name = n })) ((w.blocks p).variables n)) ≡ true
      go true a =
          let input = named-among (ports_of k).inputs n (among-filter _ (variable_names (ports_of k).inputs) n a) in
          let same : input.0 ≡ x = same_Some input.0 x (sym (port-found k n input.0 (input-found k n input.0 input.1)) ∙ h) in
          sampled_from-fits (record { at = p; name = n }) k x is (input.1 ∙ ap Some same)
      go false a = t.variables n x h

pub taking_typed : (sys : System) → IsTypedSystem sys → (k : Key) (w : World) → AreTyped sys w → (q : Port) (kind : Kind) → sys.kind q.at ≡ Some kind
    → (left : ℕ) → AreTyped sys (taking sys k w q (ports_of kind) left).world
taking_typed sys sound k w typed q kind is left =
    with_block-typed sys w typed q.at (record b { variables = sampled sys k.resource w q.at (inputs_with (ports_of kind) q.name) })
    (at_kind sys q.at kind _ is (record {
      memory = t.memory;
      variables = sampled-fits sys sound k.resource w typed q.at kind q.name is;
      slots = t.slots;
      published = t.published;
    }))
  where
    b : Block
    b = w.blocks q.at

    t : IsTypedBlock kind b
    t = typed.blocks q.at kind is
