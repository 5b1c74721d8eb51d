-- Changes of a world that keep its types.
use Rattle.fb_types.proofs.Common.{◌≡◌, ℕ, refl, sym, subst, ap, ◌∙◌, eqb, Bool, true, false, cond, List, [], ◌∷◌, ◌++◌, Some, All, All-head, All-tail, All-weaker, Path, same_path, Port, same_port, fits, Kind, ports_of, Bound, Block, System, World, with_block, with_slots, hold_all, shown}
use Rattle.fb_types.specs.declared.library.Variable.{Variable}
use Rattle.fb_types.specs.declared.value.Value.{Value}
use Rattle.fb_types.specs.Blocks.{is_input}
use Rattle.fb_types.specs.Reactions.{with_held, seen}
use Rattle.fb_types.proofs.lemmas.names.PathLaws.{same_path_is, same_port_is}
use Rattle.fb_laws.specs.Typed.{variable_named, IsTypedBlock, FitsAt, AreTyped, IsTypedSystem}
use Rattle.fb_laws.proofs.lemmas.typing.DeclaredVariables.{named-not_among, named-back}
use Rattle.fb_laws.proofs.lemmas.typing.Values.{FitsIn, with_values-fit, kind_one, port-found, input-found}

-- ---- One block changed

pub with_block-typed : (sys : System) (w : World) → AreTyped sys w → (p : Path) (b : Block) → ((k : Kind) → sys.kind p ≡ Some k → IsTypedBlock k b)
    → AreTyped sys (with_block p b w)
with_block-typed sys w typed p b t = record {
  blocks = λ q k is. go q k is (same_path q p) refl;
  held = typed.held;
}
  where
    go : (q : Path) (k : Kind) → sys.kind q ≡ Some k → (same : Bool) → same_path q p ≡ same → IsTypedBlock k (cond same b (w.blocks q))
    go q k is true e = t k (sym (ap sys.kind (same_path_is q p e)) ∙ is)
    go q k is false e = typed.blocks q k is

-- what is typed at the kind of the instance at a path
pub at_kind : (sys : System) (p : Path) (k : Kind) (b : Block) → sys.kind p ≡ Some k → IsTypedBlock k b → (l : Kind) → sys.kind p ≡ Some l → IsTypedBlock l b
at_kind sys p k b is t l same = subst (λ (z : Kind). IsTypedBlock z b) (kind_one (sys.kind p) k l is same) t

-- ---- Slots and held copies

pub slots_typed : (sys : System) (w : World) → AreTyped sys w → (q : Port) (bs : List Bound)
    → All (λ (b : Bound). FitsAt sys (record { at = q.at; name = b.variable }) b.value) bs → AreTyped sys (with_slots q.at bs w)
slots_typed sys w typed q bs fit = with_block-typed sys w typed q.at (record b { slots = _ }) (λ k is. let t = typed.blocks q.at k is in record {
  memory = t.memory;
  variables = t.variables;
  slots = with_values-fit (ports_of k).inputs bs b.slots
      (All-weaker (λ (c : Bound). FitsAt sys (record { at = q.at; name = c.variable }) c.value) (λ c. FitsIn (ports_of k).inputs c.variable c.value)
      (λ c f x h. f k x is (input-found k c.variable x h)) bs fit)
      t.slots;
  published = t.published;
})
  where
    b : Block
    b = w.blocks q.at

with_held-fits : (sys : System) (c : Port) (v : Value) (held : Port → Value) → FitsAt sys c v → ((q : Port) → FitsAt sys q (held q))
    → (q : Port) → FitsAt sys q (with_held c v held q)
with_held-fits sys c v held f g q k x is h = go (same_port q c) refl
  where
    go : (b : Bool) → same_port q c ≡ b → fits x.ty (cond b v (held q)) ≡ true
    go true e = subst (λ (z : Port). FitsAt sys z v) (sym (same_port_is q c e)) f k x is h
    go false e = g q k x is h

hold_all-fits : (sys : System) (cs : List (Port × Value)) (held : Port → Value) → All (λ (c : Port × Value). FitsAt sys c.0 c.1) cs
    → ((q : Port) → FitsAt sys q (held q)) → (q : Port) → FitsAt sys q (hold_all cs held q)
hold_all-fits sys [] held f g = g
hold_all-fits sys (c ∷ cs) held f g =
    hold_all-fits sys cs (with_held c.0 c.1 held) (All-tail (λ (c : Port × Value). FitsAt sys c.0 c.1) c cs f)
    (with_held-fits sys c.0 c.1 held (All-head (λ (c : Port × Value). FitsAt sys c.0 c.1) c cs f) g)

pub held_typed : (sys : System) (w : World) → AreTyped sys w → (cs : List (Port × Value)) → All (λ (c : Port × Value). FitsAt sys c.0 c.1) cs
    → AreTyped sys (record w { held = hold_all cs w.held })
held_typed sys w typed cs fit = record { blocks = typed.blocks; held = hold_all-fits sys cs w.held fit typed.held }

-- ---- What connections see

seen-fits : (sys : System) (w : World) → AreTyped sys w → (q : Port) → FitsAt sys q (seen sys w q)
seen-fits sys w typed q k x is h = rw is (go (is_input (ports_of k) q.name) refl)
  where
    t : IsTypedBlock k (w.blocks q.at)
    t = typed.blocks q.at k is

    go : (b : Bool) → is_input (ports_of k) q.name ≡ b
        → fits x.ty (cond b ((w.blocks q.at).variables q.name) ((w.blocks q.at).published q.name)) ≡ true
    go true e = t.variables q.name x (port-found k q.name x h)
    go false e =
        t.published q.name x
        (sym (named-back (ports_of k).inputs (ports_of k).outputs q.name (named-not_among (ports_of k).inputs q.name e)) ∙ h)

pub shown-fits : (sys : System) → IsTypedSystem sys → (r : ℕ) (w : World) → AreTyped sys w → (q s : Port) → sys.source q ≡ Some s
    → FitsAt sys q (shown sys r w s)
shown-fits sys sound r w typed q s source k x is h =
    let f = sound.sources q s k x source is h in
    f.within (shown sys r w s) (go f.kind f.variable f.is_kind f.is_variable (eqb (sys.resource s.at) r))
  where
    go : (l : Kind) (y : Variable) → sys.kind s.at ≡ Some l → variable_named s.name ((ports_of l).inputs ++ (ports_of l).outputs) ≡ Some y
        → (b : Bool) → fits y.ty (cond b (seen sys w s) (w.held s)) ≡ true
    go l y there named true = seen-fits sys w typed s l y there named
    go l y there named false = typed.held s l y there named
