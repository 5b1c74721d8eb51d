-- The line of an emission is that of no other, as far as a form shows it, and where the next line is another one.
use Rattle.fb_inspect.proofs.lemmas.Common.{◌≡◌, ◌<◌, ◌≤◌, ◌^◌, ℕ, Bool, true, false, List, [], ◌∷◌, ◌++◌, length, codes, refl, sym, ap, subst, ◌∙◌, arith, if◌then◌else◌, Bound, outputs_with, system_of, Name, Path, emission_of, event_at, line_of, pair_up, path_at, ports_at, System, Key, Ports, Form, One, Two, Line, Value, IsEmission as IsEmissionOf, line_variables, ending_of, Outcome, IsLast, IsLineOf, IsTextOf, Port, PortTable, IsNext, emission_line, Next}
use Rattle.fb_types.proofs.Common.{slice_index_or, path_text}
use Rattle.fb_types.specs.States as model
use Rattle.fb_types.specs.declared.run.Emission.{Emission}
use Rattle.fb_wave.specs.Copying.{IsNoLineFrom}
use Rattle.fb_wave.specs.Ports.{port_text, side}
use Rattle.fb_wave.proofs.lemmas.Finding.{same_port}
use Rattle.fb_wave.proofs.lemmas.Gluing.{port_at}
use Rattle.fb_wave.proofs.lemmas.Lining.{line_not_last, port_of_line}
use Rattle.fb_inspect.specs.walk.Lines.{IsPlain}
use Rattle.fb_inspect.specs.walk.Moves.{IsEmission}
use Rattle.fb_inspect.specs.Refusals.{IsOther, IsPlainLine}
use Rattle.fb_inspect.specs.walk.SameLines.{AreLikeParts}
use Rattle.fb_inspect.specs.declared.walk.reading.Next.TheVariants as next
use Rattle.fb_inspect.proofs.lemmas.lines.OneLine.{line_once}

parts_of : {A : Type 0} {x y : A} {xs ys : List A} → x ∷ xs ≡ y ∷ ys → (x ≡ y) × (xs ≡ ys)
parts_of e = (cc, cc)

-- values of the same names
pairs_once : (ns : List Name) (vs ws : List Value) → length vs ≡ length ns → length ws ≡ length ns → pair_up ns vs ≡ pair_up ns ws → vs ≡ ws
pairs_once [] [] [] long wide e = refl
pairs_once [] (v ∷ vs) ws long wide e = absurd (omega (arith, long))
pairs_once [] [] (w ∷ ws) long wide e = absurd (omega (arith, wide))
pairs_once (n ∷ ns) [] ws long wide e = absurd (omega (arith, long))
pairs_once (n ∷ ns) (v ∷ vs) [] long wide e = absurd (omega (arith, wide))
pairs_once (n ∷ ns) (v ∷ vs) (w ∷ ws) long wide e =
    let both = parts_of e in
    ap (λ (u : Value). u ∷ vs) (ap (λ (b : Bound). b.value) both.0) ∙ ap (λ (us : List Value). w ∷ us) (pairs_once ns vs ws (omega (arith, long)) (omega (arith, wide)) both.1)

-- the text of a port, by its instance's path
abbrev text_at : System → Path → Bool → Name → List ℕ
text_at sys p taken event =
    slice_index_or sys.resource_names (sys.resource p) [] ++ (if taken then codes " > " else codes " < ") ++ path_text p ++ codes "." ++ event

event_is : (sys : System) (l : Line) → event_at (side sys l.instance l.taken) l.event ≡ (line_of sys l).event
event_is sys l =
    let its = ports_at sys (path_at sys l.instance) in
    elim l.taken as (λ (b : Bool). event_at (if b then its.event_inputs else its.event_outputs) l.event ≡ (if b then event_at its.event_inputs l.event else event_at its.event_outputs l.event)) [
      | true ↦ refl
      | false ↦ refl
    ]

abbrev with_port : Line → Port → Line
with_port l p = record l { instance = p.instance; event = p.event; taken = p.taken }

pub emission_once :
    (t : PortTable) (l line : Line) (e : Emission) → IsLineOf (system_of t.system.now) l → IsLineOf (system_of t.system.now) line
    → IsEmissionOf (ports_at (system_of t.system.now) (path_at (system_of t.system.now) line.instance)) e → e.event < 2 ^ 32
    → line_of (system_of t.system.now) l ≡ emission_line (line_of (system_of t.system.now) line) (emission_of (ports_at (system_of t.system.now) (path_at (system_of t.system.now) line.instance)) e)
    → IsEmission l line e
emission_once t l line e is own fit small same =
    let sys = system_of t.system.now in
    let its = ports_at sys (path_at sys line.instance) in
    let q : Port = port_at line.instance e.event false in
    let taken : l.taken ≡ false = ap (λ (m : model.Line). m.taken) same in
    let at : path_at sys l.instance ≡ path_at sys line.instance = ap (λ (m : model.Line). m.at) same in
    let event : event_at (side sys l.instance l.taken) l.event ≡ event_at its.event_outputs e.event = event_is sys l ∙ ap (λ (m : model.Line). m.event) same in
    let texts : port_text sys (port_of_line l) ≡ port_text sys q =
    ap (λ (p : Path). text_at sys p l.taken (event_at (side sys l.instance l.taken) l.event)) at
    ∙ ap (λ (b : Bool). text_at sys (path_at sys line.instance) b (event_at (side sys l.instance l.taken) l.event)) taken
    ∙ ap (λ (n : Name). text_at sys (path_at sys line.instance) false n) event
    in
    let port : port_of_line l ≡ q =
    same_port t (port_of_line l) q (record { instance = is.belongs.instance; small = is.small; event = is.belongs.event })
    (record { instance = own.belongs.instance; small = small; event = fit.event }) texts
    in
    let names : List Name = outputs_with its (event_at its.event_outputs e.event) in
    let values : (line_of sys l).values ≡ pair_up names l.values = ap (λ (p : Port). (line_of sys (with_port l p)).values) port in
    let counted : length l.values ≡ length names = is.belongs.values ∙ ap (λ (p : Port). length (line_variables sys (with_port l p))) port in
    record {
      taken = taken;
      instance = ap (λ (p : Port). p.instance) port;
      event = ap (λ (p : Port). p.event) port;
      key = ap (λ (m : model.Line). m.key) same;
      values = pairs_once names l.values e.values counted fit.values (sym values ∙ ap (λ (m : model.Line). m.values) same);
    }

-- ---- Another line

key_is : (k i : Key) → k.tick ≡ i.tick → k.resource ≡ i.resource → k.class ≡ i.class → k.a ≡ i.a → k.b ≡ i.b → k ≡ i
key_is k i tick resource class a b =
    ap (λ (x : ℕ). record k { tick = x }) tick
    ∙ ap (λ (x : ℕ). record k { tick = i.tick; resource = x }) resource
    ∙ ap (λ (x : ℕ). record k { tick = i.tick; resource = i.resource; class = x }) class
    ∙ ap (λ (x : ℕ). record k { tick = i.tick; resource = i.resource; class = i.class; a = x }) a
    ∙ ap (λ (x : ℕ). record k { tick = i.tick; resource = i.resource; class = i.class; a = i.a; b = x }) b

same_key : (form : Form) (k j i : Key) → j ≡ i → k.tick ≡ j.tick → k.resource ≡ j.resource → AreLikeParts form k j → IsPlain form k → IsPlain form i → k ≡ i
same_key One k j i same tick resource like plain own =
    key_is k i (tick ∙ ap (λ (y : Key). y.tick) same) (resource ∙ ap (λ (y : Key). y.resource) same) (plain.0 ∙ sym own.0) (plain.1 ∙ sym own.1) (plain.2 ∙ sym own.2)
same_key Two k j i same tick resource like plain own = key_is k j tick resource like.0 like.1 like.2 ∙ same

module _ (t : PortTable) (form : Form) (text : List ℕ) (line : Line) (e : Emission) (own : IsPlainLine (system_of t.system.now) form line) where
  abbrev sys : System
  sys = system_of t.system.now

  abbrev its : Ports
  its = ports_at sys (path_at sys line.instance)

  abbrev Other : Type 0
  Other = IsOther sys form text (emission_line (line_of sys line) (emission_of its e))

  -- the next line is that of another event
  pub other_event :
      IsEmissionOf its e → e.event < 2 ^ 32 → (l : Line) → IsTextOf sys form l text → IsPlain form l.key → (IsEmission l line e → ⊥) → Other
  other_event fit small l is plain differs m other same =
      let em = emission_once t m line e other.line own.line fit small same in
      let one = line_once t own.names form l m text is other in
      differs (record {
        taken = one.taken ∙ em.taken;
        instance = one.instance ∙ em.instance;
        event = one.event ∙ em.event;
        key = same_key form l.key m.key line.key em.key one.tick one.resource one.parts plain own.plain;
        values = one.values ∙ em.values;
      })

  -- the next line is the last one
  pub other_end : (end : Outcome) → IsLast sys text end → Other
  other_end end last m other same = line_not_last sys form m (ending_of end) other.line (sym other.is ∙ last.is)

  -- the next line is none of the system
  pub other_none : IsNoLineFrom sys form line.key.tick text → Other
  other_none none m other same = none m other (subst (λ (k : Key). line.key.tick ≤ k.tick) (sym (ap (λ (n : model.Line). n.key) same)) (omega arith))

  -- the next line is any that is not that of the emission
  pub other_next :
      IsEmissionOf its e → e.event < 2 ^ 32 → (n : Next) → IsNext sys form line.key.tick text n → ((l : Line) → n ≡ next.Event l → IsEmission l line e → ⊥) → Other
  other_next fit small (next.Event l) is differs = other_event fit small l is.0 is.2 (differs l refl)
  other_next fit small (next.End end) is differs = other_end end is.0
  other_next fit small next.Bad is differs = other_none (is own.names).0
