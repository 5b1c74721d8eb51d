-- What is kept of the instances before the first event.
use Rattle.fb_inspect.proofs.lemmas.Common.{◌≡◌, ◌<◌, ◌+◌, ℕ, Bool, false, length, List, [], ◌∷◌, ◌++◌, map, Option, Some, None, refl, sym, ◌∙◌, ap, subst, append_assoc, get_or, take, length-append, rules, arith, unwrap_or, slice_get_within, Basic, Composite, Event, Kind, ports_of_event_block, variable_names, Name, Path, path_at, System, Values, EventKind, BasicType, CompositeType, Ports, Variable, Value, FitInputs, Seen, most, opening_look, left_of, IsBlockKept, IsKept, Chart, EventBlock, Remembered, TickSteps}
use Rattle.fb_types.proofs.Common.{opening_block}
use Rattle.fb_types.specs.States as model
use Rattle.fb_types.proofs.lemmas.lists.ByIndex.{element_at, slice_get-push}
use Rattle.fb_types.proofs.lemmas.lists.LoopSteps.{map_take_more}
use Rattle.fb_ecc.specs.declared.state.BasicState.{BasicState}
use Rattle.fb_event.specs.State.{State}
use Rattle.fb_laws.specs.Simulations.{BeginsTyped}
use Rattle.fb_net.specs.Blocks.{composite_with, own_of}
use Rattle.fb_net.specs.Worlds.{BasicRepresents, EventRepresents, NodeRepresents, Represents}
use Rattle.fb_net.specs.declared.block.Block.{Block}
use Rattle.fb_net.specs.declared.block.Block.TheOpen.{Block-F}
use Rattle.fb_net.specs.declared.block.Block.TheVariants as block
use Rattle.fb_net.specs.declared.block.Block.TheViews.{out-Block, the_lemmas}
use Rattle.fb_net.proofs.lemmas.opening.Components.{out_roll, own_basic, own_event}
use Rattle.fb_net.proofs.lemmas.values.Sampling.{ports-of_kind}
use Rattle.fb_system.specs.Stimuli.{initial_inputs}
use Rattle.fb_inspect.specs.walk.Looks.{first_due}
use Rattle.fb_inspect.specs.walk.Notes.{hidden_variables, own_variables}
use Rattle.fb_inspect.specs.walk.Walking.{AreUnused, IsChartKept, OpenAll, OpensAs, flag_at}
use Rattle.fb_inspect.specs.declared.walk.blocks.Remembered.TheVariants as kept
use Rattle.fb_inspect.proofs.lemmas.reactions.Sampled.{inputs_fit}

-- ---- The kind of what represents an instance

basic_kind : (k : Option Kind) (s : BasicState) (m : model.Memory) (all : Values) → NodeRepresents k (Block-F.Basic s) m all → (t : BasicType) × (k ≡ Some (Basic t)) × BasicRepresents t s m all
basic_kind None s m all h = absurd h
basic_kind (Some (Basic t)) s m all h = (t, refl, h)
basic_kind (Some (Event e)) s m all h = absurd h
basic_kind (Some (Composite t)) s m all h = absurd h

event_kind : (k : Option Kind) (s : State) (m : model.Memory) (all : Values) → NodeRepresents k (Block-F.Event s) m all → (e : EventKind) × (k ≡ Some (Event e)) × EventRepresents e s m
event_kind None s m all h = absurd h
event_kind (Some (Basic t)) s m all h = absurd h
event_kind (Some (Event e)) s m all h = (e, refl, h)
event_kind (Some (Composite t)) s m all h = absurd h

composite_kind : (k : Option Kind) (bs : List Block) (m : model.Memory) (all : Values) → NodeRepresents k (Block-F.Composite bs) m all → (t : CompositeType) × (k ≡ Some (Composite t))
composite_kind None bs m all h = absurd h
composite_kind (Some (Basic t)) bs m all h = absurd h
composite_kind (Some (Event e)) bs m all h = absurd h
composite_kind (Some (Composite t)) bs m all h = (t, refl)

own_composite : (bs : List Block) → out-Block (own_of (block.Composite bs)) ≡ Block-F.Composite []
own_composite bs = out_roll (composite_with [] (out-Block (block.Composite bs))) ∙ ap (composite_with []) (out_composite bs)
  where
    out_composite : (cs : List Block) → out-Block (block.Composite cs) ≡ Block-F.Composite cs
    out_composite cs = search (rules, the_lemmas)

module _ (sys : System) (k : ℕ) where
  abbrev path : Path
  path = path_at sys k

  abbrev opening : model.Block
  opening = opening_block sys path

  abbrev opens : Seen
  opens = (opening_look sys).blocks path

  node : (b : Block) (n : Block-F Block) → out-Block (own_of b) ≡ n → Represents sys path (own_of b) opening → NodeRepresents (sys.kind path) n opening.memory opening.variables
  node b n is h = subst (λ (x : Block-F Block). NodeRepresents (sys.kind path) x opening.memory opening.variables) is h

  -- ---- A basic block

  pub basic_there : (s : BasicState) → Represents sys path (own_of (block.Basic s)) opening → (t : BasicType) × (sys.kind path ≡ Some (Basic t)) × BasicRepresents t s opening.memory opening.variables
  basic_there s h = basic_kind (sys.kind path) s opening.memory opening.variables (node (block.Basic s) (Block-F.Basic s) (own_basic s) h)

  same_basic : (t u : BasicType) → Some (Basic t) ≡ Some (Basic u) → t ≡ u
  same_basic t u e = cc

  pub basic_opens :
      (t : BasicType) (c : Chart) → sys.kind path ≡ Some (Basic t) → Represents sys path (own_of (block.Basic c.state)) opening → c.own.items ≡ own_variables t → c.hidden.items ≡ variable_names (hidden_variables t) → OpensAs sys k (kept.Basic c)
  basic_opens t c is h own hidden =
      let one = basic_there c.state h in
      let stands = subst (λ (u : BasicType). BasicRepresents u c.state opening.memory opening.variables) (same_basic one.0 t (sym one.1 ∙ is)) one.2 in
      let is_kept : IsChartKept t c opens = record {
        sound = stands.sound;
        chart = record { block = stands.block; own = own; hidden = hidden };
        memory_is = stands.memory;
        variables_are = stands.variables;
      } in
      subst (λ (o : Option Kind). IsKept o (kept.Basic c) opens) (sym is) is_kept

  -- ---- An event block

  pub event_opens :
      (b : EventBlock) → Represents sys path (own_of (block.Event b.state)) opening → BeginsTyped sys → b.inputs ≡ initial_inputs sys path → b.due ≡ first_due (Some (Event b.state.kind))
      → OpensAs sys k (kept.Event b)
  event_opens b h typed inputs due =
      let one = event_kind (sys.kind path) b.state opening.memory opening.variables (node (block.Event b.state) (Block-F.Event b.state) (own_event b.state) h) in
      let e : EventKind = one.0 in
      let here : b.inputs ≡ map opening.variables (variable_names (ports_of_event_block e).inputs) =
      inputs ∙ ap (λ (p : Ports). map opening.variables (variable_names p.inputs)) (ports-of_kind sys path (Event e) one.1) in
      let is_kept : IsBlockKept e b opens = record {
        kind_is = one.2.is_kind;
        memory_is = one.2.memory;
        inputs_are = here;
        typed = subst (λ (vs : List Value). FitInputs e vs) (sym here) (inputs_fit e opening.variables (typed path (Event e) one.1));
        due_is = due ∙ ap (λ (j : EventKind). first_due (Some (Event j))) one.2.is_kind ∙ ap first_due (sym one.1);
      } in
      subst (λ (o : Option Kind). IsKept o (kept.Event b) opens) (sym one.1) is_kept

  -- ---- A composite

  pub composite_opens : (bs : List Block) → Represents sys path (own_of (block.Composite bs)) opening → OpensAs sys k kept.Composite
  composite_opens bs h =
      let one = composite_kind (sys.kind path) [] opening.memory opening.variables (node (block.Composite bs) (Block-F.Composite []) (own_composite bs) h) in
      subst (λ (o : Option Kind). IsKept o kept.Composite opens) (sym one.1) tt

-- ---- All of them

pub open_more : (sys : System) (n : ℕ) (old new : List Remembered) (b : Remembered) → OpenAll sys n old → OpensAs sys n b → new ≡ old ++ b ∷ [] → OpenAll sys (n + 1) new
open_more sys n old new b are here is = subst (λ (l : List Remembered). OpenAll sys (n + 1) l) (sym is) (record {
  all = let e = are.all in omega (arith, e, length-append old (b ∷ []));
  each = slice_get-push (λ j c. OpensAs sys j c) old b are.each (subst (λ (i : ℕ). OpensAs sys i b) (sym are.all) here);
})

pub unused_more :
    (n : ℕ) (old new : List TickSteps) (s : TickSteps) → AreUnused n old → left_of s ≡ record { tick = None; left = 0; least = most } → new ≡ old ++ s ∷ [] → AreUnused (n + 1) new
unused_more n old new s are here is = subst (λ (l : List TickSteps). AreUnused (n + 1) l) (sym is) (record {
  all = let e = are.all in omega (arith, e, length-append old (s ∷ []));
  each = slice_get-push (λ j t. left_of t ≡ record { tick = None; left = 0; least = most }) old s are.each here;
})

-- a flag for one more instance
pub counted_more : (n : ℕ) (old new : List Bool) (b : Bool) → length old ≡ n → new ≡ old ++ b ∷ [] → length new ≡ n + 1
counted_more n old new b counted is = let e = length-append old (b ∷ []) in ap length is ∙ omega (arith, e, counted)

pub shown_more :
    (F : ℕ → Bool) (n : ℕ) (old new : List Bool) (b : Bool) → length old ≡ n → ((k : ℕ) → k < n → flag_at old k ≡ F k) → b ≡ F n → new ≡ old ++ b ∷ []
    → (k : ℕ) → k < n + 1 → flag_at new k ≡ F k
shown_more F n old new b counted shown here is k below =
    let all : List Bool = old ++ b ∷ [] in
    let e = length-append old (b ∷ []) in
    let long : length all ≡ n + 1 = omega (arith, e, counted) in
    let own = element_at all k (subst (λ (j : ℕ). k < j) (sym long) below) in
    let each =
    slice_get-push (λ j c. c ≡ F j) old b (λ j c at. sym (ap (λ (o : Option Bool). unwrap_or o false) at) ∙ shown j (subst (λ (i : ℕ). j < i) counted (slice_get_within old j c at)))
    (subst (λ (i : ℕ). b ≡ F i) (sym counted) here) in
    ap (λ (l : List Bool). flag_at l k) is ∙ ap (λ (o : Option Bool). unwrap_or o false) own.1 ∙ each k own.0 own.1

-- the names of the variables so far, with one more
pub names_next :
    (vs : List Variable) (i : ℕ) (v : Variable) (old own new : List Name) (n : Name) → i < length vs → v ≡ get_or vs i v → n ≡ v.name → own ≡ old ++ variable_names (take i vs)
    → new ≡ own ++ n ∷ [] → new ≡ old ++ variable_names (take (i + 1) vs)
names_next vs i v old own new n within at is are grown =
    grown ∙ (λ j. are j ++ is j ∷ []) ∙ append_assoc old (variable_names (take i vs)) (v.name ∷ [])
    ∙ ap (λ (ns : List Name). old ++ ns) (sym (map_take_more (λ v. v.name) vs i v within at))
