-- What represents a leaf before and after its reaction.
use Rattle.fb_net.proofs.lemmas.Common.{◌≡◌, ℕ, suc, List, [], ◌∷◌, length, map, Option, Some, refl, ap, subst, ◌∙◌, slice_get, Name, Path, Values, Kind, Basic, Event, ports_of_event_block, variable_names, System, EventKind, BasicType, Value, BasicState, own_of, Represents, Block, Block-F}
use Rattle.fb_types.proofs.Common.{Memory, reaction}
use Rattle.fb_types.specs.Numbers.{by_index}
use Rattle.fb_types.specs.States as model
use Rattle.fb_types.specs.declared.event_kind.EventKind.TheVariants as kind
use Rattle.fb_event.specs.State.{State}
use Rattle.fb_net.specs.Blocks.{composite_with}
use Rattle.fb_net.specs.Worlds.{BasicRepresents, EventRepresents, NodeRepresents}
use Rattle.fb_net.specs.declared.block.Block.TheVariants as block
use Rattle.fb_net.specs.declared.block.Block.TheViews.{out-Block}
use Rattle.fb_net.proofs.lemmas.opening.Components.{basic_rolled, event_rolled, out_roll, own_basic, own_event}

-- a basic block is at a path by what it is
pub basic_is : (sys : System) (p : Path) (t : BasicType) (s : BasicState) (b : model.Block) → sys.kind p ≡ Some (Basic t)
    → Represents sys p (own_of (block.Basic s)) b ≡ BasicRepresents t s b.memory b.variables
basic_is sys p t s b k = ap (λ (n : Block-F Block). NodeRepresents (sys.kind p) n b.memory b.variables) (own_basic s) ∙ ap (λ (o : Option Kind). NodeRepresents o (Block-F.Basic s) b.memory b.variables) k

pub event_is : (sys : System) (p : Path) (e : EventKind) (s : State) (b : model.Block) → sys.kind p ≡ Some (Event e)
    → Represents sys p (own_of (block.Event s)) b ≡ EventRepresents e s b.memory
event_is sys p e s b k = ap (λ (n : Block-F Block). NodeRepresents (sys.kind p) n b.memory b.variables) (own_event s) ∙ ap (λ (o : Option Kind). NodeRepresents o (Block-F.Event s) b.memory b.variables) k

-- where an instance must be basic, a basic block is
as_basic : (t : BasicType) (x : Block-F Block) (m : model.Memory) (all : Values) → NodeRepresents (Some (Basic t)) (composite_with [] x) m all → (s : BasicState) × (x ≡ Block-F.Basic s)
as_basic t (Block-F.Basic s) m all represents = (s, refl)
as_basic t (Block-F.Event s) m all represents = absurd represents
as_basic t (Block-F.Composite bs) m all represents = absurd represents

as_event : (k : EventKind) (x : Block-F Block) (m : model.Memory) (all : Values) → NodeRepresents (Some (Event k)) (composite_with [] x) m all → (s : State) × (x ≡ Block-F.Event s)
as_event k (Block-F.Basic s) m all represents = absurd represents
as_event k (Block-F.Event s) m all represents = (s, refl)
as_event k (Block-F.Composite bs) m all represents = absurd represents

module _ (sys : System) (p : Path) (d : Block) (b : model.Block) (represents : Represents sys p (own_of d) b) where
  node_stands : NodeRepresents (sys.kind p) (composite_with [] (out-Block d)) b.memory b.variables
  node_stands = subst (λ (x : Block-F Block). NodeRepresents (sys.kind p) x b.memory b.variables) (out_roll (composite_with [] (out-Block d))) represents

  node_by : (k : Option Kind) → sys.kind p ≡ k → NodeRepresents k (composite_with [] (out-Block d)) b.memory b.variables
  node_by k is = subst (λ (o : Option Kind). NodeRepresents o (composite_with [] (out-Block d)) b.memory b.variables) is node_stands

  pub stands_basic : (t : BasicType) → sys.kind p ≡ Some (Basic t) → (s : BasicState) × (d ≡ block.Basic s)
  stands_basic t is = (let s = as_basic t (out-Block d) b.memory b.variables (node_by (Some (Basic t)) is) in (s.0, basic_rolled d s.0 s.1))

  pub stands_event : (k : EventKind) → sys.kind p ≡ Some (Event k) → (s : State) × (d ≡ block.Event s)
  stands_event k is = (let s = as_event k (out-Block d) b.memory b.variables (node_by (Some (Event k)) is) in (s.0, event_rolled d s.0 s.1))

-- ---- What an event block reads of its data inputs

-- the values by index are those of the names
pub values_by_name : (names : List Name) (values : List Value) (all : Values) → length values ≡ length names
    → ((index : ℕ) (n : Name) (v : Value) → slice_get names index ≡ Some n → slice_get values index ≡ Some v → all n ≡ v)
    → map all names ≡ values
values_by_name [] [] all e at = refl
values_by_name [] (v ∷ vs) all e at = cc
values_by_name (n ∷ ns) [] all e at = cc
values_by_name (n ∷ ns) (v ∷ vs) all e at =
    let here : all n ≡ v = at 0 n v refl refl in
    let rest : map all ns ≡ vs = values_by_name ns vs all (cc) (λ index m w p q. at (suc index) m w p q) in
    cc

-- a reaction reads the data inputs alone
pub reads_inputs : (k : EventKind) (m : Memory) (e : Name) (tick : ℕ) (all : Values)
    → let names = variable_names (ports_of_event_block k).inputs in reaction k m e tick (by_index names (map all names)) ≡ reaction k m e tick all
reads_inputs kind.Restart m e tick all = refl
reads_inputs _ m e tick all = refl
