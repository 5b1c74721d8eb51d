-- What is shown of a block is what the model has of it.
use Rattle.fb_types.proofs.Common.{◌≡◌, ℕ, suc, ◌+◌, ◌++◌, ◌<◌, ◌≤◌, List, [], ◌∷◌, length, length-map, map, get_or, Option, None, Some, IfNone, IfSome, IsSome, IsWithinLimits, OnOk, Result, Ok, Err, rules, ◌^◌, slice_get, option_map, refl, sym, ap, subst, ◌∙◌, arith, append-nil, append_assoc, at_drop_all, at_drop_more, drop, Inputs, system_of, path_at, world_of, same_Some, codes, Name, System, Path, ports_at, variable_names}
use Rattle.fb_types.specs.Blocks.{Kind, Basic, Event, Composite, ports_of}
use Rattle.fb_types.specs.Keys.{timer_key}
use Rattle.fb_types.specs.Reactions.{memory_of, state_of}
use Rattle.fb_types.specs.States as model
use Rattle.fb_types.specs.Values.{Values}
use Rattle.fb_types.specs.declared.event_kind.EventKind.{EventKind}
use Rattle.fb_types.specs.declared.library.BasicType.{BasicType}
use Rattle.fb_types.specs.declared.library.CompositeType.{CompositeType}
use Rattle.fb_types.specs.declared.library.Ports.{Ports}
use Rattle.fb_types.specs.declared.library.Variable.{Variable}
use Rattle.fb_types.specs.declared.value.Value.{Value}
use Rattle.fb_laws.proofs.lemmas.lists.Indexes.{has_at, is_at}
use Rattle.fb_agenda.specs.Agendas.{waiting}
use Rattle.fb_st.specs.Frames.{values_of}
use Rattle.fb_ecc.specs.Indexes.{state_at}
use Rattle.fb_ecc.specs.declared.state.BasicState.{BasicState}
use Rattle.fb_event.specs.State.{State}
use Rattle.fb_net.proofs.lemmas.values.Sampling.{ports-of_kind}
use Rattle.fb_net.specs.Events.{event_of}
use Rattle.fb_net.specs.Worlds.{BasicRepresents, EventRepresents, IsForest, NodeRepresents, Represents, ShellRepresents, Stands}
use Rattle.fb_net.specs.declared.block.Block.{Block}
use Rattle.fb_net.specs.declared.block.Block.TheOpen.{Block-F}
use Rattle.fb_net.specs.declared.block.Block.TheVariants as block
use Rattle.fb_net.specs.declared.block.Block.TheViews.{out-Block, the_lemmas}
use Rattle.fb_system.proofs.lemmas.rows.Bounds.{resource_named}
use Rattle.fb_net.specs.declared.resource.Forest.{Forest}
use Rattle.fb_net.specs.declared.shell.Shell.{Shell}
use Rattle.fb_sim_machine.specs.Machines.{IsAt, IsReady}
use Rattle.fb_sim_machine.specs.declared.machine.Machine.{Machine}
use Rattle.fb_session.specs.Shown.{IsBlockShown, IsDue, basic_text, listed_text, memory_text, shell_text, variable_text, variables_text}

-- ---- The blocks of a resource

-- what the blocks of a resource represent
pub forest_at : (i : Inputs) (steps from : ℕ) (m : Machine) (c : model.Config) → IsReady i steps from m → IsAt i c.state c.agenda m → (r : ℕ) (f : Forest)
    → slice_get m.trees.items r ≡ Some f → IsForest i f (world_of c.state r)
forest_at i steps from m c ready at r f got =
    let trees = ready.trees_counted in
    let meters = ready.meters_counted in
    let within = is_at m.trees.items r f got in
    let meter = has_at m.meters.items r (omega (arith, trees, meters, within)) in
    (at.here r f meter.0 got meter.1).blocks

pub stands_here : (i : Inputs) (steps from : ℕ) (m : Machine) (c : model.Config) → IsReady i steps from m → IsAt i c.state c.agenda m → (r k : ℕ) (f : Forest)
    → slice_get m.trees.items r ≡ Some f → (system_of i).resource (path_at (system_of i) k) ≡ r → Stands i f k
stands_here i steps from m c ready at r k f got home = record {
  here = home ∙ sym (ready.trees r f got);
  whole = (world_of c.state r, forest_at i steps from m c ready at r f got);
}

-- a resource of the system has blocks
pub has_tree : (i : Inputs) (steps from : ℕ) (m : Machine) → IsReady i steps from m → IsWithinLimits i.plan → (r k : ℕ) → r ≡ (system_of i).resource (path_at (system_of i) k) → r < length m.trees.items
has_tree i steps from m ready limits r k home =
    let named = resource_named i (path_at (system_of i) k) limits in
    let counted = ready.trees_counted in
    subst (λ n. n < length m.trees.items) (sym home) (omega (arith, named, counted))

pub narrow_resource : (i : Inputs) → IsWithinLimits i.plan → (r k : ℕ) → r ≡ (system_of i).resource (path_at (system_of i) k) → r < 2 ^ 32
narrow_resource i limits r k home =
    let below = resource_named i (path_at (system_of i) k) limits in
    let same : length (system_of i).resource_names ≡ length i.plan.resources = length-map i.plan.resources (λ x. x.name) in
    let few = limits.few_resources in
    subst (λ n. n < 2 ^ 32) (sym home) (omega (arith, below, same, few))

-- ---- Variables

-- variables of equal values
same_variables : (xs : List Variable) (vs ws : Values) → ((n : Name) → vs n ≡ ws n) → variables_text xs vs ≡ variables_text xs ws
same_variables [] vs ws same = refl
same_variables (x ∷ xs) vs ws same =
    ap (λ v. variable_text x.name v ++ variables_text xs vs) (same x.name) ∙ ap (λ (t : List ℕ). variable_text x.name (ws x.name) ++ t) (same_variables xs vs ws same)

-- the values at the indexes of the variables are those that the variables have
listed_values : (xs : List Variable) (values : List Value) (all : Values) → length values ≡ length (variable_names xs)
    → ((k : ℕ) (n : Name) (v : Value) → slice_get (variable_names xs) k ≡ Some n → slice_get values k ≡ Some v → all n ≡ v)
    → listed_text xs values ≡ variables_text xs all
listed_values [] values all counted at = refl
listed_values (x ∷ xs) [] all counted at = absurd (omega (arith, counted))
listed_values (x ∷ xs) (v ∷ values) all counted at =
    ap (λ w. variable_text x.name w ++ listed_text xs values) (sym (at 0 x.name v refl refl))
    ∙ ap (λ (t : List ℕ). variable_text x.name (all x.name) ++ t) (listed_values xs values all (omega (arith, counted)) (λ k n w named valued. at (suc k) n w named valued))

-- one variable more is added
pub listed_turn : (xs : List Variable) (vs : List Value) (k : ℕ) (x : Variable) (v : Value) (old new all : List ℕ) → k < length xs → k < length vs → x ≡ get_or xs k x
    → new ≡ old ++ variable_text x.name (get_or vs k v)
    → old ++ listed_text (drop k xs) (drop k vs) ≡ all
    → new ++ listed_text (drop (k + 1) xs) (drop (k + 1) vs) ≡ all
listed_turn xs vs k x v old new all within valued here is before =
    let word = variable_text x.name (get_or vs k v) in
    let rest = listed_text (drop (k + 1) xs) (drop (k + 1) vs) in
    let next : listed_text (drop k xs) (drop k vs) ≡ word ++ rest =
    at_drop_more (λ ys. listed_text ys (drop k vs)) xs k x within
    ∙ ap (λ y. listed_text (y ∷ drop (k + 1) xs) (drop k vs)) (sym here)
    ∙ at_drop_more (λ ws. listed_text (x ∷ drop (k + 1) xs) ws) vs k v valued in
    ap (λ (t : List ℕ). t ++ rest) is ∙ append_assoc old word rest ∙ ap (λ (t : List ℕ). old ++ t) (sym next) ∙ before

pub listed_end : (xs : List Variable) (vs : List Value) (k : ℕ) (old all : List ℕ) → length xs ≤ k → old ++ listed_text (drop k xs) (drop k vs) ≡ all → old ≡ all
listed_end xs vs k old all past before =
    sym (append-nil old) ∙ ap (λ (t : List ℕ). old ++ t) (sym (at_drop_all (λ ys. listed_text ys (drop k vs)) xs k past)) ∙ before

-- ---- A basic block

-- the kind of an instance that has a basic block
pub basic_kind : (k : Option Kind) (s : BasicState) (m : model.Memory) (all : Values) → NodeRepresents k (Block-F.Basic s) m all
    → (t : BasicType) × (k ≡ Some (Basic t)) × BasicRepresents t s m all
basic_kind None s m all is = absurd is
basic_kind (Some (Basic t)) s m all is = (t, refl, is)
basic_kind (Some (Event e)) s m all is = absurd is
basic_kind (Some (Composite t)) s m all is = absurd is

pub basic_shown : (t : BasicType) (s : BasicState) (b : model.Block) → BasicRepresents t s b.memory b.variables
    → basic_text t (state_at t s.state) (values_of s.frame) ≡ basic_text t (state_of b.memory) b.variables
basic_shown t s b is =
    let same = λ (xs : List Variable). same_variables xs (values_of s.frame) b.variables (λ n. sym (is.variables n)) in
    let state : state_of b.memory ≡ state_at t s.state = ap state_of is.memory in
    ap (λ (n : Name). basic_text t n (values_of s.frame)) (sym state)
    ∙ ap (λ (v : List ℕ). codes " " ++ (state_of b.memory ++ (v ++ (variables_text t.ports.outputs (values_of s.frame) ++ variables_text t.internals (values_of s.frame))))) (same t.ports.inputs)
    ∙ ap (λ (v : List ℕ). codes " " ++ (state_of b.memory ++ (variables_text t.ports.inputs b.variables ++ (v ++ variables_text t.internals (values_of s.frame))))) (same t.ports.outputs)
    ∙ ap (λ (v : List ℕ). codes " " ++ (state_of b.memory ++ (variables_text t.ports.inputs b.variables ++ (variables_text t.ports.outputs b.variables ++ v)))) (same t.internals)

pub basic_same : (t u : BasicType) → ◌≡◌ {A = Option Kind} (Some (Basic t)) (Some (Basic u)) → t ≡ u
basic_same t u same = let kinds : Basic t ≡ Basic u = same_Some (Basic t) (Basic u) same in cc

-- ---- Event blocks and composites

pub event_kind : (k : Option Kind) (s : State) (m : model.Memory) (all : Values) → NodeRepresents k (Block-F.Event s) m all
    → (e : EventKind) × (k ≡ Some (Event e)) × EventRepresents e s m
event_kind None s m all is = absurd is
event_kind (Some (Basic t)) s m all is = absurd is
event_kind (Some (Event e)) s m all is = (e, refl, is)
event_kind (Some (Composite t)) s m all is = absurd is

pub composite_kind : (k : Option Kind) (bs : List Block) (m : model.Memory) (all : Values) → NodeRepresents k (Block-F.Composite bs) m all
    → (t : CompositeType) × (k ≡ Some (Composite t))
composite_kind None bs m all is = absurd is
composite_kind (Some (Basic t)) bs m all is = absurd is
composite_kind (Some (Event e)) bs m all is = absurd is
composite_kind (Some (Composite t)) bs m all is = (t, refl)

-- an instance that is no basic block has its values in its shell
pub shell_shown : (sys : System) (p : Path) (kind : Kind) (s : Shell) (b : model.Block) → sys.kind p ≡ Some kind → ((t : BasicType) → kind ≡ Basic t → ⊥) → ShellRepresents sys p s b
    → listed_text (ports_at sys p).inputs s.inputs ++ listed_text (ports_at sys p).outputs s.published ≡ shell_text (ports_of kind) b
shell_shown sys p kind s b is other has =
    let inputs = has.inputs (λ t basic. other t (same_Some kind (Basic t) (sym is ∙ basic))) in
    ap (λ (t : List ℕ). t ++ listed_text (ports_at sys p).outputs s.published) (listed_values (ports_at sys p).inputs s.inputs b.variables inputs.each inputs.at_index)
    ∙ ap (λ (t : List ℕ). variables_text (ports_at sys p).inputs b.variables ++ t) (listed_values (ports_at sys p).outputs s.published b.published has.published.each has.published.at_index)
    ∙ ap (λ (its : Ports). shell_text its b) (ports-of_kind sys p kind is)

-- ---- Timers

mapped : {X Y : Type 0} (f : X → Y) (o : Option X) → IsSome o → IsSome (option_map f o)
mapped f (Some x) there = refl
mapped {X} f None there = absurd cc

-- the timer that waits on the agenda is that of the model
pub due_is : (i : Inputs) (m : Machine) (c : model.Config) → IsAt i c.state c.agenda m → (r k : ℕ) → r ≡ (system_of i).resource (path_at (system_of i) k) → (due : Option ℕ)
    → IfSome due (λ t. IsSome (waiting m.traffic.agenda (timer_key t r k)))
    → IfNone due ((t : ℕ) → waiting m.traffic.agenda (timer_key t r k) ≡ None) → IsDue i c k due
due_is i m c at r k home due some none = record { some = go_some due some; none = go_none due none }
  where
    here : (t : ℕ) → timer_key t r k ≡ timer_key t ((system_of i).resource (path_at (system_of i) k)) k
    here t = ap (λ q. timer_key t q k) home

    go_some : (due : Option ℕ) → IfSome due (λ t. IsSome (waiting m.traffic.agenda (timer_key t r k)))
        → IfSome due (λ t. IsSome (c.agenda (timer_key t ((system_of i).resource (path_at (system_of i) k)) k)))
    go_some None some = tt
    go_some (Some t) some =
        subst (λ j. IsSome (c.agenda j)) (here t)
        (subst (λ (o : Option model.Event). IsSome o) (sym (at.agenda (timer_key t r k))) (mapped (event_of i) (waiting m.traffic.agenda (timer_key t r k)) some))

    go_none : (due : Option ℕ) → IfNone due ((t : ℕ) → waiting m.traffic.agenda (timer_key t r k) ≡ None)
        → IfNone due ((t : ℕ) → c.agenda (timer_key t ((system_of i).resource (path_at (system_of i) k)) k) ≡ None)
    go_none (Some t) none = tt
    go_none None none = λ t.
        subst (λ j. c.agenda j ≡ None) (here t)
        (at.agenda (timer_key t r k) ∙ ap (option_map (event_of i)) (none t))

-- ---- One block

out_basic : (s : BasicState) → out-Block (block.Basic s) ≡ Block-F.Basic s
out_basic s = search (rules, the_lemmas)

out_event : (s : State) → out-Block (block.Event s) ≡ Block-F.Event s
out_event s = search (rules, the_lemmas)

pub out_composite : (bs : List Block) → out-Block (block.Composite bs) ≡ Block-F.Composite bs
out_composite bs = search (rules, the_lemmas)

pub on_ok : {A E P Q : Type 0} (r : Result A E) → OnOk r P → (P → Q) → OnOk r Q
on_ok (Ok a) p f = f p
on_ok (Err e) p f = tt

-- the ports have as many inputs and outputs as the shell has values
outputs_counted : (sys : System) (p : Path) (s : Shell) (b : model.Block) (its : Ports) → ShellRepresents sys p s b → its ≡ ports_at sys p → length s.published ≡ length its.outputs
outputs_counted sys p s b its holds is =
    holds.published.each ∙ length-map (ports_at sys p).outputs (λ (v : Variable). v.name) ∙ ap (λ (z : Ports). length z.outputs) (sym is)

inputs_counted : (sys : System) (p : Path) (kind : Kind) (s : Shell) (b : model.Block) (its : Ports) → sys.kind p ≡ Some kind → ((t : BasicType) → kind ≡ Basic t → ⊥)
    → ShellRepresents sys p s b → its ≡ ports_at sys p → length s.inputs ≡ length its.inputs
inputs_counted sys p kind s b its of_kind other holds is =
    let inputs = holds.inputs (λ t basic. other t (same_Some kind (Basic t) (sym of_kind ∙ basic))) in
    inputs.each ∙ length-map (ports_at sys p).inputs (λ (v : Variable). v.name) ∙ ap (λ (z : Ports). length z.inputs) (sym is)

module _ (i : Inputs) (k : ℕ) (c : model.Config) where
  abbrev sys : System
  sys = system_of i

  abbrev path : Path
  path = path_at (system_of i) k

  abbrev of_model : model.Block
  of_model = c.state.blocks (path_at (system_of i) k)

  abbrev Here : Block → Type 0
  Here x = Represents (system_of i) (path_at (system_of i) k) x (c.state.blocks (path_at (system_of i) k))

  abbrev Holds : Shell → Type 0
  Holds s = ShellRepresents (system_of i) (path_at (system_of i) k) s (c.state.blocks (path_at (system_of i) k))

  -- the inputs and the outputs that a shell has
  abbrev listed : Shell → Ports → List ℕ
  listed s its = listed_text its.inputs s.inputs ++ listed_text its.outputs s.published

  as_basic : (x : Block) (s : BasicState) → Here x → x ≡ block.Basic s → (t : BasicType) × (sys.kind path ≡ Some (Basic t)) × BasicRepresents t s of_model.memory of_model.variables
  as_basic x s here is =
      basic_kind (sys.kind path) s of_model.memory of_model.variables
      (subst (λ (y : Block-F Block). NodeRepresents (sys.kind path) y of_model.memory of_model.variables) (ap out-Block is ∙ out_basic s) here)

  as_event : (x : Block) (s : State) → Here x → x ≡ block.Event s → (e : EventKind) × (sys.kind path ≡ Some (Event e)) × EventRepresents e s of_model.memory
  as_event x s here is =
      event_kind (sys.kind path) s of_model.memory of_model.variables
      (subst (λ (y : Block-F Block). NodeRepresents (sys.kind path) y of_model.memory of_model.variables) (ap out-Block is ∙ out_event s) here)

  as_composite : (x : Block) (bs : List Block) → Here x → out-Block x ≡ Block-F.Composite bs → (t : CompositeType) × (sys.kind path ≡ Some (Composite t))
  as_composite x bs here is =
      composite_kind (sys.kind path) bs of_model.memory of_model.variables
      (subst (λ (y : Block-F Block). NodeRepresents (sys.kind path) y of_model.memory of_model.variables) is here)

  -- an instance that has a basic block has a basic type
  pub has_type : (x : Block) (s : BasicState) → Here x → x ≡ block.Basic s → ((t : BasicType) → sys.kind path ≡ Some (Basic t) → ⊥) → ⊥
  has_type x s here is none = let its = as_basic x s here is in none its.0 its.1

  pub event_inputs : (x : Block) (s : State) (shell : Shell) (its : Ports) → Here x → Holds shell → x ≡ block.Event s → its ≡ ports_at sys path → length shell.inputs ≡ length its.inputs
  event_inputs x s shell its here holds is ports =
      let kind = as_event x s here is in inputs_counted sys path (Event kind.0) shell of_model its kind.1 (λ t other. absurd (cc)) holds ports

  pub composite_inputs : (x : Block) (bs : List Block) (shell : Shell) (its : Ports) → Here x → Holds shell → out-Block x ≡ Block-F.Composite bs → its ≡ ports_at sys path
      → length shell.inputs ≡ length its.inputs
  composite_inputs x bs shell its here holds is ports =
      let kind = as_composite x bs here is in inputs_counted sys path (Composite kind.0) shell of_model its kind.1 (λ t other. absurd (cc)) holds ports

  pub outputs : (shell : Shell) (its : Ports) → Holds shell → its ≡ ports_at sys path → length shell.published ≡ length its.outputs
  outputs shell its holds ports = outputs_counted sys path shell of_model its holds ports

  pub basic_block_shown : (x : Block) (s : BasicState) (t : BasicType) (old new : List ℕ) → Here x → x ≡ block.Basic s → sys.kind path ≡ Some (Basic t)
      → new ≡ old ++ basic_text t (state_at t s.state) (values_of s.frame) → IsBlockShown i c k old new
  basic_block_shown x s t old new here is kind text =
      let its = as_basic x s here is in
      let same : its.0 ≡ t = basic_same its.0 t (sym its.1 ∙ kind) in
      let has = subst (λ (u : BasicType). BasicRepresents u s of_model.memory of_model.variables) same its.2 in
      record {
        kind = Basic t;
        is_kind = kind;
        due = None;
        is_due = λ e other. absurd (cc);
        text = text ∙ ap (λ (z : List ℕ). old ++ z) (basic_shown t s of_model has);
      }

  pub event_block_shown : (x : Block) (s : State) (shell : Shell) (its : Ports) (due : Option ℕ) (old mid new : List ℕ) → Here x → Holds shell → x ≡ block.Event s → its ≡ ports_at sys path
      → IsDue i c k due → mid ≡ old ++ memory_text s.kind s.memory due → new ≡ mid ++ (listed_text its.inputs shell.inputs ++ listed_text its.outputs shell.published)
      → IsBlockShown i c k old new
  event_block_shown x s shell its due old mid new here holds is ports wait first second =
      let kind = as_event x s here is in
      let e = kind.0 in
      let memory : memory_text s.kind s.memory due ≡ memory_text e (memory_of of_model.memory) due =
      ap (λ (f : EventKind). memory_text f s.memory due) kind.2.is_kind ∙ ap (λ m. memory_text e (memory_of m) due) (sym kind.2.memory) in
      let values : listed shell its ≡ shell_text (ports_of (Event e)) of_model =
      ap (listed shell) ports ∙ shell_shown sys path (Event e) shell of_model kind.1 (λ t other. absurd (cc)) holds in
      record {
        kind = Event e;
        is_kind = kind.1;
        due = due;
        is_due = λ f same. wait;
        text =
            second ∙ ap (λ (z : List ℕ). z ++ listed shell its) first
            ∙ append_assoc old (memory_text s.kind s.memory due) (listed shell its)
            ∙ ap (λ (z : List ℕ). old ++ (z ++ listed shell its)) memory
            ∙ ap (λ (z : List ℕ). old ++ (memory_text e (memory_of of_model.memory) due ++ z)) values;
      }

  pub composite_shown : (x : Block) (bs : List Block) (shell : Shell) (its : Ports) (old new : List ℕ) → Here x → Holds shell → out-Block x ≡ Block-F.Composite bs → its ≡ ports_at sys path
      → new ≡ old ++ (listed_text its.inputs shell.inputs ++ listed_text its.outputs shell.published) → IsBlockShown i c k old new
  composite_shown x bs shell its old new here holds is ports text =
      let kind = as_composite x bs here is in
      record {
        kind = Composite kind.0;
        is_kind = kind.1;
        due = None;
        is_due = λ e other. absurd (cc);
        text =
            text ∙ ap (λ (z : List ℕ). old ++ z)
            (ap (listed shell) ports ∙ shell_shown sys path (Composite kind.0) shell of_model kind.1 (λ t other. absurd (cc)) holds);
      }
