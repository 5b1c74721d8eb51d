-- What the blocks of one resource represent in the model (IEC 61499-1, 5.2 and 5.3; that a resource has trees of its own instances, and held copies, is this project's profile).
use Rattle.std.specs.Prelude.{◌≡◌, ◌<◌, ◌≤◌, ◌≢◌, ℕ, false, List, [], ◌∷◌, length, Option, Some, unwrap_or, slice_get, slice_set}
use Rattle.fb_types.specs.Names.{Name, Path}
use Rattle.fb_types.specs.Values.{Values}
use Rattle.fb_types.specs.Blocks.{Kind, Basic, Event, Composite, among, variable_names}
use Rattle.fb_types.specs.Flat.{zero_value}
use Rattle.fb_types.specs.Headline.{Inputs, system_of}
use Rattle.fb_types.specs.Numbers.{path_at, ports_at}
use Rattle.fb_types.specs.Reactions.{World, sampled_from, seen, shown}
use Rattle.fb_types.specs.States as model
use Rattle.fb_types.specs.Systems.{System}
use Rattle.fb_types.specs.declared.event_kind.EventKind.{EventKind}
use Rattle.fb_types.specs.declared.library.BasicType.{BasicType}
use Rattle.fb_types.specs.declared.value.Value.{Value}
use Rattle.fb_st.specs.Frames.{values_of}
use Rattle.fb_ecc.specs.Indexes.{IsBlockOf, state_at}
use Rattle.fb_ecc.specs.Sound.{IsSound}
use Rattle.fb_ecc.specs.declared.state.BasicState.{BasicState}
use Rattle.fb_event.specs.State.{State}
use Rattle.fb_system.specs.Layouts.{route_to}
use Rattle.fb_types.specs.declared.run.InstanceVariable.{InstanceVariable}
use Rattle.fb_system.specs.Ports.{IsCompositeAt, IsSource, IsVariable, variable_of}
use Rattle.fb_net.specs.HeldAt.{held_at}
use Rattle.fb_net.specs.Trees.{own_at}
use Rattle.fb_net.specs.declared.block.Block.{Block}
use Rattle.fb_net.specs.declared.block.Block.TheOpen.{Block-F}
use Rattle.fb_net.specs.declared.block.Block.TheViews.{out-Block}
use Rattle.fb_net.specs.declared.resource.Forest.{Forest}
use Rattle.fb_net.specs.declared.shell.Shell.{Shell}

-- ---- Values by index

-- the value at an index, or 0 after the end
abbrev pub value_in : List Value → ℕ → Value
value_in values index = unwrap_or (slice_get values index) zero_value

-- what the variables of an instance begin with
abbrev pub begins : System → Path → Values
begins sys p n = sys.initial (record { at = p; name = n })

abbrev pub input_names : System → Path → List Name
input_names sys p = variable_names (ports_at sys p).inputs

abbrev pub output_names : System → Path → List Name
output_names sys p = variable_names (ports_at sys p).outputs

-- The values are at the indexes of the names of some variables of an instance. Another name has what it begins with.
pub record ValuesRepresent (sys : System) (p : Path) (names : List Name) (values : List Value) (all : Values) : Type 0 where
  pub each : length values ≡ length names
  pub at_index : (index : ℕ) (n : Name) (v : Value) → slice_get names index ≡ Some n → slice_get values index ≡ Some v → all n ≡ v
  pub others : (n : Name) → among names n ≡ false → all n ≡ begins sys p n

-- ---- One instance

-- What connections and stimuli have set of an instance. A basic block has its data inputs among its variables.
pub record ShellRepresents (sys : System) (p : Path) (s : Shell) (b : model.Block) : Type 0 where
  pub slots : ValuesRepresent sys p (input_names sys p) s.slots b.slots
  pub published : ValuesRepresent sys p (output_names sys p) s.published b.published
  pub inputs : ((t : BasicType) → sys.kind p ≢ Some (Basic t)) → ValuesRepresent sys p (input_names sys p) s.inputs b.variables

pub record BasicRepresents (t : BasicType) (s : BasicState) (m : model.Memory) (all : Values) : Type 0 where
  pub sound : IsSound t
  pub block : IsBlockOf t s
  pub memory : m ≡ model.InState (state_at t s.state)
  pub variables : (n : Name) → all n ≡ values_of s.frame n

-- The variables of an event block are its data inputs: the outputs that it shows follow from what it remembers.
pub record EventRepresents (kind : EventKind) (s : State) (m : model.Memory) : Type 0 where
  pub is_kind : s.kind ≡ kind
  pub memory : m ≡ model.Remembers s.memory

-- What a block of that kind remembers, and the variables of a basic block. A composite remembers nothing.
abbrev pub NodeRepresents : Option Kind → Block-F Block → model.Memory → Values → Type 0
NodeRepresents (Some (Basic t)) (Block-F.Basic s) m all = BasicRepresents t s m all
NodeRepresents (Some (Event k)) (Block-F.Event s) m all = EventRepresents k s m
NodeRepresents (Some (Composite t)) (Block-F.Composite bs) m all = m ≡ model.Nothing
NodeRepresents k x m all = ⊥

-- The block represents that one at a path. Its components represent others.
abbrev pub Represents : System → Path → Block → model.Block → Type 0
Represents sys p x b = NodeRepresents (sys.kind p) (out-Block x) b.memory b.variables

-- ---- The shells of one resource

-- the index of an instance's shell among those of its resource
abbrev pub index_in : List ℕ → (instance : ℕ) → ℕ
index_in shell_indexes k = unwrap_or (slice_get shell_indexes k) 0

-- the shells with another one at the index of an instance
abbrev pub with_shell_at : Forest → (instance : ℕ) → Shell → Forest
with_shell_at t k s = record t { shells = slice_set t.shells (index_in t.shell_indexes k) s }

-- The shell at the index of an instance represents it.
pub record ShellAt (i : Inputs) (shell_indexes : List ℕ) (shells : List Shell) (k : ℕ) (b : model.Block) : Type 0 where
  pub shell : Shell
  pub stood : slice_get shells (index_in shell_indexes k) ≡ Some shell
  pub represents : ShellRepresents (system_of i) (path_at (system_of i) k) shell b

-- No two of the first instances of a resource, of which there are this many, have one index.
unfoldable pub AreApart : Inputs → (resource count : ℕ) → List ℕ → Type 0
AreApart i r n shell_indexes =
    (j k : ℕ) → j < n → k < n → (system_of i).resource (path_at (system_of i) j) ≡ r → (system_of i).resource (path_at (system_of i) k) ≡ r →
    index_in shell_indexes j ≡ index_in shell_indexes k → j ≡ k

-- ---- The trees of one resource

-- a way that begins with another index
abbrev pub rooted : List ℕ → List ℕ → List ℕ
rooted roots [] = []
rooted roots (index ∷ rest) = index_in roots index ∷ rest

-- The way to the block of an instance: the root at the index of its outermost name, and the indexes below.
abbrev pub way_in : Inputs → (roots : List ℕ) → (instance : ℕ) → List ℕ
way_in i roots k = rooted roots (route_to i.library (path_at (system_of i) k))

-- The own part of the block on its way represents an instance.
pub record RepresentsAt (i : Inputs) (roots : List ℕ) (blocks : List Block) (k : ℕ) (b : model.Block) : Type 0 where
  pub own : Block
  pub stood : own_at blocks (way_in i roots k) ≡ Some own
  pub represents : Represents (system_of i) (path_at (system_of i) k) own b

-- No two instances of a resource have one way.
unfoldable pub WaysDiffer : Inputs → (resource : ℕ) → List ℕ → Type 0
WaysDiffer i r roots =
    (j k : ℕ) → j < length (system_of i).paths → k < length (system_of i).paths → (system_of i).resource (path_at (system_of i) j) ≡ r →
    (system_of i).resource (path_at (system_of i) k) ≡ r → way_in i roots j ≡ way_in i roots k → j ≡ k

-- ---- Held copies

-- A variable in the resource is connected to this one.
pub record IsRead (sys : System) (resource : ℕ) (x : InstanceVariable) : Type 0 where
  pub to : InstanceVariable
  pub variable : IsVariable sys to
  pub within : sys.resource (path_at sys to.instance) ≡ resource
  pub source : sys.source (variable_of sys to) ≡ Some (variable_of sys x)

-- ---- The world of one resource

-- Each instance of the resource has its block on a way of its own and its shell at an index of its own, and each variable of another resource that one is connected to has its held copy.
pub record IsForest (i : Inputs) (t : Forest) (w : World) : Type 0 where
  pub blocks : (k : ℕ) → k < length (system_of i).paths → (system_of i).resource (path_at (system_of i) k) ≡ t.resource →
      RepresentsAt i t.roots t.blocks k (w.blocks (path_at (system_of i) k))
  pub ways : WaysDiffer i t.resource t.roots
  pub shells : (k : ℕ) → k < length (system_of i).paths → (system_of i).resource (path_at (system_of i) k) ≡ t.resource →
      ShellAt i t.shell_indexes t.shells k (w.blocks (path_at (system_of i) k))
  pub has_shells : length (system_of i).paths ≤ length t.shell_indexes
  pub apart : AreApart i t.resource (length (system_of i).paths) t.shell_indexes
  pub held : (x : InstanceVariable) → IsVariable (system_of i) x → IsRead (system_of i) t.resource x → (system_of i).resource (path_at (system_of i) x.instance) ≢ t.resource →
      held_at t.held x ≡ Some (w.held (variable_of (system_of i) x))

-- ---- What is read of the blocks

abbrev pub InForest : Inputs → Forest → (instance : ℕ) → Type 0
InForest i t k = (system_of i).resource (path_at (system_of i) k) ≡ t.resource

-- The instance is in the resource, and the blocks represent a world. So it has its block, its index and its shell.
pub record Stands (i : Inputs) (t : Forest) (instance : ℕ) : Type 0 where
  pub here : InForest i t instance
  pub whole : (w : World) × IsForest i t w

abbrev pub IsComposite : System → InstanceVariable → Type 0
IsComposite sys x = IsCompositeAt sys x.instance

-- The value is what a part of the instance's block holds for a variable, in each world that the blocks represent.
abbrev pub Reads : Inputs → Forest → InstanceVariable → (model.Block → Values) → Value → Type 0
Reads i t x part v =
    let sys = system_of i in
    (w : World) → IsForest i t w → InForest i t x.instance → v ≡ part (w.blocks (variable_of sys x).at) (variable_of sys x).name

-- The value is what a source in the resource shows, in each world that the blocks represents.
abbrev pub Sees : Inputs → Forest → InstanceVariable → Value → Type 0
Sees i t x v = (w : World) → IsForest i t w → InForest i t x.instance → IsSource (system_of i) x → v ≡ seen (system_of i) w (variable_of (system_of i) x)

-- The value is what a source shows in the resource, wherever the source is.
abbrev pub Shows : Inputs → Forest → InstanceVariable → Value → Type 0
Shows i t x v =
    (w : World) → IsForest i t w → IsRead (system_of i) t.resource x → IsSource (system_of i) x →
    v ≡ shown (system_of i) t.resource w (variable_of (system_of i) x)

-- The value is what a data input samples.
abbrev pub Samples : Inputs → Forest → InstanceVariable → Value → Type 0
Samples i t x v =
    (w : World) → IsForest i t w → InForest i t x.instance →
    v ≡ sampled_from (system_of i) t.resource w (variable_of (system_of i) x)

-- ---- Kinds

-- The block of the variable's instance keeps what it samples itself: it is an event block or a composite.
pub record TakesSamples (sys : System) (x : InstanceVariable) : Type 0 where
  pub no_basic : (t : BasicType) → sys.kind (path_at sys x.instance) ≢ Some (Basic t)
