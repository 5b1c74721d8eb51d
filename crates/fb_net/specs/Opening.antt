-- The blocks of a resource before the first event (IEC 61499-1, 5.2 and 5.3; that they are as trees, with held copies, is this project's profile).
use Rattle.std.specs.Prelude.{◌≡◌, ◌≢◌, ◌<◌, ◌≤◌, ◌+◌, ◌⊎◌, ℕ, zero, suc, Bool, true, List, [], ◌∷◌, length, Some, slice_get}
use Rattle.std.specs.BTreeMap.{BTreeMap, get}
use Rattle.std.specs.Ordering.{nat_cmp}
use Rattle.fb_types.specs.Names.{Name, Path, with_value}
use Rattle.fb_types.specs.Values.{Values}
use Rattle.fb_types.specs.Flat.{network_at}
use Rattle.fb_types.specs.Headline.{Inputs, system_of}
use Rattle.fb_types.specs.Numbers.{path_at}
use Rattle.fb_types.specs.Simulation.{opening_block}
use Rattle.fb_types.specs.declared.library.BasicType.{BasicType}
use Rattle.fb_types.specs.declared.library.BlockType.TheVariants as block
use Rattle.fb_types.specs.declared.library.Instance.{Instance}
use Rattle.fb_types.specs.declared.library.Network.{Network}
use Rattle.fb_types.specs.declared.value.Value.{Value}
use Rattle.fb_st.specs.Frames.{Declared, is_declared}
use Rattle.fb_ecc.specs.Programs.{IsSharedOf}
use Rattle.fb_ecc.specs.declared.shared.Shared.{Shared}
use Rattle.fb_types.specs.declared.run.InstanceVariable.{InstanceVariable}
use Rattle.fb_system.specs.Layouts.{AreNumbers}
use Rattle.fb_system.specs.Ports.{IsVariable, variable_of}
use Rattle.fb_net.specs.Blocks.{components_of, own_of}
use Rattle.fb_net.specs.HeldAt.{held_at}
use Rattle.fb_net.specs.Worlds.{AreApart, ShellAt, Represents, index_in}
use Rattle.fb_net.specs.declared.block.Block.{Block}
use Rattle.fb_net.specs.declared.held_copies.HeldCopies.{HeldCopies}
use Rattle.fb_net.specs.declared.resource.Forest.{Forest}

-- ---- Values

-- the frame has a variable of each name
abbrev pub AreDeclared : List Declared → List Name → Type 0
AreDeclared ds ns = (index : ℕ) (n : Name) → slice_get ns index ≡ Some n → is_declared ds n ≡ true

-- variables get values in turn, each that at its index
abbrev pub begun_all : List Name → List Value → Values → Values
begun_all [] vs m = m
begun_all (n ∷ ns) [] m = m
begun_all (n ∷ ns) (v ∷ vs) m = begun_all ns vs (with_value n v m)

-- ---- Charts

abbrev pub Charts : Type 0
Charts = BTreeMap ℕ Shared

-- Each chart that was made is that of the basic type at its index of the library.
abbrev pub AreCharts : Inputs → Charts → Type 0
AreCharts i charts = (index : ℕ) (t : BasicType) (c : Shared) → slice_get i.library.blocks index ≡ Some (block.Basic t) → get nat_cmp charts index ≡ Some c → IsSharedOf t c

-- Each chart was there before, or is that of the type at the index.
abbrev pub ChartsGrow : Charts → (index : ℕ) → BasicType → Charts → Type 0
ChartsGrow old index t new = (q : ℕ) (c : Shared) → get nat_cmp new q ≡ Some c → (get nat_cmp old q ≡ Some c) ⊎ ((index ≡ q) × (IsSharedOf t c))

-- ---- Trees

-- What is known of an instance whose block is made: how deep it is, and how many names deeper one may go, make 18.
pub record IsDeep (i : Inputs) (depth : ℕ) (k : ℕ) : Type 0 where
  pub number : k < length (system_of i).paths
  pub deep : length (path_at (system_of i) k) + depth ≡ 18

abbrev pub AreDeep : Inputs → (depth : ℕ) → List ℕ → Type 0
AreDeep i depth numbers = (index k : ℕ) → slice_get numbers index ≡ Some k → IsDeep i depth k

-- The block represents an instance before the first event, and its components do so, at most this many names deep.
abbrev pub Grown : Inputs → (depth : ℕ) → Path → Block → Type 0
Grown i zero p b = ⊥
Grown i (suc d) p b =
    Represents (system_of i) p (own_of b) (opening_block (system_of i) p)
    × ((net : Network) → network_at i.library p ≡ Some net → (index : ℕ) (x : Instance) → slice_get net.instances index ≡ Some x →
    (c : Block) × (slice_get (components_of b) index ≡ Some c) × Grown i d (x.name ∷ p) c)

-- A block for each instance, at its index.
pub record AreGrown (i : Inputs) (depth : ℕ) (numbers : List ℕ) (blocks : List Block) : Type 0 where
  pub each : length blocks ≡ length numbers
  pub grown : (index k : ℕ) → slice_get numbers index ≡ Some k → (b : Block) × (slice_get blocks index ≡ Some b) × Grown i depth (path_at (system_of i) k) b

-- ---- Roots

-- Those of some instances of the application that are in a resource, in their order, and for each the index that it has among them.
pub record AreRoots (i : Inputs) (r : ℕ) (top roots numbers : List ℕ) : Type 0 where
  pub each : length roots ≡ length top
  pub there : (index k : ℕ) → slice_get top index ≡ Some k → (system_of i).resource (path_at (system_of i) k) ≡ r → slice_get numbers (index_in roots index) ≡ Some k
  pub among : (index k : ℕ) → slice_get numbers index ≡ Some k → (m : ℕ) × (slice_get top m ≡ Some k)

-- Each instance of the application that is in the resource is the root of a tree.
pub record AreRooted (i : Inputs) (r : ℕ) (roots numbers : List ℕ) : Type 0 where
  pub top : List ℕ
  pub are : AreNumbers i.library [] i.library.application.network.instances top
  pub roots_are : AreRoots i r top roots numbers

-- ---- Shells

-- The shells of the instances of a resource below a number have their indexes, and represent what they are before the first event.
pub record HaveShells (i : Inputs) (n : ℕ) (t : Forest) : Type 0 where
  pub each : length t.shell_indexes ≡ n
  pub few : length t.shells ≤ n
  pub stand : (k : ℕ) → k < n → (system_of i).resource (path_at (system_of i) k) ≡ t.resource → ShellAt i t.shell_indexes t.shells k (opening_block (system_of i) (path_at (system_of i) k))
  pub apart : AreApart i t.resource n t.shell_indexes

-- Nothing but indexes and shells has changed.
pub record IsShellAlone (old new : Forest) : Type 0 where
  pub resource : new.resource ≡ old.resource
  pub roots : new.roots ≡ old.roots
  pub blocks : new.blocks ≡ old.blocks
  pub held : new.held ≡ old.held

-- ---- Held copies

-- What the variable is connected to has its held copy, where it is in another resource.
abbrev pub Covers : Inputs → (resource : ℕ) → HeldCopies → InstanceVariable → Type 0
Covers i r held to =
    (x : InstanceVariable) → IsVariable (system_of i) x → (system_of i).source (variable_of (system_of i) to) ≡ Some (variable_of (system_of i) x) →
    (system_of i).resource (path_at (system_of i) x.instance) ≢ r →
    held_at held x ≡ Some ((system_of i).initial (variable_of (system_of i) x))

-- The held copies cover each data input of an instance, or each of its data outputs.
abbrev pub CoversSources : Inputs → (resource : ℕ) → HeldCopies → (instance : ℕ) → (is_output : Bool) → Type 0
CoversSources i r held k o =
    (v : ℕ) → IsVariable (system_of i) (record { instance = k; variable = v; is_output = o }) →
    Covers i r held (record { instance = k; variable = v; is_output = o })

-- The held copies cover each variable in the resource.
abbrev pub CoversAll : Inputs → (resource : ℕ) → HeldCopies → Type 0
CoversAll i r held =
    (to : InstanceVariable) → IsVariable (system_of i) to → (system_of i).resource (path_at (system_of i) to.instance) ≡ r → Covers i r held to

-- No held copy is lost.
abbrev pub KeepsCovers : Inputs → (resource : ℕ) → (old new : HeldCopies) → Type 0
KeepsCovers i r old new = (to : InstanceVariable) → Covers i r old to → Covers i r new to

-- No held copy of a variable with what it begins with is lost.
abbrev pub KeepsInitial : Inputs → (old new : HeldCopies) → Type 0
KeepsInitial i old new =
    let sys = system_of i in
    (x : InstanceVariable) → IsVariable sys x → held_at old x ≡ Some (sys.initial (variable_of sys x)) → held_at new x ≡ Some (sys.initial (variable_of sys x))
