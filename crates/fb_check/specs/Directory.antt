-- What stimuli may name, by name: event inputs, the variables WITH them, and data inputs (IEC 61499-1, 5.2.1 and 6.1;
-- event blocks by their kinds are this project's profile).
use Rattle.std.specs.Prelude.{◌≡◌, ℕ, List, [], ◌∷◌, map, Bool, true, false, not, ◌&&◌, ◌||◌, Option, Some, None, if◌then◌else◌, position, slice_get, option_map, option_and_then}
use Rattle.std.specs.List.{list_any, list_all}
use Rattle.std.specs.Ordering.{ordering_then}
use Rattle.std.specs.BTreeMap as tree
use Rattle.std.specs.BTreeSet as set
use Rattle.std.specs.Borrow.{Bor}
use Rattle.fb_types.specs.Names.{Name, same_name, same_port}
use Rattle.fb_types.specs.NameOrder.{name_cmp}
use Rattle.fb_types.specs.Values.{fits}
use Rattle.fb_types.specs.Blocks.{among, ports_of, ports_of_event_block, is_event_input}
use Rattle.fb_types.specs.EventPorts.{kind_index}
use Rattle.fb_types.specs.Flat.{kind_of, kind_of_instance, instance_in, port_in}
use Rattle.fb_types.specs.Repeated.{Twice}
use Rattle.fb_types.specs.Accepted.{BadStimulus, set_names, is_held}
use Rattle.fb_types.specs.declared.event_kind.EventKind.{EventKind}
use Rattle.fb_types.specs.declared.value.Value.{Value}
use Rattle.fb_types.specs.declared.library.Library.{Library}
use Rattle.fb_types.specs.declared.library.EventPort.{EventPort}
use Rattle.fb_types.specs.declared.library.Variable.{Variable}
use Rattle.fb_types.specs.declared.library.Connection.{Connection}
use Rattle.fb_types.specs.declared.library.Ports.{Ports}
use Rattle.fb_types.specs.declared.deploy.Stimulus.{Stimulus}
use Rattle.fb_types.specs.declared.deploy.Setting.{Setting}
use Rattle.fb_system.specs.Rows.{AreRows, IsRow}
use Rattle.fb_types.specs.declared.run.InputValue.{InputValue}
use Rattle.fb_system.specs.declared.rows.StimulusRow.{StimulusRow}
use Rattle.fb_check.specs.declared.directory_making.Input.{Input}
use Rattle.fb_check.specs.declared.directory_making.TypeInputs.{TypeInputs}
use Rattle.fb_check.specs.declared.directory.Directory.{Directory}

-- ---- Sets and maps of names

abbrev pub Pair : Type 0
Pair = Bor Name × Bor Name

abbrev pub has_pair : set.BTreeSet Pair → Name → Name → Bool
has_pair s n m = set.contains_by (λ k. ordering_then (name_cmp n k.0.now) (name_cmp m k.1.now)) s

-- what a map has for a name
abbrev pub read_in : {X : Type 0} → tree.BTreeMap (Bor Name) X → Name → Option X
read_in m n = tree.get_by (λ k. name_cmp n k.now) m

abbrev pub input_in : tree.BTreeMap (Bor Name) Input → Name → Option Input
input_in m n = read_in m n

-- the result for the first element with a name, from its index
abbrev pub first_of : {A X : Type 0} → (A → Name) → (ℕ → A → X) → List A → Name → Option X
first_of name made xs n = option_and_then (λ k. option_map (made k) (slice_get xs k)) (position (same_name n) (map name xs))

-- The map has this result for each name.
pub record AreFirst {A X : Type 0} (name : A → Name) (made : ℕ → A → X) (xs : List A) (m : tree.BTreeMap (Bor Name) X) : Type 0 where
  pub first : (n : Name) → read_in m n ≡ first_of name made xs n

-- ---- One type

-- whether an event of the list has the name and lists the variable
abbrev pub lists : List EventPort → Name → Name → Bool
lists events e v = list_any (λ q. same_name q.name e && among q.with v) events

-- the indexes of the events
abbrev pub AreEvents : List EventPort → tree.BTreeMap (Bor Name) ℕ → Type 0
AreEvents events m = AreFirst (λ (e : EventPort). e.name) (λ k e. k) events m

-- in addition to what was there, the event with each of the variables
pub record IsExtended (event : Name) (variables : List Name) (old new : set.BTreeSet Pair) : Type 0 where
  pub has : (n m : Name) → has_pair new n m ≡ (has_pair old n m || (same_name event n && among variables m))

-- the events, each with the variables that it lists
pub record AreWiths (events : List EventPort) (s : set.BTreeSet Pair) : Type 0 where
  pub has : (n m : Name) → has_pair s n m ≡ lists events n m

abbrev pub input_of : ℕ → Variable → Input
input_of k v = record { index = k; ty = v.ty }

-- the indexes and the types of the variables
abbrev pub AreVariables : List Variable → tree.BTreeMap (Bor Name) Input → Type 0
AreVariables variables m = AreFirst (λ (v : Variable). v.name) input_of variables m

-- the event inputs, the variables WITH them and the data inputs of an interface
pub record IsInputs (p : Ports) (x : TypeInputs) : Type 0 where
  pub events : AreEvents p.event_inputs x.events
  pub withs : AreWiths p.event_inputs x.withs
  pub variables : AreVariables p.inputs x.variables

-- none for none, else those of the interface
abbrev pub IsFound : Option Ports → Option TypeInputs → Type 0
IsFound None None = Unit
IsFound None (Some x) = ⊥
IsFound (Some p) None = ⊥
IsFound (Some p) (Some x) = IsInputs p x

-- those of each interface, at its index
pub record AreInputs (ps : List Ports) (xs : List TypeInputs) : Type 0 where
  pub each : (i : ℕ) → IsFound (slice_get ps i) (slice_get xs i)

-- ---- A declaration

-- whether a connection leads to the port of the component
abbrev pub leads_to : List Connection → Name → Name → Bool
leads_to cs c n = list_any (λ w. same_port (port_in [] w.to) (record { at = c ∷ []; name = n })) cs

-- the components and their ports to which connections lead
pub record AreTargets (cs : List Connection) (s : set.BTreeSet Pair) : Type 0 where
  pub has : (c n : Name) → has_pair s c n ≡ leads_to cs c n

-- the event blocks at the indexes of their interfaces, the block types of the declaration at theirs, and the targets of
-- the application's data connections
pub record IsDirectory (lib : Library) (d : Directory) : Type 0 where
  pub event_blocks : (k : EventKind) → IsFound (Some (ports_of_event_block k)) (slice_get d.event_blocks (kind_index k))
  pub declared : AreInputs (map (λ t. ports_of (kind_of t)) lib.blocks) d.declared
  pub targets : AreTargets lib.application.network.data_connections d.targets

-- ---- Stimuli

-- the interface of the instance of the application at an index
abbrev pub ports_at_index : Library → ℕ → Option Ports
ports_at_index lib k = option_map ports_of (option_and_then (kind_of_instance lib) (slice_get lib.application.network.instances k))

-- the interface of the instance with a name
abbrev pub ports_at : Library → Name → Option Ports
ports_at lib n = option_map ports_of (option_and_then (kind_of_instance lib) (instance_in lib.application.network n))

-- The variable goes WITH the event, no data connection of the application leads to it, and its type contains the value.
abbrev pub can_set : Library → Ports → Stimulus → Setting → Bool
can_set lib p s v =
    lists p.event_inputs s.event v.variable && (not (leads_to lib.application.network.data_connections s.instance v.variable) && is_held p v)

-- The event is an event input of an instance of the application, and each variable is set once and can be set.
pub record CanTake (lib : Library) (s : Stimulus) : Type 0 where
  pub ports : Ports
  pub of_ports : ports_at lib s.instance ≡ Some ports
  pub is_event : is_event_input ports s.event ≡ true
  pub once : ¬ (Twice (set_names s))
  pub each : list_all (can_set lib ports s) s.settings ≡ true

-- whether there is an input with the name, and its type contains the value
abbrev pub holds : TypeInputs → Name → Value → Bool
holds x n v = elim (input_in x.variables n) [ None ↦ false | Some i ↦ fits i.ty v ]

-- the name is in the directory WITH the event and unconnected, and its type contains the value
abbrev pub is_settable : Directory → TypeInputs → Stimulus → Setting → Bool
is_settable d x s v =
    has_pair x.withs s.event v.variable && (not (has_pair d.targets s.instance v.variable) && holds x v.variable v.value)

-- ---- Stimuli by number

-- the slot of an input, if its type contains the value
abbrev pub held_slot : Option Input → Value → Option InputValue
held_slot None v = None
held_slot (Some i) v = if fits i.ty v then Some (record { index = i.index; value = v }) else None

-- the slot of a setting, if it is settable
abbrev pub slot_of : Directory → TypeInputs → Stimulus → Setting → Option InputValue
slot_of d x s v =
    if has_pair x.withs s.event v.variable && not (has_pair d.targets s.instance v.variable) then held_slot (input_in x.variables v.variable) v.value else None

-- A stimulus that can be taken, by number.
pub record IsTaken (lib : Library) (s : Stimulus) (x : StimulusRow) : Type 0 where
  pub takes : CanTake lib s
  pub row : IsRow lib s x

-- Stimuli of which none is bad, by number.
pub record AreTaken (lib : Library) (ss : List Stimulus) (xs : List StimulusRow) : Type 0 where
  pub good : ¬ (BadStimulus lib ss)
  pub rows : AreRows lib ss xs
