-- Variables whose names have indexes among all names of their type, and WITH lists that name them (IEC 61499-1, 5.1; the
-- order of the names is this project's profile).
use Rattle.std.specs.Prelude.{◌≡◌, ◌+◌, ℕ, List, Some, Contains, slice_get}
use Rattle.std.specs.Borrow.{Bor}
use Rattle.std.specs.BTreeMap.{BTreeMap}
use Rattle.fb_types.specs.Names.{Name}
use Rattle.fb_types.specs.Blocks.{event_names, variable_names}
use Rattle.fb_types.specs.Repeated.{Twice}
use Rattle.fb_types.specs.declared.library.EventPort.{EventPort}
use Rattle.fb_types.specs.declared.library.Ports.{Ports}
use Rattle.fb_types.specs.declared.library.Variable.{Variable}
use Rattle.fb_check_names.specs.Indexes.{index_in}

-- Variables of different names that follow each other among all names, the first at an index.
pub record AreIndexedFrom (first : ℕ) (vs : List Variable) (indexes : BTreeMap (Bor Name) ℕ) : Type 0 where
  pub once : ¬ (Twice (variable_names vs))
  pub index : (k : ℕ) (v : Variable) → slice_get vs k ≡ Some v → index_in indexes v.name ≡ Some (first + k)

-- A WITH list that names variables, each once.
pub record IsList (vs : List Variable) (with_names : List Name) : Type 0 where
  pub once : ¬ (Twice with_names)
  pub known : (n : Name) → Contains with_names n → Contains (variable_names vs) n

-- Events of different names, whose WITH lists name variables.
pub record AreEvents (vs : List Variable) (events : List EventPort) : Type 0 where
  pub once : ¬ (Twice (event_names events))
  pub lists : (e : ℕ) (p : EventPort) → slice_get events e ≡ Some p → IsList vs p.with

-- An interface in which no name is given twice and each WITH list names variables, and a map from its names to their
-- indexes.
pub record IsIndexed (its : Ports) (indexes : BTreeMap (Bor Name) ℕ) : Type 0 where
  pub first_input : ℕ
  pub inputs : AreIndexedFrom first_input its.inputs indexes
  pub first_output : ℕ
  pub outputs : AreIndexedFrom first_output its.outputs indexes
  pub event_inputs : AreEvents its.inputs its.event_inputs
  pub event_outputs : AreEvents its.outputs its.event_outputs
