-- Stimuli by number (IEC 61499-1, 5.1 and 7; the numbers are this project's profile).
use Rattle.std.specs.Prelude.{◌≡◌, ◌<◌, ℕ, List, [], map, length, Some, All, slice_get, unwrap_or}
use Rattle.fb_types.specs.Blocks.{Kind, Bound, ports_of, event_names, variable_names}
use Rattle.fb_types.specs.Flat.{instance_in, kind_of_instance}
use Rattle.fb_types.specs.Accepted.{kind_of_stimulus}
use Rattle.fb_types.specs.declared.deploy.Setting.{Setting}
use Rattle.fb_types.specs.declared.deploy.Stimulus.{Stimulus}
use Rattle.fb_types.specs.declared.library.Instance.{Instance}
use Rattle.fb_types.specs.declared.library.Library.{Library}
use Rattle.fb_types.specs.declared.library.Variable.{Variable}
use Rattle.fb_types.specs.declared.run.InputValue.{InputValue}
use Rattle.fb_system.specs.declared.rows.StimulusRow.{StimulusRow}

-- ---- Settings

-- what a stimulus sets
abbrev pub bound_of : Setting → Bound
bound_of s = record { variable = s.variable; value = s.value }

-- what the slot of the input at an index is set to
abbrev pub set_at : List Variable → InputValue → Bound
set_at vs x = record { variable = unwrap_or (slice_get (variable_names vs) x.index) []; value = x.value }

pub record IsSet (vs : List Variable) (s : Setting) (x : InputValue) : Type 0 where
  pub named : set_at vs x ≡ bound_of s
  pub within : x.index < length vs

-- the settings by number, in their order
pub record AreSets (vs : List Variable) (ss : List Setting) (xs : List InputValue) : Type 0 where
  pub named : map (set_at vs) xs ≡ map bound_of ss
  pub within : All (λ x. x.index < length vs) xs

-- ---- Stimuli

-- The row represents the stimulus: its instance among those of the application, and the ports of the instance's type.
pub record IsRow (lib : Library) (s : Stimulus) (row : StimulusRow) : Type 0 where
  pub tick : row.tick ≡ s.tick
  pub instance : Instance
  pub at : slice_get lib.application.network.instances row.instance ≡ Some instance
  pub called : instance.name ≡ s.instance
  pub found : instance_in lib.application.network s.instance ≡ Some instance
  pub kind : Kind
  pub of_instance : kind_of_instance lib instance ≡ Some kind
  pub of_kind : kind_of_stimulus lib s ≡ Some kind
  pub event : slice_get (event_names (ports_of kind).event_inputs) row.event ≡ Some s.event
  pub sets : AreSets (ports_of kind).inputs s.settings row.sets

-- a row for each of the first n stimuli
pub record AreRowsUpTo (n : ℕ) (lib : Library) (ss : List Stimulus) (rows : List StimulusRow) : Type 0 where
  pub counted : length rows ≡ n
  pub each : (k : ℕ) (s : Stimulus) (row : StimulusRow) → slice_get ss k ≡ Some s → slice_get rows k ≡ Some row → IsRow lib s row

abbrev pub AreRows : Library → List Stimulus → List StimulusRow → Type 0
AreRows lib ss rows = AreRowsUpTo (length ss) lib ss rows
