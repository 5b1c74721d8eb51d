-- Stimuli that an application can't take, and limits (E29, E30): the location, and what is wrong there (this project's
-- profile).
use Rattle.std.specs.Prelude.{◌≡◌, ◌⊎◌, ◌<◌, ◌++◌, ℕ, List, [], ◌∷◌, length, map, false, true, Option, Some, None, Result, Ok, Err, Contains, slice_get}
use Rattle.fb_types.specs.Blocks.{Kind, ports_of, is_event_input, inputs_with}
use Rattle.fb_types.specs.Flat.{paths_of, source_of}
use Rattle.fb_types.specs.Accepted.{IsGood, is_held, kind_of_stimulus, set_names}
use Rattle.fb_types.specs.declared.deploy.Setting.{Setting}
use Rattle.fb_types.specs.declared.deploy.Stimulus.{Stimulus}
use Rattle.fb_types.specs.declared.library.Library.{Library}
use Rattle.fb_check_names.specs.Numbers.{each_or_none}
use Rattle.fb_check_names.specs.Repeats.{IsFirstRepeat}
use Rattle.fb_types.specs.declared.run.InputValue.{InputValue}
use Rattle.fb_system.specs.declared.rows.StimulusRow.{StimulusRow}
use Rattle.fb_check.specs.Directory.{IsTaken}
use Rattle.fb_check.specs.declared.location.Limit.{Limit}
use Rattle.fb_check.specs.declared.location.Limit.TheVariants as limit
use Rattle.fb_check.specs.declared.location.StimulusFault.{StimulusFault}
use Rattle.fb_check.specs.declared.location.StimulusFault.TheVariants as fault
use Rattle.fb_check.specs.declared.location.StimulusLocation.{StimulusLocation}

-- ---- A stimulus

-- The variable goes WITH the event, no connection leads to it, and its type contains the value.
pub record Fits (lib : Library) (s : Stimulus) (kind : Kind) (x : Setting) : Type 0 where
  pub with_event : Contains (inputs_with (ports_of kind) s.event) x.variable
  pub unconnected : source_of lib (record { at = s.instance ∷ []; name = x.variable }) ≡ None
  pub held : is_held (ports_of kind) x ≡ true

-- There is no such instance, or it has no such event input.
abbrev pub HasNoEvent : Library → Stimulus → Type 0
HasNoEvent lib s = (kind_of_stimulus lib s ≡ None) ⊎ ((kind : Kind) × (kind_of_stimulus lib s ≡ Some kind) × (is_event_input (ports_of kind) s.event ≡ false))

-- The setting does not fit.
abbrev pub IsUnfit : Library → Stimulus → Setting → Type 0
IsUnfit lib s x = (kind : Kind) × (kind_of_stimulus lib s ≡ Some kind) × ¬ (Fits lib s kind x)

-- Such a setting is at this index.
abbrev pub HasUnfit : Library → Stimulus → ℕ → Type 0
HasUnfit lib s k = (x : Setting) × (slice_get s.settings k ≡ Some x) × IsUnfit lib s x

-- This is wrong with a stimulus.
abbrev pub IsBad : Library → Stimulus → StimulusFault → Type 0
IsBad lib s fault.Event = HasNoEvent lib s
IsBad lib s (fault.Setting k) = HasUnfit lib s k
IsBad lib s (fault.Twice k) = IsFirstRepeat (set_names s) k

-- The stimulus is there, and this is wrong with it.
abbrev pub IsBadAt : Library → List Stimulus → StimulusLocation → Type 0
IsBadAt lib stimuli p = (s : Stimulus) × (slice_get stimuli p.row ≡ Some s) × IsBad lib s p.fault

-- Each of the first stimuli that the application can't take is among them.
abbrev pub AreAllBadUpTo : ℕ → Library → List Stimulus → List StimulusLocation → Type 0
AreAllBadUpTo n lib stimuli found = (k : ℕ) (s : Stimulus) → k < n → slice_get stimuli k ≡ Some s → ¬ (IsGood lib s) → Contains (map (λ p. p.row) found) k

-- Each stimulus that the application can't take is among them.
abbrev pub AreAllBad : Library → List Stimulus → List StimulusLocation → Type 0
AreAllBad lib stimuli found = AreAllBadUpTo (length stimuli) lib stimuli found

-- ---- Limits

-- There are more than the limit says.
abbrev pub IsOver : Library → List Stimulus → Limit → Type 0
IsOver lib stimuli limit.Instances = 4096 < length (paths_of lib)
IsOver lib stimuli limit.Stimuli = 100000 < length stimuli

-- ---- Stimuli by number

-- the row, or what is wrong
abbrev pub IsRowOr : Library → Stimulus → Result StimulusRow StimulusFault → Type 0
IsRowOr lib s (Ok row) = IsTaken lib s row
IsRowOr lib s (Err f) = IsBad lib s f

-- the slots of all settings, or the index of one that has none
abbrev pub AreSlotsOr : (Setting → Option InputValue) → List Setting → Result (List InputValue) ℕ → Type 0
AreSlotsOr slot xs (Ok slots) = each_or_none slot xs ≡ Some slots
AreSlotsOr slot xs (Err k) = (x : Setting) × (slice_get xs k ≡ Some x) × (slot x ≡ None)

-- what was made of the stimulus at a row is added to what it is
abbrev pub IsAdded : (row : ℕ) → Result StimulusRow StimulusFault → (old_rows new_rows : List StimulusRow) → (old new : List StimulusLocation) → Type 0
IsAdded k (Ok x) old_rows new_rows old new = (new_rows ≡ old_rows ++ x ∷ []) × (new ≡ old)
IsAdded k (Err f) old_rows new_rows old new = (new_rows ≡ old_rows) × (new ≡ old ++ record { row = k; fault = f } ∷ [])
