-- What holds of the parts of a basic block between two steps of a reaction (IEC 61499-1, 5.2; indexes are this project's profile).
use Rattle.std.specs.Prelude.{◌≡◌, ◌<◌, ◌≤◌, ◌++◌, ℕ, List, All, IfSome, Option, length, option_map}
use Rattle.fb_types.specs.Names.{Name}
use Rattle.fb_types.specs.Numbers.{event_at}
use Rattle.fb_types.specs.declared.library.BasicType.{BasicType}
use Rattle.fb_types.specs.declared.run.Emission.{Emission}
use Rattle.fb_st.specs.Frames.{declared_in}
use Rattle.fb_st.specs.declared.frame.Slot.{Slot}
use Rattle.fb_st.specs.declared.meter.Meter.{Meter}
use Rattle.fb_ecc.specs.Indexes.{IsWellFormed}
use Rattle.fb_ecc.specs.Located.{slots_with_each}
use Rattle.fb_ecc.specs.Programs.{IsProgramOf}
use Rattle.fb_ecc.specs.Sound.{IsSound, declared_by}
use Rattle.fb_ecc.specs.declared.program.Program.{Program}

-- The variables are those of the type.
abbrev pub IsFrameOf : BasicType → List Slot → Type 0
IsFrameOf t slots = declared_in slots ≡ declared_by t

-- The slots are those of the variables WITH each event output.
abbrev pub AreShown : BasicType → List (List ℕ) → Type 0
AreShown t shown = shown ≡ slots_with_each t.ports.event_outputs t.ports.outputs (length t.ports.inputs)

-- The index is that of an event input, or there is none.
abbrev pub IsInput : BasicType → Option ℕ → Type 0
IsInput t present = IfSome present (λ event. event < length t.ports.event_inputs)

-- the name of the event input at an index
abbrev pub input_named : BasicType → Option ℕ → Option Name
input_named t present = option_map (event_at t.ports.event_inputs) present

-- What was emitted is well formed, if what was emitted before is.
abbrev pub StillFit : BasicType → List Emission → List Emission → Type 0
StillFit t old new = All (IsWellFormed t) old → All (IsWellFormed t) new

-- The list is that one, and others after it.
abbrev pub BeginsWith : (old new : List Emission) → Type 0
BeginsWith old new = (news : List Emission) × (new ≡ old ++ news)

-- The program of a sound type may run on these variables.
pub record MayRun (t : BasicType) (p : Program) (slots : List Slot) : Type 0 where
  pub sound : IsSound t
  pub program : IsProgramOf t p
  pub declared : IsFrameOf t slots

-- However actions end: the variables are those that there were, no step is gained, what was emitted before comes first still, and what is emitted is well formed.
pub record AreKept (t : BasicType) (old : List Slot) (m : Meter) (before : List Emission) (new : List Slot) (n : Meter) (after : List Emission) : Type 0 where
  pub declared : declared_in new ≡ declared_in old
  pub fewer : n.left ≤ m.left
  pub begins : BeginsWith before after
  pub well_formed : StillFit t before after
