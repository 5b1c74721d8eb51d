-- A basic block before its first event (IEC 61499-1, 5.2.1: the first state, and the initial values).
use Rattle.std.specs.Prelude.{◌≡◌, map, Contains}
use Rattle.fb_types.specs.Blocks.{variables_of, initial_of}
use Rattle.fb_types.specs.Repeated.{NameTwice, basics}
use Rattle.fb_types.specs.Unknown.{NameUnknown}
use Rattle.fb_types.specs.declared.library.BasicType.{BasicType}
use Rattle.fb_types.specs.declared.library.Library.{Library}
use Rattle.fb_types.specs.declared.library.Variable.{Variable}
use Rattle.fb_types.specs.declared.deploy.Plan.{Plan}
use Rattle.fb_st.specs.declared.frame.Slot.{Slot}
use Rattle.fb_ecc.specs.Indexes.{IsBlockOf}
use Rattle.fb_ecc.specs.Sound.{IsSound}
use Rattle.fb_ecc.specs.declared.state.BasicState.{BasicState}

abbrev pub slot_of : Variable → Slot
slot_of v = record { name = v.name; ty = v.ty; value = initial_of v }

-- A block of a sound type, in its first state, with the initial values of its variables.
pub record IsOpened (t : BasicType) (s : BasicState) : Type 0 where
  pub sound : IsSound t
  pub block : IsBlockOf t s
  pub first : s.state ≡ 0
  pub variables : s.frame ≡ map slot_of (variables_of t)

-- The type is in a declaration whose names are known, each given once, as in an accepted one.
pub record IsOfDeclaration (t : BasicType) : Type 0 where
  pub library : Library
  pub plan : Plan
  pub once : ¬ (NameTwice library plan)
  pub known : ¬ (NameUnknown library plan)
  pub declared : Contains (basics library) t
