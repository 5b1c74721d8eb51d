use Rattle.fb_types.proofs.Common.{◌≡◌, ◌≤◌, ℕ, List, drop, Option, All, Acts, Position}
use Rattle.fb_types.specs.declared.library.Action.{Action}
use Rattle.fb_types.specs.declared.value.Reason.{Reason}
use Rattle.fb_st.specs.Frames.{declared_in}
use Rattle.fb_ecc.specs.Actions.{AreActions}
use Rattle.fb_ecc.specs.Blocks.{BeginsWith}
use Rattle.fb_ecc.specs.Indexes.{IsWellFormed, index}
use Rattle.fb_ecc.proofs.action.perform_all.Given as goal

-- what the rest of the actions does from here, all do from the start
abbrev pub invariant-loop-act : goal.invariant-loop-act
invariant-loop-act l = record {
  performed : (actions : List Action) (state : ℕ) → AreActions l.block l.acts actions → (stop : Option Reason) (q : Position)
      → Acts l.block (drop l.act-index actions) l.meter.left (index l.block state l.frame l.meter.left l.emits) stop q
      → Acts l.block actions l.fn.meter.left (index l.block state l.fn.frame l.fn.meter.left l.fn.emits) stop q;
  declared : declared_in l.frame ≡ declared_in l.fn.frame;
  fewer : l.meter.left ≤ l.fn.meter.left;
  begins : BeginsWith l.fn.emits l.emits;
  well_formed : All (IsWellFormed l.block) l.fn.emits → All (IsWellFormed l.block) l.emits;
}
