use Rattle.fb_types.proofs.Common.{◌≡◌, List, map, take, Name}
use Rattle.fb_st.specs.Frames.{declared_in, values_of}
use Rattle.fb_ecc.specs.Located.{AreAt}
use Rattle.fb_ecc.proofs.action.shown_values.Given as goal

abbrev pub invariant-loop-slot : goal.invariant-loop-slot
invariant-loop-slot l = (names : List Name) → AreAt (declared_in l.frame) names l.slots → l.values ≡ map (values_of l.frame) (take l.slot-index names)
