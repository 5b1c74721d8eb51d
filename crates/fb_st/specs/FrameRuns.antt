-- What running statements by their text does to the variables, and to the steps that are left (this project's profile).
use Rattle.std.specs.Prelude.{◌≡◌, ◌≤◌, List}
use Rattle.fb_st.specs.Frames.{declared_in}
use Rattle.fb_st.specs.declared.frame.Slot.{Slot}
use Rattle.fb_st.specs.declared.meter.Meter.{Meter}

-- The variables are those that there were, and there are no more steps than before.
pub record IsKept (old : List Slot) (m : Meter) (new : List Slot) (n : Meter) : Type 0 where
  pub declared : declared_in new ≡ declared_in old
  pub fewer : n.left ≤ m.left
