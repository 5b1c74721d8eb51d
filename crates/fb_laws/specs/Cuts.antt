-- The greatest ticks that clocks, stops, events and links allow (this project's profile).
use Rattle.std.specs.Prelude.{◌≡◌, ℕ, ◌+◌, ◌<◌, ◌≤◌, Option, Some, List, slice_get}
use Rattle.fb_types.specs.Systems.{System}
use Rattle.fb_types.specs.Cores.{floor_of}
use Rattle.fb_types.specs.declared.value.Reason.{Reason}

-- The greatest tick that is at most `top` and that each of `count` numbers allows.
pub record IsCut (Allows : (number tick : ℕ) → Type 0) (top count tick : ℕ) : Type 0 where
  pub within : tick ≤ top
  pub each : (i : ℕ) → i < count → Allows i tick
  pub greatest : (other : ℕ) → other ≤ top → ((i : ℕ) → i < count → Allows i other) → other ≤ tick

-- Of each resource of a list its clock, and its stop if there is one.
module _ {X : Type 0} (clock : X → ℕ) (stop : X → Option Reason) where
  -- The stop of a resource allows the ticks up to the one after it.
  abbrev pub StopAllows : List X → (number tick : ℕ) → Type 0
  StopAllows xs i t = (x : X) → slice_get xs i ≡ Some x → (reason : Reason) → stop x ≡ Some reason → t ≤ clock x + 1

  -- A link allows a resource the ticks up to the least at which a message may arrive on it, where no event comes before m.
  abbrev pub LinkAllows : System → List X → (m r : ℕ) → (link tick : ℕ) → Type 0
  LinkAllows sys xs m r l t =
      sys.receiver l ≡ r → (x : X) → slice_get xs (sys.sender l) ≡ Some x
      → (sent : ℕ) → floor_of (stop x) (clock x) m ≤ sent → t ≤ sys.arrival l sent
