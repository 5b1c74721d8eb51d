-- What every accepted system guarantees of its links and resources (links and their latencies are this project's
-- profile).
use Rattle.std.specs.Prelude.{◌≡◌, ◌≢◌, ◌<◌, ℕ}
use Rattle.fb_types.specs.Headline.{AreAccepted, Inputs, system_of}
use Rattle.fb_types.specs.Limits.{IsWithinLimits}
use Rattle.fb_types.specs.Names.{Path, Port}
use Rattle.fb_types.specs.Systems.{System}
use Rattle.fb_types.specs.Machines.{Each}
use Rattle.fb_types.specs.Parts.{count_of}

-- the link from a resource to another exists, and has these ends
pub record IsLink (sys : System) (from to : ℕ) : Type 0 where
  pub there : sys.link from to < sys.links
  pub sender : sys.sender (sys.link from to) ≡ from
  pub receiver : sys.receiver (sys.link from to) ≡ to

-- if an event leaves the resource for the port, there is a link for it
abbrev pub IsLinked : System → (resource : ℕ) → Port → Type 0
IsLinked sys r q = sys.resource q.at ≢ r → IsLink sys r (sys.resource q.at)

pub record IsSound (sys : System) : Type 0 where
  -- a message arrives later than it was sent
  pub later : (link sent : ℕ) → link < sys.links → sent < sys.arrival link sent
  pub linked : (p : Port) → Each (IsLinked sys (sys.resource p.at)) (sys.targets p)
  -- resources are those that have a name
  pub counted : (p : Path) → sys.resource p < count_of sys
  pub receivers : (link : ℕ) → link < sys.links → sys.receiver link < count_of sys
  pub senders : (link : ℕ) → link < sys.links → sys.sender link < count_of sys

-- Inputs that are accepted, with a deployment that keeps the limits of its type.
pub record AreGood (i : Inputs) : Type 0 where
  pub accepted : AreAccepted i
  pub limits : IsWithinLimits i.plan

abbrev pub AcceptedAreSound : Type 0
AcceptedAreSound = (i : Inputs) → AreGood i → IsSound (system_of i)
