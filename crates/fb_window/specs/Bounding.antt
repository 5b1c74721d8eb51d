-- How far each resource may run in a round (lookahead after Chandy, Misra and Nicol; this project's profile).
use Rattle.std.specs.Prelude.{◌≡◌, ℕ, ◌+◌, ◌<◌, ◌≤◌, ◌⊎◌, Some, List, slice_index}
use Rattle.fb_types.specs.Keys.{found}
use Rattle.fb_types.specs.Systems.{System}
use Rattle.fb_types.specs.Machines.{Machine, waiting}
use Rattle.fb_types.specs.Parts.{machine, count_of}
use Rattle.fb_types.specs.Cores.{Core, IsFloor, IsLegal}
use Rattle.fb_types.specs.declared.key.Key.{Key}

module _ (M : Machine) where
  -- A tick that is not over the horizon, nor more than one past the tick of a stop.
  pub record IsInReach (horizon : ℕ) (c : Core M) (tick : ℕ) : Type 0 where
    pub in_range : tick ≤ horizon
    pub stops : (s : ℕ) (reason : M.Reason) → (c s).state.stop ≡ Some reason → tick ≤ (c s).clock + 1

  -- A tick that is not this many ticks past an event on an agenda or a message in an outbox.
  pub record IsNear (cap : ℕ) (c : Core M) (tick : ℕ) : Type 0 where
    pub events : (k : Key) (e : M.Event) → waiting M (c k.resource).state k ≡ Some e → tick ≤ k.tick + cap
    pub messages : (s : ℕ) (k : Key) (e : M.Event) → found k (c s).outbox ≡ Some e → tick ≤ k.tick + cap

  -- The greatest legal bound of a resource that is in reach and near, or its clock where that is greater. It is past a tick that no event
  -- precedes, as far as that is in reach.
  pub record IsGreatest (horizon cap : ℕ) (c : Core M) (r bound : ℕ) : Type 0 where
    pub legal : IsLegal M c r bound
    pub not_back : (c r).clock ≤ bound
    pub in_range : (bound ≡ (c r).clock) ⊎ (IsInReach horizon c bound × IsNear cap c bound)
    pub greatest : (other : ℕ) → IsLegal M c r other → IsInReach horizon c other → IsNear cap c other → other ≤ bound
    pub over : (m tick : ℕ) → IsFloor M c m → tick ≤ m + 1 → IsInReach horizon c tick → tick ≤ bound

-- Such a bound for each resource, whether it has stopped or not.
abbrev pub AreGreatest : (sys : System) (limit horizon cap : ℕ) → Core (machine sys limit) → List ℕ → Type 0
AreGreatest sys limit horizon cap c all = (r : ℕ) → r < count_of sys → IsGreatest (machine sys limit) horizon cap c r (slice_index all r)
