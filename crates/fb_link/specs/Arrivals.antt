-- When messages of a link arrive (this project's profile). One that is sent later may arrive earlier.
use Rattle.std.specs.Prelude.{◌≡◌, ◌+◌, ◌≤◌, ℕ, List}
use Rattle.fb_types.specs.Flat.{latency_at}
use Rattle.fb_types.specs.declared.latency.Entry.{Entry}

-- the tick at which a message arrives that is sent at a tick
abbrev pub arrival_at : List Entry → (sent : ℕ) → ℕ
arrival_at table sent = sent + latency_at table sent

-- The least tick at which a message can arrive that is sent at a tick or later: none of them arrives before it, and one
-- sent at some such tick arrives at it.
pub record IsEarliest (table : List Entry) (from tick : ℕ) : Type 0 where
  pub least : (sent : ℕ) → from ≤ sent → tick ≤ arrival_at table sent
  pub reached : (sent : ℕ) × (from ≤ sent) × (tick ≡ arrival_at table sent)
