-- The links of a system, each in a row (this project's profile).
use Rattle.std.specs.Prelude.{◌≡◌, ℕ, ◌+◌, List, length, Some, slice_get}
use Rattle.fb_types.specs.Flat.{latency_at}
use Rattle.fb_types.specs.Headline.{Inputs, system_of}
use Rattle.fb_types.specs.Systems.{System}
use Rattle.fb_laws.specs.Sound.{AreGood}
use Rattle.fb_window.specs.declared.links.LinkRow.{LinkRow}

-- The row has the ends of a link, and says when what is sent on it arrives.
pub record IsLink (sys : System) (link : ℕ) (row : LinkRow) : Type 0 where
  pub from : row.from ≡ sys.sender link
  pub to : row.to ≡ sys.receiver link
  pub arrival : (sent : ℕ) → sys.arrival link sent ≡ sent + latency_at row.latency sent

-- The rows are those of the first links of a system, in order.
pub record AreRowsOf (sys : System) (count : ℕ) (rows : List LinkRow) : Type 0 where
  pub counted : length rows ≡ count
  pub each : (link : ℕ) (row : LinkRow) → slice_get rows link ≡ Some row → IsLink sys link row

-- The rows are those of all links of an accepted system.
pub record AreLinksOf (i : Inputs) (rows : List LinkRow) : Type 0 where
  pub good : AreGood i
  pub all : AreRowsOf (system_of i) (system_of i).links rows
