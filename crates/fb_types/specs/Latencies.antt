-- Latencies by the tick of sending (this project's profile).
use Rattle.std.specs.Prelude.{◌≡◌, ◌≤◌, ◌^◌, ℕ, List, [], ◌∷◌, map, length, All, Some, slice_get}
use Rattle.std.specs.List.Sorted.{IsStrictlyIncreasing}
use Rattle.fb_types.specs.declared.latency.Entry.{Entry}

-- A table of latencies: each entry holds from its tick on, and the first from tick 0.
pub record IsLatencyTable (table : List Entry) : Type 0 where
  pub from_start : slice_get (map (λ e. e.from) table) 0 ≡ Some 0
  pub rising : IsStrictlyIncreasing (map (λ e. e.from) table)
  pub few : length table ≤ 64
  pub ticks : All (λ e. e.from ≤ 10 ^ 12) table
  pub latencies : All (λ e. (1 ≤ e.latency) × (e.latency ≤ 10 ^ 6)) table

abbrev pub constant_table : ℕ → List Entry
constant_table latency = record { from = 0; latency = latency } ∷ []
