-- Which numbers a deployment may have, and which are refused first, in sentences (this project's profile).
use Rattle.std.specs.Prelude.{◌≡◌, ◌↔◌, ◌⊎◌, ◌<◌, ◌≤◌, ℕ, false, List, length, None, Ok, Err}
use Rattle.fb_types.specs.declared.deploy.Plan.{Plan}
use Rattle.fb_inputs.specs.declared.document.LatencyDraft.{LatencyDraft}
use Rattle.fb_inputs.specs.declared.document.LinkDraft.{LinkDraft}
use Rattle.fb_inputs.specs.declared.document.PlanDraft.{PlanDraft}
use Rattle.fb_inputs.specs.declared.deploy_location.DeployLocation.{DeployLocation}
use Rattle.fb_inputs.specs.declared.deploy_location.DeployLocation.TheVariants as location
use Rattle.fb_inputs.specs.DeployFaults.{HasAt, tick_before}
use Rattle.fb_inputs.specs.Deployments.{follows, is_latency, judged, plan_of}

-- The list has no element for which this holds.
abbrev pub HasNone : {A : Type 0} → List A → (A → Type 0) → Type 0
HasNone xs P = (i : ℕ) → HasAt xs i P → ⊥

-- The element at this index is the first for which this holds.
abbrev pub IsFirstAt : {A : Type 0} → List A → ℕ → (A → Type 0) → Type 0
IsFirstAt xs i P = HasAt xs i P × ((j : ℕ) → j < i → HasAt xs j P → ⊥)

-- ---- One link

-- A latency is from 1 to 10^6 ticks. This one is not.
abbrev pub IsBadLatency : LatencyDraft → Type 0
IsBadLatency p = is_latency p.ticks ≡ false

abbrev pub HasBadLatency : LinkDraft → Type 0
HasBadLatency l = (e : ℕ) × HasAt l.table e IsBadLatency

-- The first entry begins at tick 0, and each other one after the one before it, at 10^12 at the latest. The one at this index does
-- not.
abbrev pub IsBadStart : List LatencyDraft → ℕ → Type 0
IsBadStart t e = HasAt t e (λ p. follows (tick_before None t e) p.start ≡ false)

-- A table has an entry, and each begins where it may. This one is no table.
abbrev pub HasBadTable : LinkDraft → Type 0
HasBadTable l = (length l.table ≡ 0) ⊎ ((e : ℕ) × IsBadStart l.table e)

-- A table has at most 64 entries. This one has more.
abbrev pub HasManyEntries : LinkDraft → Type 0
HasManyEntries l = 64 < length l.table

-- ---- All of a deployment

-- All latencies, tables and counts are as they may be.
pub record HasGoodNumbers (d : PlanDraft) : Type 0 where
  pub latencies : HasNone d.links HasBadLatency
  pub tables : HasNone d.links HasBadTable
  pub few_resources : length d.resources ≤ 256
  pub few_links : length d.links ≤ 1024
  pub few_entries : HasNone d.links HasManyEntries

-- The latencies of all links are refused first, then their tables, and the counts last: of resources, of links, of entries. Of
-- links and of entries the first one is refused.
pub data HasBadNumbers (d : PlanDraft) : DeployLocation → Type 0 where
  by_latency : {k e : ℕ} → IsFirstAt d.links k HasBadLatency → HasAt d.links k (λ l. IsFirstAt l.table e IsBadLatency) → HasBadNumbers d (location.Latency k e)
  by_no_entry : {k : ℕ} → HasNone d.links HasBadLatency → IsFirstAt d.links k HasBadTable → HasAt d.links k (λ l. length l.table ≡ 0) → HasBadNumbers d (location.NoEntry k)
  by_entry : {k e : ℕ} → HasNone d.links HasBadLatency → IsFirstAt d.links k HasBadTable
      → HasAt d.links k (λ l. IsBadStart l.table e × ((j : ℕ) → j < e → IsBadStart l.table j → ⊥)) → HasBadNumbers d (location.Entry k e)
  by_resource_count : HasNone d.links HasBadLatency → HasNone d.links HasBadTable → 256 < length d.resources → HasBadNumbers d location.Resources
  by_link_count : HasNone d.links HasBadLatency → HasNone d.links HasBadTable → length d.resources ≤ 256 → 1024 < length d.links → HasBadNumbers d location.Links
  by_entry_count : {k : ℕ} → HasNone d.links HasBadLatency → HasNone d.links HasBadTable → length d.resources ≤ 256 → length d.links ≤ 1024
      → IsFirstAt d.links k HasManyEntries → HasBadNumbers d (location.Entries k)

-- A draft of a deployment is made a deployment exactly if its numbers are good, and refused exactly for what is refused first.
abbrev pub JudgesNumbers : Type 0
JudgesNumbers = (d : PlanDraft)
    → ((plan : Plan) → (judged d ≡ Ok plan) ↔ (HasGoodNumbers d × (plan ≡ plan_of d)))
    × ((p : DeployLocation) → (judged d ≡ Err p) ↔ HasBadNumbers d p)
