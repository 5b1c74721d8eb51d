-- Deployments, from the tree that the TOML reader returns for their bytes (this project's profile).
use Rattle.std.specs.Prelude.{◌≡◌, ◌<◌, ◌≤◌, ℕ, ◌+◌, ◌^◌, ℤ, pos, negsuc, unsigned_abs, Bool, false, ◌&&◌, if◌then◌else◌, ◌==◌, nat_le, nat_lt, List, [], ◌∷◌, map, length, Option, Some, None, option_map, Result, Ok, Err}
use Rattle.std.specs.Str.{is_utf8}
use Rattle.toml.specs.Data.{Members}
use Rattle.toml.specs.Parse.{parse_document}
use Rattle.fb_types.specs.declared.deploy.Link.{Link}
use Rattle.fb_types.specs.declared.deploy.Plan.{Plan}
use Rattle.fb_types.specs.declared.latency.Entry.{Entry}
use Rattle.fb_inputs.specs.declared.document.LatencyDraft.{LatencyDraft}
use Rattle.fb_inputs.specs.declared.document.LinkDraft.{LinkDraft}
use Rattle.fb_inputs.specs.declared.document.PlanDraft.{PlanDraft}
use Rattle.fb_inputs.specs.declared.deploy_location.DeployFault.{DeployFault}
use Rattle.fb_inputs.specs.declared.deploy_location.DeployFault.TheVariants as deploy_fault
use Rattle.fb_inputs.specs.declared.deploy_location.DeployLocation.{DeployLocation}
use Rattle.fb_inputs.specs.declared.deploy_location.DeployLocation.TheVariants as location
use Rattle.fb_inputs.specs.declared.table.TableTest.{TableTest}
use Rattle.fb_inputs.specs.declared.table.TableTest.TheVariants as table_test
use Rattle.fb_inputs.specs.Refusals.{Outcome, and_then, over_limit}
use Rattle.fb_inputs.specs.Refusals as refusals
use Rattle.fb_inputs.specs.DeployLocations.{InDocument, numbered}
use Rattle.fb_inputs.specs.Words.{Text}
use Rattle.fb_inputs.specs.Documents.{draft}

abbrev pub most_bytes : ℕ
most_bytes = 1048576

-- a latency that a link may have, in ticks
abbrev pub is_latency : ℤ → Bool
is_latency (pos n) = nat_le 1 n && nat_le n (10 ^ 6)
is_latency (negsuc n) = false

abbrev pub has_latency : LatencyDraft → Bool
has_latency p = is_latency p.ticks

-- a tick after another one
abbrev pub is_after : ℕ → ℤ → Bool
is_after last (pos n) = nat_lt last n && nat_le n (10 ^ 12)
is_after last (negsuc n) = false

abbrev pub is_zero : ℤ → Bool
is_zero (pos n) = n == 0
is_zero (negsuc n) = false

abbrev pub is_short : List LatencyDraft → Bool
is_short table = nat_le (length table) 64

abbrev pub entry : LatencyDraft → Entry
entry p = record { from = unsigned_abs p.start; latency = unsigned_abs p.ticks }

abbrev pub link_of : LinkDraft → Link
link_of l = record { from = l.start; to = l.end; latency = map entry l.table }

abbrev pub plan_of : PlanDraft → Plan
plan_of d = record { resources = d.resources; links = map link_of d.links; holds_all = false }

-- ---- Where numbers are refused

-- the first index at which a test fails
unfoldable pub first_failing : {A : Type 0} → (A → Bool) → ℕ → List A → Option ℕ
first_failing test k [] = None
first_failing test k (x ∷ xs) = if test x then first_failing test (k + 1) xs else Some k

-- whether an entry may begin at a tick, by the tick of the one before it: the first one begins at 0
abbrev pub follows : Option ℕ → ℤ → Bool
follows None start = is_zero start
follows (Some last) start = is_after last start

-- the first entry that does not follow the one before it
unfoldable pub out_of_order : Option ℕ → ℕ → List LatencyDraft → Option ℕ
out_of_order last k [] = None
out_of_order last k (p ∷ ps) = if follows last p.start then out_of_order (Some (unsigned_abs p.start)) (k + 1) ps else Some k

-- what is wrong with the latencies, the order or the number of entries of a link at an index
abbrev pub latency_of_link : ℕ → LinkDraft → Option DeployLocation
latency_of_link k l = option_map (λ e. location.Latency k e) (first_failing has_latency 0 l.table)

abbrev pub start_of_link : ℕ → LinkDraft → Option DeployLocation
start_of_link k l = if length l.table == 0 then Some (location.NoEntry k) else option_map (λ e. location.Entry k e) (out_of_order None 0 l.table)

abbrev pub entries_of_link : ℕ → LinkDraft → Option DeployLocation
entries_of_link k l = if is_short l.table then None else Some (location.Entries k)

-- what a test finds wrong with a link at an index
abbrev pub fault_of_link : TableTest → ℕ → LinkDraft → Option DeployLocation
fault_of_link table_test.Latencies = latency_of_link
fault_of_link table_test.Starts = start_of_link
fault_of_link table_test.Entries = entries_of_link

-- the first of these
abbrev pub either : {A : Type 0} → Option A → Option A → Option A
either (Some x) o = Some x
either None o = o

-- the first link of which a finder finds something
unfoldable pub among_links : (ℕ → LinkDraft → Option DeployLocation) → ℕ → List LinkDraft → Option DeployLocation
among_links f k [] = None
among_links f k (l ∷ ls) = either (f k l) (among_links f (k + 1) ls)

-- a count that is over its limit
abbrev pub excess : ℕ → List LinkDraft → Option DeployLocation
excess resources links =
    if nat_lt 256 resources then Some location.Resources else (if nat_lt 1024 (length links) then Some location.Links else among_links entries_of_link 0 links)

-- where the numbers of a deployment are refused: those of latencies come first, then those of tables, then the counts
abbrev pub fault_in : ℕ → List LinkDraft → Option DeployLocation
fault_in resources links = either (among_links latency_of_link 0 links) (either (among_links start_of_link 0 links) (excess resources links))

-- a refusal, or what follows
abbrev pub unless : {A N : Type 0} → Option N → Result A N → Result A N
unless (Some n) o = Err n
unless None o = o

-- The numbers are judged in this order: latencies, tables, counts.
unfoldable pub judged : PlanDraft → InDocument Plan
judged d = unless (among_links latency_of_link 0 d.links) (unless (among_links start_of_link 0 d.links) (unless (excess (length d.resources) d.links) (Ok (plan_of d))))

-- the deployment of a document's tree
unfoldable pub deployment : Members → InDocument Plan
deployment keys = and_then (draft keys) judged

-- the document that bytes are
unfoldable pub document : Text → Option Members
document bytes = if is_utf8 bytes then parse_document bytes else None

-- the deployment of a document, or the number of the refusal
abbrev pub deployment_of : Option Members → Outcome Plan
deployment_of None = Err refusals.no_document
deployment_of (Some keys) = numbered (deployment keys)

-- The deployment that bytes give, or the number of the refusal.
unfoldable pub deploy_of : Text → Outcome Plan
deploy_of bytes = if nat_le (length bytes) most_bytes then deployment_of (document bytes) else Err over_limit

-- The bytes are no document, unless memory ran out.
abbrev pub IsNoDocumentAt : Text → DeployLocation → Type 0
IsNoDocumentAt bytes (location.Document at) = (document bytes ≡ None) × (at ≤ length bytes)
IsNoDocumentAt bytes _ = ⊥

abbrev pub IsNoDocument : Text → DeployFault → Type 0
IsNoDocument bytes deploy_fault.Memory = Unit {0}
IsNoDocument bytes (deploy_fault.At p) = IsNoDocumentAt bytes p

-- The bytes are refused there. Where the reader of TOML finds that they are no document is not defined.
pub data IsRefusedThere (bytes : Text) : DeployLocation → Type 0 where
  too_long : most_bytes < length bytes → IsRefusedThere bytes location.Bytes
  no_document : {at : ℕ} → length bytes ≤ most_bytes → document bytes ≡ None → at ≤ length bytes → IsRefusedThere bytes (location.Document at)
  in_document : {p : DeployLocation} {keys : Members} → length bytes ≤ most_bytes → document bytes ≡ Some keys → deployment keys ≡ Err p → IsRefusedThere bytes p

-- A function returns the deployment of the bytes, or where they are refused, unless memory runs out.
abbrev pub Locates : {X : Type 0} → (X → Plan) → Text → Result X DeployFault → Type 0
Locates seen bytes (Ok x) = deploy_of bytes ≡ Ok (seen x)
Locates seen bytes (Err deploy_fault.Memory) = Unit {0}
Locates seen bytes (Err (deploy_fault.At p)) = IsRefusedThere bytes p
