-- What is wrong where deployments are refused (this project's profile).
use Rattle.std.specs.Prelude.{◌≡◌, ◌<◌, ◌≤◌, ◌==◌, ℕ, zero, suc, unsigned_abs, true, false, Option, Some, None, Ok, Err, List, length, option_map, slice_get}
use Rattle.toml.specs.Data.{Data, Items, Members, as_array, as_integer, as_table}
use Rattle.fb_types.specs.Names.{same_name}
use Rattle.fb_types.specs.declared.deploy.Plan.{Plan}
use Rattle.fb_inputs.specs.declared.document.LatencyDraft.{LatencyDraft}
use Rattle.fb_inputs.specs.declared.document.PlanDraft.{PlanDraft}
use Rattle.fb_inputs.specs.declared.deploy_location.DeployKey.{DeployKey}
use Rattle.fb_inputs.specs.declared.deploy_location.DeployKey.TheVariants as key
use Rattle.fb_inputs.specs.declared.deploy_location.DeployLocation.{DeployLocation}
use Rattle.fb_inputs.specs.declared.deploy_location.DeployLocation.TheVariants as location
use Rattle.fb_inputs.specs.declared.deploy_location.TableFault.{TableFault}
use Rattle.fb_inputs.specs.declared.deploy_location.TableFault.TheVariants as fault
use Rattle.fb_inputs.specs.declared.deploy_location.TableLocation.{TableLocation}
use Rattle.fb_inputs.specs.declared.deploy_location.TableLocation.TheVariants as table
use Rattle.fb_inputs.specs.Deployments.{deploy_of, document, follows, is_latency, most_bytes}
use Rattle.fb_inputs.specs.DeployLocations.{number_at, value_at}
use Rattle.fb_inputs.specs.Documents.{count_of, draft, known_keys, list_of, name_of, pair}
use Rattle.fb_inputs.specs.Words.{Text}

-- ---- Keys

-- the value is not of the kind of the key
abbrev pub IsOther : DeployKey → Data → Type 0
IsOther key.Resource d = as_array d ≡ None
IsOther key.Link d = as_array d ≡ None
IsOther key.Device d = name_of d ≡ None
IsOther key.Name d = name_of d ≡ None
IsOther key.Instances d = as_array d ≡ None
IsOther key.From d = name_of d ≡ None
IsOther key.To d = name_of d ≡ None
IsOther key.Latency d = as_integer d ≡ None
IsOther key.Latencies d = as_array d ≡ None

-- the value is not of the kind of the elements of the array at the key
abbrev pub IsOtherElement : DeployKey → Data → Type 0
IsOtherElement key.Instances d = name_of d ≡ None
IsOtherElement key.Latencies d = pair d ≡ None
IsOtherElement _ d = ⊥

abbrev pub Lacks : Members → DeployKey → Type 0
Lacks keys k = value_at keys k ≡ None

-- there is a value at the key, for which this holds
abbrev pub Has : Members → DeployKey → (Data → Type 0) → Type 0
Has keys k P = (d : Data) × (value_at keys k ≡ Some d) × P d

-- there is an array at the key, for whose elements this holds
abbrev pub HasArray : Members → DeployKey → (List Data → Type 0) → Type 0
HasArray keys k P = Has keys k (λ d. (ds : Items) × (as_array d ≡ Some ds) × P (list_of ds))

-- the list has an element at this index, for which this holds
abbrev pub HasAt : {A : Type 0} → List A → ℕ → (A → Type 0) → Type 0
HasAt {A} xs i P = (x : A) × (slice_get xs i ≡ Some x) × P x

abbrev pub HasWrongElement : Members → DeployKey → ℕ → Type 0
HasWrongElement keys k i = HasArray keys k (λ ds. HasAt ds i (IsOtherElement k))

-- ---- Tables

-- This is wrong with a resource, which has a device, a name and instances.
abbrev pub IsResourceFault : Members → TableFault → Type 0
IsResourceFault keys (fault.Missing k) = Lacks keys k
IsResourceFault keys (fault.Wrong k) = Has keys k (IsOther k)
IsResourceFault keys (fault.Element k i) = HasWrongElement keys k i
IsResourceFault keys fault.Further = (count_of keys == 3) ≡ false
IsResourceFault keys _ = ⊥

-- Both ends are names, and the same one.
abbrev pub IsLoop : Members → Type 0
IsLoop keys =
    Has keys key.From (λ d. Has keys key.To (λ e. (a : Text) × (b : Text) × (name_of d ≡ Some a) × (name_of e ≡ Some b) × (same_name a b ≡ true)))

-- This is wrong with a link, which has two resources, and one latency or a table of them. Where the latency is missing, so
-- is the table.
abbrev pub IsLinkFault : Members → TableFault → Type 0
IsLinkFault keys (fault.Missing key.Latency) = Lacks keys key.Latency × Lacks keys key.Latencies
IsLinkFault keys (fault.Missing k) = Lacks keys k
IsLinkFault keys (fault.Wrong k) = Has keys k (IsOther k)
IsLinkFault keys (fault.Element k i) = HasWrongElement keys k i
IsLinkFault keys fault.Both = Has keys key.Latency (λ d. Has keys key.Latencies (λ e. Unit {0}))
IsLinkFault keys fault.Itself = IsLoop keys
IsLinkFault keys fault.Further = (count_of keys == 3) ≡ false
IsLinkFault keys _ = ⊥

-- This is wrong with the keys of a document, which are resources and, if there are any, links.
abbrev pub IsTopFault : Members → TableFault → Type 0
IsTopFault keys (fault.Missing k) = Lacks keys k
IsTopFault keys (fault.Wrong k) = Has keys k (IsOther k)
IsTopFault keys fault.Empty = HasArray keys key.Resource (λ ds. length ds ≡ 0)
IsTopFault keys fault.Further = (count_of keys == known_keys keys) ≡ false
IsTopFault keys _ = ⊥

-- This is wrong with a value that should be a table.
abbrev pub IsTableFault : (Members → TableFault → Type 0) → Data → TableFault → Type 0
IsTableFault P d fault.NoTable = as_table d ≡ None
IsTableFault P d why = (keys : Members) × (as_table d ≡ Some keys) × P keys why

-- This is wrong with the table at an index of the array at a key.
abbrev pub IsInArray : (Members → TableFault → Type 0) → Members → DeployKey → ℕ → TableFault → Type 0
IsInArray P keys k i why = HasArray keys k (λ ds. HasAt ds i (λ d. IsTableFault P d why))

-- This is wrong with a table of a document.
abbrev pub IsShapeFault : Members → TableLocation → TableFault → Type 0
IsShapeFault keys table.Top why = IsTopFault keys why
IsShapeFault keys (table.Resource i) why = IsInArray IsResourceFault keys key.Resource i why
IsShapeFault keys (table.Link i) why = IsInArray IsLinkFault keys key.Link i why

-- ---- Numbers

-- the tick of the entry before an index, by the one before the table
abbrev pub tick_before : Option ℕ → List LatencyDraft → ℕ → Option ℕ
tick_before last t zero = last
tick_before last t (suc i) = option_map (λ p. unsigned_abs p.start) (slice_get t i)

-- This is wrong with the numbers of a deployment of the right shape.
abbrev pub IsNumbersFault : PlanDraft → DeployLocation → Type 0
IsNumbersFault d (location.Latency k e) = HasAt d.links k (λ l. HasAt l.table e (λ p. is_latency p.ticks ≡ false))
IsNumbersFault d (location.NoEntry k) = HasAt d.links k (λ l. length l.table ≡ 0)
IsNumbersFault d (location.Entry k e) = HasAt d.links k (λ l. HasAt l.table e (λ p. follows (tick_before None l.table e) p.start ≡ false))
IsNumbersFault d location.Resources = 256 < length d.resources
IsNumbersFault d location.Links = 1024 < length d.links
IsNumbersFault d (location.Entries k) = HasAt d.links k (λ l. 64 < length l.table)
IsNumbersFault d _ = ⊥

-- ---- All bytes

-- This is wrong with a document.
abbrev pub IsDocumentFault : Members → DeployLocation → Type 0
IsDocumentFault keys (location.Shape t why) = IsShapeFault keys t why
IsDocumentFault keys p = (d : PlanDraft) × (draft keys ≡ Ok d) × IsNumbersFault d p

-- This is wrong at the location.
abbrev pub IsFaultAt : Text → DeployLocation → Type 0
IsFaultAt bytes location.Bytes = most_bytes < length bytes
IsFaultAt bytes (location.Document at) = (document bytes ≡ None) × (at ≤ length bytes)
IsFaultAt bytes p = (keys : Members) × (document bytes ≡ Some keys) × IsDocumentFault keys p

-- The bytes are refused, by the number of what is wrong at the location.
abbrev pub IsRefusedAt : Text → DeployLocation → Type 0
IsRefusedAt bytes p = (deploy_of bytes ≡ Err (number_at p)) × IsFaultAt bytes p

-- The bytes are a deployment.
abbrev pub IsPlanned : Text → Type 0
IsPlanned bytes = (plan : Plan) × (deploy_of bytes ≡ Ok plan)
