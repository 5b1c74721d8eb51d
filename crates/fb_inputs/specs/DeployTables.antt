-- How the tables of a deployment are read, in sentences: which keys a table has, what of it is refused first, and that the
-- order of its keys does not matter (this project's profile).
use Rattle.std.specs.Prelude.{◌≡◌, ◌↔◌, ◌⊎◌, ◌<◌, ◌==◌, ⊤, ℕ, ℤ, pos, true, false, List, [], ◌∷◌, map, Option, Some, None, Ok, Err}
use Rattle.toml.specs.Data.{Data, Members, get_member, as_array, as_integer}
use Rattle.fb_types.specs.Names.{same_name}
use Rattle.fb_types.specs.declared.deploy.ResourceEntry.{ResourceEntry}
use Rattle.fb_inputs.specs.declared.document.LatencyDraft.{LatencyDraft}
use Rattle.fb_inputs.specs.declared.document.LinkDraft.{LinkDraft}
use Rattle.fb_inputs.specs.declared.deploy_location.DeployKey.{DeployKey}
use Rattle.fb_inputs.specs.declared.deploy_location.DeployKey.TheVariants as key
use Rattle.fb_inputs.specs.declared.deploy_location.TableFault.{TableFault}
use Rattle.fb_inputs.specs.declared.deploy_location.TableFault.TheVariants as fault
use Rattle.fb_inputs.specs.DeployFaults.{Has, HasArray, HasAt, Lacks}
use Rattle.fb_inputs.specs.Documents.{count_of, draft, list_of, name_of, pair, read_link, read_resource}
use Rattle.fb_inputs.specs.Words.{Text}

-- ---- What is at a key

-- It has this name there.
abbrev pub HasName : Members → DeployKey → Text → Type 0
HasName keys k a = Has keys k (λ d. name_of d ≡ Some a)

-- It has nothing there, or no name.
abbrev pub HasNoName : Members → DeployKey → TableFault → Type 0
HasNoName keys k why = (Lacks keys k × (why ≡ fault.Missing k)) ⊎ (Has keys k (λ d. name_of d ≡ None) × (why ≡ fault.Wrong k))

-- It has an array there, whose elements are these.
abbrev pub HasElements : {A : Type 0} → Members → DeployKey → (Data → Option A) → List A → Type 0
HasElements keys k f xs = HasArray keys k (λ ds. map f ds ≡ map Some xs)

-- It has an array there, of which the element at this index is the first that is of another kind.
abbrev pub HasFirstOther : {A : Type 0} → Members → DeployKey → (Data → Option A) → ℕ → Type 0
HasFirstOther keys k f i = HasArray keys k (λ ds. HasAt ds i (λ d. f d ≡ None) × ((j : ℕ) → j < i → HasAt ds j (λ d. f d ≡ None) → ⊥))

-- It has nothing there, no array, or an array with an element of another kind: the first such one.
abbrev pub HasNoElements : {A : Type 0} → Members → DeployKey → (Data → Option A) → TableFault → Type 0
HasNoElements keys k f why =
    (Lacks keys k × (why ≡ fault.Missing k))
    ⊎ (Has keys k (λ d. as_array d ≡ None) × (why ≡ fault.Wrong k))
    ⊎ ((i : ℕ) × HasFirstOther keys k f i × (why ≡ fault.Element k i))

-- ---- Resources

-- A resource has a device, a name and instances, and no further key: it has three.
pub record IsResource (keys : Members) (r : ResourceEntry) : Type 0 where
  pub its_device : HasName keys key.Device r.device
  pub its_name : HasName keys key.Name r.name
  pub its_instances : HasElements keys key.Instances name_of r.instances
  pub three_keys : (count_of keys == 3) ≡ true

-- Of a resource the device is refused first, then the name, then the instances, and a further key last.
pub data IsNoResource (keys : Members) : TableFault → Type 0 where
  by_device : {why : TableFault} → HasNoName keys key.Device why → IsNoResource keys why
  by_name : {a : Text} {why : TableFault} → HasName keys key.Device a → HasNoName keys key.Name why → IsNoResource keys why
  by_instances : {a b : Text} {why : TableFault} → HasName keys key.Device a → HasName keys key.Name b → HasNoElements keys key.Instances name_of why
      → IsNoResource keys why
  by_further_key : {a b : Text} (c : List Text) → HasName keys key.Device a → HasName keys key.Name b → HasElements keys key.Instances name_of c
      → (count_of keys == 3) ≡ false → IsNoResource keys fault.Further

-- A table is read as a resource exactly if it is one, and refused exactly for what is refused first.
abbrev pub ReadsResources : Type 0
ReadsResources = (keys : Members)
    → ((r : ResourceEntry) → (read_resource keys ≡ Ok r) ↔ IsResource keys r)
    × ((why : TableFault) → (read_resource keys ≡ Err why) ↔ IsNoResource keys why)

-- ---- Links

-- It has one latency, from tick 0 on, or a table of them.
abbrev pub HasLatencies : Members → List LatencyDraft → Type 0
HasLatencies keys t =
    (Lacks keys key.Latencies × Has keys key.Latency (λ d. (n : ℤ) × (as_integer d ≡ Some n) × (t ≡ record { start = pos 0; ticks = n } ∷ [])))
    ⊎ (Lacks keys key.Latency × HasElements keys key.Latencies pair t)

-- It has neither, both, one that is no whole number, or a table that is none.
abbrev pub HasNoLatencies : Members → TableFault → Type 0
HasNoLatencies keys why =
    (Lacks keys key.Latency × Lacks keys key.Latencies × (why ≡ fault.Missing key.Latency))
    ⊎ (Has keys key.Latency (λ d. Has keys key.Latencies (λ e. ⊤)) × (why ≡ fault.Both))
    ⊎ (Lacks keys key.Latencies × Has keys key.Latency (λ d. as_integer d ≡ None) × (why ≡ fault.Wrong key.Latency))
    ⊎ (Lacks keys key.Latency × Has keys key.Latencies (λ e. ⊤) × HasNoElements keys key.Latencies pair why)

-- A link has the names of two resources, one latency or a table of them, and no further key. It leads to another resource.
pub record IsLink (keys : Members) (l : LinkDraft) : Type 0 where
  pub its_start : HasName keys key.From l.start
  pub its_end : HasName keys key.To l.end
  pub its_table : HasLatencies keys l.table
  pub three_keys : (count_of keys == 3) ≡ true
  pub is_no_loop : same_name l.start l.end ≡ false

-- Of a link the resource that it leads from is refused first, then the other one, then the latencies, then a further key, and
-- a link from a resource to itself last.
pub data IsNoLink (keys : Members) : TableFault → Type 0 where
  by_start : {why : TableFault} → HasNoName keys key.From why → IsNoLink keys why
  by_end : {a : Text} {why : TableFault} → HasName keys key.From a → HasNoName keys key.To why → IsNoLink keys why
  by_latencies : {a b : Text} {why : TableFault} → HasName keys key.From a → HasName keys key.To b → HasNoLatencies keys why → IsNoLink keys why
  link_by_further_key : {a b : Text} (t : List LatencyDraft) → HasName keys key.From a → HasName keys key.To b → HasLatencies keys t
      → (count_of keys == 3) ≡ false → IsNoLink keys fault.Further
  by_loop : {a b : Text} (t : List LatencyDraft) → HasName keys key.From a → HasName keys key.To b → HasLatencies keys t
      → (count_of keys == 3) ≡ true → same_name a b ≡ true → IsNoLink keys fault.Itself

abbrev pub ReadsLinks : Type 0
ReadsLinks = (keys : Members)
    → ((l : LinkDraft) → (read_link keys ≡ Ok l) ↔ IsLink keys l)
    × ((why : TableFault) → (read_link keys ≡ Err why) ↔ IsNoLink keys why)

-- ---- The order of keys

-- Two tables have the same values at the same keys, and equally many keys.
abbrev pub HaveSameKeys : Members → Members → Type 0
HaveSameKeys a b = ((k : Text) → get_member k a ≡ get_member k b) × (count_of a ≡ count_of b)

-- What a table is depends on which value is at which key, and not on the order of the keys: as a resource, as a link, and as a
-- document.
abbrev pub IgnoresOrder : Type 0
IgnoresOrder = (a b : Members) → HaveSameKeys a b → (read_resource a ≡ read_resource b) × (read_link a ≡ read_link b) × (draft a ≡ draft b)
