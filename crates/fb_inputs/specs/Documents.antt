-- What the tree of a deployment's document says, before its numbers are judged, or where its shape is wrong (this project's
-- profile).
use Rattle.std.specs.Prelude.{ℕ, ◌+◌, pos, ◌==◌, if◌then◌else◌, List, [], ◌∷◌, length, Option, Some, None, is_some, option_and_then, Ok, Err}
use Rattle.toml.specs.Data.{Data, Items, no_items, item, Members, no_members, member, as_str, as_integer, as_array, as_table}
use Rattle.fb_types.specs.Names.{same_name}
use Rattle.fb_types.specs.declared.deploy.ResourceEntry.{ResourceEntry}
use Rattle.fb_inputs.specs.declared.document.LatencyDraft.{LatencyDraft}
use Rattle.fb_inputs.specs.declared.document.LinkDraft.{LinkDraft}
use Rattle.fb_inputs.specs.declared.document.PlanDraft.{PlanDraft}
use Rattle.fb_inputs.specs.declared.deploy_location.DeployKey.{DeployKey}
use Rattle.fb_inputs.specs.declared.deploy_location.DeployKey.TheVariants as key
use Rattle.fb_inputs.specs.declared.deploy_location.TableFault.TheVariants as fault
use Rattle.fb_inputs.specs.DeployLocations.{InDocument, InTable, at_top, element_at, shape_in, value_at}
use Rattle.fb_inputs.specs.Lists.{each_at, each_in}
use Rattle.fb_inputs.specs.Refusals.{◌>>=◌, and_then, or_refuse}
use Rattle.fb_inputs.specs.Words.{Text, name}

-- the items of an array
abbrev pub list_of : Items → List Data
list_of no_items = []
list_of (item d ds) = d ∷ list_of ds

-- how many keys a table has
abbrev pub count_of : Members → ℕ
count_of no_members = 0
count_of (member k d ms) = count_of ms + 1

-- what each item of the array at a key is
abbrev pub array_of : {A : Type 0} → DeployKey → (Data → Option A) → Data → InTable (List A)
array_of k f d = and_then (or_refuse (fault.Wrong k) (as_array d)) (λ ds. each_at (element_at k) f 0 (list_of ds))

-- what the value at a key that is required is
abbrev pub read_at : {A : Type 0} → DeployKey → (Data → InTable A) → Members → InTable A
read_at k f keys = and_then (or_refuse (fault.Missing k) (value_at keys k)) f

-- a value of the kind of the key
abbrev pub of_kind : {A : Type 0} → DeployKey → (Data → Option A) → Data → InTable A
of_kind k f d = or_refuse (fault.Wrong k) (f d)

-- the name that a text is
abbrev pub name_of : Data → Option Text
name_of d = option_and_then name (as_str d)

-- a table with these keys
abbrev pub of_table : {A : Type 0} → (Members → InTable A) → Data → InTable A
of_table f d = and_then (or_refuse fault.NoTable (as_table d)) f

-- a device, a name and instances, and no other key
unfoldable pub read_resource : Members → InTable ResourceEntry
read_resource keys = do
  device ← read_at key.Device (of_kind key.Device name_of) keys
  own ← read_at key.Name (of_kind key.Name name_of) keys
  instances ← read_at key.Instances (array_of key.Instances name_of) keys
  if count_of keys == 3 then Ok (record { device = device; name = own; instances = instances }) else Err fault.Further

abbrev pub resource : Data → InTable ResourceEntry
resource = of_table read_resource

-- two whole numbers
unfoldable pub pair_of : List Data → Option LatencyDraft
pair_of (a ∷ b ∷ []) = option_and_then (λ start. option_and_then (λ ticks. Some (record { start = start; ticks = ticks })) (as_integer b)) (as_integer a)
pair_of _ = None

abbrev pub pair : Data → Option LatencyDraft
pair d = option_and_then (λ ds. pair_of (list_of ds)) (as_array d)

-- one latency from tick 0 on
abbrev pub constant : Data → Option (List LatencyDraft)
constant d = option_and_then (λ n. Some (record { start = pos 0; ticks = n } ∷ [])) (as_integer d)

-- either one latency or a table of latencies
unfoldable pub table_of : Option Data → Option Data → InTable (List LatencyDraft)
table_of (Some d) None = of_kind key.Latency constant d
table_of None (Some d) = array_of key.Latencies pair d
table_of None None = Err (fault.Missing key.Latency)
table_of (Some d) (Some e) = Err fault.Both

-- two resources and the latency from the one to the other, and no other key
unfoldable pub read_link : Members → InTable LinkDraft
read_link keys = do
  start ← read_at key.From (of_kind key.From name_of) keys
  end ← read_at key.To (of_kind key.To name_of) keys
  table ← table_of (value_at keys key.Latency) (value_at keys key.Latencies)
  if count_of keys == 3
      then (if same_name start end then Err fault.Itself else Ok (record { start = start; end = end; table = table }))
      else Err fault.Further

abbrev pub link : Data → InTable LinkDraft
link = of_table read_link

-- what each table of the array at a key of the document is
abbrev pub tables_of : {A : Type 0} → DeployKey → (Data → InTable A) → Data → InDocument (List A)
tables_of k f d = and_then (or_refuse (at_top (fault.Wrong k)) (as_array d)) (λ ds. each_in (shape_in k) f 0 (list_of ds))

-- the resources, which are required
abbrev pub resources_in : Option Data → InDocument (List ResourceEntry)
resources_in None = Err (at_top (fault.Missing key.Resource))
resources_in (Some d) = tables_of key.Resource resource d

-- the links, if any
abbrev pub links_in : Option Data → InDocument (List LinkDraft)
links_in None = Ok []
links_in (Some d) = tables_of key.Link link d

-- how many of the two keys of a document it has, if it has resources
abbrev pub known_keys : Members → ℕ
known_keys keys = if is_some (value_at keys key.Link) then 2 else 1

-- one resource or more, links, and no other key
unfoldable pub draft : Members → InDocument PlanDraft
draft keys = do
  resources ← resources_in (value_at keys key.Resource)
  links ← links_in (value_at keys key.Link)
  if count_of keys == known_keys keys
      then (if length resources == 0 then Err (at_top fault.Empty) else Ok (record { resources = resources; links = links }))
      else Err (at_top fault.Further)
