-- Where deployments are refused, and by which number (this project's profile).
use Rattle.std.specs.Prelude.{◌≡◌, ℕ, option_map, Option, Some, None, Result, Ok, Err, codes}
use Rattle.toml.specs.Data.{Data, Members, get_member}
use Rattle.fb_inputs.specs.declared.deploy_location.DeployFault.{DeployFault}
use Rattle.fb_inputs.specs.declared.deploy_location.DeployFault.TheVariants as deploy_fault
use Rattle.fb_inputs.specs.declared.deploy_location.DeployKey.{DeployKey}
use Rattle.fb_inputs.specs.declared.deploy_location.DeployKey.TheVariants as key
use Rattle.fb_inputs.specs.declared.deploy_location.DeployLocation.{DeployLocation}
use Rattle.fb_inputs.specs.declared.deploy_location.DeployLocation.TheVariants as location
use Rattle.fb_inputs.specs.declared.deploy_location.TableError.{TableError}
use Rattle.fb_inputs.specs.declared.deploy_location.TableError.TheVariants as table_error
use Rattle.fb_inputs.specs.declared.deploy_location.TableFault.{TableFault}
use Rattle.fb_inputs.specs.declared.deploy_location.TableFault.TheVariants as fault
use Rattle.fb_inputs.specs.declared.deploy_location.TableLocation.{TableLocation}
use Rattle.fb_inputs.specs.declared.deploy_location.TableLocation.TheVariants as table
use Rattle.fb_inputs.specs.Refusals.{Outcome, AnswersBy, no_document, bad_shape, bad_latency, bad_table, over_limit}
use Rattle.fb_inputs.specs.Words.{Text}

-- a value, or what is wrong with a table
abbrev pub InTable : Type 0 → Type 0
InTable A = Result A TableFault

-- a value, or where a document is refused
abbrev pub InDocument : Type 0 → Type 0
InDocument A = Result A DeployLocation

abbrev pub text_of : DeployKey → Text
text_of key.Resource = codes "resource"
text_of key.Link = codes "link"
text_of key.Device = codes "device"
text_of key.Name = codes "name"
text_of key.Instances = codes "instances"
text_of key.From = codes "from"
text_of key.To = codes "to"
text_of key.Latency = codes "latency"
text_of key.Latencies = codes "latencies"

abbrev pub value_at : Members → DeployKey → Option Data
value_at keys k = get_member (text_of k) keys

-- an element of the array at a key
abbrev pub element_at : DeployKey → ℕ → TableFault
element_at k i = fault.Element k i

-- the table at an index of the array at a key: a link, or else a resource
abbrev pub table_at : DeployKey → ℕ → TableLocation
table_at key.Link i = table.Link i
table_at _ i = table.Resource i

abbrev pub shape_in : DeployKey → ℕ → TableFault → DeployLocation
shape_in k i why = location.Shape (table_at k i) why

abbrev pub at_top : TableFault → DeployLocation
at_top why = location.Shape table.Top why

-- the number of a refusal
abbrev pub number_at : DeployLocation → ℕ
number_at location.Bytes = over_limit
number_at (location.Document at) = no_document
number_at (location.Shape t why) = bad_shape
number_at (location.Latency k e) = bad_latency
number_at (location.NoEntry k) = bad_table
number_at (location.Entry k e) = bad_table
number_at location.Resources = over_limit
number_at location.Links = over_limit
number_at (location.Entries k) = over_limit

-- what is wrong, unless memory ran out
abbrev pub fault_of : TableError → Option TableFault
fault_of table_error.Memory = None
fault_of (table_error.At why) = Some why

abbrev pub location_of : DeployFault → Option DeployLocation
location_of deploy_fault.Memory = None
location_of (deploy_fault.At p) = Some p

-- the result without the location
abbrev pub numbered : {A : Type 0} → InDocument A → Outcome A
numbered (Ok x) = Ok x
numbered (Err p) = Err (number_at p)

-- A function of a table, or of a document, returns this, as far as contracts see it, unless memory runs out.
abbrev pub AnswersInTable : {X Y : Type 0} → (X → Y) → InTable Y → Result X TableError → Type 0
AnswersInTable seen outcome result = AnswersBy fault_of seen outcome result

abbrev pub AnswersInDocument : {X Y : Type 0} → (X → Y) → InDocument Y → Result X DeployFault → Type 0
AnswersInDocument seen outcome result = AnswersBy location_of seen outcome result

-- the result of a table is the one of a document
abbrev pub IsLocated : {A : Type 0} → DeployKey → ℕ → Result A TableError → Result A DeployFault → Type 0
IsLocated k i (Ok x) o = o ≡ Ok x
IsLocated k i (Err e) (Ok x) = ⊥
IsLocated k i (Err e) (Err f) = location_of f ≡ option_map (shape_in k i) (fault_of e)
