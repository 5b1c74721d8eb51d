-- Data inputs of instances that nothing feeds, block types without an instance, and links that nothing crosses (IEC 61499-1, 5.3
-- and 7; links are this project's profile).
use Rattle.std.specs.Prelude.{ℕ, List, [], Bool, false, not, ◌&&◌, ◌||◌, Option, Some, None, option_map, is_some, codes}
use Rattle.std.specs.List.{list_any}
use Rattle.fb_types.specs.Names.{Name, same_name}
use Rattle.fb_types.specs.Blocks.{among, ports_of}
use Rattle.fb_types.specs.Flat.{type_named}
use Rattle.fb_types.specs.declared.deploy.Link.{Link}
use Rattle.fb_types.specs.declared.deploy.ResourceEntry.{ResourceEntry}
use Rattle.fb_types.specs.declared.deploy.Setting.{Setting}
use Rattle.fb_types.specs.declared.deploy.Stimulus.{Stimulus}
use Rattle.fb_types.specs.declared.library.BlockType.{BlockType}
use Rattle.fb_types.specs.declared.library.BlockType.TheVariants as block
use Rattle.fb_types.specs.declared.library.Connection.{Connection}
use Rattle.fb_types.specs.declared.library.Instance.{Instance}
use Rattle.fb_types.specs.declared.library.Library.{Library}
use Rattle.fb_types.specs.declared.library.Parameter.{Parameter}
use Rattle.fb_types.specs.declared.library.Ports.{Ports}
use Rattle.fb_types.specs.declared.library.Variable.{Variable}
use Rattle.fb_lint.specs.Charts.{is_named}
use Rattle.fb_lint.specs.Findings.{when, each_from}
use Rattle.fb_check_names.specs.declared.location.Site.{Site}
use Rattle.fb_lint.specs.declared.warning.Warning.{Warning}
use Rattle.fb_lint.specs.declared.warning.Warning.TheVariants.{UnfedInput, UnusedType, UnusedLink}

-- ---- L02

-- the connection leads to the data input of the instance
abbrev pub leads_to : (instance input : Name) → Connection → Bool
leads_to i v c = is_named i c.to.component && same_name v c.to.port

abbrev pub is_parameter : (input : Name) → Parameter → Bool
is_parameter v p = same_name v p.name

abbrev pub is_setting : (input : Name) → Setting → Bool
is_setting v x = same_name v x.variable

-- the stimulus sets the data input of the instance
abbrev pub sets : (instance input : Name) → Stimulus → Bool
sets i v s = same_name i s.instance && list_any (is_setting v) s.settings

-- it has a source, a parameter or a stimulus
abbrev pub is_fed : List Connection → List Stimulus → Instance → (input : Name) → Bool
is_fed cs ss i v = list_any (leads_to i.name v) cs || (list_any (is_parameter v) i.parameters || list_any (sets i.name v) ss)

-- the connection comes from the data output of the instance
abbrev pub comes_from : (instance output : Name) → Connection → Bool
comes_from i v c = same_name v c.from.port && is_named i c.from.component

-- a counter whose Q no connection reads: its limit makes no difference
abbrev pub is_plain_counter : List Connection → Instance → Bool
is_plain_counter cs i = same_name (codes "E_CTU") i.block_type && not (list_any (comes_from i.name (codes "Q")) cs)

-- the input has a declared value, or it is the limit of such a counter
abbrev pub may_stay : List Connection → Instance → Variable → Bool
may_stay cs i v = is_some v.initial || is_plain_counter cs i

abbrev pub is_forgotten : List Connection → List Stimulus → Instance → Variable → Bool
is_forgotten cs ss i v = not (is_fed cs ss i v.name) && not (may_stay cs i v)

abbrev pub unfed_input : Site → List Connection → List Stimulus → ℕ → Instance → ℕ → Variable → List Warning
unfed_input at cs ss k i j v = when (is_forgotten cs ss i v) (UnfedInput at k j)

abbrev pub unfed_inputs : Site → List Connection → List Stimulus → ℕ → Instance → List Variable → List Warning
unfed_inputs at cs ss k i vs = each_from (unfed_input at cs ss k i) 0 vs

abbrev pub inputs_of : Option Ports → List Variable
inputs_of None = []
inputs_of (Some p) = p.inputs

abbrev pub unfed_in_instance : Library → Site → List Connection → List Stimulus → ℕ → Instance → List Warning
unfed_in_instance lib at cs ss k i = unfed_inputs at cs ss k i (inputs_of (option_map ports_of (type_named lib i.block_type)))

abbrev pub unfed_in_network : Library → Site → List Connection → List Stimulus → List Instance → List Warning
unfed_in_network lib at cs ss is = each_from (unfed_in_instance lib at cs ss) 0 is

-- ---- L10

abbrev pub is_of_type : (of : Name) → Instance → Bool
is_of_type n i = same_name n i.block_type

abbrev pub has_inside : (of : Name) → BlockType → Bool
has_inside n (block.Basic t) = false
has_inside n (block.Composite t) = list_any (is_of_type n) t.network.instances

-- the application or a composite type has an instance of the type
abbrev pub is_used_type : Library → (of : Name) → Bool
is_used_type lib n = list_any (is_of_type n) lib.application.network.instances || list_any (has_inside n) lib.blocks

abbrev pub unused_type : Library → (of : Name) → (block : ℕ) → List Warning
unused_type lib n k = when (not (is_used_type lib n)) (UnusedType k)

-- ---- L13

abbrev pub holds : (resource instance : Name) → ResourceEntry → Bool
holds r i x = same_name r x.name && among x.instances i

-- the component at an end of a connection is in the resource
abbrev pub is_end_in : List ResourceEntry → (resource : Name) → Option Name → Bool
is_end_in rs r None = false
is_end_in rs r (Some i) = list_any (holds r i) rs

abbrev pub crosses : List ResourceEntry → Link → Connection → Bool
crosses rs l c = is_end_in rs l.from c.from.component && is_end_in rs l.to c.to.component

abbrev pub is_crossed : List ResourceEntry → (events values : List Connection) → Link → Bool
is_crossed rs es ds l = list_any (crosses rs l) es || list_any (crosses rs l) ds

abbrev pub unused_link : List ResourceEntry → (events values : List Connection) → ℕ → Link → List Warning
unused_link rs es ds k l = when (not (is_crossed rs es ds l)) (UnusedLink k)

abbrev pub unused_links : List ResourceEntry → (events values : List Connection) → List Link → List Warning
unused_links rs es ds ls = each_from (unused_link rs es ds) 0 ls
