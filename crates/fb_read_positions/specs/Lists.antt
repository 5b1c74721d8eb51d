-- The item of a list to which a position of a declaration belongs (this project's own).
use Rattle.std.specs.Prelude.{ℕ, Option, Some, None}
use Rattle.fb_read_positions.specs.declared.lists.BasicList.TheVariants as basic_list
use Rattle.fb_read_positions.specs.declared.lists.InnerList.{InnerList}
use Rattle.fb_read_positions.specs.declared.lists.InnerList.TheVariants as inner_list
use Rattle.fb_read_positions.specs.declared.lists.Item.{Item}
use Rattle.fb_read_positions.specs.declared.lists.ItemList.{ItemList}
use Rattle.fb_read_positions.specs.declared.lists.ItemList.TheVariants as item_list
use Rattle.fb_read_positions.specs.declared.lists.NetworkList.{NetworkList}
use Rattle.fb_read_positions.specs.declared.lists.NetworkList.TheVariants as network_list
use Rattle.fb_read_positions.specs.declared.lists.OuterList.{OuterList}
use Rattle.fb_read_positions.specs.declared.lists.OuterList.TheVariants as outer_list
use Rattle.fb_read_positions.specs.declared.lists.PortList.TheVariants as port_list
use Rattle.fb_read_positions.specs.declared.position.BasicPart.{BasicPart}
use Rattle.fb_read_positions.specs.declared.position.BasicPart.TheVariants as basic_part
use Rattle.fb_read_positions.specs.declared.position.NetworkPart.{NetworkPart}
use Rattle.fb_read_positions.specs.declared.position.NetworkPart.TheVariants as network_part
use Rattle.fb_read_positions.specs.declared.position.PortPart.{PortPart}
use Rattle.fb_read_positions.specs.declared.position.PortPart.TheVariants as port_part
use Rattle.fb_read_positions.specs.declared.position.Position.{Position}
use Rattle.fb_read_positions.specs.declared.position.Position.TheVariants as position
use Rattle.fb_read_positions.specs.declared.position.TransitionPart.{TransitionPart}
use Rattle.fb_read_positions.specs.declared.position.TransitionPart.TheVariants as transition_part

-- the item at this index of a list that is in no item
abbrev pub outer : OuterList → ℕ → Item
outer l n = record { list = item_list.Outer l; index = n }

-- the item at the index `k` of a list of the item at the index `n` of a list
abbrev pub inner : OuterList → ℕ → InnerList → ℕ → Item
inner l n inside k = record { list = item_list.Inner l n inside; index = k }

-- the clause at the index `j` of the statement at the index `k` of the algorithm at the index `n` of a list
abbrev pub clause : OuterList → ℕ → ℕ → ℕ → Item
clause l n k j = record { list = item_list.Clauses l n k; index = j }

-- a list of the network of a block type, or else of the application
abbrev pub list_in_network : Option ℕ → NetworkList → OuterList
list_in_network (Some k) l = outer_list.InComposite k l
list_in_network None l = outer_list.InApplication l

abbrev pub item_in_network : Option ℕ → NetworkPart → Item
item_in_network o (network_part.Instance n) = outer (list_in_network o network_list.Instances) n
item_in_network o (network_part.InstanceType n) = outer (list_in_network o network_list.Instances) n
item_in_network o (network_part.Parameter n j) = inner (list_in_network o network_list.Instances) n inner_list.Parameters j
item_in_network o (network_part.EventConnection n part) = outer (list_in_network o network_list.EventConnections) n
item_in_network o (network_part.DataConnection n part) = outer (list_in_network o network_list.DataConnections) n

abbrev pub item_in_ports : ℕ → PortPart → Item
item_in_ports k (port_part.EventInput n) = outer (outer_list.InPorts k port_list.EventInputs) n
item_in_ports k (port_part.WithInput n j) = inner (outer_list.InPorts k port_list.EventInputs) n inner_list.With j
item_in_ports k (port_part.EventOutput n) = outer (outer_list.InPorts k port_list.EventOutputs) n
item_in_ports k (port_part.WithOutput n j) = inner (outer_list.InPorts k port_list.EventOutputs) n inner_list.With j
item_in_ports k (port_part.Input n) = outer (outer_list.InPorts k port_list.Inputs) n
item_in_ports k (port_part.Output n) = outer (outer_list.InPorts k port_list.Outputs) n

abbrev pub item_in_transition : ℕ → ℕ → TransitionPart → Item
item_in_transition k n transition_part.From = outer (outer_list.InBasic k basic_list.Transitions) n
item_in_transition k n transition_part.To = outer (outer_list.InBasic k basic_list.Transitions) n
item_in_transition k n transition_part.Condition = outer (outer_list.InBasic k basic_list.Transitions) n
item_in_transition k n transition_part.Guard = outer (outer_list.InBasic k basic_list.Transitions) n
item_in_transition k n (transition_part.Mention j) = inner (outer_list.InBasic k basic_list.Transitions) n inner_list.GuardMentions j

abbrev pub item_in_basic : ℕ → BasicPart → Item
item_in_basic k (basic_part.Internal n) = outer (outer_list.InBasic k basic_list.Internals) n
item_in_basic k (basic_part.State n) = outer (outer_list.InBasic k basic_list.States) n
item_in_basic k (basic_part.Action n j) = inner (outer_list.InBasic k basic_list.States) n inner_list.Actions j
item_in_basic k (basic_part.OutputAlone n j) = inner (outer_list.InBasic k basic_list.States) n inner_list.Actions j
item_in_basic k (basic_part.OutputAfter n j) = inner (outer_list.InBasic k basic_list.States) n inner_list.Actions j
item_in_basic k (basic_part.Transition n part) = item_in_transition k n part
item_in_basic k (basic_part.Algorithm n) = outer (outer_list.InBasic k basic_list.Algorithms) n
item_in_basic k (basic_part.Statement n j) = inner (outer_list.InBasic k basic_list.Algorithms) n inner_list.Statements j
item_in_basic k (basic_part.Clause n j c) = clause (outer_list.InBasic k basic_list.Algorithms) n j c
item_in_basic k (basic_part.Mention n j) = inner (outer_list.InBasic k basic_list.Algorithms) n inner_list.Mentions j

-- the item to which a position belongs; the name of the application belongs to none
abbrev pub item_of : Position → Option Item
item_of position.Application = None
item_of (position.Block k) = Some (outer outer_list.Blocks k)
item_of (position.InApplication part) = Some (item_in_network None part)
item_of (position.InPorts k part) = Some (item_in_ports k part)
item_of (position.InBasic k part) = Some (item_in_basic k part)
item_of (position.InComposite k part) = Some (item_in_network (Some k) part)

-- the item that has a list; the text itself has the others
abbrev pub owner_of : ItemList → Option Item
owner_of (item_list.Outer outer_list.Blocks) = None
owner_of (item_list.Outer (outer_list.InApplication l)) = None
owner_of (item_list.Outer (outer_list.InPorts k l)) = Some (outer outer_list.Blocks k)
owner_of (item_list.Outer (outer_list.InBasic k l)) = Some (outer outer_list.Blocks k)
owner_of (item_list.Outer (outer_list.InComposite k l)) = Some (outer outer_list.Blocks k)
owner_of (item_list.Inner l n inside) = Some (outer l n)
owner_of (item_list.Clauses l n k) = Some (inner l n inner_list.Statements k)

-- how many items have the list of an item, itself included
abbrev pub depth : ItemList → ℕ
depth (item_list.Outer outer_list.Blocks) = 1
depth (item_list.Outer (outer_list.InApplication l)) = 1
depth (item_list.Outer (outer_list.InPorts k l)) = 2
depth (item_list.Outer (outer_list.InBasic k l)) = 2
depth (item_list.Outer (outer_list.InComposite k l)) = 2
depth (item_list.Inner l n inside) = 3
depth (item_list.Clauses l n k) = 4

-- of no item, 0
abbrev pub depth_of : Option Item → ℕ
depth_of None = 0
depth_of (Some i) = depth i.list
