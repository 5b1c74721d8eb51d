-- E20: a name is given twice (IEC 61499-1, 5 to 7; the name spaces are this project's profile).
use Rattle.std.specs.Prelude.{◌⊎◌, List, [], ◌∷◌, ◌++◌, map, flat_map, Option, Some, None, Contains}
use Rattle.fb_types.specs.Names.{Name, Port}
use Rattle.fb_types.specs.Blocks.{Kind, Basic, event_blocks, ports_of, event_names, variable_names}
use Rattle.fb_types.specs.Flat.{type_name, kind_of, pairs_in, resource_names_of}
use Rattle.fb_types.specs.declared.library.Library.{Library}
use Rattle.fb_types.specs.declared.library.BlockType.{BlockType}
use Rattle.fb_types.specs.declared.library.BlockType.TheVariants as block
use Rattle.fb_types.specs.declared.library.BasicType.{BasicType}
use Rattle.fb_types.specs.declared.library.CompositeType.{CompositeType}
use Rattle.fb_types.specs.declared.library.Network.{Network}
use Rattle.fb_types.specs.declared.library.Ports.{Ports}
use Rattle.fb_types.specs.declared.library.Variable.{Variable}
use Rattle.fb_types.specs.declared.deploy.Plan.{Plan}

-- Something is in the list twice.
abbrev pub Twice : {A : Type 0} → List A → Type 0
Twice [] = ⊥
Twice (x ∷ xs) = Contains xs x ⊎ Twice xs

-- ---- Parts of a declaration

-- A network, with the composite type that contains it, or none for the application's.
abbrev pub OwnedNetwork : Type 0
OwnedNetwork = Option CompositeType × Network

abbrev pub networks_in : BlockType → List OwnedNetwork
networks_in (block.Basic b) = []
networks_in (block.Composite c) = (Some c, c.network) ∷ []

abbrev pub networks : Library → List OwnedNetwork
networks lib = (None, lib.application.network) ∷ flat_map networks_in lib.blocks

abbrev pub basics_in : BlockType → List BasicType
basics_in (block.Basic b) = b ∷ []
basics_in (block.Composite c) = []

abbrev pub basics : Library → List BasicType
basics lib = flat_map basics_in lib.blocks

abbrev pub interfaces : Library → List Ports
interfaces lib = map (λ t. ports_of (kind_of t)) lib.blocks

abbrev pub internals_of : Kind → List Variable
internals_of (Basic t) = t.internals
internals_of _ = []

-- ---- The name spaces, each of which may have a name once

abbrev pub block_type_names : Library → List Name
block_type_names lib = map (λ e. e.0) event_blocks ++ map type_name lib.blocks

-- ports and variables of a type
abbrev pub port_names : BlockType → List Name
port_names t =
    let p = ports_of (kind_of t) in
    event_names p.event_inputs ++ event_names p.event_outputs ++ variable_names p.inputs ++ variable_names p.outputs
    ++ variable_names (internals_of (kind_of t))

abbrev pub algorithm_names : BasicType → List Name
algorithm_names t = map (λ a. a.name) t.algorithms

abbrev pub state_names : BasicType → List Name
state_names t = map (λ s. s.name) t.states

abbrev pub instance_names : Network → List Name
instance_names net = map (λ i. i.name) net.instances

-- the names of each WITH
abbrev pub with_lists : Ports → List (List Name)
with_lists p = map (λ e. e.with) (p.event_inputs ++ p.event_outputs)

abbrev pub parameter_lists : Network → List (List Name)
parameter_lists net = map (λ i. map (λ x. x.name) i.parameters) net.instances

abbrev pub name_spaces : Library → Plan → List (List Name)
name_spaces lib plan =
    block_type_names lib ∷ map port_names lib.blocks
    ++ map algorithm_names (basics lib) ++ map state_names (basics lib)
    ++ map (λ n. instance_names n.1) (networks lib) ++ flat_map with_lists (interfaces lib)
    ++ flat_map (λ n. parameter_lists n.1) (networks lib) ++ resource_names_of plan ∷ []

-- ---- The refusal

abbrev pub event_pairs : Network → List (Port × Port)
event_pairs net = pairs_in [] net.event_connections

abbrev pub link_pairs : Plan → List (Name × Name)
link_pairs plan = map (λ l. (l.from, l.to)) plan.links

-- A name is twice in a name space, an event connection twice in a network, or an ordered pair of resources has two links.
abbrev pub NameTwice : Library → Plan → Type 0
NameTwice lib plan =
    ((ns : List Name) × Contains (name_spaces lib plan) ns × Twice ns)
    ⊎ ((n : OwnedNetwork) × Contains (networks lib) n × Twice (event_pairs n.1))
    ⊎ Twice (link_pairs plan)
