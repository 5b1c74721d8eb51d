-- All that is given twice (E20), in the order of the declaration: in each name space, each item that is given before.
use Rattle.std.specs.Prelude.{ℕ, Bool, List, [], ◌++◌, map}
use Rattle.fb_types.specs.Flat.{resource_names_of, type_name}
use Rattle.fb_types.specs.Names.{Name, same_name}
use Rattle.fb_types.specs.Repeated.{algorithm_names, event_pairs, instance_names, link_pairs, state_names}
use Rattle.fb_types.specs.declared.library.BlockType.{BlockType}
use Rattle.fb_types.specs.declared.library.BlockType.TheVariants as block
use Rattle.fb_types.specs.declared.library.EventPort.{EventPort}
use Rattle.fb_types.specs.declared.library.Instance.{Instance}
use Rattle.fb_types.specs.declared.library.Library.{Library}
use Rattle.fb_types.specs.declared.library.Network.{Network}
use Rattle.fb_types.specs.declared.library.Ports.{Ports}
use Rattle.fb_types.specs.declared.library.Variable.{Variable}
use Rattle.fb_types.specs.declared.deploy.Plan.{Plan}
use Rattle.fb_check_names.specs.GivenTwice.{names_of_ports}
use Rattle.fb_check_names.specs.Listed.{each_at, unless}
use Rattle.fb_check_names.specs.declared.location.Direction.{Direction}
use Rattle.fb_check_names.specs.declared.location.Direction.TheVariants.{Input, Output}
use Rattle.fb_check_names.specs.declared.location.Site.{Site}
use Rattle.fb_check_names.specs.declared.location.Site.TheVariants as site
use Rattle.fb_check_names.specs.Repeats.{repeats}
use Rattle.fb_check_names.specs.Pairs.{same_ends, same_sides}
use Rattle.fb_check_names.specs.Twice.{is_own_name, parameter_names}
use Rattle.fb_check_names.specs.declared.twice.GivenTwice.{GivenTwice}
use Rattle.fb_check_names.specs.declared.twice.GivenTwice.TheVariants as given
use Rattle.fb_check_names.specs.declared.twice.InBlock.TheVariants as part
use Rattle.fb_check_names.specs.declared.twice.InNetwork.{InNetwork}
use Rattle.fb_check_names.specs.declared.twice.InNetwork.TheVariants as network
use Rattle.fb_check_names.specs.declared.repeats.NameSpace.{NameSpace}
use Rattle.fb_check_names.specs.declared.repeats.NameSpace.TheVariants as space

-- ---- Name spaces

abbrev pub given_in_network : Site → InNetwork → GivenTwice
given_in_network site.Application n = given.Application n
given_in_network (site.Inside b) n = given.Block b (part.Inside n)

abbrev pub given_with : ℕ → Direction → ℕ → ℕ × ℕ → GivenTwice
given_with b Input e r = given.Block b (part.WithInput e r)
given_with b Output e r = given.Block b (part.WithOutput e r)

-- what a pair of a name space gives twice
abbrev pub given_in : NameSpace → ℕ × ℕ → GivenTwice
given_in space.Types r = given.Type r
given_in (space.Ports b) r = given.Block b (part.Port r)
given_in (space.With b d e) r = given_with b d e r
given_in (space.States b) r = given.Block b (part.State r)
given_in (space.Algorithms b) r = given.Block b (part.Algorithm r)
given_in (space.Instances s) r = given_in_network s (network.Instance r)
given_in (space.Parameters s k) r = given_in_network s (network.Parameter k r)
given_in (space.Connections s) r = given_in_network s (network.Connection r)
given_in space.Resources r = given.Resource r
given_in space.Links r = given.Link r

-- all that a name space gives twice
abbrev pub twice_by : {A : Type 0} → NameSpace → (A → A → Bool) → List A → List GivenTwice
twice_by s same xs = map (given_in s) (repeats same xs)

abbrev pub names_twice : NameSpace → List Name → List GivenTwice
names_twice s ns = twice_by s same_name ns

-- ---- Parts of a declaration

abbrev pub parameters_twice : Site → ℕ → Instance → List GivenTwice
parameters_twice s k i = names_twice (space.Parameters s k) (parameter_names i)

abbrev pub twice_in_network : Site → Network → List GivenTwice
twice_in_network s net =
    names_twice (space.Instances s) (instance_names net)
    ++ (each_at (parameters_twice s) net.instances ++ twice_by (space.Connections s) same_ends (event_pairs net))

abbrev pub with_twice : ℕ → Direction → ℕ → EventPort → List GivenTwice
with_twice b d k e = names_twice (space.With b d k) e.with

abbrev pub twice_in_ports : ℕ → Ports → List Variable → List GivenTwice
twice_in_ports b p vs =
    names_twice (space.Ports b) (names_of_ports p vs)
    ++ (each_at (with_twice b Input) p.event_inputs ++ each_at (with_twice b Output) p.event_outputs)

abbrev pub twice_in_block : ℕ → BlockType → List GivenTwice
twice_in_block b (block.Basic t) =
    twice_in_ports b t.ports t.internals ++ (names_twice (space.States b) (state_names t) ++ names_twice (space.Algorithms b) (algorithm_names t))
twice_in_block b (block.Composite t) = twice_in_ports b t.ports [] ++ twice_in_network (site.Inside b) t.network

-- a block type with the name of an event block
abbrev pub event_block_at : ℕ → BlockType → List GivenTwice
event_block_at k t = unless (is_own_name t) (given.EventBlock k)

-- ---- All

-- the names of the block types, the block types, and the application
abbrev pub twice_in_library : Library → List GivenTwice
twice_in_library lib =
    each_at event_block_at lib.blocks
    ++ (names_twice space.Types (map type_name lib.blocks) ++ (each_at twice_in_block lib.blocks ++ twice_in_network site.Application lib.application.network))

abbrev pub twice_in_plan : Plan → List GivenTwice
twice_in_plan plan = names_twice space.Resources (resource_names_of plan) ++ twice_by space.Links same_sides (link_pairs plan)

-- the declaration, and the deployment
abbrev pub twice_all : Library → Plan → List GivenTwice
twice_all lib plan = twice_in_library lib ++ twice_in_plan plan
