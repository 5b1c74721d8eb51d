-- The list of all that is given twice: each is given twice, and if it is empty nothing is.
use Rattle.fb_types.proofs.Common.{◌≡◌, ℕ, List, [], ◌++◌, map, Some, All, slice_get, All-append, All-map, All-weaker, resource_names_of, type_name, Name, Port, same_name, NameTwice, Twice, algorithm_names, event_pairs, instance_names, link_pairs, state_names}
use Rattle.fb_types.specs.declared.library.BlockType.{BlockType}
use Rattle.fb_types.specs.declared.library.Library.{Library}
use Rattle.fb_types.specs.declared.library.Network.{Network}
use Rattle.fb_types.specs.declared.library.Ports.{Ports}
use Rattle.fb_types.specs.declared.library.Variable.{Variable}
use Rattle.fb_types.specs.declared.deploy.Plan.{Plan}
use Rattle.fb_types.specs.declared.library.BlockType.TheVariants as block
use Rattle.fb_types.proofs.lemmas.names.NameLaws.{same_name-Decides}
use Rattle.fb_check_names.specs.GivenTwice.{BlockTwice, NetworkTwice, PortTwice, names_of_ports}
use Rattle.fb_check_names.specs.Listed.{each_at}
use Rattle.fb_check_names.specs.declared.location.Direction.TheVariants.{Input, Output}
use Rattle.fb_check_names.specs.declared.location.Site.{Site}
use Rattle.fb_check_names.specs.declared.location.Site.TheVariants as site
use Rattle.fb_check_names.proofs.lemmas.Listing.{all_each, all_unless, none_each, none_each_of, none_left, none_right, none_unless}
use Rattle.fb_check_names.specs.Repeats.{IsPair, repeats}
use Rattle.fb_check_names.specs.Pairs.{same_ends, same_sides}
use Rattle.fb_check_names.specs.TwiceLists.{event_block_at, given_in, given_in_network, names_twice, parameters_twice, twice_all, twice_by, twice_in_block, twice_in_library, twice_in_network, twice_in_ports, with_twice}
use Rattle.fb_check_names.specs.Twice.{IsTwiceAt, IsTwiceInNetwork, IsTwiceInPorts, is_own_name, parameter_names}
use Rattle.fb_check_names.specs.declared.twice.GivenTwice.{GivenTwice}
use Rattle.fb_check_names.specs.declared.twice.GivenTwice.TheVariants as given
use Rattle.fb_check_names.specs.declared.twice.InBlock.{InBlock}
use Rattle.fb_check_names.specs.declared.twice.InBlock.TheVariants as part
use Rattle.fb_check_names.specs.declared.twice.InNetwork.{InNetwork}
use Rattle.fb_check_names.specs.declared.twice.InNetwork.TheVariants as network
use Rattle.fb_check_names.specs.declared.repeats.NameSpace.{NameSpace}
use Rattle.fb_check_names.specs.declared.repeats.NameSpace.TheVariants as space
use Rattle.fb_check_names.proofs.lemmas.twice.Once.{IsBlockOnce, IsInstanceOnce, IsWithOnce, all_once, basic_once, basic_ports, composite_once, composite_ports, network_once, ports_once}
use Rattle.fb_check_names.proofs.lemmas.twice.Repeating.{each_pair, none_mapped, once_of}
use Rattle.fb_check_names.proofs.lemmas.comparisons.SameNames.{ends_Decides, sides_Decides}

-- ---- Each is given twice

each_name : (P : GivenTwice → Type 0) (s : NameSpace) (ns : List Name) → ((r : ℕ × ℕ) → IsPair ns r → P (given_in s r)) → All P (names_twice s ns)
each_name P s ns h =
    All-map P (given_in s) (repeats same_name ns)
    (All-weaker (IsPair ns) (λ r. P (given_in s r)) h (repeats same_name ns) (each_pair same_name same_name-Decides ns))

each_in_network :
    (lib : Library) (plan : Plan) (s : Site) (net : Network) → ((n : InNetwork) → IsTwiceInNetwork net n → IsTwiceAt lib plan (given_in_network s n))
    → All (IsTwiceAt lib plan) (twice_in_network s net)
each_in_network lib plan s net h =
    let P : GivenTwice → Type 0 = IsTwiceAt lib plan in
    let cs : List (Port × Port) = event_pairs net in
    All-append P (names_twice (space.Instances s) (instance_names net)) (each_at (parameters_twice s) net.instances ++ twice_by (space.Connections s) same_ends cs)
    (each_name P (space.Instances s) (instance_names net) (λ r p. h (network.Instance r) p))
    (All-append P (each_at (parameters_twice s) net.instances) (twice_by (space.Connections s) same_ends cs)
    (all_each P (parameters_twice s) net.instances (λ k i at. each_name P (space.Parameters s k) (parameter_names i) (λ r p. h (network.Parameter k r) (i, at, p))))
    (All-map P (given_in (space.Connections s)) (repeats same_ends cs)
    (All-weaker (IsPair cs) (λ r. P (given_in (space.Connections s) r)) (λ r p. h (network.Connection r) p) (repeats same_ends cs) (each_pair same_ends ends_Decides cs))))

each_in_ports :
    (lib : Library) (plan : Plan) (b : ℕ) (p : Ports) (vs : List Variable) → ((x : InBlock) → IsTwiceInPorts p vs x → IsTwiceAt lib plan (given.Block b x))
    → All (IsTwiceAt lib plan) (twice_in_ports b p vs)
each_in_ports lib plan b p vs h =
    let P : GivenTwice → Type 0 = IsTwiceAt lib plan in
    All-append P (names_twice (space.Ports b) (names_of_ports p vs)) (each_at (with_twice b Input) p.event_inputs ++ each_at (with_twice b Output) p.event_outputs)
    (each_name P (space.Ports b) (names_of_ports p vs) (λ r q. h (part.Port r) q))
    (All-append P (each_at (with_twice b Input) p.event_inputs) (each_at (with_twice b Output) p.event_outputs)
    (all_each P (with_twice b Input) p.event_inputs (λ k e at. each_name P (space.With b Input k) e.with (λ r q. h (part.WithInput k r) (e, at, q))))
    (all_each P (with_twice b Output) p.event_outputs (λ k e at. each_name P (space.With b Output k) e.with (λ r q. h (part.WithOutput k r) (e, at, q)))))

each_in_block : (lib : Library) (plan : Plan) (b : ℕ) (t : BlockType) → slice_get lib.blocks b ≡ Some t → All (IsTwiceAt lib plan) (twice_in_block b t)
each_in_block lib plan b (block.Basic t) at =
    let P : GivenTwice → Type 0 = IsTwiceAt lib plan in
    let here : BlockType = block.Basic t in
    All-append P (twice_in_ports b t.ports t.internals) (names_twice (space.States b) (state_names t) ++ names_twice (space.Algorithms b) (algorithm_names t))
    (each_in_ports lib plan b t.ports t.internals (λ x q. (here, at, basic_ports t x q)))
    (All-append P (names_twice (space.States b) (state_names t)) (names_twice (space.Algorithms b) (algorithm_names t))
    (each_name P (space.States b) (state_names t) (λ r q. (here, at, q)))
    (each_name P (space.Algorithms b) (algorithm_names t) (λ r q. (here, at, q))))
each_in_block lib plan b (block.Composite t) at =
    let here : BlockType = block.Composite t in
    All-append (IsTwiceAt lib plan) (twice_in_ports b t.ports []) (twice_in_network (site.Inside b) t.network)
    (each_in_ports lib plan b t.ports [] (λ x q. (here, at, composite_ports t x q)))
    (each_in_network lib plan (site.Inside b) t.network (λ n q. (here, at, q)))

each_in_library : (lib : Library) (plan : Plan) → All (IsTwiceAt lib plan) (twice_in_library lib)
each_in_library lib plan =
    let P : GivenTwice → Type 0 = IsTwiceAt lib plan in
    let types = names_twice space.Types (map type_name lib.blocks) in
    let blocks = each_at twice_in_block lib.blocks in
    let application = twice_in_network site.Application lib.application.network in
    All-append P (each_at event_block_at lib.blocks) (types ++ (blocks ++ application))
    (all_each P event_block_at lib.blocks (λ k t at. all_unless P (is_own_name t) (given.EventBlock k) (λ e. (t, at, e))))
    (All-append P types (blocks ++ application) (each_name P space.Types (map type_name lib.blocks) (λ r q. q))
    (All-append P blocks application (all_each P twice_in_block lib.blocks (each_in_block lib plan))
    (each_in_network lib plan site.Application lib.application.network (λ n q. q))))

pub each_twice : (lib : Library) (plan : Plan) → All (IsTwiceAt lib plan) (twice_all lib plan)
each_twice lib plan =
    let P : GivenTwice → Type 0 = IsTwiceAt lib plan in
    let ls : List (Name × Name) = link_pairs plan in
    let resources = names_twice space.Resources (resource_names_of plan) in
    let links = twice_by space.Links same_sides ls in
    All-append P (twice_in_library lib) (resources ++ links) (each_in_library lib plan)
    (All-append P resources links (each_name P space.Resources (resource_names_of plan) (λ r q. q))
    (All-map P (given_in space.Links) (repeats same_sides ls)
    (All-weaker (IsPair ls) (λ r. P (given_in space.Links r)) (λ r q. q) (repeats same_sides ls) (each_pair same_sides sides_Decides ls))))

-- ---- If there is none, nothing is given twice

none_named : (s : NameSpace) (ns : List Name) → names_twice s ns ≡ [] → ¬ (Twice ns)
none_named s ns h = once_of same_name same_name-Decides ns (none_mapped (given_in s) (repeats same_name ns) h)

none_in_network : (s : Site) (net : Network) → twice_in_network s net ≡ [] → ¬ (NetworkTwice net)
none_in_network s net h =
    let instances = names_twice (space.Instances s) (instance_names net) in
    let parameters = each_at (parameters_twice s) net.instances in
    let connections = twice_by (space.Connections s) same_ends (event_pairs net) in
    let rest : parameters ++ connections ≡ [] = none_right instances (parameters ++ connections) h in
    network_once net (none_named (space.Instances s) (instance_names net) (none_left instances (parameters ++ connections) h))
    (none_each_of IsInstanceOnce (parameters_twice s) net.instances 0 (λ k i e. none_named (space.Parameters s k) (parameter_names i) e) (none_left parameters connections rest))
    (once_of same_ends ends_Decides (event_pairs net) (none_mapped (given_in (space.Connections s)) (repeats same_ends (event_pairs net)) (none_right parameters connections rest)))

none_in_ports : (b : ℕ) (p : Ports) (vs : List Variable) → twice_in_ports b p vs ≡ [] → ¬ (PortTwice p vs)
none_in_ports b p vs h =
    let names = names_twice (space.Ports b) (names_of_ports p vs) in
    let ins = each_at (with_twice b Input) p.event_inputs in
    let outs = each_at (with_twice b Output) p.event_outputs in
    let rest : ins ++ outs ≡ [] = none_right names (ins ++ outs) h in
    ports_once p vs (none_named (space.Ports b) (names_of_ports p vs) (none_left names (ins ++ outs) h))
    (none_each_of IsWithOnce (with_twice b Input) p.event_inputs 0 (λ k e g. none_named (space.With b Input k) e.with g) (none_left ins outs rest))
    (none_each_of IsWithOnce (with_twice b Output) p.event_outputs 0 (λ k e g. none_named (space.With b Output k) e.with g) (none_right ins outs rest))

none_in_block : (b : ℕ) (t : BlockType) → twice_in_block b t ≡ [] → ¬ (BlockTwice t)
none_in_block b (block.Basic t) h =
    let ports = twice_in_ports b t.ports t.internals in
    let states = names_twice (space.States b) (state_names t) in
    let algorithms = names_twice (space.Algorithms b) (algorithm_names t) in
    let rest : states ++ algorithms ≡ [] = none_right ports (states ++ algorithms) h in
    basic_once t (none_in_ports b t.ports t.internals (none_left ports (states ++ algorithms) h)) (none_named (space.States b) (state_names t) (none_left states algorithms rest))
    (none_named (space.Algorithms b) (algorithm_names t) (none_right states algorithms rest))
none_in_block b (block.Composite t) h =
    let ports = twice_in_ports b t.ports [] in
    let inside = twice_in_network (site.Inside b) t.network in
    composite_once t (none_in_ports b t.ports [] (none_left ports inside h)) (none_in_network (site.Inside b) t.network (none_right ports inside h))

pub none_twice : (lib : Library) (plan : Plan) → twice_all lib plan ≡ [] → ¬ (NameTwice lib plan)
none_twice lib plan h =
    let resources = names_twice space.Resources (resource_names_of plan) in
    let links = twice_by space.Links same_sides (link_pairs plan) in
    let events = each_at event_block_at lib.blocks in
    let types = names_twice space.Types (map type_name lib.blocks) in
    let blocks = each_at twice_in_block lib.blocks in
    let application = twice_in_network site.Application lib.application.network in
    let declared : twice_in_library lib ≡ [] = none_left (twice_in_library lib) (resources ++ links) h in
    let deployed : resources ++ links ≡ [] = none_right (twice_in_library lib) (resources ++ links) h in
    let second : types ++ (blocks ++ application) ≡ [] = none_right events (types ++ (blocks ++ application)) declared in
    let third : blocks ++ application ≡ [] = none_right types (blocks ++ application) second in
    all_once lib plan
    (none_each event_block_at is_own_name lib.blocks (λ k t e. none_unless (is_own_name t) (given.EventBlock k) e) (none_left events (types ++ (blocks ++ application)) declared))
    (none_named space.Types (map type_name lib.blocks) (none_left types (blocks ++ application) second))
    (none_each_of IsBlockOnce twice_in_block lib.blocks 0 none_in_block (none_left blocks application third))
    (none_in_network site.Application lib.application.network (none_right blocks application third))
    (none_named space.Resources (resource_names_of plan) (none_left resources links deployed))
    (once_of same_sides sides_Decides (link_pairs plan) (none_mapped (given_in space.Links) (repeats same_sides (link_pairs plan)) (none_right resources links deployed)))
