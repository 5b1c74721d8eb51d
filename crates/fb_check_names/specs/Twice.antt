-- Where something is given twice (E20; IEC 61499-1, 5 to 7; the name spaces are this project's profile).
use Rattle.std.specs.Prelude.{◌≡◌, ℕ, List, [], map, Bool, not, false, Some, slice_get, is_some}
use Rattle.fb_types.specs.Names.{Name}
use Rattle.fb_types.specs.Blocks.{event_block_named}
use Rattle.fb_types.specs.Flat.{type_name, resource_names_of}
use Rattle.fb_types.specs.Repeated.{state_names, algorithm_names, instance_names, event_pairs, link_pairs}
use Rattle.fb_types.specs.declared.library.BlockType.{BlockType}
use Rattle.fb_types.specs.declared.library.BlockType.TheVariants as block
use Rattle.fb_types.specs.declared.library.EventPort.{EventPort}
use Rattle.fb_types.specs.declared.library.Instance.{Instance}
use Rattle.fb_types.specs.declared.library.Library.{Library}
use Rattle.fb_types.specs.declared.library.Network.{Network}
use Rattle.fb_types.specs.declared.library.Ports.{Ports}
use Rattle.fb_types.specs.declared.library.Variable.{Variable}
use Rattle.fb_types.specs.declared.deploy.Plan.{Plan}
use Rattle.fb_check_names.specs.GivenTwice.{names_of_ports}
use Rattle.fb_check_names.specs.Repeats.{IsPair}
use Rattle.fb_check_names.specs.declared.twice.InNetwork.{InNetwork}
use Rattle.fb_check_names.specs.declared.twice.InNetwork.TheVariants as network
use Rattle.fb_check_names.specs.declared.twice.InBlock.{InBlock}
use Rattle.fb_check_names.specs.declared.twice.InBlock.TheVariants.{Port, WithInput, WithOutput, State, Algorithm, Inside}
use Rattle.fb_check_names.specs.declared.twice.GivenTwice.{GivenTwice}
use Rattle.fb_check_names.specs.declared.twice.GivenTwice.TheVariants as given

-- ---- Networks

abbrev pub parameter_names : Instance → List Name
parameter_names i = map (λ x. x.name) i.parameters

-- the instance at the index gives a parameter twice
abbrev pub IsParameterTwice : List Instance → (location : ℕ) → ℕ × ℕ → Type 0
IsParameterTwice is k r = (i : Instance) × (slice_get is k ≡ Some i) × IsPair (parameter_names i) r

abbrev pub IsTwiceInNetwork : Network → InNetwork → Type 0
IsTwiceInNetwork net (network.Instance r) = IsPair (instance_names net) r
IsTwiceInNetwork net (network.Parameter k r) = IsParameterTwice net.instances k r
IsTwiceInNetwork net (network.Connection r) = IsPair (event_pairs net) r

-- ---- Block types

-- the event at the index has a variable twice in its WITH list
abbrev pub IsWithTwice : List EventPort → (location : ℕ) → ℕ × ℕ → Type 0
IsWithTwice es k r = (e : EventPort) × (slice_get es k ≡ Some e) × IsPair e.with r

abbrev pub IsTwiceInPorts : Ports → List Variable → InBlock → Type 0
IsTwiceInPorts p vs (Port r) = IsPair (names_of_ports p vs) r
IsTwiceInPorts p vs (WithInput k r) = IsWithTwice p.event_inputs k r
IsTwiceInPorts p vs (WithOutput k r) = IsWithTwice p.event_outputs k r
IsTwiceInPorts p vs _ = ⊥

abbrev pub IsTwiceInBlock : BlockType → InBlock → Type 0
IsTwiceInBlock (block.Basic t) (State r) = IsPair (state_names t) r
IsTwiceInBlock (block.Basic t) (Algorithm r) = IsPair (algorithm_names t) r
IsTwiceInBlock (block.Basic t) b = IsTwiceInPorts t.ports t.internals b
IsTwiceInBlock (block.Composite t) (Inside n) = IsTwiceInNetwork t.network n
IsTwiceInBlock (block.Composite t) b = IsTwiceInPorts t.ports [] b

-- the block type at the index gives something twice
abbrev pub IsTwiceInSome : List BlockType → (location : ℕ) → InBlock → Type 0
IsTwiceInSome ts k b = (t : BlockType) × (slice_get ts k ≡ Some t) × IsTwiceInBlock t b

-- ---- A declaration and a deployment

-- the name is not that of an event block
abbrev pub is_own_name : BlockType → Bool
is_own_name t = not (is_some (event_block_named (type_name t)))

-- the block type at the index has the name of an event block
abbrev pub IsEventBlock : List BlockType → (location : ℕ) → Type 0
IsEventBlock ts k = (t : BlockType) × (slice_get ts k ≡ Some t) × (is_own_name t ≡ false)

-- Something is given twice there.
abbrev pub IsTwiceAt : Library → Plan → GivenTwice → Type 0
IsTwiceAt lib plan (given.EventBlock k) = IsEventBlock lib.blocks k
IsTwiceAt lib plan (given.Type r) = IsPair (map type_name lib.blocks) r
IsTwiceAt lib plan (given.Block k b) = IsTwiceInSome lib.blocks k b
IsTwiceAt lib plan (given.Application n) = IsTwiceInNetwork lib.application.network n
IsTwiceAt lib plan (given.Resource r) = IsPair (resource_names_of plan) r
IsTwiceAt lib plan (given.Link r) = IsPair (link_pairs plan) r
