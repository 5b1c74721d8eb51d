-- From what holds at a location to the condition of its number.
use Rattle.fb_types.proofs.Common.{◌≡◌, ℕ, Bool, true, false, not, List, [], ◌++◌, map, Contains, refl, sym, ◌∙◌, inl, inr, is_some, true≢false, Contains-append_left, Contains-append_right, event_block_named, event_blocks, resource_names_of, type_name, algorithm_names, event_pairs, instance_names, link_pairs, state_names}
use Rattle.fb_types.specs.declared.library.BlockType.{BlockType}
use Rattle.fb_types.specs.declared.library.EventPort.{EventPort}
use Rattle.fb_types.specs.declared.library.Network.{Network}
use Rattle.fb_types.specs.declared.library.Ports.{Ports}
use Rattle.fb_types.specs.declared.library.Variable.{Variable}
use Rattle.fb_types.specs.declared.library.BlockType.TheVariants as block
use Rattle.fb_check_names.specs.GivenTwice.{BlockTwice, NetworkTwice, PortTwice, TypeTwice, names_of_ports}
use Rattle.fb_types.proofs.lemmas.names.NameLaws.{contains_from_any}
use Rattle.fb_types.proofs.lemmas.lists.Elements.{Contains-map}
use Rattle.fb_types.proofs.lemmas.lists.ByIndex.{element_of_index}
use Rattle.fb_check_names.proofs.lemmas.twice.NameTwice.{block_twice, network_twice, plan_twice, types_twice}
use Rattle.fb_check_names.specs.Applies.{TwiceApplies}
use Rattle.fb_check_names.specs.Twice.{IsEventBlock, IsTwiceInBlock, IsTwiceInNetwork, IsTwiceInPorts, parameter_names}
use Rattle.fb_check_names.specs.declared.twice.GivenTwice.TheVariants as given
use Rattle.fb_check_names.specs.declared.twice.InBlock.{InBlock}
use Rattle.fb_check_names.specs.declared.twice.InBlock.TheVariants as part
use Rattle.fb_check_names.specs.declared.twice.InNetwork.{InNetwork}
use Rattle.fb_check_names.specs.declared.twice.InNetwork.TheVariants as network
use Rattle.fb_types.proofs.lemmas.lists.TwiceLaws.{Twice-append_right, Twice-both}
use Rattle.fb_check_names.proofs.lemmas.twice.Repeating.{pair_twice}
use Rattle.fb_check_names.proofs.lemmas.twice.Once.{event_type_names, is_some-named}

-- ---- E20

network_pair : (net : Network) (n : InNetwork) → IsTwiceInNetwork net n → NetworkTwice net
network_pair net (network.Instance r) h = inl (pair_twice (instance_names net) r h)
network_pair net (network.Parameter k r) h =
    inr (inl (parameter_names h.0, Contains-map parameter_names net.instances h.0 (element_of_index net.instances k h.0 h.1), pair_twice (parameter_names h.0) r h.2))
network_pair net (network.Connection r) h = inr (inr (pair_twice (event_pairs net) r h))

ports_pair : (p : Ports) (vs : List Variable) (b : InBlock) → IsTwiceInPorts p vs b → PortTwice p vs
ports_pair p vs (part.Port r) h = inl (pair_twice (names_of_ports p vs) r h)
ports_pair p vs (part.WithInput k r) h =
    let events = p.event_inputs ++ p.event_outputs in
    let there : Contains events h.0 = Contains-append_left p.event_inputs p.event_outputs h.0 (element_of_index p.event_inputs k h.0 h.1) in
    inr (h.0.with, Contains-map (λ (e : EventPort). e.with) events h.0 there, pair_twice h.0.with r h.2)
ports_pair p vs (part.WithOutput k r) h =
    let events = p.event_inputs ++ p.event_outputs in
    let there : Contains events h.0 = Contains-append_right p.event_inputs p.event_outputs h.0 (element_of_index p.event_outputs k h.0 h.1) in
    inr (h.0.with, Contains-map (λ (e : EventPort). e.with) events h.0 there, pair_twice h.0.with r h.2)
ports_pair p vs (part.State r) h = absurd h
ports_pair p vs (part.Algorithm r) h = absurd h
ports_pair p vs (part.Inside n) h = absurd h

block_pair : (t : BlockType) (b : InBlock) → IsTwiceInBlock t b → BlockTwice t
block_pair (block.Basic t) (part.Port r) h = inl (ports_pair t.ports t.internals (part.Port r) h)
block_pair (block.Basic t) (part.WithInput k r) h = inl (ports_pair t.ports t.internals (part.WithInput k r) h)
block_pair (block.Basic t) (part.WithOutput k r) h = inl (ports_pair t.ports t.internals (part.WithOutput k r) h)
block_pair (block.Basic t) (part.State r) h = inr (inl (pair_twice (state_names t) r h))
block_pair (block.Basic t) (part.Algorithm r) h = inr (inr (pair_twice (algorithm_names t) r h))
block_pair (block.Basic t) (part.Inside n) h = absurd h
block_pair (block.Composite t) (part.Port r) h = inl (ports_pair t.ports [] (part.Port r) h)
block_pair (block.Composite t) (part.WithInput k r) h = inl (ports_pair t.ports [] (part.WithInput k r) h)
block_pair (block.Composite t) (part.WithOutput k r) h = inl (ports_pair t.ports [] (part.WithOutput k r) h)
block_pair (block.Composite t) (part.State r) h = absurd h
block_pair (block.Composite t) (part.Algorithm r) h = absurd h
block_pair (block.Composite t) (part.Inside n) h = inr (network_pair t.network n h)

true_from_not : (b : Bool) → not b ≡ false → b ≡ true
true_from_not true h = refl
true_from_not false h = absurd (true≢false h)

event_block_pair : (ts : List BlockType) (k : ℕ) → IsEventBlock ts k → TypeTwice ts
event_block_pair ts k h =
    let n = type_name h.0 in
    let is : is_some (event_block_named n) ≡ true = true_from_not (is_some (event_block_named n)) h.2 in
    Twice-both event_type_names (map type_name ts) n
    (contains_from_any n event_type_names (sym (is_some-named (λ e. e.0) (λ e. e.1) n event_blocks) ∙ is))
    (Contains-map type_name ts h.0 (element_of_index ts k h.0 h.1))

pub twice_applies : TwiceApplies
twice_applies lib plan (given.EventBlock k) h = types_twice lib plan (event_block_pair lib.blocks k h)
twice_applies lib plan (given.Type r) h = types_twice lib plan (Twice-append_right event_type_names (map type_name lib.blocks) (pair_twice (map type_name lib.blocks) r h))
twice_applies lib plan (given.Block k b) h = block_twice lib plan h.0 (element_of_index lib.blocks k h.0 h.1) (block_pair h.0 b h.2)
twice_applies lib plan (given.Application n) h = network_twice lib plan (network_pair lib.application.network n h)
twice_applies lib plan (given.Resource r) h = plan_twice lib plan (inl (pair_twice (resource_names_of plan) r h))
twice_applies lib plan (given.Link r) h = plan_twice lib plan (inr (pair_twice (link_pairs plan) r h))
