-- The networks, block types and variables of a declaration by their indexes, and what is at an index in a network (IEC
-- 61499-1, 5.1 to 5.3).
use Rattle.std.specs.Prelude.{ℕ, List, [], ◌++◌, Option, Some, None, slice_get, option_and_then, Bool, true}
use Rattle.fb_types.specs.Blocks.{ports_of}
use Rattle.fb_types.specs.Flat.{kind_of}
use Rattle.fb_types.specs.Repeated.{OwnedNetwork, internals_of}
use Rattle.fb_types.specs.declared.library.BasicType.{BasicType}
use Rattle.fb_types.specs.declared.library.BlockType.TheVariants as block
use Rattle.fb_types.specs.declared.library.BlockType.{BlockType}
use Rattle.fb_types.specs.declared.library.Connection.{Connection}
use Rattle.fb_types.specs.declared.library.Instance.{Instance}
use Rattle.fb_types.specs.declared.library.Library.{Library}
use Rattle.fb_types.specs.declared.library.Network.{Network}
use Rattle.fb_types.specs.declared.library.Variable.{Variable}
use Rattle.fb_check_names.specs.Listed.{each_at}
use Rattle.fb_check_names.specs.declared.location.FlowKind.TheVariants.{Events, Data}
use Rattle.fb_check_names.specs.declared.location.FlowKind.{FlowKind}
use Rattle.fb_check_names.specs.declared.location.Site.TheVariants.{Application, Inside}
use Rattle.fb_check_names.specs.declared.location.Site.{Site}
use Rattle.fb_check_names.specs.declared.location.Variables.TheVariants.{Inputs, Outputs, Internals}
use Rattle.fb_check_names.specs.declared.location.Variables.{Variables}

abbrev pub network_inside : BlockType → Option OwnedNetwork
network_inside (block.Basic t) = None
network_inside (block.Composite t) = Some (Some t, t.network)

abbrev pub network_at : Library → Site → Option OwnedNetwork
network_at lib Application = Some (None, lib.application.network)
network_at lib (Inside k) = option_and_then network_inside (slice_get lib.blocks k)

abbrev pub instance_at : Library → Site → ℕ → Option Instance
instance_at lib s i = option_and_then (λ n. slice_get n.1.instances i) (network_at lib s)

abbrev pub connections_of : FlowKind → Network → List Connection
connections_of Events net = net.event_connections
connections_of Data net = net.data_connections

-- whether the network inside a block type passes a test
abbrev pub each_inside : (OwnedNetwork → Bool) → BlockType → Bool
each_inside test (block.Basic t) = true
each_inside test (block.Composite t) = test (Some t, t.network)

abbrev pub basic_inside : BlockType → Option BasicType
basic_inside (block.Basic t) = Some t
basic_inside (block.Composite t) = None

abbrev pub basic_at : Library → ℕ → Option BasicType
basic_at lib b = option_and_then basic_inside (slice_get lib.blocks b)

-- one list of the variables of a block type
abbrev pub variables_at : Variables → BlockType → List Variable
variables_at Inputs t = (ports_of (kind_of t)).inputs
variables_at Outputs t = (ports_of (kind_of t)).outputs
variables_at Internals t = internals_of (kind_of t)

-- ---- All networks

-- what belongs to the network inside of a block type, which is at this index
abbrev pub inside_of : {B : Type 0} → (Site → OwnedNetwork → List B) → ℕ → BlockType → List B
inside_of f b (block.Basic t) = []
inside_of f b (block.Composite t) = f (Inside b) (Some t, t.network)

-- what belongs to all networks, in the order of the declaration
abbrev pub in_networks : {B : Type 0} → (Site → OwnedNetwork → List B) → Library → List B
in_networks f lib = each_at (inside_of f) lib.blocks ++ f Application (None, lib.application.network)
