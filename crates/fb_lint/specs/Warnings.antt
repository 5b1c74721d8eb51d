-- All warnings about a declaration, a deployment and stimuli.
use Rattle.std.specs.Prelude.{ℕ, List, [], ◌++◌}
use Rattle.fb_types.specs.Blocks.{ports_of}
use Rattle.fb_types.specs.Names.{Name}
use Rattle.fb_types.specs.Flat.{kind_of, type_name}
use Rattle.fb_types.specs.declared.deploy.Plan.{Plan}
use Rattle.fb_types.specs.declared.deploy.Stimulus.{Stimulus}
use Rattle.fb_types.specs.declared.library.BasicType.{BasicType}
use Rattle.fb_types.specs.declared.library.BlockType.{BlockType}
use Rattle.fb_types.specs.declared.library.BlockType.TheVariants as block
use Rattle.fb_types.specs.declared.library.CompositeType.{CompositeType}
use Rattle.fb_types.specs.declared.library.Library.{Library}
use Rattle.fb_types.specs.declared.library.Network.{Network}
use Rattle.fb_check_names.specs.declared.ports.PortKind.TheVariants as kind
use Rattle.fb_lint.specs.Charts.{final_states, shadowed_transitions, unused_algorithms, silent_outputs}
use Rattle.fb_lint.specs.Circles.{endless_states}
use Rattle.fb_lint.specs.Constants.{of_constants}
use Rattle.fb_lint.specs.Events.{unnamed_events}
use Rattle.fb_lint.specs.Findings.{each_from}
use Rattle.fb_lint.specs.Instances.{unreached_in_network, silent_sources, early_stimuli}
use Rattle.fb_lint.specs.Interfaces.{unsampled_inputs, unjoined_ports}
use Rattle.fb_lint.specs.Networks.{unfed_in_network, unused_type, unused_links}
use Rattle.fb_lint.specs.Outputs.{unsent_outputs}
use Rattle.fb_lint.specs.Reached.{unreached_states}
use Rattle.fb_lint.specs.Reads.{unsampled_in_guards, unsampled_in_algorithms, mentions_of, unmentioned_variables, assigned, unassigned_events}
use Rattle.fb_lint.specs.Statements.{repeated_labels, unread_internals}
use Rattle.fb_check_names.specs.declared.location.Site.{Site}
use Rattle.fb_check_names.specs.declared.location.Site.TheVariants.{Application, Inside}
use Rattle.fb_lint.specs.declared.warning.Warning.{Warning}

-- L03 and L04: what is read and not sampled
abbrev pub readings : Library → (of : Name) → (block : ℕ) → BasicType → List Warning
readings lib n b t =
    unsampled_in_guards lib n b t.ports.event_inputs t.ports.inputs t.transitions
    ++ unsampled_in_algorithms lib n (record { states = t.states; transitions = t.transitions; events = t.ports.event_inputs }) b t.ports.inputs t.algorithms

-- L05 to L09 and L19: the chart
abbrev pub of_states : (block : ℕ) → BasicType → List Warning
of_states b t =
    unreached_states b t.transitions t.states ++ final_states b t.transitions t.states ++ shadowed_transitions b t.transitions
    ++ unnamed_events b t t.ports.event_inputs ++ unused_algorithms b t.states t.algorithms

abbrev pub of_chart : (block : ℕ) → BasicType → List Warning
of_chart b t = of_states b t ++ endless_states b t.transitions t.states

-- L11 and L12: ports
abbrev pub of_ports : (block : ℕ) → BasicType → List Warning
of_ports b t =
    silent_outputs b t.states t.ports.event_outputs
    ++ unmentioned_variables b kind.Input (mentions_of t.algorithms t.transitions) t.ports.inputs
    ++ unmentioned_variables b kind.Output (mentions_of t.algorithms t.transitions) t.ports.outputs
    ++ unassigned_events b (assigned t.algorithms) t.ports.event_outputs

-- L02, L15, L16 and L20: instances and connections
abbrev pub of_network : Library → Site → Network → List Stimulus → List Warning
of_network lib at net ss =
    unfed_in_network lib at net.data_connections ss net.instances
    ++ unreached_in_network lib at net.event_connections ss net.instances
    ++ silent_sources at net.instances net.event_connections

abbrev pub of_composite : Library → (block : ℕ) → CompositeType → List Warning
of_composite lib b t = of_network lib (Inside b) t.network [] ++ unjoined_ports b t

-- L17, L18, L21 and L22: statements, guards and internal variables
abbrev pub of_statements : (block : ℕ) → BasicType → List Warning
of_statements b t = of_constants b t ++ repeated_labels b t.algorithms ++ unread_internals b t

abbrev pub of_basic : Library → (of : Name) → (block : ℕ) → BasicType → List Warning
of_basic lib n b t = readings lib n b t ++ of_chart b t ++ of_ports b t ++ of_statements b t

abbrev pub of_type : Library → (block : ℕ) → BlockType → List Warning
of_type lib b (block.Basic t) = of_basic lib t.name b t
of_type lib b (block.Composite t) = of_composite lib b t

-- L10, L01 and L14
abbrev pub of_interface : Library → (of : Name) → (block : ℕ) → BlockType → List Warning
of_interface lib n b t =
    unused_type lib n b ++ unsampled_inputs lib n b (ports_of (kind_of t)).event_inputs (ports_of (kind_of t)).inputs
    ++ unsent_outputs lib n b t (ports_of (kind_of t)).outputs

-- these, and what is inside
abbrev pub of_block : Library → (block : ℕ) → BlockType → List Warning
of_block lib b t = of_interface lib (type_name t) b t ++ of_type lib b t

abbrev pub of_blocks : Library → List BlockType → List Warning
of_blocks lib ts = each_from (of_block lib) 0 ts

-- The warnings, block type by block type, then of the application and of the links.
abbrev pub warnings : Library → Plan → List Stimulus → List Warning
warnings lib plan ss =
    of_blocks lib lib.blocks
    ++ of_network lib Application lib.application.network ss
    ++ early_stimuli lib.application.network.instances lib.application.network.event_connections ss
    ++ unused_links plan.resources lib.application.network.event_connections lib.application.network.data_connections plan.links
