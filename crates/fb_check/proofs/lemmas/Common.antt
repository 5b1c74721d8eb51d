-- The names that most proofs of this crate cite, passed on from one place. Declares nothing.
pub use Rattle.fb_check.specs.Directory.{AreInputs, AreTargets, AreWiths, IsFound, slot_of}
pub use Rattle.fb_check.specs.Refusals.{inputs_in}
pub use Rattle.fb_check.specs.Stimuli.{IsBadAt}
pub use Rattle.fb_check.specs.declared.directory_making.TypeInputs.{TypeInputs}
pub use Rattle.fb_check.specs.declared.location.StimulusLocation.{StimulusLocation}
pub use Rattle.fb_check.specs.declared.types.basics.Naming.{Naming}
pub use Rattle.fb_check.specs.networks.Heights.{HoldsNone, is_marked}
pub use Rattle.fb_check.specs.networks.Links.{no_link_at}
pub use Rattle.fb_check.specs.networks.Mapping.{owners_in}
pub use Rattle.fb_check.specs.networks.OutOfRange.{out_at_index}
pub use Rattle.fb_check.specs.networks.Parameters.{kind_wrong_parameters}
pub use Rattle.fb_check.specs.networks.Sources.{two_sources_in}
pub use Rattle.fb_check.specs.types.Checks.{actions_met, all_met, guard_mentions, is_guard_right, is_met, transition_met, with_inputs, with_outputs}
pub use Rattle.fb_check.specs.types.KindWrongLists.{kind_wrong_guard, kind_wrong_initial, kinds_wrong_in_block, kinds_wrong_in_body, kinds_wrong_in_statement, part_at}
pub use Rattle.fb_check.specs.types.KindsWrong.{IsKindWrongAt}
pub use Rattle.fb_check.specs.types.Mentions.{meant, meant_all}
pub use Rattle.fb_check.specs.types.Present.{each_some, mapped_unless, sides_unless, some_of}
pub use Rattle.fb_check.specs.types.Roles.{Declared}
pub use Rattle.fb_check.specs.types.Scopes.{connection_number, number_in, placed}
pub use Rattle.fb_check.specs.types.Statements.{all_standing, each_in_body, each_in_branches, each_in_choices, standing_of}
pub use Rattle.fb_check.specs.types.Trees.{all_of, arguments_of, branch_of, branches_of, choice_of, choices_of}
pub use Rattle.fb_check.specs.types.Unknown.{IsUnknownAt, Unmet, events_of, is_instance, is_resource, is_side_known, is_type_met, required_action, required_transition, variables_for}
pub use Rattle.fb_check.specs.types.Unknowns.{mention_in, unknown_all, unknown_ends, unknown_in_action, unknown_in_block, unknown_in_body, unknown_in_instance, unknown_in_network, unknown_in_state, unknown_in_transition, unknown_mentions, unknown_parameters, unknown_variables, unknown_withs}
pub use Rattle.fb_check_names.specs.Indexes.{IsIndex, index_in}
pub use Rattle.fb_check_names.specs.Listed.{each_at, each_from, unless}
pub use Rattle.fb_check_names.specs.Numbers.{IsNetwork, IsResolved, each_or_none, end_at, end_number, index_of, kind_of_number, type_number}
pub use Rattle.fb_check_names.specs.PortKinds.{names_of_kind}
pub use Rattle.fb_check_names.specs.Sites.{basic_at, connections_of, inside_of, network_at}
pub use Rattle.fb_check_names.specs.Types.{port_number, ports_of_block}
pub use Rattle.fb_check_names.specs.declared.location.Direction.{Direction}
pub use Rattle.fb_check_names.specs.declared.location.Direction.TheVariants.{Input, Output}
pub use Rattle.fb_check_names.specs.declared.location.FlowKind.{FlowKind}
pub use Rattle.fb_check_names.specs.declared.location.FlowKind.TheVariants.{Data, Events}
pub use Rattle.fb_check_names.specs.declared.location.KindWrongAt.{KindWrongAt}
pub use Rattle.fb_check_names.specs.declared.location.NotMappedAt.{NotMappedAt}
pub use Rattle.fb_check_names.specs.declared.location.NotMappedAt.TheVariants.{Again}
pub use Rattle.fb_check_names.specs.declared.location.OutOfRangeAt.{OutOfRangeAt}
pub use Rattle.fb_check_names.specs.declared.location.Side.{Side}
pub use Rattle.fb_check_names.specs.declared.location.Side.TheVariants.{From, To}
pub use Rattle.fb_check_names.specs.declared.location.Site.{Site}
pub use Rattle.fb_check_names.specs.declared.location.Site.TheVariants.{Application, Inside}
pub use Rattle.fb_check_names.specs.declared.location.UnknownName.{UnknownName}
pub use Rattle.fb_check_names.specs.declared.numbers.ConnectionEnd.{ConnectionEnd}
pub use Rattle.fb_check_names.specs.declared.numbers.NetworkNumbers.{NetworkNumbers}
pub use Rattle.fb_check_names.specs.declared.numbers.Resolved.{Resolved}
pub use Rattle.fb_check_names.specs.declared.numbers.TypeNumber.{TypeNumber}
pub use Rattle.fb_types.proofs.Common.{All, All-append, ArePortsOfKinds, Assign, Bool, Bor, Case, Contains, Contains-append_left, Contains-append_right, Decides, Event, For, If, IfOk-equal, IsTrue, Kind, KindWrong, List, Mention, Name, NameTwice, NameUnknown, None, Option, OwnedNetwork, Port, Repeat, Required, Result, Some, TooHigh, Twice, While, [], algorithm_names, among, and_parts, ap, append-nil, append_assoc, arith, basics, block_type_names, body_of, cond, context_in, data_ins, data_outs, declared_right, drop, event_blocks, event_ins, event_names, expr_of, false, false_from_ne_true, fits, flat_map, get_or, inl, inr, instance_names, interfaces, is_condition, is_known, is_some, kind_of, kind_of_instance, length, list_all, list_all-append, list_any, map, map-append, mentions, mentions_body, named, nat_eq, nat_tests, networks, networks_in, not, option_and_then, option_copied, option_map, parameter_lists, port_in, port_names, ports_of, ports_of_event_block, position, refl, required_chart, required_parameters, required_withs, resource_names_of, rules, same_Some, same_name, same_port, slice_get, slice_get-map, slice_get_past, slice_get_read, state_names, stmt_of, subst, suc, sym, take, take_all, true, true≢false, type_name, type_named, unwrap_or, variable_names, with_lists, zero, ℕ, ◌&&◌, ◌++◌, ◌+◌, ◌<◌, ◌||◌, ◌↔◌, ◌∙◌, ◌∷◌, ◌≡◌, ◌≢◌, ◌≤◌, ◌⊎◌}
pub use Rattle.fb_types.specs.declared.library.Action.{Action}
pub use Rattle.fb_types.specs.declared.library.Algorithm.{Algorithm}
pub use Rattle.fb_types.specs.declared.library.BasicType.{BasicType}
pub use Rattle.fb_types.specs.declared.library.BlockType.{BlockType}
pub use Rattle.fb_types.specs.declared.text.Branch.{Branch}
pub use Rattle.fb_types.specs.declared.text.Choice.{Choice}
pub use Rattle.fb_types.specs.declared.library.CompositeType.{CompositeType}
pub use Rattle.fb_types.specs.declared.library.Connection.{Connection}
pub use Rattle.fb_types.specs.declared.event_kind.EventKind.{EventKind}
pub use Rattle.fb_types.specs.declared.library.EventPort.{EventPort}
pub use Rattle.fb_types.specs.declared.text.Expr.{Expr}
pub use Rattle.fb_types.specs.declared.run.InputValue.{InputValue}
pub use Rattle.fb_types.specs.declared.library.Instance.{Instance}
pub use Rattle.fb_types.specs.declared.library.Library.{Library}
pub use Rattle.fb_types.specs.declared.deploy.Link.{Link}
pub use Rattle.fb_types.specs.declared.library.Parameter.{Parameter}
pub use Rattle.fb_types.specs.declared.deploy.Plan.{Plan}
pub use Rattle.fb_types.specs.declared.library.PortName.{PortName}
pub use Rattle.fb_types.specs.declared.library.Ports.{Ports}
pub use Rattle.fb_types.specs.declared.deploy.ResourceEntry.{ResourceEntry}
pub use Rattle.fb_types.specs.declared.deploy.Setting.{Setting}
pub use Rattle.fb_types.specs.declared.deploy.Stimulus.{Stimulus}
pub use Rattle.fb_types.specs.declared.library.Transition.{Transition}
pub use Rattle.fb_types.specs.declared.value.Ty.{Ty}
pub use Rattle.fb_types.specs.declared.library.Variable.{Variable}
pub use Rattle.fb_types.specs.Kinds.{value_kind_of, value_kind_of_type}
pub use Rattle.fb_types.specs.declared.library.State.{State}
pub use Rattle.fb_types.specs.declared.text.Stmt.{Stmt}
