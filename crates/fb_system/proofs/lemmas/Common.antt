-- The names that most proofs of this crate cite, passed on from one place. Declares nothing.
pub use Rattle.fb_check_names.specs.Numbers.{IsResolved, each_or_none, index_of, kind_of_number, parameter_numbers, type_number}
pub use Rattle.fb_check_names.specs.declared.numbers.ConnectionEnd.{ConnectionEnd}
pub use Rattle.fb_check_names.specs.declared.numbers.NetworkNumbers.{NetworkNumbers}
pub use Rattle.fb_check_names.specs.declared.numbers.Resolved.{Resolved}
pub use Rattle.fb_check_names.specs.declared.numbers.TypeNumber.{TypeNumber}
pub use Rattle.fb_system.specs.Begins.{parameter_names}
pub use Rattle.fb_system.specs.Ends.{IsSourceRowAt}
pub use Rattle.fb_system.specs.Heads.{IsRowAt}
pub use Rattle.fb_system.specs.IndexLists.{AreIndexes, AreWithIndexes}
pub use Rattle.fb_system.specs.Layers.{network_inside}
unfoldable pub use Rattle.fb_system.specs.Layers.{layer}
pub use Rattle.fb_system.specs.Layouts.{AreComponents, AreNumbers, IsRow, index_at, path_of, route_to}
pub use Rattle.fb_system.specs.Linking.{IsLinked}
pub use Rattle.fb_system.specs.Netlists.{port_of, variable_of}
pub use Rattle.fb_system.specs.Networks.{AreNarrow, IsEndOf, IsThere, IsWired, side}
pub use Rattle.fb_system.specs.PortRows.{IsPortRowAt}
pub use Rattle.fb_system.specs.RowRanges.{AreInRanges, HasRows, Keeps}
pub use Rattle.fb_system.specs.Systems.{AreTables, inputs_of}
pub use Rattle.fb_system.specs.Wirings.{same_end}
pub use Rattle.fb_system.specs.declared.layout.InstanceRow.{InstanceRow}
pub use Rattle.fb_system.specs.declared.layout.Layout.{Layout}
pub use Rattle.fb_system.specs.declared.netlist_target.NetlistTarget.{NetlistTarget}
pub use Rattle.fb_system.specs.declared.row_ranges.RowRanges.{RowRanges}
pub use Rattle.fb_system.specs.declared.whole.Whole.{Whole}
pub use Rattle.fb_system.specs.declared.with_indexes.WithIndexes.{WithIndexes}
pub use Rattle.fb_types.proofs.Common.{Basic, Bool, Bor, Composite, Contains, Contains-append_left, Contains-append_right, Event, IfSome, Inputs, IsTrue, Kind, List, Name, NameTwice, NameUnknown, None, Option, OwnedNetwork, Path, Port, Some, Twice, [], among, ap, append-nil, append_assoc, arith, cond, data_ins, data_outs, event_ins, event_names, event_outs, false, false_from_ne_true, filter, flat_map, get_or, initial_of, inl, inr, inside, instance_at, instance_in, instance_names, kind_at, kind_of, kind_of_instance, last_of, length, length-append, length-map, list_any, map, map-append, named, network_at, network_of, networks, networks_in, option_and_then, option_copied, option_map, parent, path_at, paths_of, ports, ports_at, ports_of, ports_of_event_block, position, refl, same_Some, same_name, slice_get, slice_get-get_or, slice_get-map, slice_get_read, slice_get_within, source_of, subst, suc, sym, system_of, take, targets_of, true, type_named, unwrap_or, variable_names, zero, ℕ, ◌++◌, ◌+◌, ◌-◌, ◌<◌, ◌↔◌, ◌∙◌, ◌∷◌, ◌≡◌, ◌≤◌, ◌⊎◌}
pub use Rattle.fb_types.specs.declared.library.BlockType.{BlockType}
pub use Rattle.fb_types.specs.declared.library.CompositeType.{CompositeType}
pub use Rattle.fb_types.specs.declared.event_kind.EventKind.{EventKind}
pub use Rattle.fb_types.specs.declared.library.EventPort.{EventPort}
pub use Rattle.fb_types.specs.declared.library.Instance.{Instance}
pub use Rattle.fb_types.specs.declared.run.InstanceVariable.{InstanceVariable}
pub use Rattle.fb_types.specs.declared.library.Library.{Library}
pub use Rattle.fb_types.specs.declared.library.Network.{Network}
pub use Rattle.fb_types.specs.declared.deploy.Plan.{Plan}
pub use Rattle.fb_types.specs.declared.library.Ports.{Ports}
pub use Rattle.fb_types.specs.declared.run.Target.{Target}
pub use Rattle.fb_types.specs.declared.library.Variable.{Variable}
