-- The names that most proofs of this crate cite, passed on from one place. Declares nothing.
pub use Rattle.fb_ecc.specs.declared.state.BasicState.{BasicState}
pub use Rattle.fb_net.specs.Arrivals.{Arrives, ComesTo, HasReacted, IsReady, entering, leaving, sampling}
pub use Rattle.fb_net.specs.Blocks.{components_of, own_of}
pub use Rattle.fb_net.specs.Changes.{Changes, block_in, with_instance}
pub use Rattle.fb_net.specs.Emitting.{carried_by, outputs_at, outputs_shown}
pub use Rattle.fb_net.specs.Events.{Remembered}
pub use Rattle.fb_net.specs.HeldAt.{IsSet, side_index_of}
unfoldable pub use Rattle.fb_net.specs.HeldAt.{held_at}
pub use Rattle.fb_net.specs.Leaves.{EventCame, taken_reaction}
pub use Rattle.fb_net.specs.Opening.{AreGrown, Covers, begun_all}
pub use Rattle.fb_net.specs.Outs.{IsOut, RepresentsOutcome, StillAreOuts, asked, gathered, out_of}
pub use Rattle.fb_net.specs.Samples.{HoldsAll, all_sampled, names_in}
pub use Rattle.fb_net.specs.Steps.{AreKept}
pub use Rattle.fb_net.specs.Trees.{Changed, block_at, own_at, put_at}
pub use Rattle.fb_net.specs.Worlds.{InForest, IsForest, Represents, ShellRepresents, index_in, value_in, way_in}
pub use Rattle.fb_net.specs.declared.block.Block.{Block}
pub use Rattle.fb_net.specs.declared.block.Block.TheOpen.{Block-F}
pub use Rattle.fb_net.specs.declared.outbox.Outbox.{Outbox}
pub use Rattle.fb_net.specs.declared.outbox.Out.{Out}
pub use Rattle.fb_net.specs.declared.held_copies.HeldCopies.{HeldCopies}
pub use Rattle.fb_net.specs.declared.resource.Forest.{Forest}
pub use Rattle.fb_net.specs.declared.shell.Shell.{Shell}
pub use Rattle.fb_st.specs.Frames.{values_of}
pub use Rattle.fb_system.specs.Ends.{LeadsTo}
pub use Rattle.fb_system.specs.IndexLists.{AreIndexes, variable_at}
pub use Rattle.fb_system.specs.Lines.{IsEmission}
pub use Rattle.fb_system.specs.Ports.{IsVariable, variable_of}
pub use Rattle.fb_types.proofs.Common.{All, AreAccepted, Basic, Bool, Bound, Composite, Contains, Emission, Err, Event, Inputs, Kind, List, Name, None, Ok, Option, Outcome, Path, Port, Result, Some, System, Twice, Values, World, [], among, ap, append-nil, append_assoc, arith, carried_of, cases_eq, cond, emission_of, emissions, emitted_all, event_at, event_output, false, fun_ext, get_or, if◌then◌else◌, inl, inputs_with, inr, inside, instance_at, instance_names, kind_of, length, length-append, line_of, map, map-append, memory_of, nat_tests, network_at, none-some, on_ok_weaker, opening_block, option_and_then, option_map, pair_up, path_at, port_of, ports, ports_at, ports_of, ports_of_event_block, position, refl, rules, same_Some, same_name, same_path, sampled_from, slice_get, slice_get-get_or, slice_get-map, slice_get_within, slice_set, spread, subst, suc, sym, system_of, take, take_all, take_more, taking, true, true≢false, unwrap_or, variable_names, with_block, with_value, with_values, zero, ℕ, ◌++◌, ◌+◌, ◌-◌, ◌<◌, ◌==◌, ◌∙◌, ◌∷◌, ◌≡◌, ◌≢◌, ◌≤◌}
pub use Rattle.fb_types.specs.declared.library.BasicType.{BasicType}
pub use Rattle.fb_types.specs.declared.library.BlockType.{BlockType}
pub use Rattle.fb_types.specs.declared.run.Carried.{Carried}
pub use Rattle.fb_types.specs.declared.library.CompositeType.{CompositeType}
pub use Rattle.fb_types.specs.declared.event_kind.EventKind.{EventKind}
pub use Rattle.fb_types.specs.declared.run.Halt.{Halt}
pub use Rattle.fb_types.specs.declared.run.InputValue.{InputValue}
pub use Rattle.fb_types.specs.declared.library.Instance.{Instance}
pub use Rattle.fb_types.specs.declared.run.InstanceVariable.{InstanceVariable}
pub use Rattle.fb_types.specs.declared.key.Key.{Key}
pub use Rattle.fb_types.specs.declared.library.Library.{Library}
pub use Rattle.fb_types.specs.declared.run.Line.{Line}
pub use Rattle.fb_types.specs.declared.library.Network.{Network}
pub use Rattle.fb_types.specs.declared.library.Ports.{Ports}
pub use Rattle.fb_types.specs.declared.run.Target.{Target}
pub use Rattle.fb_types.specs.declared.run.TimerAsk.{TimerAsk}
pub use Rattle.fb_types.specs.declared.value.Value.{Value}
pub use Rattle.fb_types.specs.declared.library.Variable.{Variable}
