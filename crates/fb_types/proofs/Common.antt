-- The names that most proofs cite, passed on from one place. Declares nothing.
pub use Rattle.std.proofs.Common.{All, Bool, Bor, Contains, Err, IfErr, IfNone, IfOk, IfSome, IsPermutation, IsTrue, List, MatchOption, None, Ok, OnErr, OnOk, Option, Result, Some, String, [], add-one, ap, append-nil, append_assoc, ap₂, arith, below_more, codes, cond, count_by, decimal, deque_len, drop, eq-eqb, eqb, false, get_or, get_or-set_other, get_or-set_same, if◌then◌else◌, inl, inr, is_ok, is_some, leb, length, length-append, length-drop, length-set, length-take, ltb, map, max, min, nat_eq, nat_le, nat_lt, ne_eqb, neg_ℤ, negsuc, not, option_map, pos, refl, replicate, rules, set, slice_get, slice_index, slice_index_or, slice_set, string_bytes, subst, suc, sum_by, sym, take, take-append-drop, to_z-of_z, true, true≢false, unsigned_abs, unwrap_or, vec_capacity, vec_len, zero, ℕ, ℤ, ⊎_elim, ◌%◌, ◌&&◌, ◌*◌, ◌++◌, ◌+ℤ◌, ◌+◌, ◌-◌, ◌/◌, ◌<◌, ◌==◌, ◌^◌, ◌||◌, ◌↔◌, ◌∙◌, ◌∷◌, ◌≡◌, ◌≢◌, ◌≤◌, ◌⊎◌}
pub use Rattle.std.proofs.KnownBytes.{Appends-nil, Appends-trans, Consumes-trans}
pub use Rattle.std.proofs.Math.Path.{fun_ext}
pub use Rattle.std.proofs.Math.Seq.{drop-cons, take-append_seam}
pub use Rattle.std.proofs.lemmas.Bool.{and_from, and_parts, and_right, both_ways, cases_Bool, cases_eq, cases_lt, cond-false, cond-true, eqb-false, eqb-true, false_from_ne_true, false≢true, le-leb, le-ltb, leb-false, leb-true, lt-leb, lt-ltb, ltb-false, ltb-true, not-true, not_from_false, or_cases, or_from, or_left, or_parts, or_right}
pub use Rattle.std.proofs.lemmas.Bool.Decides.{Decides-eqb, nat_tests}
pub use Rattle.std.proofs.lemmas.Cmp.{tied_itself}
pub use Rattle.std.proofs.lemmas.Fmt.{decimal_digit}
pub use Rattle.std.proofs.lemmas.Grind.{common_steps, flat_map-append, take_at_read}
pub use Rattle.std.proofs.lemmas.Int.{ints}
pub use Rattle.std.proofs.lemmas.List.{append_cancel_left, at_drop_all, at_drop_more, drop_all, drop_more, get_or-drop, get_or-map, get_or-take, get_or_append_left, get_or_default, get_or_past, length-map, length-take-le, length_push, map-append, map_push, nil_from_length, take-append-le, take-take, take_all, take_at, take_more}
pub use Rattle.std.proofs.lemmas.List.Elements.{All-append, All-cons, All-contains, All-head, All-map, All-nil, All-push, All-tail, All-weaker, Contains-append_cases, Contains-append_left, Contains-append_right, Contains-get_or, Contains-push, Contains-push_cases}
pub use Rattle.std.proofs.lemmas.List.Folds.{list_all-append, list_any-append}
pub use Rattle.std.proofs.lemmas.List.Sorted.{All-permutation, answers_always}
pub use Rattle.std.proofs.lemmas.List.Sums.{sum_by-cons}
pub use Rattle.std.proofs.lemmas.Option.{get_or_from_slice_get, none-some, same_Some, slice_get-get_or, slice_get-map, slice_get_past, slice_get_read, slice_get_within, unwrap_or-slice_get}
pub use Rattle.std.proofs.lemmas.Result.{IfOk-equal, IfOk-weaker, err_from_is_err_and, on_ok_weaker}
pub use Rattle.std.proofs.lemmas.Slice.Eq.{bytes_eq-Decides, slice_eq-Decides}
pub use Rattle.std.specs.BTreeMap.{BTreeMap, insert_entry}
pub use Rattle.std.specs.Bool.{Decides, OnFalse, OnTrue}
pub use Rattle.std.specs.Char.{is_ascii_digit}
unfoldable pub use Rattle.std.specs.Fmt.{digits}
pub use Rattle.std.specs.Global.{Vec}
pub use Rattle.std.specs.Io.BufRead.{take_through}
pub use Rattle.std.specs.Io.KnownBytes.{Appends, Consumes, IsAtEnd}
pub use Rattle.std.specs.List.{AllZip, filter, find, fold, list_all, list_any, position_or_len, slice_split}
pub use Rattle.std.specs.Map.{lookup}
pub use Rattle.std.specs.Option.{option_copied}
pub use Rattle.std.specs.Ordering.{is_eq, is_lt, nat_cmp, ordering_then}
pub use Rattle.std.specs.Prelude.{IsSome, flat_map, int_le, int_lt, option_and_then, position, ◌-ℤ◌}
pub use Rattle.std.specs.Result.{IsErrAnd}
pub use Rattle.std.specs.Str.{bytes_eq}
pub use Rattle.std.specs.Vec.Iter.{into_iter_items, into_iter_len}
pub use Rattle.std.specs.declared.alloc.Global.{Global}
pub use Rattle.std.specs.declared.cmp.Ordering.{Ordering}
pub use Rattle.std.specs.declared.cmp.Ordering.TheVariants.{Equal, Greater, Less}
pub use Rattle.fb_types.specs.Accepted.{BadStimulus, IsGood}
pub use Rattle.fb_types.specs.Blocks.{Basic, Bound, Composite, Emission, Event, Kind, among, bound, event_block_named, event_blocks, event_names, initial_of, inputs_with, is_event_input, named, outputs_with, ports, ports_of, ports_of_event_block, type_at, types_of, variable_names, variables_of, variables_with}
pub use Rattle.fb_types.specs.Bodies.{Advances, After, Assigns, Either, End, Ends, Left, Loop, Point, Returned, Running, Runs, RunsAll, RunsBody, RunsBranch, RunsChoice, Step, Stopped, Then, TurnThen, Went, ended, label_fits, passed}
pub use Rattle.fb_types.specs.Charts.{Acts, AfterBody, ChartReacts, Clears, Enters, Fails, Halts, Links, Moving, NoneClears, Performs, Position, Rests, Trial, actions_of, algorithm_of, at_point, by_condition, emitting, is_true, leaving, trial_at, trial_of}
pub use Rattle.fb_types.specs.Cores.{Core, CoreStep, Exchange, Give, IsFloor, IsLegal, Lend, Member, clock_after, done, exchanged, floor, floor_of, opening_core, returned}
pub use Rattle.fb_types.specs.Counts.{IsNarrow}
pub use Rattle.fb_types.specs.EventBlocks.{Count, Flag, Idle, Marks, Memory, Reaction, counted, expiry, is, reaction, started}
pub use Rattle.fb_types.specs.EventPorts.{ArePortsOfKinds, kind_index}
pub use Rattle.fb_types.specs.Flat.{data_inside, events_inside, first_of, holder, inside, instance_at, instance_in, kind_at, kind_of, kind_of_instance, last_of, latency_at, network_at, network_of, pairs_in, parent, paths_inside, paths_of, port_in, resource_names_of, resource_of, source_of, targets_of, type_name, type_named, variables_in, zero_value}
pub use Rattle.fb_types.specs.Headline.{AreAccepted, Inputs, IsTrace, inputs, stimuli_of, system_of}
pub use Rattle.fb_types.specs.Joined.{OutOfRange, TooHigh}
pub use Rattle.fb_types.specs.Keys.{NoneBelow, Precedes, changed_to, found, key_cmp, local_key, message_key, or_else, same_key, stimulus_key, timer_key, without}
pub use Rattle.fb_types.specs.Kinds.{KindWrong, context_in, declared_right, is_condition}
pub use Rattle.fb_types.specs.Limits.{IsWithinLimits}
pub use Rattle.fb_types.specs.Machines.{Each, Item, Local, Machine, Run, TakesAlone, at, cut, end, sent_by, waiting}
pub use Rattle.fb_types.specs.Mapped.{NoLink}
pub use Rattle.fb_types.specs.Merges.{IsMerge, lines_at, lines_before}
pub use Rattle.fb_types.specs.Names.{Name, Path, Port, same_name, same_path, same_port, with_value}
pub use Rattle.fb_types.specs.Numbers.{carried_of, emission_of, event_at, event_output, line_of, pair_up, path_at, port_of, ports_at}
pub use Rattle.fb_types.specs.Parts.{IsAtResource, count_of, items_of, machine, part_of}
pub use Rattle.fb_types.specs.Reactions.{Out, Outcome, Reacts, ReactsAt, Sends, World, answered, carried_from, charted, crossing_in, crossing_out, emissions, emitted, emitted_all, expires, from_inside, hold_all, memory_of, remembered, sampled, sampled_from, settled, shown, silent, spread, start_of, state_of, taking, with_block, with_slots, with_values}
pub use Rattle.fb_types.specs.Repeated.{NameTwice, OwnedNetwork, Twice, algorithm_names, basics, basics_in, block_type_names, event_pairs, instance_names, interfaces, internals_of, link_pairs, name_spaces, networks, networks_in, parameter_lists, port_names, state_names, with_lists}
pub use Rattle.fb_types.specs.Schedules.{IsAtHorizon, IsLeastStop, IsSchedule, core_after, taken_after}
pub use Rattle.fb_types.specs.Simulation.{AtHorizon, AtStop, Chain, Ending, IsSimulation, NothingAfter, RestsAt, Taken, TakesLeast, after, ending_by, ending_of, last, lines_of, opening, opening_block, opening_events, opening_state, restart_of, stimuli_from, stimulus_of}
pub use Rattle.fb_types.specs.States.{Agenda, Arrived, Block, Config, Expired, InState, Meter, Raised, State, Stimulated, path_of}
pub use Rattle.fb_types.specs.Syntax.{Assign, Binary, Branches, Case, Choices, Empty, Exit, For, If, Repeat, Return, Stmt, Stmts, While, body_of, expr_of, exprs, no_branch, no_choice, no_stmt, step_of, stmt_of, then_branches, then_choices, then_stmts}
pub use Rattle.fb_types.specs.Systems.{System}
pub use Rattle.fb_types.specs.Takes.{Effect, Posts, TakesWith, agenda_after, begun, effect_of, is_timer_of, out_of_steps, post, post_all, posts_of, put_of, timer_change, with_at, world_of}
unfoldable pub use Rattle.fb_types.specs.Takes.{Takes}
pub use Rattle.fb_types.specs.Text.{last_line, line_text, lines_text, path_text, reason_text, tick_and_resource_text, trace_text, value_text, values_text}
pub use Rattle.fb_types.specs.Unknown.{Mention, NameUnknown, Required, all_of, data_ins, data_outs, ends_known, event_ins, event_outs, is_end, is_known, mentioned, mentions, mentions_body, required, required_chart, required_deployment, required_parameters, required_types, required_withs}
pub use Rattle.fb_types.specs.Values.{Types, Values, and_then, binary_value, fits, function_named, truth, truth_of, unary_value, value_if_known, value_of, values_of, whole}
pub use Rattle.fb_types.specs.declared.deploy.Link.{Link}
pub use Rattle.fb_types.specs.declared.deploy.Plan.{Plan}
pub use Rattle.fb_types.specs.declared.deploy.ResourceEntry.{ResourceEntry}
pub use Rattle.fb_types.specs.declared.deploy.Setting.{Setting}
pub use Rattle.fb_types.specs.declared.deploy.Stimulus.{Stimulus}
pub use Rattle.fb_types.specs.declared.event_kind.EventKind.{EventKind}
pub use Rattle.fb_types.specs.declared.event_kind.EventKind.TheVariants.{CountUp, Cycle, DataLatch, Delay, FallingEdge, Merge, Permit, Rendezvous, Restart, RisingEdge, Select, SetReset, Split, Switch}
pub use Rattle.fb_types.specs.declared.function.Function.{Function}
pub use Rattle.fb_types.specs.declared.key.Key.{Key}
pub use Rattle.fb_types.specs.declared.latency.Entry.{Entry}
pub use Rattle.fb_types.specs.declared.library.Action.{Action}
pub use Rattle.fb_types.specs.declared.library.Algorithm.{Algorithm}
pub use Rattle.fb_types.specs.declared.library.BasicType.{BasicType}
pub use Rattle.fb_types.specs.declared.library.BlockType.{BlockType}
pub use Rattle.fb_types.specs.declared.library.CompositeType.{CompositeType}
pub use Rattle.fb_types.specs.declared.library.Connection.{Connection}
pub use Rattle.fb_types.specs.declared.library.EventPort.{EventPort}
pub use Rattle.fb_types.specs.declared.library.Instance.{Instance}
pub use Rattle.fb_types.specs.declared.library.Library.{Library}
pub use Rattle.fb_types.specs.declared.library.Network.{Network}
pub use Rattle.fb_types.specs.declared.library.Parameter.{Parameter}
pub use Rattle.fb_types.specs.declared.library.PortName.{PortName}
pub use Rattle.fb_types.specs.declared.library.Ports.{Ports}
pub use Rattle.fb_types.specs.declared.library.Transition.{Transition}
pub use Rattle.fb_types.specs.declared.library.Variable.{Variable}
pub use Rattle.fb_types.specs.declared.run.Carried.{Carried}
pub use Rattle.fb_types.specs.declared.run.Event.TheVariants.{Arrival, Given, Timer}
pub use Rattle.fb_types.specs.declared.run.Form.{Form}
pub use Rattle.fb_types.specs.declared.run.Form.TheVariants.{One, Two}
pub use Rattle.fb_types.specs.declared.run.Halt.{Halt}
pub use Rattle.fb_types.specs.declared.run.InputValue.{InputValue}
pub use Rattle.fb_types.specs.declared.run.InstanceVariable.{InstanceVariable}
pub use Rattle.fb_types.specs.declared.run.Line.{Line}
pub use Rattle.fb_types.specs.declared.run.Message.{Message}
pub use Rattle.fb_types.specs.declared.run.StopMark.{StopMark}
pub use Rattle.fb_types.specs.declared.run.Target.{Target}
pub use Rattle.fb_types.specs.declared.run.TimerAsk.{TimerAsk}
pub use Rattle.fb_types.specs.declared.run.TimerAsk.TheVariants.{At, Clear, Keep}
pub use Rattle.fb_types.specs.declared.text.BinaryOperator.{BinaryOperator}
pub use Rattle.fb_types.specs.declared.text.Branch.{Branch, out-Branch}
pub use Rattle.fb_types.specs.declared.text.Choice.{Choice, out-Choice}
pub use Rattle.fb_types.specs.declared.text.Expr.{Expr}
pub use Rattle.fb_types.specs.declared.text.Label.{Label}
pub use Rattle.fb_types.specs.declared.text.Stmt.TheOpen.{Stmt-F}
pub use Rattle.fb_types.specs.declared.text.UnaryOperator.{UnaryOperator}
pub use Rattle.fb_types.specs.declared.value.Reason.{Reason}
pub use Rattle.fb_types.specs.declared.value.Reason.TheVariants.{Divide, Range, Steps}
pub use Rattle.fb_types.specs.declared.value.Ty.{Ty}
pub use Rattle.fb_types.specs.declared.value.Value.{Value}
