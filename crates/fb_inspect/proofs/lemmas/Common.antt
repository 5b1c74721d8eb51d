-- The names that most proofs of this crate cite, passed on from one place. Declares nothing.
pub use Rattle.fb_coverage.specs.Listed.{listed}
pub use Rattle.fb_coverage.specs.declared.marks.ChartMarks.{ChartMarks}
pub use Rattle.fb_coverage.specs.declared.marks.Marks.{Marks}
pub use Rattle.fb_ecc.specs.Indexes.{state_at}
pub use Rattle.fb_ecc.specs.Steps.{first_true}
pub use Rattle.fb_event.specs.Reactions.{FitInputs}
pub use Rattle.fb_inspect.specs.Inspections.{AreTaken, AreTakings, EndsBySteps, EndsSo, IsOneOf, IsOwnLine, KeepSteps, KeepsLimit, NoneStops, NothingAfter, RunsOut, all_lines, last_look, limited, stop_of}
pub use Rattle.fb_inspect.specs.Markings.{PiecesMark, event_number}
pub use Rattle.fb_inspect.specs.Refusals.{ChartFails, EmitsFail, FailsBy, IsUnbegun, IsUnstarted, IsWrongAt, IsWrongFor, IsWrongLine, OfRefusal, Refuses, steps_stop}
pub use Rattle.fb_inspect.specs.Selections.{Selection}
pub use Rattle.fb_inspect.specs.declared.error.InspectError.{InspectError}
pub use Rattle.fb_inspect.specs.declared.refused.finding.Finding.{Finding}
pub use Rattle.fb_inspect.specs.declared.walk.error.Refusal.{Refusal}
pub use Rattle.fb_inspect.specs.declared.walk.error.WalkError.{WalkError}
pub use Rattle.fb_inspect.specs.declared.walk.error.WalkError.TheVariants.{Refused}
pub use Rattle.fb_inspect.specs.declared.walk.Step.{Step}
pub use Rattle.fb_inspect.specs.declared.walk.Step.TheVariants.{Ended}
pub use Rattle.fb_inspect.specs.declared.walk.Walk.{Walk}
pub use Rattle.fb_inspect.specs.declared.walk.ahead.Ahead.{Ahead}
pub use Rattle.fb_inspect.specs.declared.walk.blocks.Chart.{Chart}
pub use Rattle.fb_inspect.specs.declared.walk.blocks.EventBlock.{EventBlock}
pub use Rattle.fb_inspect.specs.declared.walk.blocks.Remembered.{Remembered}
pub use Rattle.fb_inspect.specs.declared.walk.charts.ChartTaking.{ChartTaking}
pub use Rattle.fb_inspect.specs.declared.walk.reading.Next.{Next}
pub use Rattle.fb_inspect.specs.declared.walk.reading.Reading.{Reading}
pub use Rattle.fb_inspect.specs.declared.walk.steps.TickSteps.{TickSteps}
pub use Rattle.fb_inspect.specs.declared.walk.trail.Trail.{Trail}
pub use Rattle.fb_inspect.specs.dump.Dumping.{Shows, ShowsLines}
pub use Rattle.fb_inspect.specs.dump.Heads.{insides_begun, instances_opened, resources_opened}
pub use Rattle.fb_inspect.specs.dump.Inner.{hidden_change, hidden_code}
pub use Rattle.fb_inspect.specs.dump.StateDumps.{Taken, lines_of, takings_of}
pub use Rattle.fb_inspect.specs.dump.Waving.{HasWaved}
pub use Rattle.fb_inspect.specs.walk.Chains.{Acting, Clears_by, Piece, Ran, Showing, ShowsActs, ShowsAfter, ShowsChain, ShowsEmission, ShowsEnters, ShowsLinks, ShowsOr, ShowsPerform, ShowsReaction, Silent, is_loss, rest_pieces, stop_pieces}
pub use Rattle.fb_inspect.specs.walk.Charting.{ChartGoes, StepGoes, place, sys_of}
pub use Rattle.fb_inspect.specs.walk.Counted.{left_of}
pub use Rattle.fb_inspect.specs.walk.Lines.{IsAlone, IsNext, IsNextLine}
pub use Rattle.fb_inspect.specs.walk.Looks.{IsTaking, IsTakingAt, IsTakingWith, Left, Look, Seen, Taking, due_after, emission_line, emissions_by, emits_pieces, left_at, memory_pieces, most, opening_look, pieces_text, reacted, taking_lines, with_left, with_seen}
pub use Rattle.fb_inspect.specs.walk.Moves.{EmitsGo, Goes, IsLineAt, StaysAlone, shown_text}
pub use Rattle.fb_inspect.specs.walk.RunLines.{IsGiven}
pub use Rattle.fb_inspect.specs.walk.Standing.{AreAhead, BeginsText, GoesAfter, IsLeft, StandsWell, Watches}
pub use Rattle.fb_inspect.specs.walk.Timing.{IsBlockKept, taken_reaction}
pub use Rattle.fb_inspect.specs.walk.Walking.{AreCutOff, AreKept, HasCovered, IsCutAfter, IsKept, IsLookOf, IsSevered, MayEnd, Starts, WalkTakes, unread}
pub use Rattle.fb_laws.specs.Typed.{AllFit}
pub use Rattle.fb_st.specs.Frames.{values_of}
pub use Rattle.fb_system.specs.IndexLists.{AreIndexes}
pub use Rattle.fb_system.specs.Lines.{BelongsTo, IsEmission, line_variables}
pub use Rattle.fb_trace.specs.End.{ending_of}
pub use Rattle.fb_trace.specs.declared.last.Outcome.{Outcome}
pub use Rattle.fb_trace.specs.declared.last.Outcome.TheVariants.{Stop}
pub use Rattle.fb_types.proofs.Common.{Acts, All, All-append, All-cons, All-head, All-nil, All-tail, Appends, Appends-nil, Appends-trans, AreAccepted, Arrived, AtHorizon, AtStop, Basic, Bool, Bound, Clears, Composite, Consumes, Consumes-trans, Contains, Contains-append_right, Each, Emission, End, Ending, Err, Event, Expired, Fails, IfErr, IfNone, IfOk, IfSome, Inputs, Kind, List, Name, None, NoneClears, Ok, OnErr, OnOk, Option, Path, Position, Raised, Reacts, Rests, Result, Returned, Some, Stimulated, Stopped, System, Trial, Twice, Values, Vec, Went, [], actions_of, algorithm_names, algorithm_of, among, and_parts, ap, append-nil, append_assoc, append_cancel_left, arith, at_point, basics, both_ways, bound, cases_eq, codes, cond, decimal, drop, emission_of, emissions, emitting, eq-eqb, err_from_is_err_and, event_at, false, false_from_ne_true, false≢true, fits, flat_map, found, get_or, if◌then◌else◌, inl, inputs_with, inr, interfaces, is_event_input, is_true, last_line, leaving, length, length-append, length-map, line_of, line_text, lines_text, list_any, map, map-append, memory_of, min, nat_tests, ne_eqb, networks, not, option_map, outputs_with, pair_up, path_at, path_of, ports_at, ports_of, ports_of_event_block, position, refl, rules, same_Some, same_name, same_path, slice_get, slice_get_within, slice_set, state_of, stimuli_of, subst, suc, sym, system_of, take, take_through, trial_at, true, true≢false, types_of, unwrap_or, variable_names, with_values, zero, ℕ, ◌&&◌, ◌++◌, ◌+◌, ◌-◌, ◌<◌, ◌==◌, ◌^◌, ◌||◌, ◌∙◌, ◌∷◌, ◌≡◌, ◌≤◌, ◌⊎◌}
pub use Rattle.fb_types.specs.declared.library.Action.{Action}
pub use Rattle.fb_types.specs.declared.library.BasicType.{BasicType}
pub use Rattle.fb_types.specs.declared.library.BlockType.{BlockType}
pub use Rattle.fb_types.specs.declared.library.CompositeType.{CompositeType}
pub use Rattle.fb_types.specs.declared.value.Reason.TheVariants.{Divide, Range, Steps}
pub use Rattle.fb_types.specs.declared.event_kind.EventKind.{EventKind}
pub use Rattle.fb_types.specs.declared.library.EventPort.{EventPort}
pub use Rattle.fb_types.specs.declared.run.Form.{Form}
pub use Rattle.fb_types.specs.declared.key.Key.{Key}
pub use Rattle.fb_types.specs.declared.library.Library.{Library}
pub use Rattle.fb_types.specs.declared.run.Line.{Line}
pub use Rattle.fb_types.specs.declared.run.Form.TheVariants.{One, Two}
pub use Rattle.fb_types.specs.declared.library.Ports.{Ports}
pub use Rattle.fb_types.specs.declared.value.Reason.{Reason}
pub use Rattle.fb_types.specs.declared.event_kind.EventKind.TheVariants.{Restart}
pub use Rattle.fb_types.specs.declared.run.StopMark.{StopMark}
pub use Rattle.fb_types.specs.declared.run.TimerAsk.{TimerAsk}
pub use Rattle.fb_types.specs.declared.library.Transition.{Transition}
pub use Rattle.fb_types.specs.declared.value.Value.{Value}
pub use Rattle.fb_types.specs.declared.library.Variable.{Variable}
pub use Rattle.fb_wave.specs.Changes.{line}
pub use Rattle.fb_wave.specs.Copying.{IsFirstLine}
pub use Rattle.fb_wave.specs.CutOff.{is_unended}
pub use Rattle.fb_wave.specs.Dumps.{last_tick}
pub use Rattle.fb_wave.specs.LineSignals.{fires_of, has_signal, touches_of}
pub use Rattle.fb_wave.specs.Lines.{IsEndOf, IsInRange, IsLast, IsLineOf, IsNoLast, IsTextOf}
pub use Rattle.fb_wave.specs.Named.{HasNames}
pub use Rattle.fb_wave.specs.Reading.{fit_each, type_at}
pub use Rattle.fb_wave.specs.Signals.{sizes_of}
pub use Rattle.fb_wave.specs.Waves.{RiseFrom}
pub use Rattle.fb_wave.specs.declared.page.Page.{Page}
pub use Rattle.fb_wave.specs.declared.ports.Port.{Port}
pub use Rattle.fb_wave.specs.declared.table.PortTable.{PortTable}
