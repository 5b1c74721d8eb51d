-- The names that most proofs of this crate cite, passed on from one place. Declares nothing.
pub use Rattle.fb_laws.specs.Finality.{core_of}
pub use Rattle.fb_laws.specs.Sound.{AreGood}
pub use Rattle.fb_resource.specs.declared.resource.Resource.{Resource}
pub use Rattle.fb_resource.specs.declared.resource.WindowDone.{WindowDone}
pub use Rattle.fb_sim.specs.JoinedTexts.{IsRest}
pub use Rattle.fb_sim.specs.MergedText.{IsMergedText, all_bytes}
pub use Rattle.fb_sim.specs.Reports.{Came, Comes, GoesOn, hundredth, view_at}
pub use Rattle.fb_sim.specs.Rounds.{AreAll, Begin, FailsRun, HasCome, RunsOn, WritesPartOf, after_bytes, text_of}
pub use Rattle.fb_sim.specs.Views.{SimulationView}
pub use Rattle.fb_sim.specs.declared.options.Options.{Options}
pub use Rattle.fb_sim.specs.declared.outcome.RunError.{RunError}
pub use Rattle.fb_sim.specs.declared.outcome.RunError.TheVariants.{BadOption, Failed, Memory, Refused, Write}
pub use Rattle.fb_sim.specs.declared.progress.Round.TheVariants.{Ended, Going, Stopped}
pub use Rattle.fb_sim.specs.declared.rounds.all_rounds.Finish.TheVariants.{AtEnd, AtMark}
pub use Rattle.fb_sim.specs.declared.rounds.tally.Written.{Written}
pub use Rattle.fb_system.specs.Lines.{BelongsTo}
pub use Rattle.fb_trace.specs.Fronts.{IsLeast, all_early, all_late, early, joint, late}
pub use Rattle.fb_trace.specs.Marks.{IsMarkedText}
pub use Rattle.fb_trace.specs.Merging.{Lists, Rises, flat, tick_of}
pub use Rattle.fb_trace.specs.Progress.{IsPartWritten, bounded}
pub use Rattle.fb_trace.specs.declared.last.Outcome.{Outcome}
pub use Rattle.fb_trace.specs.declared.last.Outcome.TheVariants.{End, Stop}
pub use Rattle.fb_types.proofs.Common.{All, AllZip, Appends, Appends-nil, Appends-trans, AtHorizon, AtStop, Bool, Bor, CoreStep, Each, Ending, Err, IfOk, IfSome, Inputs, IsAtHorizon, IsErrAnd, IsPermutation, IsSchedule, List, Machine, None, Ok, Option, Result, Some, Vec, [], ap, append-nil, append_assoc, ap₂, arith, cases_lt, cond-false, count_of, drop, false, get_or, inl, inr, into_iter_items, last_line, le-ltb, length, length-append, length-map, line_of, lines_text, lt-ltb, machine, map, map_push, nat_lt, opening, opening_core, refl, rules, stimuli_of, subst, suc, sym, system_of, take, take-append-drop, take_all, take_more, true, vec_capacity, vec_len, zero, ℕ, ⊎_elim, ◌++◌, ◌+◌, ◌-◌, ◌<◌, ◌^◌, ◌∙◌, ◌∷◌, ◌≡◌, ◌≤◌}
pub use Rattle.fb_types.specs.declared.run.Form.{Form}
pub use Rattle.fb_types.specs.declared.run.Line.{Line}
pub use Rattle.fb_types.specs.declared.value.Reason.{Reason}
pub use Rattle.fb_types.specs.declared.run.StopMark.{StopMark}
pub use Rattle.fb_window.specs.Jobs.{Does, JobModel, jobs_of}
pub use Rattle.fb_window.specs.Leaving.{AreLegal}
pub use Rattle.fb_window.specs.Reached.{KeepHorizon}
pub use Rattle.fb_window.specs.Reaching.{OfEachCore}
pub use Rattle.fb_window.specs.Settling.{IsMerged, lists_of}
pub use Rattle.fb_window.specs.Standing.{IsAt}
pub use Rattle.fb_window.specs.declared.cores.CoreState.{CoreState}
