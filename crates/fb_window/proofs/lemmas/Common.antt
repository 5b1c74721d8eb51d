-- The names that most proofs of this crate cite, passed on from one place. Declares nothing.
pub use Rattle.fb_agenda.specs.Agendas.{IsNext, waiting}
pub use Rattle.fb_laws.specs.Cuts.{IsCut}
pub use Rattle.fb_laws.specs.Facts.{IsLawful}
pub use Rattle.fb_laws.specs.Finality.{Edge, HasKept, core_of, until}
pub use Rattle.fb_laws.specs.Phases.{Loan, after_loan}
pub use Rattle.fb_laws.specs.Sound.{AreGood, IsSound}
pub use Rattle.fb_laws.specs.Worlds.{IsOpening, World}
pub use Rattle.fb_link.specs.Exchanges.{all_of}
pub use Rattle.fb_resource.specs.Posts.{IsMessage, arriving, receiver_of}
pub use Rattle.fb_resource.specs.Resources.{IsFor, IsOf}
pub use Rattle.fb_resource.specs.declared.resource.Resource.{Resource}
pub use Rattle.fb_resource.specs.declared.resource.WindowDone.{WindowDone}
pub use Rattle.fb_resource.specs.declared.resource.WindowDone.TheVariants.{Ran}
pub use Rattle.fb_system.specs.Lines.{BelongsTo}
pub use Rattle.fb_types.proofs.Common.{All, All-head, All-nil, All-tail, AllZip, Bool, Core, CoreStep, Inputs, IsFloor, IsSchedule, Item, List, Machine, Member, None, Option, Some, System, Vec, [], ap, append-nil, append_assoc, arith, cases_eq, cases_lt, cond, core_after, count_of, drop, eqb-true, exchanged, false, filter, floor_of, found, inl, inr, into_iter_items, into_iter_len, is_some, length, length-set, line_of, machine, map, max, min, nat_lt, opening, opening_core, option_map, refl, set, slice_get, slice_get_read, slice_get_within, slice_index, slice_index_or, slice_set, stimuli_of, subst, suc, sym, system_of, true, zero, ℕ, ⊎_elim, ◌++◌, ◌+◌, ◌<◌, ◌==◌, ◌^◌, ◌∙◌, ◌∷◌, ◌≡◌, ◌≤◌, ◌⊎◌}
pub use Rattle.fb_types.specs.declared.key.Key.{Key}
pub use Rattle.fb_types.specs.declared.run.Line.{Line}
pub use Rattle.fb_types.specs.declared.run.Message.{Message}
pub use Rattle.fb_types.specs.declared.value.Reason.{Reason}
pub use Rattle.fb_types.specs.declared.run.StopMark.{StopMark}
pub use Rattle.fb_window.specs.Frontiers.{AreCut, AreLive, IsFirstStop, edge_of}
pub use Rattle.fb_window.specs.Homes.{AreAwaited, AreHome, IsHomeTo}
pub use Rattle.fb_window.specs.Jobs.{Does, JobModel, job_of, jobs_of, resting_of}
pub use Rattle.fb_window.specs.Leaving.{AreLegal, HasLeft}
pub use Rattle.fb_window.specs.Mails.{AreGiven, ArePosted}
pub use Rattle.fb_window.specs.ManyTurns.{Leads, Single}
pub use Rattle.fb_window.specs.Noting.{AreCurrent}
pub use Rattle.fb_window.specs.Reached.{IsReached, KeepHorizon}
pub use Rattle.fb_window.specs.Settling.{lists_of}
pub use Rattle.fb_window.specs.Standing.{IsAt, Sits}
pub use Rattle.fb_window.specs.declared.cores.AwayState.{AwayState}
pub use Rattle.fb_window.specs.declared.cores.CoreState.{CoreState}
pub use Rattle.fb_window.specs.declared.home.Home.{Home}
