-- The names that most proofs of this crate cite, passed on from one place. Declares nothing.
pub use Rattle.fb_laws.specs.Facts.{IsLawful, IsTaking}
pub use Rattle.fb_laws.specs.Phases.{IsLegalLoan, Loan, after_loan}
pub use Rattle.fb_laws.specs.Sound.{IsSound}
pub use Rattle.fb_laws.specs.Worlds.{IsCounted, IsOpening, Simulates, Simulation, StopsAt, TakesLeast, World, last, next, reach, taken_at, view}
pub use Rattle.fb_types.proofs.Common.{All, All-cons, All-head, All-nil, All-tail, Arrived, Basic, Bool, Composite, Config, Core, CoreStep, Each, Effect, Exchange, Expired, Give, IsAtResource, IsFloor, IsLeastStop, IsMerge, IsSchedule, IsSimulation, Item, Kind, Lend, List, Local, Machine, Member, Meter, None, Option, Out, Outcome, Path, Port, Posts, Precedes, Raised, Run, Sends, Some, State, System, Taken, TakesAlone, TakesWith, [], ap, arith, at, begun, cases_Bool, cases_eq, cases_lt, changed_to, clock_after, cond, cond-false, cond-true, core_after, count_of, cut, done, effect_of, end, eq-eqb, eqb-true, exchanged, false, flat_map, floor, floor_of, found, if◌then◌else◌, inl, inr, is_timer_of, items_of, le-ltb, length, lines_at, lines_before, lt-ltb, machine, max, memory_of, nat_lt, ne_eqb, opening, or_else, out_of_steps, path_of, post, post_all, posts_of, put_of, refl, returned, same_Some, same_key, same_path, sent_by, stimuli_from, subst, suc, sym, taken_after, timer_change, timer_key, true, waiting, with_at, without, world_of, zero, ℕ, ⊎_elim, ◌++◌, ◌+◌, ◌<◌, ◌==◌, ◌∙◌, ◌∷◌, ◌≡◌, ◌≤◌, ◌⊎◌}
pub use Rattle.fb_types.specs.declared.run.TimerAsk.TheVariants.{At, Clear, Keep}
pub use Rattle.fb_types.specs.declared.event_kind.EventKind.{EventKind}
pub use Rattle.fb_types.specs.declared.key.Key.{Key}
pub use Rattle.fb_types.specs.declared.value.Reason.{Reason}
pub use Rattle.fb_types.specs.declared.event_kind.EventKind.TheVariants.{Restart}
pub use Rattle.fb_types.specs.declared.run.TimerAsk.{TimerAsk}
unfoldable pub use Rattle.fb_types.proofs.Common.{Takes}
pub use Rattle.fb_types.specs.Machines.{Chain, after, lines_of}
pub use Rattle.fb_types.specs.Schedules.{IsFinal}
pub use Rattle.fb_types.specs.Simulation.{Stimulus}
pub use Rattle.fb_types.specs.States.{Event, Line}
