-- The names that most proofs of this crate cite, passed on from one place. Declares nothing.
pub use Rattle.fb_agenda.specs.Agendas.{Contents, waiting}
pub use Rattle.fb_net.specs.Events.{event_of}
pub use Rattle.fb_net.specs.Outs.{out_of}
pub use Rattle.fb_net.specs.declared.outbox.Outbox.{Outbox}
pub use Rattle.fb_net.specs.declared.outbox.Out.{Out}
pub use Rattle.fb_net.specs.declared.resource.Forest.{Forest}
pub use Rattle.fb_resource.specs.Counts.{IsMetered, meter_of}
pub use Rattle.fb_resource.specs.Openings.{HasRestarts, HasStimuli, IsOpened}
pub use Rattle.fb_resource.specs.Posts.{CountsAre, IsMessage, IsPostable, IsPut, IsSendable, arriving}
pub use Rattle.fb_resource.specs.Resources.{IsOf, Represents}
pub use Rattle.fb_resource.specs.Takings.{AreReady, Finds, IsHere, IsTakenHere, with_event}
pub use Rattle.fb_resource.specs.Waiting.{IsInOrder, MayWait, meaning}
pub use Rattle.fb_resource.specs.declared.tick_counts.TickCounts.{TickCounts}
pub use Rattle.fb_resource.specs.declared.traffic.Traffic.{Traffic}
pub use Rattle.fb_system.specs.Lines.{BelongsTo}
pub use Rattle.fb_types.proofs.Common.{All, AreAccepted, Bool, Inputs, List, Local, None, Option, Path, Posts, Some, State, System, Vec, [], ap, append-nil, arith, begun, changed_to, cond, eq-eqb, eqb, false, found, is_timer_of, length, length-set, local_key, machine, map, option_map, or_else, path_at, path_of, post_all, refl, rules, same_key, slice_get, slice_index, stimuli_of, subst, suc, sym, system_of, timer_key, true, unwrap_or, world_of, ℕ, ⊎_elim, ◌++◌, ◌+◌, ◌<◌, ◌^◌, ◌∙◌, ◌∷◌, ◌≡◌, ◌≢◌, ◌≤◌}
pub use Rattle.fb_types.specs.declared.run.TimerAsk.TheVariants.{Keep}
pub use Rattle.fb_types.specs.declared.key.Key.{Key}
pub use Rattle.fb_types.specs.declared.run.Message.{Message}
pub use Rattle.fb_types.specs.declared.value.Reason.{Reason}
pub use Rattle.fb_types.specs.declared.run.TimerAsk.{TimerAsk}
pub use Rattle.fb_types.specs.declared.run.Event.{Event}
