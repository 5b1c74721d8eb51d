-- The names that most proofs of this crate cite, passed on from one place. Declares nothing.
pub use Rattle.fb_agenda.specs.Agendas.{AreApart, AreRising, Contents, IsFirst, IsPut, IsQueue, keyed, local_events, waiting}
pub use Rattle.fb_agenda.specs.Arrivals.{HasKeys, KeepsOthers, LacksKeys, arrival_at, arrivals_at}
pub use Rattle.fb_agenda.specs.Inside.{contents_of}
pub use Rattle.fb_agenda.specs.Laters.{Pending}
pub use Rattle.fb_agenda.specs.Lists.{BeginsAt, IsPopped, Sets}
pub use Rattle.fb_agenda.specs.Moments.{IsPast}
pub use Rattle.fb_agenda.specs.Timing.{timer_event, timer_events}
pub use Rattle.fb_agenda.specs.declared.moment.Moment.{Moment}
pub use Rattle.fb_agenda.specs.declared.timer_row.Timed.{Timed}
pub use Rattle.fb_types.proofs.Common.{Bool, Equal, Err, Greater, IfNone, IfSome, IsSome, Less, List, None, Ok, OnErr, OnOk, OnTrue, Option, Precedes, Result, Some, [], answers_always, ap, arith, cond, deque_len, false, get_or, insert_entry, is_eq, is_lt, is_some, key_cmp, length, local_key, lookup, map, map-append, nil_from_length, or_else, refl, rules, same_key, subst, suc, sym, take, timer_key, true, zero, ℕ, ◌++◌, ◌<◌, ◌∙◌, ◌∷◌, ◌≡◌, ◌≤◌}
pub use Rattle.fb_types.specs.declared.key.Key.{Key}
pub use Rattle.fb_types.specs.declared.run.Target.{Target}
pub use Rattle.fb_types.specs.declared.run.Event.TheVariants.{Timer}
pub use Rattle.fb_types.specs.declared.run.Event.{Event}
pub use Rattle.std.specs.List.{AllByRecursion, remove}
unfoldable pub use Rattle.std.specs.List.Sorted.{IsStrictlySortedBy}
