-- Timers that wait, as events under their keys (this project's profile).
use Rattle.std.specs.Prelude.{List, map}
use Rattle.fb_types.specs.Keys.{timer_key}
use Rattle.fb_types.specs.declared.key.Key.{Key}
use Rattle.fb_types.specs.declared.run.Event.{Event}
use Rattle.fb_types.specs.declared.run.Event.TheVariants.{Timer}
use Rattle.fb_agenda.specs.declared.timer_row.Timed.{Timed}

abbrev pub timer_event : Timed → Key × Event
timer_event t = (timer_key t.tick t.resource t.instance, Timer t.instance)

abbrev pub timer_events : List Timed → List (Key × Event)
timer_events ts = map timer_event ts
