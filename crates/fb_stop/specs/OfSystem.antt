-- What contracts say of the events of a system: its value is the accepted inputs, and each of these is of the flat system.
use Rattle.fb_types.specs.Headline.{Inputs, system_of}
use Rattle.fb_types.specs.States.{Event}
use Rattle.fb_stop.specs.Found as found
use Rattle.fb_stop.specs.declared.found.EventSite.{EventSite}

abbrev pub ArrivesAt : Inputs → Event → EventSite → Type 0
ArrivesAt i = found.ArrivesAt (system_of i)
