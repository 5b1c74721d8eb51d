-- What the fields of an agenda represent (this project's profile).
use Rattle.fb_agenda.specs.Agendas.{Contents, local_events}
use Rattle.fb_agenda.specs.declared.agenda.Agenda.TheInside.{Inside}

abbrev pub contents_of : Inside → Contents
contents_of a = record { running = local_events a.now; later = a.later.events; due = a.later.due }
