-- A session as contracts see it.
use Rattle.fb_session.specs.Pasts.{Talk}
use Rattle.fb_session.specs.declared.session.Session.TheInside.{Inside}

abbrev pub seen : Inside → Talk
seen s =
    record {
      inputs = s.system.now;
      judged = s.judge.now.library.now;
      steps = s.steps;
      form = s.form;
      rows = s.rows;
      reached = s.reached;
      stage = s.stage;
      breaks = s.breaks.set.items;
      set = s.breaks.count;
      written = s.written;
      machine = s.machine;
    }
