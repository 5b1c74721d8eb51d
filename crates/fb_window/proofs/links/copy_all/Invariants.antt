use Rattle.fb_types.specs.Headline.{system_of}
use Rattle.fb_window.specs.LinkRows.{AreRowsOf}
use Rattle.fb_window.proofs.links.copy_all.Given as goal

abbrev pub invariant-loop-link : goal.invariant-loop-link
invariant-loop-link l = AreRowsOf (system_of l.system) l.link l.rows.items
