use Rattle.fb_agenda.proofs.lemmas.Moments.{past_sooner}
use Rattle.fb_agenda.proofs.later.Later.is_past.Goals as goal

pub returns : goal.returns
returns c = rw (← c.self.view_is) (past_sooner c.is_before.result c.args.moment c.self.inside.quiet _ c.is_before.ensures.sooner c.self.invariant.quiet)
