use Rattle.fb_agenda.proofs.lemmas.Moments.{no_later, no_later_itself}
use Rattle.fb_agenda.proofs.moment.Moment.lower.Goals as goal

pub returns-then-is_before-clause-first : goal.returns-then-is_before-clause-first
returns-then-is_before-clause-first c = no_later c.args.other c.args.self.now c.if-is_before.ensures.sooner

pub returns-then-is_before-clause-second : goal.returns-then-is_before-clause-second
returns-then-is_before-clause-second c = no_later_itself c.args.other
