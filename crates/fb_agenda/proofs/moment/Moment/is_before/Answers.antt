use Rattle.fb_agenda.proofs.lemmas.Moments.{later_if, sooner_if}
use Rattle.fb_agenda.proofs.moment.Moment.is_before.Goals as goal

pub returns-clause-sooner : goal.returns-clause-sooner
returns-clause-sooner c = sooner_if c.args.self c.args.other.now c.if-self-other.false

pub returns-clause-later : goal.returns-clause-later
returns-clause-later c = later_if c.args.self c.args.other.now c.if-self-other.false
