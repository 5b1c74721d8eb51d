use Rattle.fb_read.proofs.lemmas.statements.TextsInRules.{reads-bodies}
use Rattle.fb_read.proofs.laws.reads_bodies.Goals as goal

pub returns : goal.returns
returns c = reads-bodies
