use Rattle.fb_read.proofs.lemmas.statements.TextsInRules.{reads-expressions}
use Rattle.fb_read.proofs.laws.reads_expressions.Goals as goal

pub returns : goal.returns
returns c = reads-expressions
