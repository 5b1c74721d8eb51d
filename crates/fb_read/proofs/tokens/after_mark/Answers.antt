use Rattle.fb_read.proofs.lemmas.tokens.TextEnds.{end-rest}
use Rattle.fb_read.proofs.tokens.after_mark.Goals as goal

pub returns-then-at-eq191-clause-end : goal.returns-then-at-eq191-clause-end
returns-then-at-eq191-clause-end c = end-rest 3 c.args.text.now
