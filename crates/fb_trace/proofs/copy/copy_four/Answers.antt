use Rattle.fb_trace.proofs.lemmas.digits.CopiedBytes.{four}
use Rattle.fb_trace.proofs.copy.copy_four.Goals as goal

pub returns : goal.returns
returns c = four c.args.to.now c.args.from.now c.args.index c.requires.same c.requires.within
