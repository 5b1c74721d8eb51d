use Rattle.fb_why.proofs.lemmas.FurtherKeys.{element}
use Rattle.fb_why.proofs.further.element_at.Goals as goal

pub returns : goal.returns
returns c = element c.args.items.now.items c.args.index c.get.result (rw c.deref.ensures.value at c.get.ensures.lookup)
