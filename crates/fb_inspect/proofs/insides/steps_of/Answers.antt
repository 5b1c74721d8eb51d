use Rattle.fb_inspect.proofs.lemmas.walk.Opened.{unused_more}
use Rattle.fb_inspect.proofs.insides.steps_of.Goals as goal

pub loop-preserved : goal.loop-preserved
loop-preserved c = unused_more _ _ _ _ c.loop.invariant c.new.ensures c.in_ok-push.ensures.items
