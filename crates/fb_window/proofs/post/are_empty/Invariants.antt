use Rattle.fb_window.proofs.lemmas.phases.Targets.{AreEmptyBelow}
use Rattle.fb_window.proofs.post.are_empty.Given as goal

abbrev pub invariant-loop-list : goal.invariant-loop-list
invariant-loop-list g l = AreEmptyBelow l.lists l.list-index
