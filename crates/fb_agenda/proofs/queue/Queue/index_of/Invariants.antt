use Rattle.fb_types.proofs.Common.{◌≡◌, ◌<◌, ℕ, false, get_or, same_key}
use Rattle.fb_types.specs.declared.key.Key.{Key}
use Rattle.fb_types.specs.declared.run.Target.{Target}
use Rattle.fb_agenda.proofs.queue.Queue.index_of.Given as goal

abbrev pub invariant-loop-index : goal.invariant-loop-index
invariant-loop-index l = (j : ℕ) (d : Key × Target) → j < l.index → same_key l.key (get_or l.self j d).0 ≡ false
