use Rattle.fb_read.proofs.lemmas.Common.{◌-◌, IsDeepLen}
use Rattle.fb_read.proofs.read.deep_len.Given as goal

abbrev pub invariant-loop-turn : goal.invariant-loop-turn
invariant-loop-turn l = IsDeepLen l.tokens (l.most - l.turn)
