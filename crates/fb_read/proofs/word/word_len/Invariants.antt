use Rattle.fb_read.proofs.lemmas.Common.{◌≡◌, ◌+◌, drop, word_len}
use Rattle.fb_read.proofs.word.word_len.Given as goal

abbrev pub invariant-loop-end : goal.invariant-loop-end
invariant-loop-end l = l.end + word_len (drop l.end l.z) ≡ word_len l.z
