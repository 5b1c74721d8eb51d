use Rattle.fb_wave.proofs.lemmas.Common.{◌≡◌, true, take, is_word}
use Rattle.fb_wave.proofs.words.cut.Given as goal

abbrev pub invariant-loop-index : goal.invariant-loop-index
invariant-loop-index l = is_word (take l.index l.text) ≡ true
