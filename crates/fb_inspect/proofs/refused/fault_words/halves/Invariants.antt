use Rattle.fb_inspect.proofs.lemmas.words.LastMark.{IsFound}
use Rattle.fb_inspect.proofs.refused.fault_words.halves.Given as goal

abbrev pub invariant-loop-index : goal.invariant-loop-index
invariant-loop-index l = IsFound l.mark l.text l.index l.found
