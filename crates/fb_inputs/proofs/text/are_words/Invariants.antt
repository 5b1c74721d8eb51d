use Rattle.fb_types.proofs.Common.{◌≡◌, drop, list_all}
use Rattle.fb_inputs.specs.Words.{is_word}
use Rattle.fb_inputs.proofs.text.are_words.Given as goal

abbrev pub invariant-loop-b : goal.invariant-loop-b
invariant-loop-b l = list_all is_word l.text ≡ list_all is_word (drop l.b-index l.text)
