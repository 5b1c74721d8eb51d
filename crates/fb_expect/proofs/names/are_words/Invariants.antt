use Rattle.fb_types.proofs.Common.{◌≡◌, drop, list_all}
use Rattle.fb_expect.specs.Words.{is_word}
use Rattle.fb_expect.proofs.names.are_words.Given as goal

abbrev pub invariant-loop-byte : goal.invariant-loop-byte
invariant-loop-byte l = list_all is_word l.text ≡ list_all is_word (drop l.byte-index l.text)
