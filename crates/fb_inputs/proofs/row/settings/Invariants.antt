use Rattle.fb_inputs.proofs.lemmas.Common.{◌≡◌, length, all_after, each_at, value_at, setting}
use Rattle.fb_inputs.proofs.row.settings.Given as goal

abbrev pub invariant-loop-word : goal.invariant-loop-word
invariant-loop-word l = record {
  found : each_at value_at setting 0 l.fn.words ≡ all_after l.found (each_at value_at setting (length l.found) l.word-iterator.rest.items);
  counted : l.word-iterator.rest.len ≡ length l.word-iterator.rest.items;
}
