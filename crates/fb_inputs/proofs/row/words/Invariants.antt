use Rattle.fb_types.proofs.Common.{◌≡◌, length, drop, nat_eq, not, ◌==◌, filter, slice_split}
use Rattle.fb_inputs.specs.Lists.{all_after, each_at}
use Rattle.fb_inputs.specs.StimuliLocations.{word_at}
use Rattle.fb_inputs.specs.Rows.{word, words}
use Rattle.fb_inputs.proofs.row.words.Given as goal

abbrev pub invariant-loop-part : goal.invariant-loop-part
invariant-loop-part l = each_at word_at word 0 (words l.text) ≡ all_after l.found (each_at word_at word (length l.found) (filter (λ w. not (length w == 0)) (drop (length l.yielded) (slice_split (nat_eq 32) l.text))))
