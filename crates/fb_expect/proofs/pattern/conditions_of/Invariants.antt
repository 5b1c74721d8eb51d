use Rattle.fb_expect.proofs.lemmas.Common.{◌≡◌, drop, map, each}
use Rattle.fb_expect.specs.Written.{condition_of}
use Rattle.fb_expect.proofs.lemmas.documents.EachMayFail.{with_front}
use Rattle.fb_expect.proofs.pattern.conditions_of.Given as goal

abbrev pub invariant-loop-word : goal.invariant-loop-word
invariant-loop-word l = each condition_of (map (λ w. w.now) l.words) ≡ with_front l.found (each condition_of (map (λ w. w.now) (drop l.word-index l.words)))
