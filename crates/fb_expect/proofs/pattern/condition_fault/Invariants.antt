use Rattle.fb_expect.proofs.lemmas.Common.{◌≡◌, drop, map}
use Rattle.fb_expect.specs.PatternFaults.{condition_fault}
use Rattle.fb_expect.proofs.pattern.condition_fault.Given as goal

abbrev pub invariant-loop-word : goal.invariant-loop-word
invariant-loop-word l = condition_fault (map (λ w. w.now) l.words) ≡ condition_fault (map (λ w. w.now) (drop l.word-index l.words))
