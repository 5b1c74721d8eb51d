use Rattle.fb_expect.proofs.lemmas.Common.{◌≡◌, ◌++◌, ℕ, List, length, map, words_of}
use Rattle.std.specs.Borrow.{Bor}
use Rattle.fb_expect.proofs.pattern.put_words.Given as goal

abbrev pub invariant-loop-word : goal.invariant-loop-word
invariant-loop-word l =
    map (λ (w : Bor (List ℕ)). w.now) l.fn.words.items ++ words_of l.text ≡ map (λ (w : Bor (List ℕ)). w.now) l.words.items ++ words_of l.rest

abbrev pub decreases-loop-word : goal.decreases-loop-word
decreases-loop-word l = length l.rest
