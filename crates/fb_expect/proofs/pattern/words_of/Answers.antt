use Rattle.fb_expect.proofs.lemmas.Common.{◌++◌, ◌∙◌, ℕ, List, ap, map, words_of}
use Rattle.std.specs.Borrow.{Bor}
use Rattle.fb_expect.proofs.pattern.words_of.Goals as goal

pub returns : goal.returns
returns c =
    c.in_ok-put_words.ensures ∙ ap (λ (ws : List (Bor (List ℕ))). map (λ (w : Bor (List ℕ)). w.now) ws ++ words_of c.args.text.now) c.new-words.ensures.items
