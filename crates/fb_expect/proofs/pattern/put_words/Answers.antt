use Rattle.std.proofs.Common.{◌∙◌, List, ℕ, map, refl}
use Rattle.std.specs.Borrow.{Bor}
use Rattle.fb_expect.proofs.lemmas.texts.TextParts.{all-words, part_shorter, with-first}
use Rattle.fb_expect.proofs.pattern.put_words.Goals as goal

abbrev now_of : List (Bor (List ℕ)) → List (List ℕ)
now_of ws = map (λ w. w.now) ws

pub loop-word-init : goal.loop-word-init
loop-word-init c = refl

pub loop-word-smaller : goal.loop-word-smaller
loop-word-smaller c = part_shorter 32 c.loop-word.rest.now _ _ c.in-Some.ensures

pub loop-word-preserved : goal.loop-word-preserved
loop-word-preserved c =
    c.loop-word.invariant ∙ with-first (now_of c.loop-word.words.items) (now_of c.put_word.new.words.items) c.loop-word.rest.now _ _ c.in-Some.ensures c.in_ok-put_word.ensures

pub returns : goal.returns
returns c =
    all-words c.put_word-2.result (now_of c.args.words.now.items) (now_of c.loop-word.words.items) (now_of c.put_word-2.new.words.items) c.args.text.now c.loop-word.rest.now c.in_default.ensures
    c.loop-word.invariant c.put_word-2.ensures
