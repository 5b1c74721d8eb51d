use Rattle.fb_inspect.proofs.lemmas.words.ThreeWords.{next_from}
use Rattle.fb_inspect.proofs.refused.fault_words.next_word.Goals as goal

pub returns-in_err-after_front : goal.returns-in_err-after_front
returns-in_err-after_front c = rw c.from_residual.ensures (λ t is. absurd (c.in_err-after_front.ensures t is))

pub returns : goal.returns
returns c = next_from (λ p. p.0.now) (λ p. p.1.now) c.cut.result c.args.text.now _ c.in_ok-after_front.ensures c.cut.ensures
