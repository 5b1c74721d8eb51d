use Rattle.fb_inspect.proofs.lemmas.words.LastMark.{named_from}
use Rattle.fb_inspect.proofs.refused.fault_words.named_value.Goals as goal

pub returns : goal.returns
returns c =
    let word = c.in_ok-word.ensures in
    named_from (λ p. p.0.now) (λ p. p.1.now) c.halves.result _ c.args.text.now word.0 _ _ word.1 word.2 c.halves.ensures
