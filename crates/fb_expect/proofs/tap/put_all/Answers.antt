use Rattle.fb_expect.proofs.lemmas.Common.{ℕ, Bor, List, ◌++◌, take, sym, ap, ◌∙◌, append_assoc, arith, take_all, joined}
use Rattle.fb_expect.proofs.lemmas.texts.JoinedTexts.{one-more, part_at, texts}
use Rattle.fb_expect.proofs.tap.put_all.Goals as goal

pub loop-part-preserved : goal.loop-part-preserved
loop-part-preserved c =
    let ps = c.args.parts.now in
    let i = c.loop-part.part-index in
    let old = c.args.text.now.items in
    c.in_ok-extend_from_slice.ensures.items ∙ ap (λ (t : List ℕ). t ++ part_at ps i) c.loop-part.invariant ∙ append_assoc old (joined (texts (take i ps))) (part_at ps i)
    ∙ ap (λ (t : List ℕ). old ++ t) (sym (one-more ps i c.loop-part-test.true))

pub returns : goal.returns
returns c =
    c.loop-part.invariant
    ∙ ap (λ (ps : List (Bor (List ℕ))). c.args.text.now.items ++ joined (texts ps)) (take_all c.loop-part.part-index c.args.parts.now (omega (arith, c.loop-part-test.false)))
