use Rattle.std.proofs.Common.{sym, ap, ◌∙◌}
use Rattle.fb_expect.specs.Pairing.{text_in}
use Rattle.fb_expect.proofs.lemmas.traces.Alikeness.{text-first, text-last}
use Rattle.fb_expect.proofs.lemmas.texts.TextParts.{part_shorter}
use Rattle.fb_expect.proofs.alike.text_at.Goals as goal

pub loop-word-smaller : goal.loop-word-smaller
loop-word-smaller c = part_shorter 32 c.loop-word.rest.now _ _ c.in-Some-split_at_mark.ensures

pub loop-word-preserved : goal.loop-word-preserved
loop-word-preserved c =
    c.loop-word.invariant ∙ text-first c.args.name.now c.loop-word.rest.now _ _ _ c.in-Some-split_at_mark.ensures (sym c.in_default-text_of.ensures)

pub returns-in-Some-text_of : goal.returns-in-Some-text_of
returns-in-Some-text_of c =
    sym (ap (text_in c.args.name.now) c.in-Some.ensures.some ∙ c.loop-word.invariant
    ∙ text-first c.args.name.now c.loop-word.rest.now _ _ _ c.in-Some-split_at_mark.ensures (sym c.in-Some-text_of.ensures))

pub returns : goal.returns
returns c =
    c.text_of-2.ensures
    ∙ sym (ap (text_in c.args.name.now) c.in-Some.ensures.some ∙ c.loop-word.invariant ∙ text-last c.args.name.now c.loop-word.rest.now c.in_default-split_at_mark.ensures)
