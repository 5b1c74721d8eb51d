use Rattle.std.proofs.Common.{sym, ◌∙◌}
use Rattle.fb_expect.proofs.lemmas.texts.TextParts.{part_shorter}
use Rattle.fb_expect.proofs.lemmas.patterns.Starred.{later-first, later-last}
use Rattle.fb_expect.proofs.stars.fits_later.Goals as goal

pub loop-after-smaller : goal.loop-after-smaller
loop-after-smaller c = part_shorter 46 c.loop-after.rest.now _ _ c.in-Some.ensures

pub loop-after-preserved : goal.loop-after-preserved
loop-after-preserved c =
    c.loop-after.invariant ∙ later-first c.args.form.now c.loop-after.rest.now _ _ _ c.in-Some.ensures (sym c.fits.ensures ∙ c.if-fits.false)

pub returns-then-fits : goal.returns-then-fits
returns-then-fits c =
    sym (c.loop-after.invariant ∙ later-first c.args.form.now c.loop-after.rest.now _ _ _ c.in-Some.ensures (sym c.fits.ensures ∙ c.if-fits.true))

pub returns : goal.returns
returns c = sym (c.loop-after.invariant ∙ later-last c.args.form.now c.loop-after.rest.now c.in_default.ensures)
