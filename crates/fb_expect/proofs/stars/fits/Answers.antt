use Rattle.std.proofs.Common.{sym, ◌∙◌}
use Rattle.fb_expect.proofs.lemmas.texts.TextParts.{part_shorter}
use Rattle.fb_expect.proofs.lemmas.patterns.Starred.{fits-end, fits-first, fits-rest, fits-short}
use Rattle.fb_expect.proofs.stars.fits.Goals as goal

pub loop-one-smaller : goal.loop-one-smaller
loop-one-smaller c = part_shorter 46 c.loop-one.forms.now _ _ c.in-Some.ensures

pub loop-one-preserved : goal.loop-one-preserved
loop-one-preserved c =
    c.loop-one.invariant
    ∙ fits-first c.loop-one.forms.now c.loop-one.names.now _ _ _ _ _ c.in-Some.ensures c.in-Some-split_at_mark.ensures (sym c.fits_name.ensures ∙ c.if-not-fits_name.false)

pub returns-then-not-fits_name : goal.returns-then-not-fits_name
returns-then-not-fits_name c =
    sym (c.loop-one.invariant
    ∙ fits-first c.loop-one.forms.now c.loop-one.names.now _ _ _ _ _ c.in-Some.ensures c.in-Some-split_at_mark.ensures (sym c.fits_name.ensures ∙ c.if-not-fits_name.true))

pub returns-in_default-split_at_mark : goal.returns-in_default-split_at_mark
returns-in_default-split_at_mark c =
    sym (c.loop-one.invariant ∙ fits-short c.loop-one.forms.now c.loop-one.names.now _ _ c.in-Some.ensures c.in_default-split_at_mark.ensures)

pub returns-in-Some-split_at_mark-2 : goal.returns-in-Some-split_at_mark-2
returns-in-Some-split_at_mark-2 c =
    c.is_star.ensures
    ∙ sym (c.loop-one.invariant ∙ fits-rest c.loop-one.forms.now c.loop-one.names.now _ _ c.in_default.ensures c.in-Some-split_at_mark-2.ensures)

pub returns-in-None : goal.returns-in-None
returns-in-None c =
    c.fits_name-in-None.ensures ∙ sym (c.loop-one.invariant ∙ fits-end c.loop-one.forms.now c.loop-one.names.now c.in_default.ensures c.in-None.ensures)
