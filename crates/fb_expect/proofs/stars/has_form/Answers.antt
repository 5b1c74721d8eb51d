use Rattle.std.proofs.Common.{sym, ◌∙◌}
use Rattle.fb_expect.proofs.lemmas.patterns.Starred.{form-one, form-plain, form-star}
use Rattle.fb_expect.proofs.stars.has_form.Goals as goal

pub returns-then-is_star : goal.returns-then-is_star
returns-then-is_star c =
    c.fits_later.ensures ∙ sym (form-star c.args.form.now c.args.port.now _ _ c.in-Some.ensures (sym c.is_star.ensures ∙ c.if-is_star.true))

pub returns-else-is_star : goal.returns-else-is_star
returns-else-is_star c =
    c.fits.ensures ∙ sym (form-plain c.args.form.now c.args.port.now _ _ c.in-Some.ensures (sym c.is_star.ensures ∙ c.if-is_star.false))

pub returns-in-None : goal.returns-in-None
returns-in-None c = c.fits-in-None.ensures ∙ sym (form-one c.args.form.now c.args.port.now c.in-None.ensures)
