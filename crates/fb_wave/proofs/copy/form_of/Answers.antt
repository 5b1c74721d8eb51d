use Rattle.std.proofs.Common.{refl, ap, ◌∙◌}
use Rattle.fb_wave.specs.Forms.{form_by}
use Rattle.fb_wave.proofs.lemmas.Cutting.{cut_once, uncut}
use Rattle.fb_wave.proofs.copy.form_of.Goals as goal

-- what comes after the first word is the same, however the line is parted
pub returns-in-Some-clause-form : goal.returns-in-Some-clause-form
returns-in-Some-clause-form c word rest b whole parts =
    c.form_after.ensures ∙ ap form_by (cut_once c.args.line.now _ _ word _ c.in-Some.ensures whole refl parts).1

pub returns-in-Some-clause-parted : goal.returns-in-Some-clause-parted
returns-in-Some-clause-parted c first rest is =
    c.form_after.ensures ∙ ap form_by (cut_once c.args.line.now _ _ first rest c.in-Some.ensures is.whole is.ended is.parts).1

-- a line that is parted is no word
pub returns-in-Some-clause-whole : goal.returns-in-Some-clause-whole
returns-in-Some-clause-whole c word =
    let cut = c.in-Some.ensures in
    absurd (uncut c.args.line.now c.in-Some.parts.0.now c.in-Some.parts.1.now word cut.parts cut.ended)

pub returns-in-None-clause-parted : goal.returns-in-None-clause-parted
returns-in-None-clause-parted c first rest is = absurd (uncut c.args.line.now first rest c.in-None.ensures is.parts is.ended)
