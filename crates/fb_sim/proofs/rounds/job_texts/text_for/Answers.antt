use Rattle.fb_types.specs.contracts.run.Form.{the_type}
use Rattle.std.proofs.Common.{◌≡◌, rules}
use denote.Enum.Bare.{same_true}
use Rattle.fb_sim.proofs.lemmas.text.TextsAre.{text_whole}
use Rattle.fb_sim.proofs.rounds.job_texts.text_for.Goals as goal

pub returns-then-text-lines : goal.returns-then-text-lines
returns-then-text-lines c =
    let m = c.in-Some.text in
    let in_form : m.form ≡ c.args.form = same_true the_type (search rules) m.form c.args.form c.if-text-form.true in
    text_whole c.args.system.now c.args.form c.args.lines.now c.args.text m c.requires.text c.in-Some.is in_form c.if-text-lines.true
