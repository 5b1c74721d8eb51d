use Rattle.std.proofs.Common.{◌∙◌}
use Rattle.fb_expect.proofs.lemmas.texts.Completing.{line-there}
use Rattle.fb_expect.proofs.event.read_entry.Goals as goal

pub returns-clause-only : goal.returns-clause-only
returns-clause-only c = λ e line. c.entry_of.ensures.exact ∙ line-there c.args.form c.args.text.now e line
