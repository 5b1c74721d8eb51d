use Rattle.std.proofs.Common.{◌∙◌}
use Rattle.fb_expect.proofs.lemmas.texts.Completing.{last-there}
use Rattle.fb_expect.proofs.ending.read_end.Goals as goal

pub returns-clause-only : goal.returns-clause-only
returns-clause-only c = λ end is. c.end_of.ensures.exact ∙ last-there c.args.text.now end is
