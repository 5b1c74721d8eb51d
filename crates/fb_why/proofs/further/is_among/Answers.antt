use Rattle.std.proofs.Common.{◌∙◌}
use Rattle.fb_why.proofs.lemmas.FurtherKeys.{any_named}
use Rattle.fb_why.proofs.further.is_among.Goals as goal

pub returns : goal.returns
returns c = c.contains.ensures.value ∙ any_named c.args.known.now c.args.word.now
