use Rattle.std.proofs.Common.{◌∙◌}
use Rattle.fb_read.proofs.lemmas.tokens.Keywords.{in_group}
use Rattle.fb_read.proofs.keyword.keyword.Goals as goal

pub returns : goal.returns
returns c = c.look_up.ensures ∙ in_group c.args.word.now c.at.result _ c.at.ensures.value c.words_with.ensures
