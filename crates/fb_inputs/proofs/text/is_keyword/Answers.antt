use Rattle.std.proofs.Common.{◌∙◌, Option, is_some, ap}
use Rattle.fb_read.specs.declared.token.Mark.{Mark}
use Rattle.fb_inputs.proofs.lemmas.deployments.Keywords.{same_keywords}
use Rattle.fb_inputs.proofs.text.is_keyword.Goals as goal

pub returns : goal.returns
returns c = c.is_some.ensures ∙ ap (λ (o : Option Mark). is_some o) c.keyword.ensures ∙ same_keywords c.args.word.now
