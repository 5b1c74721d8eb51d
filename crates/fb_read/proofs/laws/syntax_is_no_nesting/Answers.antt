use Rattle.fb_read.proofs.lemmas.texts.WholeLaws.{syntax-is-no-nesting}
use Rattle.fb_read.proofs.laws.syntax_is_no_nesting.Goals as goal

pub returns : goal.returns
returns c = syntax-is-no-nesting
