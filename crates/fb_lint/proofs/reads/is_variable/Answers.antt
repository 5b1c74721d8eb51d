use Rattle.std.proofs.Common.{sym, ◌∙◌, ap}
use Rattle.fb_check.specs.types.Mentions.{meant}
use Rattle.fb_check.specs.declared.types.mentions.Mention.{Mention}
use Rattle.fb_lint.specs.Reads as spec
use Rattle.fb_lint.proofs.reads.is_variable.Goals as goal

pub returns-in-Variable : goal.returns-in-Variable
returns-in-Variable c = c.is.ensures ∙ sym (ap (λ (m : Mention). spec.is_variable c.args.name.now (meant m)) c.in-Variable.is)

pub returns-in-Function : goal.returns-in-Function
returns-in-Function c = sym (ap (λ (m : Mention). spec.is_variable c.args.name.now (meant m)) c.in-Function.is)
