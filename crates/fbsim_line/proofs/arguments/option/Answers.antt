use Rattle.std.proofs.Common.{◌∙◌, Some, ap}
use Rattle.clap.specs.Words.{Rule}
use Rattle.clap.specs.declared.builder.arg.Arg.{Arg}
use Rattle.fbsim_line.proofs.lemmas.BuildLaws.{called, helped}
use Rattle.fbsim_line.proofs.arguments.option.Goals as goal

pub returns-clause-rule : goal.returns-clause-rule
returns-clause-rule c =
    helped c.long.result c.help.result c.args.help c.help.ensures ∙ called c.new.result c.long.result c.args.id c.long.ensures
    ∙ ap (λ (r : Rule). record r { long = Some c.args.id.now }) c.new.ensures.rule

pub returns-clause-local : goal.returns-clause-local
returns-clause-local c = ap (λ (x : Arg). x.global) c.help.ensures ∙ ap (λ (x : Arg). x.global) c.long.ensures ∙ c.new.ensures.optional.1
