use Rattle.std.proofs.Common.{◌∙◌, true, ap}
use Rattle.clap.specs.Words.{Rule}
use Rattle.clap.specs.declared.builder.arg.Arg.{Arg}
use Rattle.fbsim_line.proofs.lemmas.BuildLaws.{demanded, helped}
use Rattle.fbsim_line.proofs.arguments.required.Goals as goal

pub returns-clause-rule : goal.returns-clause-rule
returns-clause-rule c =
    helped c.required.result c.help.result c.args.help c.help.ensures ∙ demanded c.new.result c.required.result c.required.ensures
    ∙ ap (λ (r : Rule). record r { required = true }) c.new.ensures.rule

pub returns-clause-local : goal.returns-clause-local
returns-clause-local c = ap (λ (x : Arg). x.global) c.help.ensures ∙ ap (λ (x : Arg). x.global) c.required.ensures ∙ c.new.ensures.optional.1
