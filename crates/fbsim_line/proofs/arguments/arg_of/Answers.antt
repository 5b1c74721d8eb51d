use Rattle.std.proofs.Common.{◌∙◌, true, Some, ap, sym}
use Rattle.clap.specs.Words.{Rule}
use Rattle.clap.specs.declared.builder.action.ArgAction.TheVariants.{Append, SetTrue}
use Rattle.clap.specs.declared.builder.arg.Arg.{Arg}
use Rattle.clap.specs.declared.builder.value_parser.ValueParser.{ValueParser}
use Rattle.fbsim_line.specs.Line.{limited, preset, rule_for}
use Rattle.fbsim_line.proofs.lemmas.BuildLaws.{acted, demanded}
use Rattle.fbsim_line.proofs.arguments.arg_of.Goals as goal

pub returns-in-Required-clause-rule : goal.returns-in-Required-clause-rule
returns-in-Required-clause-rule c = c.required.ensures.rule ∙ ap rule_for (sym c.in-Required.is)

pub returns-in-Required-clause-local : goal.returns-in-Required-clause-local
returns-in-Required-clause-local c = c.required.ensures.local

pub returns-in-Several-clause-rule : goal.returns-in-Several-clause-rule
returns-in-Several-clause-rule c =
    acted c.required-in-Several.result c.action.result Append c.action.ensures
    ∙ ap (λ (r : Rule). record r { action = Some Append }) c.required-in-Several.ensures.rule ∙ ap rule_for (sym c.in-Several.is)

pub returns-in-Several-clause-local : goal.returns-in-Several-clause-local
returns-in-Several-clause-local c = ap (λ (a : Arg). a.global) c.action.ensures ∙ c.required-in-Several.ensures.local

pub returns-in-Named-clause-rule : goal.returns-in-Named-clause-rule
returns-in-Named-clause-rule c = c.option.ensures.rule ∙ ap rule_for (sym c.in-Named.is)

pub returns-in-Named-clause-local : goal.returns-in-Named-clause-local
returns-in-Named-clause-local c = c.option.ensures.local

pub returns-in-Repeated-clause-rule : goal.returns-in-Repeated-clause-rule
returns-in-Repeated-clause-rule c =
    acted c.option-in-Repeated.result c.action-in-Repeated.result Append c.action-in-Repeated.ensures
    ∙ ap (λ (r : Rule). record r { action = Some Append }) c.option-in-Repeated.ensures.rule ∙ ap rule_for (sym c.in-Repeated.is)

pub returns-in-Repeated-clause-local : goal.returns-in-Repeated-clause-local
returns-in-Repeated-clause-local c = ap (λ (a : Arg). a.global) c.action-in-Repeated.ensures ∙ c.option-in-Repeated.ensures.local

pub returns-in-Flag-clause-rule : goal.returns-in-Flag-clause-rule
returns-in-Flag-clause-rule c =
    acted c.option-in-Flag.result c.action-in-Flag.result SetTrue c.action-in-Flag.ensures
    ∙ ap (λ (r : Rule). record r { action = Some SetTrue }) c.option-in-Flag.ensures.rule ∙ ap rule_for (sym c.in-Flag.is)

pub returns-in-Flag-clause-local : goal.returns-in-Flag-clause-local
returns-in-Flag-clause-local c = ap (λ (a : Arg). a.global) c.action-in-Flag.ensures ∙ c.option-in-Flag.ensures.local

pub returns-in-Limited-clause-rule : goal.returns-in-Limited-clause-rule
returns-in-Limited-clause-rule c = c.limited.ensures.rule ∙ ap rule_for (sym c.in-Limited.is)

pub returns-in-Limited-clause-local : goal.returns-in-Limited-clause-local
returns-in-Limited-clause-local c = c.limited.ensures.local

pub returns-in-Needed-clause-rule : goal.returns-in-Needed-clause-rule
returns-in-Needed-clause-rule c =
    demanded c.limited-in-Needed.result c.required-in-Needed.result c.required-in-Needed.ensures ∙ ap (λ (r : Rule). record r { required = true }) c.limited-in-Needed.ensures.rule
    ∙ ap (λ (p : ValueParser). record (limited c.in-Needed.id.now p) { required = true }) c.up_to.ensures ∙ ap rule_for (sym c.in-Needed.is)

pub returns-in-Needed-clause-local : goal.returns-in-Needed-clause-local
returns-in-Needed-clause-local c = ap (λ (a : Arg). a.global) c.required-in-Needed.ensures ∙ c.limited-in-Needed.ensures.local

pub returns-in-Number-clause-rule : goal.returns-in-Number-clause-rule
returns-in-Number-clause-rule c =
    c.preset.ensures.rule ∙ ap (λ (p : ValueParser). preset c.in-Number.id.now p c.in-Number.text.now) c.up_to-in-Number.ensures ∙ ap rule_for (sym c.in-Number.is)

pub returns-in-Number-clause-local : goal.returns-in-Number-clause-local
returns-in-Number-clause-local c = c.preset.ensures.local

pub returns-in-Worded-clause-rule : goal.returns-in-Worded-clause-rule
returns-in-Worded-clause-rule c = c.preset-in-Worded.ensures.rule ∙ ap rule_for (sym c.in-Worded.is)

pub returns-in-Worded-clause-local : goal.returns-in-Worded-clause-local
returns-in-Worded-clause-local c = c.preset-in-Worded.ensures.local
