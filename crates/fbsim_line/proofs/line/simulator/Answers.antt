use Rattle.std.proofs.Common.{◌∙◌, true, ap}
use Rattle.clap.specs.Simple.{app_of_fields}
use Rattle.clap.specs.Words.{App}
use Rattle.fbsim_line.specs.Line.{kinds, program}
use Rattle.fbsim_line.proofs.lemmas.BuildLaws.{joins-first, joins-on, joins-past}
use Rattle.fbsim_line.proofs.line.simulator.Goals as goal

pub loop-kind-init : goal.loop-kind-init
loop-kind-init c =
    joins-first c.args.forms program kinds c.subcommand_required-command.result
    (ap app_of_fields c.subcommand_required-command.ensures
    ∙ ap (λ (a : App). record a { top = record a.top { subcommand_required = true } })
    (ap app_of_fields c.version.ensures ∙ ap (λ (a : App). record a { top = record a.top { has_version = true } }) c.titled.ensures.app))

pub loop-kind-preserved : goal.loop-kind-preserved
loop-kind-preserved c =
    joins-on c.args.forms program kinds c.loop-kind.kind-index _ c.loop-kind.command c.in-Ok.made c.in_ok-command.command c.loop-kind-test.true c.in_ok-command.ensures c.in-Ok.ensures.globals
    c.in-Ok.ensures.app c.loop-kind.invariant

pub returns : goal.returns
returns c = joins-past c.args.forms program kinds c.loop-kind.kind-index c.loop-kind.command c.loop-kind-test.false c.loop-kind.invariant
