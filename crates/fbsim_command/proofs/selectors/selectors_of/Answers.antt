use Rattle.std.proofs.Common.{◌∙◌, sym}
use Rattle.fbsim_command.proofs.lemmas.Selected.{unknown-at}
use Rattle.fbsim_command.proofs.selectors.selectors_of.Goals as goal

pub returns-in-None-clause-unknown : goal.returns-in-None-clause-unknown
returns-in-None-clause-unknown c =
    unknown-at c.args.texts.now c.loop-text.text-index _ c.unknown.result c.loop-text-test.true (sym c.in-None.is ∙ c.in_ok-selector.ensures) c.unknown.ensures
