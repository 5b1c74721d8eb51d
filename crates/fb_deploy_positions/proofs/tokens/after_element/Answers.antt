use Rattle.std.proofs.Common.{rules}
use Rattle.toml.specs.Parse.{after_element}
use Rattle.fb_deploy_positions.proofs.tokens.after_element.Goals as goal

pub returns-then-next-eq44-clause-value : goal.returns-then-next-eq44-clause-value
unfolding after_element
returns-then-next-eq44-clause-value c = search rules

pub returns-then-next-closing-clause-value : goal.returns-then-next-closing-clause-value
unfolding after_element
returns-then-next-closing-clause-value c = search rules

pub returns-else-next-closing-clause-value : goal.returns-else-next-closing-clause-value
unfolding after_element
returns-else-next-closing-clause-value c = search rules
