use Rattle.std.proofs.Common.{rules}
use Rattle.toml.specs.Parse.{header_key}
use Rattle.fb_deploy_positions.proofs.keys.header_key.Goals as goal

pub returns-in_default-clause-value : goal.returns-in_default-clause-value
unfolding header_key
returns-in_default-clause-value c = search rules

pub returns-then-first-ne93-clause-value : goal.returns-then-first-ne93-clause-value
unfolding header_key
returns-then-first-ne93-clause-value c = search rules

pub returns-clause-value : goal.returns-clause-value
unfolding header_key
returns-clause-value c = search rules
