use Rattle.std.proofs.Common.{rules}
use Rattle.fb_deploy_positions.specs.Entries.{key_len}
use Rattle.fb_deploy_positions.proofs.keys.key_len.Goals as goal

pub returns-in_default-clause-value : goal.returns-in_default-clause-value
unfolding key_len
returns-in_default-clause-value c = search rules

pub returns-clause-value : goal.returns-clause-value
unfolding key_len
returns-clause-value c = search rules
