use Rattle.std.proofs.Common.{rules}
use Rattle.fb_deploy_positions.specs.Values.{items_of}
use Rattle.fb_deploy_positions.proofs.reading.table_heading.Goals as goal

pub invariant_of-statement-clause-parts : goal.invariant_of-statement-clause-parts
unfolding items_of
invariant_of-statement-clause-parts c = search rules
