use Rattle.std.proofs.Common.{arith}
use Rattle.fb_read.proofs.lemmas.rules.Counts.{variables-count}
use Rattle.fb_read.proofs.ports.numbered_variables.Goals as goal

pub new-requires : goal.new-requires
new-requires c = omega (arith, variables-count c.args.begin c.in_ok-found.found c.args.cursor.now _ c.in_ok-found.ensures, c.bound.ensures)
