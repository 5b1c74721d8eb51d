use Rattle.std.proofs.Common.{rules, arith}
use Rattle.std.proofs.lemmas.Grind.{common_steps}
use Rattle.std.proofs.lemmas.Bool.Decides.{nat_tests}
use Rattle.toml.specs.Parse.{skip_bom}
use Rattle.toml.proofs.Turns.{bom_boundary}
use Rattle.fb_deploy_positions.proofs.reading.skip_bom.Goals as goal

pub range_from-requires : goal.range_from-requires
unfolding skip_bom
range_from-requires c _ = bom_boundary c.args.text.now c.utf8.text (grind (arith, nat_tests, common_steps))

pub returns-then-byte_at-eq191-clause-rest : goal.returns-then-byte_at-eq191-clause-rest
unfolding skip_bom
returns-then-byte_at-eq191-clause-rest c = search rules

pub returns-else-first-eq239-clause-rest : goal.returns-else-first-eq239-clause-rest
unfolding skip_bom
returns-else-first-eq239-clause-rest c = search rules
