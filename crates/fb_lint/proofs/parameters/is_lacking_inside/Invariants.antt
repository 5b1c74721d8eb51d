use Rattle.fb_types.proofs.Common.{◌≡◌, drop, list_any}
use Rattle.fb_lint.specs.Parameters.{lacks_inside}
use Rattle.fb_lint.proofs.parameters.is_lacking_inside.Given as goal

abbrev pub invariant-loop-block : goal.invariant-loop-block
invariant-loop-block l = list_any (lacks_inside l.of l.input) l.blocks ≡ list_any (lacks_inside l.of l.input) (drop l.block-index l.blocks)
