use Rattle.fb_types.proofs.Common.{◌≡◌, drop, list_any}
use Rattle.fb_lint.specs.Networks.{has_inside}
use Rattle.fb_lint.proofs.networks.is_inside.Given as goal

abbrev pub invariant-loop-block : goal.invariant-loop-block
invariant-loop-block l = list_any (has_inside l.name) l.blocks ≡ list_any (has_inside l.name) (drop l.block-index l.blocks)
