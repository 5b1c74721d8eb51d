use Rattle.fb_types.proofs.Common.{◌≡◌, drop, list_any}
use Rattle.fb_lint.specs.Outputs.{reads_inside}
use Rattle.fb_lint.proofs.outputs.is_read_inside.Given as goal

abbrev pub invariant-loop-block : goal.invariant-loop-block
invariant-loop-block l = list_any (reads_inside l.of l.output) l.blocks ≡ list_any (reads_inside l.of l.output) (drop l.block-index l.blocks)
