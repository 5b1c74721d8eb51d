use Rattle.std.proofs.Common.{◌≡◌, ◌++◌, drop}
use Rattle.fb_check_names.specs.TwiceLists.{event_block_at}
use Rattle.fb_check_names.specs.Listed.{each_at, each_from}
use Rattle.fb_check_names.proofs.spaces.push_event_blocks.Given as goal

abbrev pub invariant-loop-block : goal.invariant-loop-block
invariant-loop-block l = l.found.items ++ each_from event_block_at l.block (drop l.block l.blocks) ≡ l.fn.found.items ++ each_at event_block_at l.blocks
