use Rattle.std.proofs.Common.{◌≡◌, ◌++◌, drop}
use Rattle.fb_coverage.specs.Reports as spec
use Rattle.fb_coverage.specs.Listed.{listed}
use Rattle.fb_coverage.proofs.block_report.put_blocks.Given as goal

-- with what the rest adds, all is there
abbrev pub invariant-loop-index : goal.invariant-loop-index
invariant-loop-index l = l.text.items ++ listed (spec.block_text l.marks) l.index (drop l.index l.blocks) ≡ l.fn.text.items ++ listed (spec.block_text l.marks) 0 l.blocks
