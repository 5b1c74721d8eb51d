use Rattle.fb_types.proofs.Common.{◌≡◌, map, take, system_of}
use Rattle.fb_coverage.specs.Openings.{part_row}
use Rattle.fb_coverage.proofs.opening.part_table.Given as goal

-- the rows of the first types
abbrev pub invariant-loop-block : goal.invariant-loop-block
invariant-loop-block l = l.table.rows ≡ map (part_row (system_of l.system) l.part) (take l.block-index l.system.library.blocks)
