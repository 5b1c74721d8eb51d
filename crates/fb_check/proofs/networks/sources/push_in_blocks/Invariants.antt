use Rattle.fb_check.proofs.lemmas.Common.{◌≡◌, ◌++◌, drop, each_at, each_from, inside_of, two_sources_in}
use Rattle.fb_check.proofs.networks.sources.push_in_blocks.Given as goal

abbrev pub invariant-loop-block : goal.invariant-loop-block
invariant-loop-block l = l.found.items ++ each_from (inside_of two_sources_in) l.block (drop l.block l.blocks) ≡ l.fn.found.items ++ each_at (inside_of two_sources_in) l.blocks
