use Rattle.fb_lint.proofs.lemmas.Common.{◌≡◌, ◌++◌, drop, each_from}
use Rattle.fb_lint.specs.Warnings as spec
use Rattle.fb_lint.proofs.lint.push_of_blocks.Given as goal

-- with what is found in the rest, all is there
abbrev pub invariant-loop-block : goal.invariant-loop-block
invariant-loop-block l =
    l.all.items ++ each_from (spec.of_block l.types.library.now) l.block (drop l.block l.blocks) ≡ l.fn.all.items ++ each_from (spec.of_block l.types.library.now) 0 l.blocks
