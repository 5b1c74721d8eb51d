use Rattle.fb_types.proofs.Common.{◌≡◌, drop, find, type_name, same_name}
use Rattle.fb_types.proofs.library.block_named.Given as goal

abbrev pub invariant-loop-block : goal.invariant-loop-block
invariant-loop-block l = find (λ x. same_name (type_name x) l.name) l.blocks ≡ find (λ x. same_name (type_name x) l.name) (drop l.block-index l.blocks)
