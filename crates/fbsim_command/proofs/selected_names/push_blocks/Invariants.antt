use Rattle.std.proofs.Common.{◌≡◌, ◌++◌, map, take}
use Rattle.fbsim_command.specs.SelectedNames.{all_block_names}
use Rattle.fbsim_command.proofs.selected_names.push_blocks.Given as goal

abbrev pub invariant-loop-block : goal.invariant-loop-block
invariant-loop-block l = map (λ n. n.now) l.names.items ≡ map (λ n. n.now) l.fn.names.items ++ all_block_names (take l.block-index l.blocks)
