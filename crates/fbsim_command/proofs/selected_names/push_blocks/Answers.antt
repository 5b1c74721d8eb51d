use Rattle.fb_types.proofs.Common.{◌++◌, ◌∙◌, List, ap, append-nil, map, sym, take_all}
use Rattle.fb_types.specs.declared.library.BlockType.{BlockType}
use Rattle.fbsim_command.specs.SelectedNames.{all_block_names}
use Rattle.fbsim_command.proofs.lemmas.names.KnownNames.{block-more, now}
use Rattle.fbsim_command.proofs.selected_names.push_blocks.Goals as goal

pub loop-block-init : goal.loop-block-init
loop-block-init c = sym (append-nil (map now c.args.names.now.items))

pub loop-block-preserved : goal.loop-block-preserved
loop-block-preserved c =
    block-more c.args.blocks.now c.loop-block.block-index c.block-item.result (map now c.args.names.now.items) (map now c.loop-block.names.items) (map now c.push_block.new.names.items) c.loop-block-test.true
    c.block-item.is c.in_ok-push_block.ensures c.loop-block.invariant

pub returns : goal.returns
returns c =
    c.loop-block.invariant ∙ ap (λ (ts : List BlockType). map now c.args.names.now.items ++ all_block_names ts) (take_all c.loop-block.block-index c.args.blocks.now c.loop-block-test.false)
