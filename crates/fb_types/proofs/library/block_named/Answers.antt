use Rattle.fb_types.proofs.Common.{sym, ◌∙◌, ap, find, at_drop_all, type_name, same_name, BlockType}
use Rattle.fb_types.proofs.lemmas.lists.LoopSteps.{found_here, found_later}
use Rattle.fb_types.proofs.library.block_named.Goals as goal

pub returns-then-is : goal.returns-then-is
returns-then-is c =
    found_here (λ (x : BlockType). same_name (type_name x) c.args.name.now) _ _ _ c.loop-block-test.true c.block-item.is c.loop-block.invariant
    (ap (λ n. same_name n c.args.name.now) (sym c.type_name.ensures) ∙ sym c.is.ensures ∙ c.if-is.true)

pub loop-block-preserved : goal.loop-block-preserved
loop-block-preserved c =
    found_later (λ (x : BlockType). same_name (type_name x) c.args.name.now) _ _ _ c.loop-block-test.true c.block-item.is c.loop-block.invariant
    (ap (λ n. same_name n c.args.name.now) (sym c.type_name.ensures) ∙ sym c.is.ensures ∙ c.if-is.false)

pub returns : goal.returns
returns c =
    sym (c.loop-block.invariant ∙ at_drop_all (find (λ (x : BlockType). same_name (type_name x) c.args.name.now)) c.args.blocks.now c.loop-block.block-index c.loop-block-test.false)
