use Rattle.std.proofs.Common.{◌∙◌, sym}
use Rattle.fb_system.proofs.lemmas.types.EventBlocks.{indexes_skip, indexes_take}
use Rattle.fb_system.proofs.event_block_with_indexes.indexes_with.Goals as goal
use Rattle.fb_system.proofs.event_block_with_indexes.indexes_with.Goals.{then-is_with+in_ok-push, else-is_with}

pub loop-index-preserved : goal.loop-index-preserved
loop-index-preserved c =
    elim c.if-is_with.branch [
      | then-is_with+in_ok-push w ↦
          indexes_take c.args.events.now _ c.args.event.now _ _ _ _ c.loop-index-test.true c.index-variables-index.is (sym c.is_with.ensures ∙ w.if-is_with.true)
          (w.indexes-is ∙ w.in_ok-push.ensures.ok) c.loop-index.invariant
      | else-is_with w ↦
          rw w.indexes-is (indexes_skip c.args.events.now _ c.args.event.now _ _ _ c.loop-index-test.true c.index-variables-index.is (sym c.is_with.ensures ∙ w.if-is_with.false) c.loop-index.invariant)
    ]
