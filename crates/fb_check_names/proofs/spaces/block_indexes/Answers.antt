use Rattle.fb_types.proofs.Common.{sym, subst, IfOk}
use Rattle.fb_types.specs.declared.library.BlockType.{BlockType}
use Rattle.fb_check_names.specs.Catalog.{IsBlock}
use Rattle.fb_check_names.specs.GivenTwice.{BlockTwice}
use Rattle.fb_check_names.proofs.spaces.block_indexes.Goals as goal

pub returns-in-Basic-clause-indexes : goal.returns-in-Basic-clause-indexes
returns-in-Basic-clause-indexes c =
    subst (λ (t : BlockType). IfOk c.basic_indexes.result (λ x. ¬ (BlockTwice t) → IsBlock t x)) (sym c.in-Basic.is) c.basic_indexes.ensures.indexes

pub returns-in-Composite-clause-indexes : goal.returns-in-Composite-clause-indexes
returns-in-Composite-clause-indexes c =
    subst (λ (t : BlockType). IfOk c.composite_indexes.result (λ x. ¬ (BlockTwice t) → IsBlock t x)) (sym c.in-Composite.is) c.composite_indexes.ensures.indexes
