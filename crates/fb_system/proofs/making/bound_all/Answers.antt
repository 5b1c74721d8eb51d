use Rattle.fb_types.proofs.Common.{rules, subst, ports_of, IsNarrow, kind_of}
use Rattle.fb_types.specs.declared.library.BlockType.{BlockType}
use Rattle.fb_types.specs.declared.library.Ports.{Ports}
use Rattle.fb_types.proofs.lemmas.lists.LoopSteps.{all_next, all_of_taken}
use Rattle.fb_system.proofs.making.bound_all.Goals as goal

pub loop-block-preserved : goal.loop-block-preserved
loop-block-preserved c =
    all_next (λ (t : BlockType). IsNarrow (ports_of (kind_of t))) _ _ _ c.loop-block-test.true c.block-item.is c.loop-block.invariant
    (subst (λ (p : Ports). IsNarrow p) c.ports-ports.ensures (search rules))

pub returns : goal.returns
returns c = all_of_taken (λ (t : BlockType). IsNarrow (ports_of (kind_of t))) _ _ c.loop-block-test.false c.loop-block.invariant
