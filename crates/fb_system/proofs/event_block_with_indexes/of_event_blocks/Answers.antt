use Rattle.std.proofs.Common.{◌≡◌, ℕ, subst, arith}
use Rattle.fb_system.proofs.lemmas.types.EventBlocks.{AreFirst, first_next, first_all}
use Rattle.fb_system.proofs.event_block_with_indexes.of_event_blocks.Goals as goal

pub loop-kind-preserved : goal.loop-kind-preserved
loop-kind-preserved c =
    first_next _ _ _ _ c.loop-kind-test.true c.in_ok-of_kind.ensures c.loop-kind.invariant c.in_ok-push.ensures.ok

pub returns : goal.returns
returns c =
    let all : c.loop-kind.kind-index ≡ 14 = omega arith in
    first_all _ (subst (λ (n : ℕ). AreFirst n c.loop-kind.all) all c.loop-kind.invariant)
