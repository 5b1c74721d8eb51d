use Rattle.fb_system.proofs.lemmas.Common.{length, refl, sym, subst, arith, slice_get_read, Ports, AreWithIndexes}
use Rattle.fb_check_names.specs.declared.catalog.BlockIndexes.{BlockIndexes}
use Rattle.fb_system.specs.Lookups.{IsIndexed}
use Rattle.fb_system.proofs.lemmas.types.BlockNames.{blocks_more}
use Rattle.fb_system.proofs.interfaces.of_blocks.Goals as goal

pub with_indexes-requires : goal.with_indexes-requires
with_indexes-requires c =
    let block = c.index-blocks-index.result in
    let names = c.index-names-index.result in
    let is =
    c.requires.each c.loop-index.index block names
    (slice_get_read c.args.blocks.now (length c.args.blocks.now) _ block refl c.loop-index-test.true c.index-blocks-index.is)
    (slice_get_read c.args.names.now (length c.args.names.now) _ names refl (omega (arith, c.requires.counted, c.loop-index-test.true)) c.index-names-index.is) in
    subst (λ (x : BlockIndexes). IsIndexed c.ports.result.now x.ports) c.index-names-index.is
    (subst (λ (p : Ports). IsIndexed p names.ports) (sym c.ports.ensures) is)

pub loop-index-preserved : goal.loop-index-preserved
loop-index-preserved c =
    let block = c.index-blocks-index.result in
    blocks_more c.loop-index.index c.args.blocks.now _ _ block c.in_ok-with_indexes.field-0
    (slice_get_read c.args.blocks.now (length c.args.blocks.now) _ block refl c.loop-index-test.true c.index-blocks-index.is)
    (subst (λ (p : Ports). AreWithIndexes p c.in_ok-with_indexes.field-0) c.ports.ensures c.in_ok-with_indexes.ensures) c.loop-index.invariant c.in_ok-push.ensures.ok
