use Rattle.fb_net.proofs.lemmas.Common.{length, subst, List, Bound, system_of, Changes, outputs_shown}
use Rattle.fb_types.proofs.Common.{length_push}
use Rattle.std.proofs.lemmas.Slice.Zip.{zip_turn, zip_end}
use Rattle.fb_net.proofs.lemmas.emitting.Publishing.{all-outputs, nothing_shown, one_more_shown}
use Rattle.fb_net.proofs.lemmas.blocks.BlocksKept.{stands-changed}
use Rattle.fb_net.proofs.taking.emit.publish_all.Goals as goal

pub loop-index-init : goal.loop-index-init
loop-index-init c = nothing_shown c.args.system.now c.args.instance c.args.forest.now

pub loop-index-preserved : goal.loop-index-preserved
loop-index-preserved c =
    let turn = zip_turn c.args.indexes.now c.args.values.now c.loop-index.yielded c.into_iter-index-iterator.result c.loop-index.index-iterator c.next.new.self c.next.result (cc) (cc) c.loop-index.yielded_by (c.in-Some.index, c.in-Some.value) c.in-Some.is c.next.ensures.steps in
    rw (length_push c.loop-index.yielded (c.in-Some.index, c.in-Some.value))
    (one_more_shown c.args.system.now c.args.instance c.args.forest.now c.loop-index.forest c.publish.new.self (length c.loop-index.yielded) c.in-Some.index.now
    c.args.indexes.now c.args.values.now c.in-Some.value.now c.loop-index.invariant turn.0 turn.1 (turn.2 0) (turn.3 c.in-Some.value.now) c.publish.ensures)

pub returns : goal.returns
returns c =
    let end = zip_end c.args.indexes.now c.args.values.now c.loop-index.yielded c.into_iter-index-iterator.result c.loop-index.index-iterator c.next.new.self c.next.result (cc) (cc) c.loop-index.yielded_by c.in-None.is c.next.ensures.steps in
    subst (λ (bs : List Bound). Changes c.args.system.now c.args.forest.now c.args.instance (outputs_shown bs) c.loop-index.forest)
    (all-outputs (system_of c.args.system.now) c.args.instance (length c.loop-index.yielded) c.args.indexes.now c.args.values.now end) c.loop-index.invariant

pub publish-requires-clause-stands : goal.publish-requires-clause-stands
publish-requires-clause-stands c = stands-changed c.args.system.now c.args.forest.now c.loop-index.forest c.args.instance _ c.requires.stands c.loop-index.invariant
