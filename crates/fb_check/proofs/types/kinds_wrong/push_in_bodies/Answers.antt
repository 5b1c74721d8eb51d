use Rattle.fb_check.specs.types.KindWrongLists.{kinds_wrong_in_body}
use Rattle.fb_check_names.proofs.lemmas.Listing.{each_done, each_more}
use Rattle.fb_check.proofs.types.kinds_wrong.push_in_bodies.Goals as goal

pub loop-algorithm-preserved : goal.loop-algorithm-preserved
loop-algorithm-preserved c =
    each_more (kinds_wrong_in_body c.args.scope.now c.args.block) c.args.algorithms.now c.loop-algorithm.algorithm c.index-algorithms-algorithm.result c.loop-algorithm.found.items c.push_in_body.new.found.items _
    c.loop-algorithm-test.true c.index-algorithms-algorithm.is c.in_ok-push_in_body.ensures c.loop-algorithm.invariant

pub returns : goal.returns
returns c = each_done (kinds_wrong_in_body c.args.scope.now c.args.block) c.args.algorithms.now c.loop-algorithm.algorithm c.loop-algorithm.found.items _ c.loop-algorithm-test.false c.loop-algorithm.invariant
