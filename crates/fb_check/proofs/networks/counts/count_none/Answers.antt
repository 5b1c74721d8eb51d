use Rattle.fb_types.proofs.Common.{◌++◌, ◌∷◌, [], get_or, map, None, sym, ◌∙◌, ap, take_all}
use Rattle.fb_types.proofs.lemmas.lists.LoopSteps.{map_take_more}
use Rattle.fb_check_names.proofs.lemmas.twice.Repeating.{same_within}
use Rattle.fb_check.specs.networks.Counts.{no_count}
use Rattle.fb_check.proofs.networks.counts.count_none.Goals as goal

pub loop-block-preserved : goal.loop-block-preserved
loop-block-preserved c =
    let bs = c.args.blocks.now in
    let i = c.loop-block._block-index in
    c.in_ok-push.ensures.items ∙ (λ k. c.loop-block.invariant k ++ (0 ∷ []))
    ∙ sym (map_take_more no_count bs i (get_or bs i None) c.loop-block-test.true (same_within bs i None (get_or bs i None) c.loop-block-test.true))

pub returns : goal.returns
returns c = c.loop-block.invariant ∙ ap (map no_count) (take_all c.loop-block._block-index c.args.blocks.now c.loop-block-test.false)
