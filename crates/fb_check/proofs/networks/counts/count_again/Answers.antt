use Rattle.fb_types.proofs.Common.{◌++◌, ◌∷◌, [], map, sym, ◌∙◌, ap, take_all}
use Rattle.fb_types.proofs.lemmas.lists.LoopSteps.{map_take_more}
use Rattle.fb_check.specs.networks.Counts.{count_inside}
use Rattle.fb_check.proofs.networks.counts.count_again.Goals as goal

pub loop-numbers-preserved : goal.loop-numbers-preserved
loop-numbers-preserved c =
    c.in_ok-push.ensures.items ∙ (λ i. c.loop-numbers.invariant i ++ (c.count_inside.ensures i ∷ []))
    ∙ sym (map_take_more (count_inside c.args.counts.now) c.args.blocks.now c.loop-numbers.numbers-index c.numbers-item.result c.loop-numbers-test.true c.numbers-item.is)

pub returns : goal.returns
returns c = c.loop-numbers.invariant ∙ ap (map (count_inside c.args.counts.now)) (take_all c.loop-numbers.numbers-index c.args.blocks.now c.loop-numbers-test.false)
