use Rattle.fb_types.proofs.Common.{◌++◌, ◌∷◌, [], map, sym, ◌∙◌, ap, is_some, take_all}
use Rattle.fb_types.proofs.lemmas.lists.LoopSteps.{map_take_more}
use Rattle.fb_check.specs.networks.Heights.{holds_marked}
use Rattle.fb_check.proofs.networks.heights.mark_again.Goals as goal

pub loop-numbers-preserved : goal.loop-numbers-preserved
loop-numbers-preserved c =
    c.in_ok-push.ensures.items ∙ (λ i. c.loop-numbers.invariant i ++ ((c.is_some.ensures ∙ ap is_some c.first_marked_component.ensures) i ∷ []))
    ∙ sym (map_take_more (holds_marked c.args.marks.now) c.args.blocks.now c.loop-numbers.numbers-index c.numbers-item.result c.loop-numbers-test.true c.numbers-item.is)

pub returns : goal.returns
returns c = c.loop-numbers.invariant ∙ ap (map (holds_marked c.args.marks.now)) (take_all c.loop-numbers.numbers-index c.args.blocks.now c.loop-numbers-test.false)
