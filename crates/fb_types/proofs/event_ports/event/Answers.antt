use Rattle.fb_types.proofs.Common.{◌∙◌, Bor, ap, map, take_all, Name}
use Rattle.fb_types.specs.Blocks.{event_with}
use Rattle.fb_types.proofs.lemmas.lists.LoopSteps.{mapped_next}
use Rattle.fb_types.proofs.event_ports.event.Goals as goal

pub loop-variable-preserved : goal.loop-variable-preserved
loop-variable-preserved c =
    mapped_next (λ (v : Bor Name). v.now) _ _ _ _ _ _ c.loop-variable-test.true c.in_ok-from_text.ensures c.loop-variable.invariant
    c.in_ok-push.ensures.ok

pub returns : goal.returns
returns c =
    let names = c.loop-variable.invariant ∙ ap (map (λ (v : Bor Name). v.now)) (take_all c.loop-variable.variable-index c.args.with.now c.loop-variable-test.false) in
    λ i. event_with (c.in_ok-name.ensures i) (names i)
