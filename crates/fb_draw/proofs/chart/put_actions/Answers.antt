use Rattle.fb_draw.specs.Charts as spec
use Rattle.fb_text.proofs.lemmas.Adding.{list_added, next_added}
use Rattle.fb_draw.proofs.chart.put_actions.Goals as goal

pub loop-action-preserved : goal.loop-action-preserved
loop-action-preserved c =
    next_added spec.action_text c.args.actions.now c.loop-action.action-index c.action-item.result c.loop-action.text.items _ _ c.loop-action-test.true c.action-item.is
    c.in_ok-put_action.ensures c.loop-action.invariant

pub returns : goal.returns
returns c = list_added spec.action_text c.args.actions.now c.loop-action.action-index _ _ c.loop-action-test.false c.loop-action.invariant
