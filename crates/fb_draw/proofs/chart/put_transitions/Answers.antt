use Rattle.fb_draw.specs.Charts as spec
use Rattle.fb_text.proofs.lemmas.Adding.{list_added, next_added}
use Rattle.fb_draw.proofs.chart.put_transitions.Goals as goal

pub loop-transition-preserved : goal.loop-transition-preserved
loop-transition-preserved c =
    next_added spec.transition_edge c.args.transitions.now c.loop-transition.transition-index c.transition-item.result c.loop-transition.text.items _ _ c.loop-transition-test.true c.transition-item.is
    c.in_ok-put_transition.ensures c.loop-transition.invariant

pub returns : goal.returns
returns c = list_added spec.transition_edge c.args.transitions.now c.loop-transition.transition-index _ _ c.loop-transition-test.false c.loop-transition.invariant
