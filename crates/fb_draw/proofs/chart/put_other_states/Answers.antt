use Rattle.std.specs.Prelude.{[]}
use Rattle.fb_draw.specs.Charts as spec
use Rattle.fb_text.proofs.lemmas.Adding.{list_added, next_added}
use Rattle.fb_draw.proofs.chart.put_other_states.Goals as goal

pub loop-state-preserved : goal.loop-state-preserved
loop-state-preserved c =
    next_added (spec.state_node []) c.args.states.now c.loop-state.state-index c.state-item.result c.loop-state.text.items _ _ c.loop-state-test.true c.state-item.is
    c.in_ok-put_state.ensures c.loop-state.invariant

pub returns : goal.returns
returns c = list_added (spec.state_node []) c.args.states.now c.loop-state.state-index _ _ c.loop-state-test.false c.loop-state.invariant
