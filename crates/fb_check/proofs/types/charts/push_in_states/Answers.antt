use Rattle.fb_check.specs.types.Unknowns.{unknown_in_state}
use Rattle.fb_check_names.proofs.lemmas.Listing.{each_done, each_more}
use Rattle.fb_check.proofs.types.charts.push_in_states.Goals as goal

pub loop-state-preserved : goal.loop-state-preserved
loop-state-preserved c =
    each_more (unknown_in_state c.args.scope.now c.args.block) c.args.states.now c.loop-state.state c.index-states-state.result c.loop-state.found.items c.push_in_state.new.found.items _
    c.loop-state-test.true c.index-states-state.is c.in_ok-push_in_state.ensures c.loop-state.invariant

pub returns : goal.returns
returns c = each_done (unknown_in_state c.args.scope.now c.args.block) c.args.states.now c.loop-state.state c.loop-state.found.items _ c.loop-state-test.false c.loop-state.invariant
