use Rattle.fb_check.specs.types.Unknowns.{unknown_in_transition}
use Rattle.fb_check_names.proofs.lemmas.Listing.{each_done, each_more}
use Rattle.fb_check.proofs.lemmas.types.GrowingLists.{both_added}
use Rattle.fb_check.proofs.types.basics.push_in_transitions.Goals as goal

pub loop-transition-preserved : goal.loop-transition-preserved
loop-transition-preserved c =
    each_more (unknown_in_transition c.args.scope.now c.args.block) c.args.transitions.now c.loop-transition.transition c.index-transitions-transition.result c.loop-transition.found.items c.push_in_guard.new.found.items _
    c.loop-transition-test.true c.index-transitions-transition.is
    (both_added c.loop-transition.found.items c.push_names.new.found.items c.push_in_guard.new.found.items _ _ c.in_ok-push_names.ensures c.in_ok-push_in_guard.ensures)
    c.loop-transition.invariant

pub returns : goal.returns
returns c = each_done (unknown_in_transition c.args.scope.now c.args.block) c.args.transitions.now c.loop-transition.transition c.loop-transition.found.items _ c.loop-transition-test.false c.loop-transition.invariant
