use Rattle.fb_check.proofs.lemmas.Common.{is_guard_right, kind_wrong_guard}
use Rattle.fb_check_names.specs.declared.location.KindWrongAt.TheVariants as kind_wrong
use Rattle.fb_check_names.proofs.lemmas.Listing.{added_unless, each_done, each_more}
use Rattle.fb_check.proofs.types.kinds_wrong.push_guards.Goals as goal

pub loop-transition-preserved : goal.loop-transition-preserved
loop-transition-preserved c =
    each_more (kind_wrong_guard c.args.scope.now c.args.block) c.args.transitions.now c.loop-transition.transition c.index-transitions-transition.result c.loop-transition.found.items c.push_unless.new.found.items _
    c.loop-transition-test.true c.index-transitions-transition.is (added_unless c.loop-transition.found.items c.push_unless.new.found.items c.is_guard_right-is_right.result (is_guard_right c.args.scope.now c.index-transitions-transition.result) (kind_wrong.Guard c.args.block c.loop-transition.transition) c.is_guard_right-is_right.ensures c.in_ok-push_unless.ensures) c.loop-transition.invariant

pub returns : goal.returns
returns c = each_done (kind_wrong_guard c.args.scope.now c.args.block) c.args.transitions.now c.loop-transition.transition c.loop-transition.found.items _ c.loop-transition-test.false c.loop-transition.invariant
