use Rattle.fb_check.proofs.lemmas.Common.{declared_right, kind_wrong_initial}
use Rattle.fb_check_names.specs.declared.location.KindWrongAt.TheVariants as kind_wrong
use Rattle.fb_check_names.proofs.lemmas.Listing.{added_unless, each_done, each_more}
use Rattle.fb_check.proofs.types.kinds_wrong.push_variables.Goals as goal

pub loop-variable-preserved : goal.loop-variable-preserved
loop-variable-preserved c =
    each_more (kind_wrong_initial c.args.block c.args.list) c.args.variables.now c.loop-variable.variable c.index-variables-variable.result c.loop-variable.found.items c.push_unless.new.found.items _
    c.loop-variable-test.true c.index-variables-variable.is (added_unless c.loop-variable.found.items c.push_unless.new.found.items c.is_declared_right.result (declared_right c.index-variables-variable.result) (kind_wrong.Initial c.args.block c.args.list c.loop-variable.variable) c.is_declared_right.ensures c.in_ok-push_unless.ensures) c.loop-variable.invariant

pub returns : goal.returns
returns c = each_done (kind_wrong_initial c.args.block c.args.list) c.args.variables.now c.loop-variable.variable c.loop-variable.found.items _ c.loop-variable-test.false c.loop-variable.invariant
