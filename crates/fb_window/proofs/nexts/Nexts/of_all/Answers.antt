use Rattle.fb_types.proofs.Common.{◌≡◌, Some, slice_get, refl, arith, slice_get_read}
use Rattle.fb_window.proofs.lemmas.bounds.NextTicks.{current_all, current_more, current_none}
use Rattle.fb_window.proofs.nexts.Nexts.of_all.Goals as goal

pub loop-resource-init : goal.loop-resource-init
loop-resource-init c = current_none c.args.horizon c.args.resources.now c.in_ok-ticks.ticks.items c.in_ok-ticks.ensures.items

pub loop-resource-preserved : goal.loop-resource-preserved
loop-resource-preserved c =
    let xs = c.args.resources.now in
    let i = c.loop-resource.resource-index in
    let x = c.resource-item.result in
    let at : slice_get xs i ≡ Some x = slice_get_read xs _ i x refl c.loop-resource-test.true c.resource-item.is in
    current_more c.args.horizon xs i c.loop-resource.ticks.items c.push.new.self.items x c.next_of.result c.loop-resource.invariant at c.next_of.ensures c.in_ok-push.ensures.items

pub returns-clause-current : goal.returns-clause-current
returns-clause-current c = current_all c.args.horizon c.args.resources.now c.loop-resource.resource-index c.loop-resource.ticks.items c.loop-resource.invariant (omega (arith, c.loop-resource-test.false))
