use Rattle.fb_check.proofs.lemmas.Common.{◌≡◌, ◌++◌, unless, required_action, unknown_in_action}
use Rattle.fb_check_names.specs.declared.location.ActionPart.TheVariants.{Algorithm, Output}
use Rattle.fb_check_names.specs.declared.location.UnknownName.TheVariants as location
use Rattle.fb_check_names.proofs.lemmas.Listing.{each_done_of, each_more}
use Rattle.fb_check.proofs.lemmas.types.GrowingLists.{and_added, of_ok}
use Rattle.fb_check.proofs.lemmas.types.RequiredNames.{unmet_is}
use Rattle.fb_check.proofs.types.charts.push_in_state.Goals as goal

pub loop-action-preserved : goal.loop-action-preserved
loop-action-preserved c =
    let t = c.args.scope.now in
    let k = c.loop-action.action in
    let a = c.index-actions-action.result in
    let at = location.Action c.args.block c.args.state k in
    let f0 = c.loop-action.found.items in
    let f1 = c.push_unless.new.found.items in
    let f2 = c.push_unless-in-loop-action.new.found.items in
    let algorithm = unmet_is (required_action t a Algorithm) c.is_algorithm.result (at Algorithm) c.is_algorithm.ensures in
    let output = unmet_is (required_action t a Output) c.is_event-is_known.result (at Output) c.is_event-is_known.ensures in
    let listed = of_ok (f2 ≡ f0 ++ unknown_in_action t c.args.block c.args.state k a) c.and.result _ c.in_ok-and.was
    (and_added c.and.result c.push_unless.result c.push_unless-in-loop-action.result f0 f1 f2
    (unless c.is_algorithm.result (at Algorithm)) (unless c.is_event-is_known.result (at Output)) _ (λ i. algorithm i ++ output i)
    c.and.ensures c.push_unless.ensures c.push_unless-in-loop-action.ensures) in
    each_more (unknown_in_action t c.args.block c.args.state) c.as_slice-actions.result.now k a f0 f2 _
    c.loop-action-test.true c.index-actions-action.is listed c.loop-action.invariant

pub returns : goal.returns
returns c = each_done_of (unknown_in_action c.args.scope.now c.args.block c.args.state) c.as_slice-actions.result.now c.args.declared.now.actions c.loop-action.action c.args.found.now.items c.loop-action.found.items c.as_slice-actions.ensures c.loop-action-test.false c.loop-action.invariant
