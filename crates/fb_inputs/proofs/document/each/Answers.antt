use Rattle.fb_types.proofs.Common.{◌+◌, map, drop, arith, length-map, length-drop, err_from_is_err_and}
use Rattle.toml.specs.View.{view}
use Rattle.fb_inputs.specs.DeployLocations.{element_at, fault_of}
use Rattle.fb_inputs.specs.declared.deploy_location.TableFault.{TableFault}
use Rattle.fb_inputs.proofs.lemmas.Each.{nothing_before, more_at, fails_at, not_refused, done_at}
use Rattle.fb_inputs.proofs.lemmas.deployments.TableResults.{if-some}
use Rattle.fb_inputs.proofs.lemmas.deployments.DocumentValues.{next_view}
use Rattle.fb_inputs.proofs.document.each.Goals as goal

pub loop-value-init : goal.loop-value-init
loop-value-init g c = rw c.new-found.ensures (nothing_before _)

pub returns-in_err-piece : goal.returns-in_err-piece
returns-in_err-piece g c =
    let next = next_view c.args.values.now c.loop-value.value-index c.value-item.result c.loop-value-test.true c.value-item.is in
    let p = err_from_is_err_and c.from_residual.result c.from_residual.ensures.1 in
    let f = c.in_err-piece.field-0.0 in
    rw (p.1, p.2) (if-some (fault_of f) _ _
    (λ (why : TableFault) e. fails_at (element_at c.args.key) g.T.Piece.meaning c.loop-value.found (view c.value-item.result) (map view (drop (c.loop-value.value-index + 1) c.args.values.now)) _ why _ next e c.loop-value.invariant)
    (rw c.len.ensures at c.in_err-piece.ensures))

pub loop-value-preserved : goal.loop-value-preserved
loop-value-preserved g c =
    let next = next_view c.args.values.now c.loop-value.value-index c.value-item.result c.loop-value-test.true c.value-item.is in
    rw c.in_ok-push.ensures.ok (more_at (element_at c.args.key) g.T.Piece.meaning c.loop-value.found (view c.value-item.result) (map view (drop (c.loop-value.value-index + 1) c.args.values.now)) _ _ _ next
    (not_refused _ _ _ (rw c.len.ensures at c.in_ok-piece.ensures)) c.loop-value.invariant)

pub returns : goal.returns
returns g c =
    done_at (element_at c.args.key) g.T.Piece.meaning c.loop-value.found (map view (drop c.loop-value.value-index c.args.values.now)) _
    (omega (arith, length-map (drop c.loop-value.value-index c.args.values.now) view, length-drop c.loop-value.value-index c.args.values.now)) c.loop-value.invariant
