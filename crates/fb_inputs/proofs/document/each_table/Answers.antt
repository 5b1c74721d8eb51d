use Rattle.fb_inputs.proofs.lemmas.Common.{◌≡◌, ◌+◌, length, map, drop, Err, arith, err_from_is_err_and, of_table, location_of, shape_in, placed, DeployLocation}
use Rattle.fb_types.proofs.Common.{IfSome, length-map, length-drop}
use Rattle.toml.specs.View.{view}
use Rattle.fb_inputs.proofs.lemmas.Each.{nothing_before, more_in, fails_in, done_in}
use Rattle.fb_inputs.proofs.lemmas.deployments.TableResults.{if-some, placed-ok, placed-err}
use Rattle.fb_inputs.proofs.lemmas.deployments.DocumentValues.{next_view}
use Rattle.fb_inputs.proofs.document.each_table.Goals as goal

pub loop-value-init : goal.loop-value-init
loop-value-init g c = rw c.new-found.ensures (nothing_before _)

pub returns-in_err-entry : goal.returns-in_err-entry
returns-in_err-entry g c =
    let next = next_view c.args.values.now c.loop-value.value-index c.value-item.result c.loop-value-test.true c.value-item.is in
    let p = err_from_is_err_and c.from_residual.result c.from_residual.ensures.1 in
    let k = c.args.key in
    let n = length c.loop-value.found in
    let f = c.in_err-entry.field-0.0 in
    let failed : IfSome (location_of f) (λ q. placed (shape_in k n) (of_table g.T.Entry.meaning (view c.value-item.result)) ≡ Err q) =
    placed-err k n (of_table g.T.Entry.meaning (view c.value-item.result)) c.read_entry.result c.placed.result f c.read_entry.ensures (rw c.len.ensures at c.placed.ensures) c.in_err-entry.was in
    rw (p.1, p.2) (if-some (location_of f) _ _
    (λ (q : DeployLocation) e. fails_in (shape_in k) (of_table g.T.Entry.meaning) c.loop-value.found (view c.value-item.result) (map view (drop (c.loop-value.value-index + 1) c.args.values.now)) _ q _ next e c.loop-value.invariant)
    failed)

pub loop-value-preserved : goal.loop-value-preserved
loop-value-preserved g c =
    let next = next_view c.args.values.now c.loop-value.value-index c.value-item.result c.loop-value-test.true c.value-item.is in
    let k = c.args.key in
    let n = length c.loop-value.found in
    rw c.in_ok-push.ensures.ok (more_in (shape_in k) (of_table g.T.Entry.meaning) c.loop-value.found (view c.value-item.result) (map view (drop (c.loop-value.value-index + 1) c.args.values.now)) _ _ _ next
    (placed-ok k n (of_table g.T.Entry.meaning (view c.value-item.result)) c.read_entry.result c.placed.result c.in_ok-entry.entry c.read_entry.ensures (rw c.len.ensures at c.placed.ensures) c.in_ok-entry.was)
    c.loop-value.invariant)

pub returns : goal.returns
returns g c =
    done_in (shape_in c.args.key) (of_table g.T.Entry.meaning) c.loop-value.found (map view (drop c.loop-value.value-index c.args.values.now)) _
    (omega (arith, length-map (drop c.loop-value.value-index c.args.values.now) view, length-drop c.loop-value.value-index c.args.values.now)) c.loop-value.invariant
