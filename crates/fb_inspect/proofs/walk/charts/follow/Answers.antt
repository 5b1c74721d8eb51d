use Rattle.fb_inspect.proofs.lemmas.Common.{None, Some, subst, option_map, event_at, Position, ShowsChain, place, ChartFails}
use Rattle.fb_inspect.specs.walk.Charting.{HasLinked}
use Rattle.fb_inspect.specs.declared.walk.charts.Linked.{Linked}
use Rattle.fb_inspect.proofs.lemmas.reactions.Charted.{step_ends, step_none, step_then}
use Rattle.fb_inspect.proofs.lemmas.reactions.ChartFailing.{fails_after}
use Rattle.fb_inspect.proofs.lemmas.results.Refused.{err_passed}
use Rattle.fb_inspect.proofs.lemmas.results.Joined.{ok_passed}
use Rattle.fb_inspect.proofs.walk.charts.follow.Goals as goal

pub loop-reason-init : goal.loop-reason-init
loop-reason-init g c =
    let x = c.args.taking.now in
    let t = x.block.now in
    record {
      chart = c.requires.chart;
      present = c.requires.taking.event;
      next = c.requires.next;
      came = step_none x (ShowsChain t (Some (event_at t.ports.event_inputs x.line.now.event))) (place t c.args.chart.now c.args.meter.now.left) c.args.trail.now
          (g.R.Read.remaining c.args.input.now);
    }

pub returns-in-Rested-clause-shown : goal.returns-in-Rested-clause-shown
returns-in-Rested-clause-shown g c =
    let x = c.args.taking.now in
    let t = x.block.now in
    let present = option_map (event_at t.ports.event_inputs) c.loop-reason.present in
    let p : Position = place t c.args.chart.now c.args.meter.now.left in
    let m : Position = place t c.loop-reason.chart c.loop-reason.meter.left in
    let q : Position = place t c.link.new.chart c.link.new.meter.left in
    let middle = g.R.Read.remaining c.loop-reason.input in
    let after = g.R.Read.remaining c.link.new.input in
    step_ends x (ShowsChain t (Some (event_at t.ports.event_inputs x.line.now.event))) (ShowsChain t present) p m q None c.args.trail.now c.loop-reason.trail c.link.new.trail
    (g.R.Read.remaining c.args.input.now) middle after c.loop-reason.invariant.came
    (subst (λ (h : Linked). HasLinked x present m q c.loop-reason.trail c.link.new.trail middle after h) c.in-Rested.is c.in_ok-link.ensures.linked)

pub returns-in-Stopped-clause-shown : goal.returns-in-Stopped-clause-shown
returns-in-Stopped-clause-shown g c =
    let x = c.args.taking.now in
    let t = x.block.now in
    let present = option_map (event_at t.ports.event_inputs) c.loop-reason.present in
    let p : Position = place t c.args.chart.now c.args.meter.now.left in
    let m : Position = place t c.loop-reason.chart c.loop-reason.meter.left in
    let q : Position = place t c.link.new.chart c.link.new.meter.left in
    let middle = g.R.Read.remaining c.loop-reason.input in
    let after = g.R.Read.remaining c.link.new.input in
    step_ends x (ShowsChain t (Some (event_at t.ports.event_inputs x.line.now.event))) (ShowsChain t present) p m q (Some c.in-Stopped.reason) c.args.trail.now c.loop-reason.trail c.link.new.trail
    (g.R.Read.remaining c.args.input.now) middle after c.loop-reason.invariant.came
    (subst (λ (h : Linked). HasLinked x present m q c.loop-reason.trail c.link.new.trail middle after h) c.in-Stopped.is c.in_ok-link.ensures.linked)

pub loop-reason-preserved : goal.loop-reason-preserved
loop-reason-preserved g c =
    let x = c.args.taking.now in
    let t = x.block.now in
    let present = option_map (event_at t.ports.event_inputs) c.loop-reason.present in
    let p : Position = place t c.args.chart.now c.args.meter.now.left in
    let m : Position = place t c.loop-reason.chart c.loop-reason.meter.left in
    let q : Position = place t c.link.new.chart c.link.new.meter.left in
    let middle = g.R.Read.remaining c.loop-reason.input in
    let after = g.R.Read.remaining c.link.new.input in
    record {
      chart = c.in_ok-link.ensures.chart;
      present = tt;
      next = c.in_ok-link.ensures.next;
      came = step_then x (ShowsChain t (Some (event_at t.ports.event_inputs x.line.now.event))) (ShowsChain t present) (ShowsChain t None) p m q c.args.trail.now c.loop-reason.trail c.link.new.trail
          (g.R.Read.remaining c.args.input.now) middle after c.loop-reason.invariant.came
          (subst (λ (h : Linked). HasLinked x present m q c.loop-reason.trail c.link.new.trail middle after h) c.in-Went.is c.in_ok-link.ensures.linked);
    }

pub returns-in_err-link-clause-refused : goal.returns-in_err-link-clause-refused
returns-in_err-link-clause-refused g c = λ names plain.
    let x = c.args.taking.now in
    let t = x.block.now in
    let whole = ShowsChain t (Some (event_at t.ports.event_inputs x.line.now.event)) in
    let present = option_map (event_at t.ports.event_inputs) c.loop-reason.present in
    let p : Position = place t c.args.chart.now c.args.meter.now.left in
    let m : Position = place t c.loop-reason.chart c.loop-reason.meter.left in
    let left = g.R.Read.remaining c.args.input.now in
    let middle = g.R.Read.remaining c.loop-reason.input in
    let after = g.R.Read.remaining c.link.new.input in
    err_passed _ _ (λ n. ChartFails x (ShowsChain t present) m c.loop-reason.trail.reading c.link.new.trail.reading middle after n)
    (λ n. ChartFails x whole p c.args.trail.now.reading c.link.new.trail.reading left after n) c.from_residual.ensures.1 (c.in_err-link.ensures.refused names plain)
    (λ n fails. fails_after x whole (ShowsChain t present) p m c.args.trail.now c.loop-reason.trail c.link.new.trail.reading left middle after n c.loop-reason.invariant.came fails)

pub returns-in_err-link-clause-shown : goal.returns-in_err-link-clause-shown
returns-in_err-link-clause-shown g c = ok_passed c.from_residual.result _ _ c.from_residual.ensures.1

pub returns-in_err-link-clause-chart : goal.returns-in_err-link-clause-chart
returns-in_err-link-clause-chart g c = ok_passed c.from_residual.result _ _ c.from_residual.ensures.1

pub returns-in_err-link-clause-next : goal.returns-in_err-link-clause-next
returns-in_err-link-clause-next g c = ok_passed c.from_residual.result _ _ c.from_residual.ensures.1
