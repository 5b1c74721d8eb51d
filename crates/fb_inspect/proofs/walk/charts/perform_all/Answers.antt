use Rattle.fb_inspect.proofs.lemmas.Common.{◌≡◌, ◌<◌, ℕ, List, [], ◌∷◌, ◌+◌, drop, length, Option, Some, refl, subst, ◌∙◌, sym, arith, slice_get, actions_of, Position, Action, Reason, state_at, Acting, ChartGoes, place, ChartFails}
use Rattle.fb_types.proofs.lemmas.lists.ByIndex.{element_at}
use Rattle.fb_inspect.proofs.lemmas.reactions.Charted.{acts_done, acts_more, acts_stopped, step_none}
use Rattle.fb_inspect.proofs.lemmas.reactions.ChartFailing.{acts_fail}
use Rattle.fb_inspect.proofs.lemmas.results.Refused.{err_passed}
use Rattle.fb_inspect.proofs.lemmas.results.Joined.{ok_passed}
use Rattle.fb_inspect.proofs.walk.charts.perform_all.Goals as goal

pub loop-action-init : goal.loop-action-init
loop-action-init g c = record {
  chart = c.requires.chart;
  state = refl;
  fewer = omega arith;
  next = c.requires.next;
  came = step_none c.args.taking.now (Acting c.args.taking.now.block.now (actions_of c.args.taking.now.block.now (state_at c.args.taking.now.block.now c.args.chart.now.state.state)))
      (place c.args.taking.now.block.now c.args.chart.now c.args.meter.now.left) c.args.trail.now _;
}

pub perform-requires-clause-within : goal.perform-requires-clause-within
perform-requires-clause-within g c =
    let t = c.args.taking.now.block.now in
    subst (λ (n : ℕ). c.loop-action.action < length (actions_of t (state_at t n))) (sym c.loop-action.invariant.state)
    (subst (λ (n : ℕ). c.loop-action.action < n) (c.action_count-action-end.ensures t c.requires.taking.sound c.requires.chart.block) c.loop-action-test.true)

pub loop-action-preserved : goal.loop-action-preserved
loop-action-preserved g c =
    let x = c.args.taking.now in
    let t = x.block.now in
    let all : List Action = actions_of t (state_at t c.args.chart.now.state.state) in
    let i : ℕ = c.loop-action.action in
    let inv = c.loop-action.invariant in
    let counted = c.action_count-action-end.ensures t c.requires.taking.sound c.requires.chart.block in
    let one = element_at all i (subst (λ (n : ℕ). i < n) counted c.loop-action-test.true) in
    let here = subst (λ (n : ℕ). slice_get (actions_of t (state_at t n)) i ≡ Some one.0) (sym inv.state) one.1 in
    let fewer = c.in_ok-reason.ensures.fewer in
    let before = inv.fewer in
    let m : Position = place t c.loop-action.chart c.loop-action.meter.left in
    let n : Position = place t c.perform.new.chart c.perform.new.meter.left in
    let middle = g.R.Read.remaining c.loop-action.input in
    let after = g.R.Read.remaining c.perform.new.input in
    record {
      chart = c.in_ok-reason.ensures.chart;
      state = c.in_ok-reason.ensures.state ∙ inv.state;
      fewer = omega (arith, fewer, before);
      next = c.in_ok-reason.ensures.next;
      came = acts_more x t all i one.0 (place t c.args.chart.now c.args.meter.now.left) m n c.args.trail.now c.loop-action.trail c.perform.new.trail (g.R.Read.remaining c.args.input.now) middle after
          one.1 refl inv.came
          (subst (λ (o : Option Reason). ChartGoes x (Acting t (one.0 ∷ [])) m o n c.loop-action.trail c.perform.new.trail middle after) c.in_default.is (c.in_ok-reason.ensures.shown one.0 here));
    }

pub returns-in-Some-clause-shown : goal.returns-in-Some-clause-shown
returns-in-Some-clause-shown g c =
    let x = c.args.taking.now in
    let t = x.block.now in
    let all : List Action = actions_of t (state_at t c.args.chart.now.state.state) in
    let i : ℕ = c.loop-action.action in
    let inv = c.loop-action.invariant in
    let counted = c.action_count-action-end.ensures t c.requires.taking.sound c.requires.chart.block in
    let one = element_at all i (subst (λ (n : ℕ). i < n) counted c.loop-action-test.true) in
    let here = subst (λ (n : ℕ). slice_get (actions_of t (state_at t n)) i ≡ Some one.0) (sym inv.state) one.1 in
    let m : Position = place t c.loop-action.chart c.loop-action.meter.left in
    let n : Position = place t c.perform.new.chart c.perform.new.meter.left in
    let middle = g.R.Read.remaining c.loop-action.input in
    let after = g.R.Read.remaining c.perform.new.input in
    acts_stopped x t all i one.0 c.in-Some.reason (place t c.args.chart.now c.args.meter.now.left) m n c.args.trail.now c.loop-action.trail c.perform.new.trail (g.R.Read.remaining c.args.input.now) middle after
    one.1 inv.came
    (subst (λ (o : Option Reason). ChartGoes x (Acting t (one.0 ∷ [])) m o n c.loop-action.trail c.perform.new.trail middle after) c.in-Some.is (c.in_ok-reason.ensures.shown one.0 here))

pub returns-clause-shown : goal.returns-clause-shown
returns-clause-shown g c =
    let t = c.args.taking.now.block.now in
    let all : List Action = actions_of t (state_at t c.args.chart.now.state.state) in
    let counted = c.action_count-action-end.ensures t c.requires.taking.sound c.requires.chart.block in
    let past = c.loop-action-test.false in
    acts_done c.args.taking.now t all c.loop-action.action _ _ _ _ _ _ (omega (arith, counted, past)) refl c.loop-action.invariant.came

pub returns-in_err-reason-clause-refused : goal.returns-in_err-reason-clause-refused
returns-in_err-reason-clause-refused g c = λ names plain.
    let x = c.args.taking.now in
    let t = x.block.now in
    let all : List Action = actions_of t (state_at t c.args.chart.now.state.state) in
    let i : ℕ = c.loop-action.action in
    let inv = c.loop-action.invariant in
    let counted = c.action_count-action-end.ensures t c.requires.taking.sound c.requires.chart.block in
    let one = element_at all i (subst (λ (n : ℕ). i < n) counted c.loop-action-test.true) in
    let here = subst (λ (n : ℕ). slice_get (actions_of t (state_at t n)) i ≡ Some one.0) (sym inv.state) one.1 in
    let p : Position = place t c.args.chart.now c.args.meter.now.left in
    let m : Position = place t c.loop-action.chart c.loop-action.meter.left in
    let left = g.R.Read.remaining c.args.input.now in
    let middle = g.R.Read.remaining c.loop-action.input in
    let after = g.R.Read.remaining c.perform.new.input in
    err_passed _ _ (λ n. ChartFails x (Acting t (one.0 ∷ drop (i + 1) all)) m c.loop-action.trail.reading c.perform.new.trail.reading middle after n)
    (λ n. ChartFails x (Acting t all) p c.args.trail.now.reading c.perform.new.trail.reading left after n) c.from_residual.ensures.1 (c.in_err-reason.ensures.refused one.0 (drop (i + 1) all) here names plain)
    (λ n fails. acts_fail x t all i one.0 p m c.args.trail.now c.loop-action.trail c.perform.new.trail.reading left middle after n one.1 inv.came fails)

pub returns-in_err-reason-clause-shown : goal.returns-in_err-reason-clause-shown
returns-in_err-reason-clause-shown g c = ok_passed c.from_residual.result _ _ c.from_residual.ensures.1

pub returns-in_err-reason-clause-chart : goal.returns-in_err-reason-clause-chart
returns-in_err-reason-clause-chart g c = ok_passed c.from_residual.result _ _ c.from_residual.ensures.1

pub returns-in_err-reason-clause-next : goal.returns-in_err-reason-clause-next
returns-in_err-reason-clause-next g c = ok_passed c.from_residual.result _ _ c.from_residual.ensures.1
