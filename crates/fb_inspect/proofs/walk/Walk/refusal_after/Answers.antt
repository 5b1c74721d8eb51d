use Rattle.fb_inspect.proofs.lemmas.Common.{◌≡◌, List, ℕ, Option, Some, None, inl, inr, refl, subst, sym, system_of, line_of, steps_stop}
use Rattle.fb_inspect.specs.walk.Standing.{BlamesSteps}
use Rattle.fb_inspect.proofs.walk.Walk.refusal_after.Goals as goal

pub returns-then-is_own_stop-clause-found : goal.returns-then-is_own_stop-clause-found
returns-then-is_own_stop-clause-found c = λ names apart is. by c.args.ahead.now.excess refl
  where
    by : (o : Option ℕ) → c.args.ahead.now.excess ≡ o → BlamesSteps (system_of c.args.fixed.now.table.now.system.now) c.args.line.now c.args.ahead.now.excess c.args.self.now.trail.reading c.args.finding c.refusal_for_steps.result
    by None e = inr (inl e, c.refusal_for_steps.ensures.none e)
    by (Some k) e = inl (
      k,
      e,
      subst (λ (u : List ℕ). u ≡ steps_stop (system_of c.args.fixed.now.table.now.system.now) (line_of (system_of c.args.fixed.now.table.now.system.now) c.args.line.now)) c.as_slice.ensures.value
          (c.is_own_stop.ensures.stop c.if-is_own_stop.true),
      c.refusal_for_steps.ensures.excess k e,
    )

pub returns-clause-found : goal.returns-clause-found
returns-clause-found c = λ names apart is.
    let sys = system_of c.args.fixed.now.table.now.system.now in
    inr (
      inr (λ text. c.is_own_stop.ensures.other names apart is c.if-is_own_stop.false (subst (λ (u : List ℕ). u ≡ steps_stop sys (line_of sys c.args.line.now)) (sym c.as_slice.ensures.value) text)),
      c.refusal.ensures,
    )
