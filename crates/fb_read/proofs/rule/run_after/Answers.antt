use Rattle.fb_read.proofs.lemmas.Common.{◌≡◌, ◌-◌, ℕ, true, length, ap, sym, ◌∙◌, arith, err_from_is_err_and, sees, run_after, run_from}
use Rattle.fb_read.proofs.lemmas.rules.CountedLoops.{one_more, no_more}
use Rattle.fb_read.proofs.lemmas.rules.Reading.{stops_as}
use Rattle.fb_read.proofs.lemmas.rules.ItemLoops.{run_fault, run_more, run_over}
use Rattle.fb_read.proofs.rule.run_after.Goals as goal

pub loop-turn-init : goal.loop-turn-init
unfolding run_after
loop-turn-init g c =
    let e : length c.args.cursor.now ≡ c.left-turn-end.result - 0 = omega (arith, c.left-turn-end.ensures) in
    ap (λ (n : ℕ). run_from g.T.Rule.parser c.args.begin n c.args.found c.args.cursor.now) e

pub returns-then-not-sees : goal.returns-then-not-sees
returns-then-not-sees g c =
    one_more (λ n. run_from g.T.Rule.parser c.args.begin n c.loop-turn.found c.loop-turn.cursor) _ c.loop-turn._turn c.loop-turn-test.true c.loop-turn.invariant
    ∙ run_over g.T.Rule.parser c.args.begin _ c.loop-turn.found c.loop-turn.cursor (sym c.sees.ensures ∙ c.if-not-sees.true)

pub returns-in_err-found : goal.returns-in_err-found
returns-in_err-found g c =
    let begun : sees c.args.begin c.loop-turn.cursor ≡ true = sym c.sees.ensures ∙ c.if-not-sees.false in
    let p = err_from_is_err_and c.from_residual.result c.from_residual.ensures.1 in
    rw (p.1, p.2) (stops_as _ _ _ _
    (one_more (λ n. run_from g.T.Rule.parser c.args.begin n c.loop-turn.found c.loop-turn.cursor) _ c.loop-turn._turn c.loop-turn-test.true c.loop-turn.invariant)
    (run_fault g.T.Rule.parser c.args.begin _ c.loop-turn.found c.loop-turn.cursor _ _ _ begun c.read.ensures c.in_err-found.ensures))

pub loop-turn-preserved : goal.loop-turn-preserved
loop-turn-preserved g c =
    let begun : sees c.args.begin c.loop-turn.cursor ≡ true = sym c.sees.ensures ∙ c.if-not-sees.false in
    one_more (λ n. run_from g.T.Rule.parser c.args.begin n c.loop-turn.found c.loop-turn.cursor) _ c.loop-turn._turn c.loop-turn-test.true c.loop-turn.invariant
    ∙ run_more g.T.Rule.parser c.args.begin _ c.loop-turn.found _ c.loop-turn.cursor _ _ begun c.read.ensures c.in_ok-found.ensures

pub returns : goal.returns
unfolding run_from
returns g c = no_more (λ n. run_from g.T.Rule.parser c.args.begin n c.loop-turn.found c.loop-turn.cursor) _ c.loop-turn._turn c.loop-turn-test.false c.loop-turn.invariant
