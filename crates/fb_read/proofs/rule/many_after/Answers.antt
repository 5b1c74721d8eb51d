use Rattle.fb_read.proofs.lemmas.Common.{◌≡◌, ◌-◌, ℕ, false, length, Ok, ap, sym, ◌∙◌, arith, err_from_is_err_and, Tokens, sees, after, many_after, many_from}
use Rattle.fb_read.proofs.lemmas.rules.CountedLoops.{one_more, no_more}
use Rattle.fb_read.proofs.lemmas.rules.Reading.{stops_as}
use Rattle.fb_read.proofs.lemmas.rules.ItemLoops.{many_fault, many_more, many_over}
use Rattle.fb_read.proofs.rule.many_after.Goals as goal

pub loop-turn-init : goal.loop-turn-init
unfolding many_after
loop-turn-init g c =
    let e : length c.args.cursor.now ≡ c.left-turn-end.result - 0 = omega (arith, c.left-turn-end.ensures) in
    ap (λ (n : ℕ). many_from g.T.Rule.parser c.args.end n c.args.found c.args.cursor.now) e

pub returns-then-eat : goal.returns-then-eat
returns-then-eat g c =
    one_more (λ n. many_from g.T.Rule.parser c.args.end n c.loop-turn.found c.loop-turn.cursor) _ c.loop-turn._turn c.loop-turn-test.true c.loop-turn.invariant
    ∙ many_over g.T.Rule.parser c.args.end _ c.loop-turn.found c.loop-turn.cursor (sym c.eat.ensures.found ∙ c.if-eat.true)
    ∙ ap (λ (t : Tokens). Ok (c.loop-turn.found, t)) (sym c.eat.ensures.after)

pub returns-in_err-found : goal.returns-in_err-found
returns-in_err-found g c =
    let more : sees c.args.end c.loop-turn.cursor ≡ false = sym c.eat.ensures.found ∙ c.if-eat.false in
    let mid : c.eat.new.self ≡ after c.args.end c.loop-turn.cursor = c.eat.ensures.after in
    let p = err_from_is_err_and c.from_residual.result c.from_residual.ensures.1 in
    rw (p.1, p.2) (stops_as _ _ _ _
    (one_more (λ n. many_from g.T.Rule.parser c.args.end n c.loop-turn.found c.loop-turn.cursor) _ c.loop-turn._turn c.loop-turn-test.true c.loop-turn.invariant)
    (many_fault g.T.Rule.parser c.args.end _ c.loop-turn.found c.loop-turn.cursor _ _ _ _ more mid c.read.ensures c.in_err-found.ensures))

pub loop-turn-preserved : goal.loop-turn-preserved
loop-turn-preserved g c =
    let more : sees c.args.end c.loop-turn.cursor ≡ false = sym c.eat.ensures.found ∙ c.if-eat.false in
    let mid : c.eat.new.self ≡ after c.args.end c.loop-turn.cursor = c.eat.ensures.after in
    one_more (λ n. many_from g.T.Rule.parser c.args.end n c.loop-turn.found c.loop-turn.cursor) _ c.loop-turn._turn c.loop-turn-test.true c.loop-turn.invariant
    ∙ many_more g.T.Rule.parser c.args.end _ c.loop-turn.found _ c.loop-turn.cursor _ _ _ more mid c.read.ensures c.in_ok-found.ensures

pub returns : goal.returns
unfolding many_from
returns g c = no_more (λ n. many_from g.T.Rule.parser c.args.end n c.loop-turn.found c.loop-turn.cursor) _ c.loop-turn._turn c.loop-turn-test.false c.loop-turn.invariant
