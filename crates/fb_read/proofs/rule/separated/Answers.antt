use Rattle.fb_read.proofs.lemmas.Common.{◌≡◌, ◌-◌, ℕ, true, false, [], length, ap, sym, ◌∙◌, arith, err_from_is_err_and, sees, separated, separated_from}
use Rattle.fb_read.specs.declared.token.Mark.TheVariants as mark
use Rattle.fb_read.proofs.lemmas.rules.CountedLoops.{one_more, no_more}
use Rattle.fb_read.proofs.lemmas.rules.Reading.{stops_as}
use Rattle.fb_read.proofs.lemmas.rules.ItemLoops.{separated_fault, separated_last, separated_more}
use Rattle.fb_read.proofs.rule.separated.Goals as goal

pub loop-turn-init : goal.loop-turn-init
unfolding separated
loop-turn-init g c =
    let e : length c.args.cursor.now ≡ c.left-turn-end.result - 0 = omega (arith, c.left-turn-end.ensures) in
    rw c.no_items-found.ensures (ap (λ (n : ℕ). separated_from g.T.Rule.parser n [] c.args.cursor.now) e)

pub returns-then-not-eat : goal.returns-then-not-eat
returns-then-not-eat g c =
    let over : sees mark.Comma c.read.new.cursor ≡ false = sym c.eat.ensures.found ∙ c.if-not-eat.true in
    one_more (λ n. separated_from g.T.Rule.parser n c.loop-turn.found c.loop-turn.cursor) _ c.loop-turn._turn c.loop-turn-test.true c.loop-turn.invariant
    ∙ separated_last g.T.Rule.parser _ c.loop-turn.found _ c.loop-turn.cursor _ _ _ c.read.ensures c.in_ok-found.ensures over c.eat.ensures.after

pub returns-in_err-found : goal.returns-in_err-found
returns-in_err-found g c =
    let p = err_from_is_err_and c.from_residual.result c.from_residual.ensures.1 in
    rw (p.1, p.2) (stops_as _ _ _ _
    (one_more (λ n. separated_from g.T.Rule.parser n c.loop-turn.found c.loop-turn.cursor) _ c.loop-turn._turn c.loop-turn-test.true c.loop-turn.invariant)
    (separated_fault g.T.Rule.parser _ c.loop-turn.found c.loop-turn.cursor _ _ _ c.read.ensures c.in_err-found.ensures))

pub loop-turn-preserved : goal.loop-turn-preserved
loop-turn-preserved g c =
    let more : sees mark.Comma c.read.new.cursor ≡ true = sym c.eat.ensures.found ∙ c.if-not-eat.false in
    one_more (λ n. separated_from g.T.Rule.parser n c.loop-turn.found c.loop-turn.cursor) _ c.loop-turn._turn c.loop-turn-test.true c.loop-turn.invariant
    ∙ separated_more g.T.Rule.parser _ c.loop-turn.found _ c.loop-turn.cursor _ _ _ c.read.ensures c.in_ok-found.ensures more c.eat.ensures.after

pub returns : goal.returns
unfolding separated_from
returns g c = no_more (λ n. separated_from g.T.Rule.parser n c.loop-turn.found c.loop-turn.cursor) _ c.loop-turn._turn c.loop-turn-test.false c.loop-turn.invariant
