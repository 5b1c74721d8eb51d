use Rattle.fb_read.proofs.lemmas.Common.{◌≡◌, ◌<◌, ◌-◌, ℕ, suc, length, ap, sym, ◌∙◌, Some, None, refl, arith, common_steps, err_from_is_err_and, Tokens, Parser, and_then, Nested, next_operator, nested_expression, level_at, climb}
use Rattle.fb_read.proofs.lemmas.rules.CountedLoops.{one_more, no_more, deeper}
use Rattle.fb_read.proofs.lemmas.expressions.RightOperands.{climb_over, joined_more}
use Rattle.fb_read.proofs.lemmas.rules.Reading.{stops, stops_as, went_on}
use Rattle.fb_read.proofs.expression.ExpressionRules.+level.Goals as goal

level_above : (below : ℕ) (inner : ℕ → Parser Nested) (n : ℕ) (ts : Tokens) → 0 < n
    → level_at below inner n ts ≡ and_then (level_at below inner (n - 1) ts) (λ first rest. climb below inner n (inner (n - 1)) (length rest) first rest)
unfolding level_at
level_above below inner n ts some =
    let e : suc (n - 1) ≡ n = omega arith in
    deeper (λ n. level_at below inner n ts) n some ∙ ap (λ m. and_then (level_at below inner (n - 1) ts) (λ first rest. climb below inner m (inner (n - 1)) (length rest) first rest)) e

pub returns-then-level-eq0 : goal.returns-then-level-eq0
unfolding level_at
returns-then-level-eq0 g t c = let none : c.args.level ≡ 0 = omega arith in rw none c.unary.ensures

pub returns-in_err-left : goal.returns-in_err-left
returns-in_err-left g t c =
    let e = level_above c.args.self.now.below (nested_expression c.args.self.now.below) c.args.level c.args.cursor.now (omega arith) in
    let p = err_from_is_err_and c.from_residual.result c.from_residual.ensures.1 in
    rw (p.1, p.2) (stops_as _ _ _ _ e (stops _ _ _ _ c.in_err-left.ensures))

pub loop-turn-init : goal.loop-turn-init
loop-turn-init g t c =
    let e = level_above c.args.self.now.below (nested_expression c.args.self.now.below) c.args.level c.args.cursor.now (omega arith) in
    grind (arith, common_steps)

pub returns-in_default : goal.returns-in_default
returns-in_default g t c =
    let o : next_operator c.args.level c.loop-turn.cursor ≡ None = sym c.operator.ensures ∙ c.in_default.is in
    one_more (λ n. climb c.args.self.now.below (nested_expression c.args.self.now.below) c.args.level (nested_expression c.args.self.now.below (c.args.level - 1)) n c.loop-turn.left c.loop-turn.cursor) _ c.loop-turn._turn c.loop-turn-test.true c.loop-turn.invariant
    ∙ climb_over c.args.self.now.below (nested_expression c.args.self.now.below) c.args.level (nested_expression c.args.self.now.below (c.args.level - 1)) _ c.loop-turn.left c.loop-turn.cursor o

pub returns-in_err-left-2 : goal.returns-in_err-left-2
returns-in_err-left-2 g t c =
    let o : next_operator c.args.level c.loop-turn.cursor ≡ Some c.in-Some.operator = sym c.operator.ensures ∙ c.in-Some.is in
    let e = joined_more c.args.self.now.below (nested_expression c.args.self.now.below) c.args.level (nested_expression c.args.self.now.below (c.args.level - 1)) c.loop-turn.left c.in-Some.operator c.loop-turn.cursor _ c.loop-turn._turn c.loop-turn-test.true c.loop-turn.invariant o in
    let p = err_from_is_err_and c.from_residual-in_err-left-2.result c.from_residual-in_err-left-2.ensures.1 in
    rw (p.1, p.2) (stops_as _ _ _ _ e (stops _ _ _ _ c.in_err-left-2.ensures))

pub loop-turn-preserved : goal.loop-turn-preserved
loop-turn-preserved g t c =
    let o : next_operator c.args.level c.loop-turn.cursor ≡ Some c.in-Some.operator = sym c.operator.ensures ∙ c.in-Some.is in
    let e = joined_more c.args.self.now.below (nested_expression c.args.self.now.below) c.args.level (nested_expression c.args.self.now.below (c.args.level - 1)) c.loop-turn.left c.in-Some.operator c.loop-turn.cursor _ c.loop-turn._turn c.loop-turn-test.true c.loop-turn.invariant o in
    e ∙ went_on _ _ _ _ _ c.in_ok-left-2.ensures refl

pub returns : goal.returns
unfolding climb
returns g t c =
    no_more (λ n. climb c.args.self.now.below (nested_expression c.args.self.now.below) c.args.level (nested_expression c.args.self.now.below (c.args.level - 1)) n c.loop-turn.left c.loop-turn.cursor) _ c.loop-turn._turn c.loop-turn-test.false c.loop-turn.invariant
