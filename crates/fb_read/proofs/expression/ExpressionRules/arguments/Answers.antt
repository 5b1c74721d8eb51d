use Rattle.fb_read.proofs.lemmas.Common.{◌≡◌, true, sym, ◌∙◌, arith, common_steps, nested_expression, arguments, arguments_from, begins_expression}
use Rattle.fb_read.proofs.lemmas.rules.Starts.{arguments_at_limit}
use Rattle.fb_read.proofs.lemmas.rules.CountedLoops.{one_more, no_more}
use Rattle.fb_read.proofs.expression.ExpressionRules.arguments.Goals as goal

pub returns-then-not-begins_expression : goal.returns-then-not-begins_expression
unfolding arguments
returns-then-not-begins_expression g c = grind (arith, common_steps)

pub returns-then-self-eq0 : goal.returns-then-self-eq0
returns-then-self-eq0 g c =
    let begins : begins_expression c.args.cursor.now ≡ true = sym c.begins_expression.ensures ∙ c.if-not-begins_expression.false in
    arguments_at_limit c.args.self.now.below c.args.cursor.now c.if-self-eq0.true begins

pub loop-turn-init : goal.loop-turn-init
unfolding arguments
loop-turn-init g c = grind (arith, common_steps)

pub returns-in_err-x : goal.returns-in_err-x
unfolding arguments_from
returns-in_err-x g c =
    let e = one_more (λ n. arguments_from c.args.self.now.below (nested_expression c.args.self.now.below) n c.loop-turn.found c.loop-turn.depth c.loop-turn.cursor) _ c.loop-turn._turn c.loop-turn-test.true c.loop-turn.invariant in
    grind (arith, common_steps)

pub returns-then-not-eat : goal.returns-then-not-eat
unfolding arguments_from
returns-then-not-eat g c =
    let e = one_more (λ n. arguments_from c.args.self.now.below (nested_expression c.args.self.now.below) n c.loop-turn.found c.loop-turn.depth c.loop-turn.cursor) _ c.loop-turn._turn c.loop-turn-test.true c.loop-turn.invariant in
    grind (arith, common_steps)

pub loop-turn-preserved : goal.loop-turn-preserved
unfolding arguments_from
loop-turn-preserved g c =
    let e = one_more (λ n. arguments_from c.args.self.now.below (nested_expression c.args.self.now.below) n c.loop-turn.found c.loop-turn.depth c.loop-turn.cursor) _ c.loop-turn._turn c.loop-turn-test.true c.loop-turn.invariant in
    grind (arith, common_steps)

pub returns : goal.returns
unfolding arguments_from
returns g c =
    no_more (λ n. arguments_from c.args.self.now.below (nested_expression c.args.self.now.below) n c.loop-turn.found c.loop-turn.depth c.loop-turn.cursor) _ c.loop-turn._turn c.loop-turn-test.false c.loop-turn.invariant
