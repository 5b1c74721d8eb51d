use Rattle.fb_types.proofs.Common.{◌≡◌, ◌-◌, ℕ, true, false, [], length, ap, sym, ◌∙◌, arith, err_from_is_err_and}
use Rattle.fb_read.specs.Statements.{nested_statement, block, begins_statement, several, several_from}
use Rattle.fb_read.proofs.lemmas.rules.CountedLoops.{one_more, no_more}
use Rattle.fb_read.proofs.lemmas.rules.Reading.{stops_as}
use Rattle.fb_read.proofs.lemmas.rules.ItemLoops.{several_fault, several_more, several_over}
use Rattle.fb_read.proofs.statement.StatementRules.block.Goals as goal

pub loop-turn-init : goal.loop-turn-init
unfolding block several
loop-turn-init g c =
    let e : length c.args.cursor.now ≡ c.left-turn-end.result - 0 = omega (arith, c.left-turn-end.ensures) in
    rw c.no_items-found.ensures (ap (λ (n : ℕ). several_from begins_statement (nested_statement c.args.self.now.below) n [] c.args.cursor.now) e)

pub returns-then-not-begins_statement : goal.returns-then-not-begins_statement
returns-then-not-begins_statement g c =
    let over : begins_statement c.loop-turn.cursor ≡ false = sym c.begins_statement.ensures ∙ c.if-not-begins_statement.true in
    one_more (λ n. several_from begins_statement (nested_statement c.args.self.now.below) n c.loop-turn.found c.loop-turn.cursor) _ c.loop-turn._turn c.loop-turn-test.true c.loop-turn.invariant
    ∙ several_over begins_statement (nested_statement c.args.self.now.below) _ c.loop-turn.found c.loop-turn.cursor over

pub returns-in_err-found : goal.returns-in_err-found
returns-in_err-found g c =
    let begun : begins_statement c.loop-turn.cursor ≡ true = sym c.begins_statement.ensures ∙ c.if-not-begins_statement.false in
    let p = err_from_is_err_and c.from_residual.result c.from_residual.ensures.1 in
    rw (p.1, p.2) (stops_as _ _ _ _
    (one_more (λ n. several_from begins_statement (nested_statement c.args.self.now.below) n c.loop-turn.found c.loop-turn.cursor) _ c.loop-turn._turn c.loop-turn-test.true c.loop-turn.invariant)
    (several_fault begins_statement (nested_statement c.args.self.now.below) _ c.loop-turn.found c.loop-turn.cursor _ _ _ begun (c.requires.reads _ _ _ c.inner.ensures) c.in_err-found.ensures))

pub loop-turn-preserved : goal.loop-turn-preserved
loop-turn-preserved g c =
    let begun : begins_statement c.loop-turn.cursor ≡ true = sym c.begins_statement.ensures ∙ c.if-not-begins_statement.false in
    one_more (λ n. several_from begins_statement (nested_statement c.args.self.now.below) n c.loop-turn.found c.loop-turn.cursor) _ c.loop-turn._turn c.loop-turn-test.true c.loop-turn.invariant
    ∙ several_more begins_statement (nested_statement c.args.self.now.below) _ c.loop-turn.found _ c.loop-turn.cursor _ _ begun (c.requires.reads _ _ _ c.inner.ensures) c.in_ok-found.ensures

pub returns : goal.returns
unfolding several_from
returns g c = no_more (λ n. several_from begins_statement (nested_statement c.args.self.now.below) n c.loop-turn.found c.loop-turn.cursor) _ c.loop-turn._turn c.loop-turn-test.false c.loop-turn.invariant
