use Rattle.fb_read.proofs.lemmas.Common.{◌≡◌, true, false, [], Ok, ap, sym, ◌∙◌, arith, common_steps, err_from_is_err_and, sees, nested_statement, choices, elsif, several, several_from, Tokens}
use Rattle.fb_read.specs.declared.token.Mark.TheVariants as mark
use Rattle.fb_read.proofs.lemmas.rules.CountedLoops.{one_more, no_more}
use Rattle.fb_read.proofs.lemmas.rules.AddedItems.{item_of, fault_of}
use Rattle.fb_read.proofs.lemmas.rules.Reading.{stops, stops_as}
use Rattle.fb_read.proofs.lemmas.rules.ItemLoops.{several_fault, several_more, several_over, after_none, elsif_reads}
use Rattle.fb_read.proofs.statement.StatementRules.choices.Goals as goal

pub returns-in_err-found : goal.returns-in_err-found
unfolding choices
returns-in_err-found g c =
    let p = err_from_is_err_and c.from_residual.result c.from_residual.ensures.1 in
    rw (p.1, p.2) (stops _ _ _ _ (fault_of _ _ _ [] _ c.choice.ensures c.in_err-found.ensures))

pub loop-turn-init : goal.loop-turn-init
unfolding choices several
loop-turn-init g c =
    let i = item_of _ _ _ _ _ c.choice.ensures c.in_ok-found.ensures in
    let is = i.1 in
    let more = i.2 in
    grind (arith, common_steps)

pub returns-then-not-eat : goal.returns-then-not-eat
returns-then-not-eat g c =
    let over : sees mark.Elsif c.loop-turn.cursor ≡ false = sym c.eat.ensures.found ∙ c.if-not-eat.true in
    one_more (λ n. several_from (sees mark.Elsif) (elsif (nested_statement c.args.self.now.below)) n c.loop-turn.found c.loop-turn.cursor) _ c.loop-turn._turn c.loop-turn-test.true c.loop-turn.invariant
    ∙ several_over (sees mark.Elsif) (elsif (nested_statement c.args.self.now.below)) _ c.loop-turn.found c.loop-turn.cursor over
    ∙ ap (λ (t : Tokens). Ok (c.loop-turn.found, t)) (sym (c.eat.ensures.after ∙ after_none mark.Elsif c.loop-turn.cursor over))

pub returns-in_err-found-2 : goal.returns-in_err-found-2
returns-in_err-found-2 g c =
    let begun : sees mark.Elsif c.loop-turn.cursor ≡ true = sym c.eat.ensures.found ∙ c.if-not-eat.false in
    let p = err_from_is_err_and c.from_residual-in_err-found-2.result c.from_residual-in_err-found-2.ensures.1 in
    rw (p.1, p.2) (stops_as _ _ _ _
    (one_more (λ n. several_from (sees mark.Elsif) (elsif (nested_statement c.args.self.now.below)) n c.loop-turn.found c.loop-turn.cursor) _ c.loop-turn._turn c.loop-turn-test.true c.loop-turn.invariant)
    (several_fault (sees mark.Elsif) (elsif (nested_statement c.args.self.now.below)) _ c.loop-turn.found c.loop-turn.cursor _ _ _ begun
    (elsif_reads _ c.loop-turn.cursor _ _ _ begun c.eat.ensures.after c.choice-in-loop-turn.ensures) c.in_err-found-2.ensures))

pub loop-turn-preserved : goal.loop-turn-preserved
loop-turn-preserved g c =
    let begun : sees mark.Elsif c.loop-turn.cursor ≡ true = sym c.eat.ensures.found ∙ c.if-not-eat.false in
    one_more (λ n. several_from (sees mark.Elsif) (elsif (nested_statement c.args.self.now.below)) n c.loop-turn.found c.loop-turn.cursor) _ c.loop-turn._turn c.loop-turn-test.true c.loop-turn.invariant
    ∙ several_more (sees mark.Elsif) (elsif (nested_statement c.args.self.now.below)) _ c.loop-turn.found _ c.loop-turn.cursor _ _ begun (elsif_reads _ c.loop-turn.cursor _ _ _ begun c.eat.ensures.after c.choice-in-loop-turn.ensures) c.in_ok-found-2.ensures

pub returns : goal.returns
unfolding several_from
returns g c = no_more (λ n. several_from (sees mark.Elsif) (elsif (nested_statement c.args.self.now.below)) n c.loop-turn.found c.loop-turn.cursor) _ c.loop-turn._turn c.loop-turn-test.false c.loop-turn.invariant
