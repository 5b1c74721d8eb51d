use Rattle.fb_read.proofs.lemmas.Common.{◌≡◌, true, false, [], sym, ◌∙◌, arith, common_steps, err_from_is_err_and, nested_statement, branches, branch, begins_label, several, several_from}
use Rattle.fb_read.proofs.lemmas.rules.CountedLoops.{one_more, no_more}
use Rattle.fb_read.proofs.lemmas.rules.AddedItems.{item_of, fault_of}
use Rattle.fb_read.proofs.lemmas.rules.Reading.{stops, stops_as}
use Rattle.fb_read.proofs.lemmas.rules.ItemLoops.{several_fault, several_more, several_over}
use Rattle.fb_read.proofs.statement.StatementRules.branches.Goals as goal

pub returns-in_err-found : goal.returns-in_err-found
unfolding branches
returns-in_err-found g c =
    let p = err_from_is_err_and c.from_residual.result c.from_residual.ensures.1 in
    rw (p.1, p.2) (stops _ _ _ _ (fault_of _ _ _ [] _ c.branch-self.ensures c.in_err-found.ensures))

pub loop-turn-init : goal.loop-turn-init
unfolding branches several
loop-turn-init g c =
    let i = item_of _ _ _ _ _ c.branch-self.ensures c.in_ok-found.ensures in
    let is = i.1 in
    let more = i.2 in
    grind (arith, common_steps)

pub returns-then-not-begins_label : goal.returns-then-not-begins_label
returns-then-not-begins_label g c =
    let over : begins_label c.loop-turn.cursor ≡ false = sym c.begins_label.ensures ∙ c.if-not-begins_label.true in
    one_more (λ n. several_from begins_label (branch (nested_statement c.args.self.now.below)) n c.loop-turn.found c.loop-turn.cursor) _ c.loop-turn._turn c.loop-turn-test.true c.loop-turn.invariant
    ∙ several_over begins_label (branch (nested_statement c.args.self.now.below)) _ c.loop-turn.found c.loop-turn.cursor over

pub returns-in_err-found-2 : goal.returns-in_err-found-2
returns-in_err-found-2 g c =
    let begun : begins_label c.loop-turn.cursor ≡ true = sym c.begins_label.ensures ∙ c.if-not-begins_label.false in
    let p = err_from_is_err_and c.from_residual-in_err-found-2.result c.from_residual-in_err-found-2.ensures.1 in
    rw (p.1, p.2) (stops_as _ _ _ _
    (one_more (λ n. several_from begins_label (branch (nested_statement c.args.self.now.below)) n c.loop-turn.found c.loop-turn.cursor) _ c.loop-turn._turn c.loop-turn-test.true c.loop-turn.invariant)
    (several_fault begins_label (branch (nested_statement c.args.self.now.below)) _ c.loop-turn.found c.loop-turn.cursor _ _ _ begun c.branch-self-in-loop-turn.ensures c.in_err-found-2.ensures))

pub loop-turn-preserved : goal.loop-turn-preserved
loop-turn-preserved g c =
    let begun : begins_label c.loop-turn.cursor ≡ true = sym c.begins_label.ensures ∙ c.if-not-begins_label.false in
    one_more (λ n. several_from begins_label (branch (nested_statement c.args.self.now.below)) n c.loop-turn.found c.loop-turn.cursor) _ c.loop-turn._turn c.loop-turn-test.true c.loop-turn.invariant
    ∙ several_more begins_label (branch (nested_statement c.args.self.now.below)) _ c.loop-turn.found _ c.loop-turn.cursor _ _ begun c.branch-self-in-loop-turn.ensures c.in_ok-found-2.ensures

pub returns : goal.returns
unfolding several_from
returns g c = no_more (λ n. several_from begins_label (branch (nested_statement c.args.self.now.below)) n c.loop-turn.found c.loop-turn.cursor) _ c.loop-turn._turn c.loop-turn-test.false c.loop-turn.invariant
