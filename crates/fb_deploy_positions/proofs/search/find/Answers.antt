use Rattle.std.proofs.Common.{◌≡◌, ◌+◌, ◌<◌, List, true, false, length, take, drop, refl, sym, ap, subst, ◌∙◌, arith}
use Rattle.fb_deploy_positions.specs.Entries.{elements_in, found, has_no_heading, is_in_element}
use Rattle.fb_deploy_positions.specs.Statements.{StatementAt}
use Rattle.fb_deploy_positions.specs.Views.{IsPassed, array_sought, is_wanted, statement_view, statements_view}
use Rattle.fb_deploy_positions.proofs.lemmas.Searches.{before_more, few_passed, found_here, found_later, found_none, passed_more, rest_more, rest_none}
use Rattle.fb_deploy_positions.proofs.search.find.Goals as goal

pub loop-statement-init : goal.loop-statement-init
unfolding elements_in is_in_element has_no_heading
loop-statement-init c = record { rest = refl; passed = record { elements = refl; in_element = refl; no_heading = refl } }

pub returns-then-is : goal.returns-then-is
returns-then-is c =
    let xs = c.args.statements.now in
    let l = c.loop-statement in
    let i = l.statement-index in
    let s = c.statement-item.result in
    let test = is_wanted c.args.wanted in
    let before = statements_view (take i xs) in
    let within : i < length xs = c.loop-statement-test.true in
    let passes : test before (statement_view s) ≡ true = sym (c.is.ensures before l.invariant.passed) ∙ c.if-is.true in
    sym (l.invariant.rest ∙ ap (found test before) (rest_more xs i s within c.statement-item.is) ∙ found_here test before (statements_view (drop (i + 1) xs)) (statement_view s) passes)

pub and-passed-requires : goal.and-passed-requires
and-passed-requires c =
    let few = few_passed (array_sought c.args.wanted) c.args.statements.now c.loop-statement.statement-index c.loop-statement.passed c.loop-statement.invariant.passed in
    omega (arith, few)

pub loop-statement-preserved : goal.loop-statement-preserved
loop-statement-preserved c =
    let xs = c.args.statements.now in
    let l = c.loop-statement in
    let i = l.statement-index in
    let s = c.statement-item.result in
    let test = is_wanted c.args.wanted in
    let array = array_sought c.args.wanted in
    let before = statements_view (take i xs) in
    let rest = statements_view (drop (i + 1) xs) in
    let within : i < length xs = c.loop-statement-test.true in
    let fails : test before (statement_view s) ≡ false = sym (c.is.ensures before l.invariant.passed) ∙ c.if-is.false in
    let more = sym (before_more xs i s within c.statement-item.is) in
    let same = c.array-array.ensures in
    let elements = rw same at c.and-passed.ensures.elements in
    let in_element = rw same at c.and-passed.ensures.in_element in
    let known = passed_more array before (statement_view s) l.passed c.and-passed.result l.invariant.passed elements in_element c.and-passed.ensures.no_heading in
    record {
      rest = l.invariant.rest ∙ ap (found test before) (rest_more xs i s within c.statement-item.is) ∙ found_later test before rest (statement_view s) fails
          ∙ ap (λ (b : List StatementAt). found test b rest) more;
      passed = subst (λ (b : List StatementAt). IsPassed array b c.and-passed.result) more known;
    }

pub returns : goal.returns
returns c =
    let xs = c.args.statements.now in
    let l = c.loop-statement in
    let test = is_wanted c.args.wanted in
    let before = statements_view (take l.statement-index xs) in
    sym (l.invariant.rest ∙ ap (found test before) (rest_none xs l.statement-index c.loop-statement-test.false) ∙ found_none test before)
