use Rattle.std.proofs.Common.{◌≡◌, ◌<◌, ◌==◌, ◌-◌, suc, length, false, Some, None, ◌∙◌, sym, rules, arith}
use Rattle.std.proofs.lemmas.Grind.{common_steps}
use Rattle.toml_parser.specs.Lexical.{skip_blank}
use Rattle.fb_deploy_positions.specs.Statements.{line}
use Rattle.fb_deploy_positions.specs.Views.{statement_view}
use Rattle.fb_deploy_positions.proofs.lemmas.Lines.{found_all, found_last, found_more}
use Rattle.fb_deploy_positions.proofs.reading.statements_of.Goals as goal

pub lines-init : goal.lines-init
lines-init c = (
  search rules,
  c.skip_bom-rest.ensures.within,
  suc (length c.args.text.now),
  omega (arith, c.skip_bom-rest.ensures.within),
  rw (c.skip_bom-rest.ensures.rest, c.new-found.ensures.items),
)

pub returns-then-is_empty : goal.returns-then-is_empty
returns-then-is_empty c =
    let l = c.lines in
    let m = l.invariant.2 in
    let room = l.invariant.3 in
    let start_is = c.skip_blank-start.ensures.rest in
    let none : length (skip_blank l.rest.now) ≡ 0 = grind (arith, common_steps) in
    sym (l.invariant.4 ∙ found_all l.found.items m l.rest.now (omega arith) none)

pub returns-in-None : goal.returns-in-None
returns-in-None c =
    let l = c.lines in
    let m = l.invariant.2 in
    let room = l.invariant.3 in
    let start_is = c.skip_blank-start.ensures.rest in
    let other : (length (skip_blank l.rest.now) == 0) ≡ false = grind (arith, common_steps) in
    let read : line (skip_blank l.rest.now) ≡ None = sym (rw (c.in-None.is, start_is) at c.in_ok-line.ensures.value) in
    sym (l.invariant.4 ∙ found_last l.found.items m l.rest.now (omega arith) other read)

pub lines-preserved : goal.lines-preserved
lines-preserved c =
    let l = c.lines in
    let m = l.invariant.2 in
    let room = l.invariant.3 in
    let start_is = c.skip_blank-start.ensures.rest in
    let shorter = c.in_ok-line.ensures.shorter in
    let before = c.skip_blank-start.ensures.within in
    let other : (length (skip_blank l.rest.now) == 0) ≡ false = grind (arith, common_steps) in
    let less : length c.in-Some.after.now < length c.skip_blank-start.result.now = search rules in
    let read : line (skip_blank l.rest.now) ≡ Some (statement_view c.in-Some.statement, c.in-Some.after.now) = sym (rw (c.in-Some.is, start_is) at c.in_ok-line.ensures.value) in
    (search rules, omega (arith, l.invariant.1), m - 1, omega arith, l.invariant.4 ∙ found_more l.found.items m l.rest.now c.in-Some.statement c.in-Some.after.now (omega arith) other read ∙ rw c.in_ok-push-in-Some.ensures.items)
