use Rattle.std.proofs.Common.{◌+◌, ◌≤◌, ℕ, length, subst, arith}
use Rattle.fb_read.specs.declared.token.Span.{Span}
use Rattle.fb_read_positions.proofs.lemmas.TokensLeft.{where_none, where_some}
use Rattle.fb_stop.specs.Shown.{IsTokenOf}
use Rattle.fb_stop.proofs.shown.shown_from.Goals as goal

pub returns-in_default : goal.returns-in_default
returns-in_default c = λ x shown.
    let n = c.args.begin + c.args.operation.first in
    let ps = c.args.tokens.now in
    let over = where_none (length ps ≤ n) (λ span. IsTokenOf c.args.text.now ps n span.start span.end) _ c.in_default.is c.in_ok-first.ensures in
    omega (arith, over, shown.first.0)

pub returns-in_default-2 : goal.returns-in_default-2
returns-in_default-2 c = λ x shown.
    let n = c.args.begin + c.args.operation.operator in
    let ps = c.args.tokens.now in
    let over = where_none (length ps ≤ n) (λ span. IsTokenOf c.args.text.now ps n span.start span.end) _ c.in_default-2.is c.in_ok-operator.ensures in
    omega (arith, over, shown.operator.0)

pub returns-in_default-3 : goal.returns-in_default-3
returns-in_default-3 c = λ x shown.
    let n = c.args.begin + c.saturating_sub-last.result in
    let ps = c.args.tokens.now in
    let over = where_none (length ps ≤ n) (λ span. IsTokenOf c.args.text.now ps n span.start span.end) _ c.in_default-3.is c.in_ok-last.ensures in
    omega (arith, over, c.saturating_sub-last.ensures, shown.last.0)

pub returns : goal.returns
returns c =
    let text = c.args.text.now in
    let tokens = c.args.tokens.now in
    let at : ℕ → Span → Type 0 = λ n span. IsTokenOf text tokens (c.args.begin + n) span.start span.end in
    let past : ℕ → Type 0 = λ n. length tokens ≤ c.args.begin + n in
    let last : Span = c.in-Some-3.last in
    record {
      operator = where_some (past c.args.operation.operator) (at c.args.operation.operator) c.in_ok-operator.field-0 c.in-Some-2.operator c.in-Some-2.is c.in_ok-operator.ensures;
      first_end = c.in-Some.first.end;
      first = where_some (past c.args.operation.first) (at c.args.operation.first) c.in_ok-first.field-0 c.in-Some.first c.in-Some.is c.in_ok-first.ensures;
      last_start = last.start;
      last = subst (λ (n : ℕ). at n last) c.saturating_sub-last.ensures
          (where_some (past c.saturating_sub-last.result) (at c.saturating_sub-last.result) c.in_ok-last.field-0 last c.in-Some-3.is c.in_ok-last.ensures);
    }
