use Rattle.fb_read.proofs.lemmas.Common.{Ok, ap, sym, ◌∙◌, err_from_is_err_and, Name, nested_statement}
use Rattle.fb_types.specs.declared.text.Stmt.TheVariants as s
use Rattle.fb_read.proofs.lemmas.rules.Pairs.{for_statement_is}
use Rattle.fb_read.proofs.lemmas.rules.Reading.{stops, stops_as, stops_later, went_on}
use Rattle.fb_read.proofs.statement.StatementRules.for_statement.Goals as goal

pub returns-in_err-first : goal.returns-in_err-first
returns-in_err-first g c =
    let p = err_from_is_err_and c.from_residual.result c.from_residual.ensures.1 in
    rw (p.1, p.2) (stops_as _ _ _ _ (for_statement_is (nested_statement c.args.self.now.below) c.args.cursor.now) (stops _ _ _ _ c.in_err-first.ensures))

pub returns-in_err-head : goal.returns-in_err-head
returns-in_err-head g c =
    let p = err_from_is_err_and c.from_residual-in_err-head.result c.from_residual-in_err-head.ensures.1 in
    rw (p.1, p.2) (stops_as _ _ _ _ (for_statement_is (nested_statement c.args.self.now.below) c.args.cursor.now) (stops_later _ _ _ _ _ _ c.in_ok-first.ensures (stops _ _ _ _ c.in_err-head.ensures)))

pub returns-in_err-step : goal.returns-in_err-step
returns-in_err-step g c =
    let p = err_from_is_err_and c.from_residual-in_err-step.result c.from_residual-in_err-step.ensures.1 in
    rw (p.1, p.2) (stops_as _ _ _ _ (for_statement_is (nested_statement c.args.self.now.below) c.args.cursor.now) (stops_later _ _ _ _ _ _ c.in_ok-first.ensures (stops_later _ _ _ _ _ _ c.in_ok-head.ensures (stops _ _ _ _ c.in_err-step.ensures))))

pub returns-in_err-body : goal.returns-in_err-body
returns-in_err-body g c =
    let p = err_from_is_err_and c.from_residual-in_err-body.result c.from_residual-in_err-body.ensures.1 in
    rw (p.1, p.2) (stops_as _ _ _ _ (for_statement_is (nested_statement c.args.self.now.below) c.args.cursor.now) (stops_later _ _ _ _ _ _ c.in_ok-first.ensures (stops_later _ _ _ _ _ _ c.in_ok-head.ensures (stops_later _ _ _ _ _ _ c.in_ok-step.ensures (stops _ _ _ _ c.in_err-body.ensures)))))

pub returns : goal.returns
returns g c = for_statement_is (nested_statement c.args.self.now.below) c.args.cursor.now ∙ went_on _ _ _ _ _ c.in_ok-first.ensures (went_on _ _ _ _ _ c.in_ok-head.ensures (went_on _ _ _ _ _ c.in_ok-step.ensures (went_on _ _ _ _ _ c.in_ok-body.ensures (ap (λ (n : Name). Ok (s.For n c.in_ok-head.head.0.1 c.in_ok-head.head.1 c.in_ok-step.step c.in_ok-body.body, c.loop_body.new.cursor)) (sym c.new.ensures)))))
