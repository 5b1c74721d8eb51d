use Rattle.std.proofs.Common.{◌≡◌, List, IfOk, sym, ap, subst, ◌∙◌}
use Rattle.fb_deploy_positions.specs.Statements.{StatementAt}
use Rattle.fb_deploy_positions.specs.Views.{statements_view}
use Rattle.fb_deploy_positions.proofs.lemmas.Lines.{statements_other, statements_utf8}
use Rattle.fb_deploy_positions.proofs.reading.document_statements.Goals as goal

pub returns-in-Ok : goal.returns-in-Ok
returns-in-Ok c =
    subst (λ (all : List StatementAt). IfOk c.statements_of.result (λ v. statements_view v.items ≡ all)) (sym (statements_utf8 c.args.text.now c.in-Ok.ensures.cases.1))
    (rw c.in-Ok.ensures.cases.0 at c.statements_of.ensures)

pub returns-in-Err : goal.returns-in-Err
returns-in-Err c = ap statements_view c.new.ensures.items ∙ sym (statements_other c.args.text.now c.in-Err.ensures.cases.0)
