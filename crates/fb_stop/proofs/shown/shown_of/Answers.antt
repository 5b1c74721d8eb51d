use Rattle.fb_types.proofs.Common.{Option, subst, IfNone, IfOk, IfSome}
use Rattle.fb_stop.specs.Shown.{IsOperationShown, IsUnshown}
use Rattle.fb_stop.specs.declared.operation.Operation.{Operation}
use Rattle.fb_stop.proofs.lemmas.operations.OperationTokens.{shown_none, shown_some}
use Rattle.fb_stop.proofs.shown.shown_of.Goals as goal

pub returns-clause-found : goal.returns-clause-found
returns-clause-found c =
    let text = c.args.text.now in
    let i = c.args.system.now in
    let stop = c.args.stop.now in
    subst (λ (o : Option Operation). IfOk c.shown_with.result (λ x. IfSome x (IsOperationShown text i stop o))) c.operation_at.ensures
    (shown_some (IsUnshown text i stop c.operation_at.result) (IsOperationShown text i stop c.operation_at.result) c.shown_with.result c.shown_with.ensures)

pub returns-clause-none : goal.returns-clause-none
returns-clause-none c =
    let text = c.args.text.now in
    let i = c.args.system.now in
    let stop = c.args.stop.now in
    subst (λ (o : Option Operation). IfOk c.shown_with.result (λ x. IfNone x (IsUnshown text i stop o))) c.operation_at.ensures
    (shown_none (IsUnshown text i stop c.operation_at.result) (IsOperationShown text i stop c.operation_at.result) c.shown_with.result c.shown_with.ensures)
