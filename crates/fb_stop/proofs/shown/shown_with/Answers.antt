use Rattle.fb_types.proofs.Common.{inl, inr, subst}
use Rattle.fb_types.specs.declared.library.Library.{Library}
use Rattle.fb_read_positions.specs.Spans.{DeclaresNothing, IsAt, IsNowhere}
use Rattle.fb_read_positions.proofs.lemmas.TokensLeft.{where_none, where_some}
use Rattle.fb_stop.proofs.lemmas.operations.OperationTokens.{nowhere_shown, shown_or_not, unshown}
use Rattle.fb_stop.proofs.shown.shown_with.Goals as goal

pub returns-in_default : goal.returns-in_default
returns-in_default c = inl c.in_default.ensures.none

pub returns-in_default-operation : goal.returns-in_default-operation
returns-in_default-operation c = inr (inl c.in_default-operation.is)

pub returns-in_default-2 : goal.returns-in_default-2
returns-in_default-2 c =
    let text = c.args.text.now in
    let i = c.args.system.now in
    let p = c.in-Some.position in
    let lib = c.library.result.now in
    let none = where_none (IsNowhere text lib p) (IsAt text lib p) _ c.in_default-2.is c.in_ok-span.ensures in
    unshown text i c.args.stop.now _ p c.in-Some-operation.operation c.in-Some.ensures.found c.in-Some-operation.is
    (nowhere_shown text i.library p c.in-Some-operation.operation (subst (λ (l : Library). IsNowhere text l p) c.library.ensures none))

pub returns-in_default-3 : goal.returns-in_default-3
returns-in_default-3 c =
    let text = c.args.text.now in
    let i = c.args.system.now in
    let p = c.in-Some.position in
    unshown text i c.args.stop.now _ p c.in-Some-operation.operation c.in-Some.ensures.found c.in-Some-operation.is
    (λ declared x shown. where_none (DeclaresNothing text) (λ _. Unit {0}) _ c.in_default-3.is c.in_ok-tokens.ensures.none i.library declared)

pub returns : goal.returns
returns c =
    let text = c.args.text.now in
    let p = c.in-Some.position in
    let lib = c.library.result.now in
    let span = c.in-Some-2.span in
    let at = where_some (IsNowhere text lib p) (IsAt text lib p) _ span c.in-Some-2.is c.in_ok-span.ensures in
    shown_or_not text c.args.system.now c.args.stop.now _ p c.in-Some-operation.operation c.in-Some.ensures.found c.in-Some-operation.is lib span c.shown_in-found.result c.library.ensures at c.shown_in-found.ensures
