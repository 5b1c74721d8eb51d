use Rattle.std.proofs.Common.{Option, sym, subst}
use Rattle.fb_read_positions.specs.Resumed.{Leaves, Refuses, StopsAt}
use Rattle.fb_read_positions.specs.Walks.{to_item}
use Rattle.fb_read_positions.specs.declared.resume.Stop.{Stop}
use Rattle.fb_read_positions.proofs.lemmas.TokensLeft.{where_none, where_some}
use Rattle.fb_read_positions.proofs.resume.stop_at.Goals as goal

pub returns-in_err-left : goal.returns-in_err-left
returns-in_err-left c = λ tokens reached left.
    let w = to_item c.args.item in
    subst (λ (o : Option Stop). StopsAt tokens w o) (sym c.from_residual.ensures) (where_none (Refuses w tokens) (Leaves w tokens) _ c.in_err-left.was left)

pub returns : goal.returns
returns c = λ tokens reached left.
    let w = to_item c.args.item in
    let at : Leaves w tokens c.in_ok-left.left = where_some (Refuses w tokens) (Leaves w tokens) _ c.in_ok-left.left c.in_ok-left.was left in
    record { at = at; reached = c.with_list.ensures tokens reached at }
