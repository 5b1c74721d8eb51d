use Rattle.fb_types.proofs.Common.{◌∙◌, sym, none-some}
use Rattle.fb_st.specs.Frames.{values_of}
use Rattle.fb_stop.proofs.lemmas.operations.Insides.{in_guard}
use Rattle.fb_stop.proofs.lemmas.numbers.NothingSaid.{guard_other, if_none_map, no_transition, none_after, nth_there, other_guard}
use Rattle.fb_stop.proofs.before.inside_guard.Goals as goal

pub returns-in-Some-clause-found : goal.returns-in-Some-clause-found
returns-in-Some-clause-found c =
    in_guard c.args.block.now c.args.state c.args.nth c.in_ok-index.index c.in_ok-from.field-0.now c.in_ok-guard.field-0.now c.in-Some.guard (values_of c.args.frame.now) c.args.reason c.operation_in.result
    (sym c.in_ok-from.ensures.value) c.in_ok-index.ensures.found (sym c.in_ok-guard.ensures.value) c.in-Some.is c.operation_in.ensures.found

pub returns-in_err-from-clause-none : goal.returns-in_err-from-clause-none
returns-in_err-from-clause-none c =
    rw c.from_residual.ensures
    (λ x g at guard. absurd (no_transition c.args.block.now c.args.state c.args.nth x c.requires.sound c.requires.state (sym c.in_err-from.ensures.value) at))

pub returns-in_err-index-clause-none : goal.returns-in_err-index-clause-none
returns-in_err-index-clause-none c =
    rw c.from_residual-in_err-index.ensures
    (λ x g at guard. absurd (none_after c.args.block.now c.args.state c.args.nth c.in_ok-from.field-0.now x (sym c.in_ok-from.ensures.value) c.in_err-index.ensures.none at))

pub returns-in_err-guard-clause-none : goal.returns-in_err-guard-clause-none
returns-in_err-guard-clause-none c =
    absurd (nth_there c.args.block.now c.in_ok-from.field-0.now.name c.args.nth c.in_ok-index.index c.in_ok-index.ensures.found (sym c.in_err-guard.ensures.value))

pub returns-in-None-clause-none : goal.returns-in-None-clause-none
returns-in-None-clause-none c =
    guard_other c.args.block.now c.args.state c.args.nth c.in_ok-index.index c.in_ok-from.field-0.now c.in_ok-guard.field-0.now (values_of c.args.frame.now) c.args.reason
    (sym c.in_ok-from.ensures.value) c.in_ok-index.ensures.found (sym c.in_ok-guard.ensures.value) (λ g named. absurd (none-some g (sym c.in-None.is ∙ named)))

pub returns-in-Some-clause-none : goal.returns-in-Some-clause-none
returns-in-Some-clause-none c =
    if_none_map c.operation_in.result
    (λ other.
    guard_other c.args.block.now c.args.state c.args.nth c.in_ok-index.index c.in_ok-from.field-0.now c.in_ok-guard.field-0.now (values_of c.args.frame.now) c.args.reason
    (sym c.in_ok-from.ensures.value) c.in_ok-index.ensures.found (sym c.in_ok-guard.ensures.value)
    (λ g named. other_guard c.in_ok-guard.field-0.now.condition.guard c.in-Some.guard g (values_of c.args.frame.now) c.args.reason c.in-Some.is other named))
    c.operation_in.ensures.none
