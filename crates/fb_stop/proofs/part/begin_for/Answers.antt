use Rattle.fb_types.proofs.Common.{List, Some, suc, subst, sym, ◌∙◌, refl, err_from_is_err_and, Name, For, expr_of, step_of, Types, whole}
use Rattle.fb_types.specs.declared.value.Reason.TheVariants as reason
use Rattle.fb_st.specs.declared.frame.Slot.{Slot}
use Rattle.fb_st.specs.Frames.{declared_in, types_in, values_of}
use Rattle.fb_stop.specs.Blamed.{Runs, Stopped}
use Rattle.fb_stop.proofs.lemmas.numbers.Runs.{for_counts, for_not_begun, for_stops_by, for_stops_last}
use Rattle.fb_stop.proofs.part.begin_for.Goals as goal

pub returns-in_err-last-clause-failed : goal.returns-in_err-last-clause-failed
returns-in_err-last-clause-failed c =
    let x = err_from_is_err_and c.from_residual-in_err-last.result c.from_residual-in_err-last.ensures.1 in
    rw (x.1, x.2) (λ around body left.
    for_stops_last (types_in (declared_in c.args.frame.now)) around c.args.number c.args.variable.now (expr_of c.args.start.now) (expr_of c.args.end.now) (step_of c.args.step.now) body
    (values_of c.args.frame.now) left c.in_ok-first.first c.in_err-last.field-0.0 (sym c.eval.ensures ∙ c.in_ok-first.was) (sym c.eval-2.ensures ∙ c.in_err-last.was))

pub returns-in_err-by-clause-failed : goal.returns-in_err-by-clause-failed
returns-in_err-by-clause-failed c =
    let x = err_from_is_err_and c.from_residual-in_err-by.result c.from_residual-in_err-by.ensures.1 in
    rw (x.1, x.2) (λ around body left.
    for_stops_by (types_in (declared_in c.args.frame.now)) around c.args.number c.args.variable.now (expr_of c.args.start.now) (expr_of c.args.end.now) (step_of c.args.step.now) body
    (values_of c.args.frame.now) left c.in_ok-first.first c.in_ok-last.last c.in_err-by.field-0.0 (sym c.eval.ensures ∙ c.in_ok-first.was) (sym c.eval-2.ensures ∙ c.in_ok-last.was) (sym c.step_value.ensures ∙ c.in_err-by.was))

pub returns-in_err-assign-clause-failed : goal.returns-in_err-assign-clause-failed
returns-in_err-assign-clause-failed c =
    let T : Types = types_in (declared_in c.args.frame.now) in
    let n : Name = c.args.variable.now in
    let e = c.in_err-assign.ensures.err in
    let x = err_from_is_err_and c.from_residual-in_err-assign.result c.from_residual-in_err-assign.ensures.1 in
    rw (x.1, x.2, e.0) (λ around body left.
    subst (λ (s : List Slot). Runs T around c.args.number (For n (expr_of c.args.start.now) (expr_of c.args.end.now) (step_of c.args.step.now) body)
    (record { vars = values_of c.args.frame.now; left = suc left }) (Stopped (record { reason = reason.Range; number = c.args.number; value = Some c.in_ok-first.first })) (record { vars = values_of s; left = left })) (sym e.2)
    (for_not_begun T around c.args.number n (expr_of c.args.start.now) (expr_of c.args.end.now) (step_of c.args.step.now) body
    (values_of c.args.frame.now) left c.in_ok-first.first c.in_ok-last.last c.in_ok-by.by
    (sym c.eval.ensures ∙ c.in_ok-first.was) (sym c.eval-2.ensures ∙ c.in_ok-last.was) (sym c.step_value.ensures ∙ c.in_ok-by.was) e.1))

pub returns-clause-begun : goal.returns-clause-begun
returns-clause-begun c = λ around body left e q run.
    let ok = c.in_ok-assign.ensures.ok in
    for_counts (types_in (declared_in c.args.frame.now)) around c.args.number c.args.variable.now (expr_of c.args.start.now) (expr_of c.args.end.now) (step_of c.args.step.now) body
    (values_of c.args.frame.now) (values_of c.assign.new.frame) left c.in_ok-first.first c.in_ok-last.last c.in_ok-by.by
    (whole c.in_ok-last.last) (whole c.in_ok-by.by) e q
    (sym c.eval.ensures ∙ c.in_ok-first.was) (sym c.eval-2.ensures ∙ c.in_ok-last.was) (sym c.step_value.ensures ∙ c.in_ok-by.was) refl refl ok.0 ok.1 run
