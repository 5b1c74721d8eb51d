use Rattle.fb_inspect.proofs.lemmas.Common.{List, Some, ℕ, subst, sym, ◌∙◌, err_from_is_err_and, system_of, IsAlone, IsTaking, FailsBy, IsUnstarted}
use Rattle.fb_inspect.proofs.lemmas.walk.Stepped.{taking_joined}
use Rattle.fb_inspect.proofs.lemmas.results.Refused.{none_passed, refused_then}
use Rattle.fb_inspect.proofs.lemmas.results.Joined.{ok_passed}
use Rattle.fb_inspect.proofs.walk.Walk.take_from_ahead.Goals as goal

pub returns-clause-goes : goal.returns-clause-goes
returns-clause-goes c = λ look remaining is.
    let fixed = c.args.fixed.now in
    taking_joined fixed.table.now.system.now.library.blocks (system_of fixed.table.now.system.now) fixed.form fixed.limit look c.args.line.now c.in_ok-stop.stop c.args.self.now c.take_event.new.self
    c.as_slice-rest.result.now c.take_event.new.input.now c.args.ahead.now.text.items c.keep.new.self.text.items remaining (c.in_ok-stop.ensures.goes look is) (sym c.as_slice-rest.ensures.value)
    (c.in_ok-keep.ensures.text ∙ c.in_ok-left.ensures.items)

pub returns-clause-alone : goal.returns-clause-alone
returns-clause-alone c = λ alone.
    subst (λ (u : List ℕ). IsAlone c.take_event.new.self.trail.reading.line.items (Some u)) (sym (c.in_ok-keep.ensures.text ∙ c.in_ok-left.ensures.items))
    (c.in_ok-stop.ensures.alone (subst (λ (u : List ℕ). IsAlone c.args.self.now.trail.reading.line.items (Some u)) (sym c.as_slice-rest.ensures.value) alone))

pub returns-clause-last : goal.returns-clause-last
returns-clause-last c = c.keep.ensures.last

pub returns-in_err-stop-clause-refused : goal.returns-in_err-stop-clause-refused
returns-in_err-stop-clause-refused c = λ look names plain is.
    let fixed = c.args.fixed.now in
    let sys = system_of fixed.table.now.system.now in
    let T = IsTaking sys fixed.limit look in
    let old = c.args.self.now.trail.reading in
    let new = c.take_event.new.self.trail.reading in
    let q = err_from_is_err_and c.from_residual.result c.from_residual.ensures.1 in
    rw (q.1, q.2)
    (refused_then c.in_err-stop.field-0.0 (FailsBy T (IsUnstarted sys fixed.limit look c.args.line.now) sys fixed.form c.args.line.now old new (Some c.as_slice-rest.result.now) (Some c.take_event.new.input.now))
    (λ n. (rest : List ℕ) × FailsBy T (IsUnstarted sys fixed.limit look c.args.line.now) sys fixed.form c.args.line.now old new (Some c.args.ahead.now.text.items) (Some rest) n) (c.in_err-stop.ensures.refused look names plain is)
    (λ n fails.
    (c.take_event.new.input.now, subst (λ (u : List ℕ). FailsBy T (IsUnstarted sys fixed.limit look c.args.line.now) sys fixed.form c.args.line.now old new (Some u) (Some c.take_event.new.input.now) n) c.as_slice-rest.ensures.value fails)))

pub returns-in_err-stop-clause-goes : goal.returns-in_err-stop-clause-goes
returns-in_err-stop-clause-goes c = λ _ _ _. ok_passed c.from_residual.result _ _ c.from_residual.ensures.1

pub returns-in_err-stop-clause-alone : goal.returns-in_err-stop-clause-alone
returns-in_err-stop-clause-alone c = ok_passed c.from_residual.result _ _ c.from_residual.ensures.1

pub returns-in_err-stop-clause-last : goal.returns-in_err-stop-clause-last
returns-in_err-stop-clause-last c = ok_passed c.from_residual.result _ _ c.from_residual.ensures.1

pub returns-in_err-stop-clause-next : goal.returns-in_err-stop-clause-next
returns-in_err-stop-clause-next c = ok_passed c.from_residual.result _ _ c.from_residual.ensures.1

pub returns-in_err-left-clause-goes : goal.returns-in_err-left-clause-goes
returns-in_err-left-clause-goes c = λ _ _ _. ok_passed c.from_residual-in_err-left.result _ _ c.from_residual-in_err-left.ensures.1

pub returns-in_err-left-clause-alone : goal.returns-in_err-left-clause-alone
returns-in_err-left-clause-alone c = ok_passed c.from_residual-in_err-left.result _ _ c.from_residual-in_err-left.ensures.1

pub returns-in_err-left-clause-last : goal.returns-in_err-left-clause-last
returns-in_err-left-clause-last c = ok_passed c.from_residual-in_err-left.result _ _ c.from_residual-in_err-left.ensures.1

pub returns-in_err-left-clause-next : goal.returns-in_err-left-clause-next
returns-in_err-left-clause-next c = ok_passed c.from_residual-in_err-left.result _ _ c.from_residual-in_err-left.ensures.1

pub returns-in_err-left-clause-refused : goal.returns-in_err-left-clause-refused
returns-in_err-left-clause-refused c = λ _ _ _ _. none_passed _ _ _ c.from_residual-in_err-left.ensures.1 tt

pub returns-in_err-keep-clause-goes : goal.returns-in_err-keep-clause-goes
returns-in_err-keep-clause-goes c = λ _ _ _. ok_passed c.from_residual-in_err-keep.result _ _ c.from_residual-in_err-keep.ensures.1

pub returns-in_err-keep-clause-alone : goal.returns-in_err-keep-clause-alone
returns-in_err-keep-clause-alone c = ok_passed c.from_residual-in_err-keep.result _ _ c.from_residual-in_err-keep.ensures.1

pub returns-in_err-keep-clause-last : goal.returns-in_err-keep-clause-last
returns-in_err-keep-clause-last c = ok_passed c.from_residual-in_err-keep.result _ _ c.from_residual-in_err-keep.ensures.1

pub returns-in_err-keep-clause-next : goal.returns-in_err-keep-clause-next
returns-in_err-keep-clause-next c = ok_passed c.from_residual-in_err-keep.result _ _ c.from_residual-in_err-keep.ensures.1

pub returns-in_err-keep-clause-refused : goal.returns-in_err-keep-clause-refused
returns-in_err-keep-clause-refused c = λ _ _ _ _. none_passed _ _ _ c.from_residual-in_err-keep.ensures.1 tt

pub returns-clause-next : goal.returns-clause-next
returns-clause-next c = c.in_ok-stop.ensures.next
