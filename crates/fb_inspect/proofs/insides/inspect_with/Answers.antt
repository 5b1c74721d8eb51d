use Rattle.fb_inspect.proofs.lemmas.Common.{◌≡◌, List, ℕ, None, refl, sym, ap, subst, IfSome, Consumes, err_from_is_err_and, system_of, Marks, IsFirstLine, IsWrongFor, BeginsText, Reading}
use Rattle.fb_inspect.specs.Covering.{Covers}
use Rattle.fb_inspect.proofs.lemmas.walk.Ended.{covers_of, front_none, starts_of}
use Rattle.fb_inspect.proofs.lemmas.results.Errors.{of_known}
use Rattle.fb_inspect.proofs.lemmas.walk.UpToRefusal.{text_begins}
use Rattle.fb_inspect.proofs.lemmas.reactions.Placed.{err_any}
use Rattle.fb_inspect.proofs.lemmas.results.Refused.{none_passed}
use Rattle.fb_inspect.proofs.lemmas.results.Joined.{ok_passed}
use Rattle.fb_inspect.specs.Selections.{selection_of}
use Rattle.fb_wave.specs.CutOff.{IsUncut}
use Rattle.fb_inspect.specs.Inspections.{ShowsBefore}
use Rattle.fb_inspect.proofs.insides.inspect_with.Goals as goal

pub returns-in_err-form-clause-fault : goal.returns-in_err-form-clause-fault
returns-in_err-form-clause-fault g c =
    err_any c.from_residual.result _ (front_none (system_of c.args.table.now.system.now) (selection_of c.args.inspection) c.args.inspection.terms.steps (g.R.Read.remaining c.args.input.now) (g.W.Write.contents c.args.out.now))

pub returns-in_err-walk-clause-fault : goal.returns-in_err-walk-clause-fault
returns-in_err-walk-clause-fault g c =
    err_any c.from_residual-in_err-walk.result _ (front_none (system_of c.args.table.now.system.now) (selection_of c.args.inspection) c.args.inspection.terms.steps (g.R.Read.remaining c.args.input.now) (g.W.Write.contents c.args.out.now))

pub go_through-requires-clause-starts : goal.go_through-requires-clause-starts
go_through-requires-clause-starts g c =
    let sys = system_of c.args.table.now.system.now in
    let what = (selection_of c.args.inspection) in
    (what, starts_of sys _ what _ c.in_ok-form.reading c.in_ok-walk.walk c.in_ok-walk.ensures c.in_ok-form.ensures.next c.in_ok-form.ensures.number)

pub returns-clause-whole : goal.returns-clause-whole
returns-clause-whole g c =
    let sys = system_of c.args.table.now.system.now in
    let what = (selection_of c.args.inspection) in
    let known = g.R.Read.remaining c.args.input.now in
    let starts = starts_of sys _ what _ c.in_ok-form.reading c.in_ok-walk.walk c.in_ok-walk.ensures c.in_ok-form.ensures.next c.in_ok-form.ensures.number in
    let line_is : c.in_ok-form.reading.line.items ≡ c.in_ok-walk.walk.trail.reading.line.items = sym (ap (λ (r : Reading). r.line.items) c.in_ok-walk.ensures.reading_is) in
    c.in_ok-extent.ensures.whole what known starts (subst (Consumes known (g.R.Read.remaining c.first_reading.new.input)) line_is c.in_ok-form.ensures.read)
    (subst (λ (l : List ℕ). IsFirstLine l known) line_is c.in_ok-form.ensures.first)

pub returns-clause-covered : goal.returns-clause-covered
returns-clause-covered g c =
    let i = c.args.table.now.system.now in
    let what = (selection_of c.args.inspection) in
    let cut = c.args.inspection.terms.cut in
    let steps = c.args.inspection.terms.steps in
    let known = g.R.Read.remaining c.args.input.now in
    let starts = starts_of (system_of i) _ what _ c.in_ok-form.reading c.in_ok-walk.walk c.in_ok-walk.ensures c.in_ok-form.ensures.next c.in_ok-form.ensures.number in
    let line_is : c.in_ok-form.reading.line.items ≡ c.in_ok-walk.walk.trail.reading.line.items = sym (ap (λ (r : Reading). r.line.items) c.in_ok-walk.ensures.reading_is) in
    let covered = c.in_ok-extent.ensures.covered what known starts (subst (Consumes known (g.R.Read.remaining c.first_reading.new.input)) line_is c.in_ok-form.ensures.read)
    (subst (λ (l : List ℕ). IsFirstLine l known) line_is c.in_ok-form.ensures.first) in
    let Q : Marks → Type 0 = λ m. IfSome known (λ text. Covers cut i steps text c.args.marks m c.in_ok-extent.extent) in
    subst Q (sym c.replace-marks.ensures.value)
    (covers_of cut i c.facts.ensures.accepted what steps known c.in_ok-walk.walk.trail.marks c.args.marks c.go_through.new.walk.trail.marks c.in_ok-extent.extent c.in_ok-walk.ensures.marks_are covered)

pub returns-in_err-extent-clause-fault : goal.returns-in_err-extent-clause-fault
returns-in_err-extent-clause-fault g c =
    let sys = system_of c.args.table.now.system.now in
    let what = (selection_of c.args.inspection) in
    let known = g.R.Read.remaining c.args.input.now in
    let starts = starts_of sys _ what _ c.in_ok-form.reading c.in_ok-walk.walk c.in_ok-walk.ensures c.in_ok-form.ensures.next c.in_ok-form.ensures.number in
    let line_is : c.in_ok-form.reading.line.items ≡ c.in_ok-walk.walk.trail.reading.line.items = sym (ap (λ (r : Reading). r.line.items) c.in_ok-walk.ensures.reading_is) in
    err_any c.from_residual-in_err-extent.result _
    (c.in_err-extent.ensures.fault what known starts (subst (Consumes known (g.R.Read.remaining c.first_reading.new.input)) line_is c.in_ok-form.ensures.read)
    (subst (λ (l : List ℕ). IsFirstLine l known) line_is c.in_ok-form.ensures.first))

pub returns-in_err-extent-clause-refused : goal.returns-in_err-extent-clause-refused
returns-in_err-extent-clause-refused g c = λ names few.
    let sys = system_of c.args.table.now.system.now in
    let what = (selection_of c.args.inspection) in
    let steps = c.args.inspection.terms.steps in
    let starts = starts_of sys _ what _ c.in_ok-form.reading c.in_ok-walk.walk c.in_ok-walk.ensures c.in_ok-form.ensures.next c.in_ok-form.ensures.number in
    let line_is : c.in_ok-form.reading.line.items ≡ c.in_ok-walk.walk.trail.reading.line.items = sym (ap (λ (r : Reading). r.line.items) c.in_ok-walk.ensures.reading_is) in
    let q = err_from_is_err_and c.from_residual-in_err-extent.result c.from_residual-in_err-extent.ensures.1 in
    rw (q.1, q.2)
    (of_known (g.R.Read.remaining c.args.input.now) (λ n. IsWrongFor sys steps n c.go_through.new.refused.current.text.items) c.in_err-extent.field-0.0
    (λ text known.
    let begins = text_begins sys c.in_ok-form.form c.in_ok-form.reading.line.items None text (g.R.Read.remaining c.args.input.now) (g.R.Read.remaining c.first_reading.new.input) names known
    c.in_ok-form.ensures.read c.in_ok-form.ensures.first c.in_ok-form.ensures.form refl in
    c.in_err-extent.ensures.refused what begins.0 text few names starts begins.1
    (subst (λ (u : List ℕ). BeginsText sys c.in_ok-form.form u None begins.0 text) line_is begins.2)))

pub returns-in_err-form-clause-whole : goal.returns-in_err-form-clause-whole
returns-in_err-form-clause-whole g c = ok_passed c.from_residual.result _ _ c.from_residual.ensures.1

pub returns-in_err-form-clause-covered : goal.returns-in_err-form-clause-covered
returns-in_err-form-clause-covered g c = ok_passed c.from_residual.result _ _ c.from_residual.ensures.1

pub returns-in_err-form-clause-refused : goal.returns-in_err-form-clause-refused
returns-in_err-form-clause-refused g c = λ _ _. none_passed _ _ _ c.from_residual.ensures.1 c.in_err-form.ensures.fault

pub returns-in_err-walk-clause-whole : goal.returns-in_err-walk-clause-whole
returns-in_err-walk-clause-whole g c = ok_passed c.from_residual-in_err-walk.result _ _ c.from_residual-in_err-walk.ensures.1

pub returns-in_err-walk-clause-covered : goal.returns-in_err-walk-clause-covered
returns-in_err-walk-clause-covered g c = ok_passed c.from_residual-in_err-walk.result _ _ c.from_residual-in_err-walk.ensures.1

pub returns-in_err-walk-clause-refused : goal.returns-in_err-walk-clause-refused
returns-in_err-walk-clause-refused g c = λ _ _. none_passed _ _ _ c.from_residual-in_err-walk.ensures.1 tt

pub returns-in_err-extent-clause-whole : goal.returns-in_err-extent-clause-whole
returns-in_err-extent-clause-whole g c = ok_passed c.from_residual-in_err-extent.result _ _ c.from_residual-in_err-extent.ensures.1

pub returns-in_err-extent-clause-covered : goal.returns-in_err-extent-clause-covered
returns-in_err-extent-clause-covered g c = ok_passed c.from_residual-in_err-extent.result _ _ c.from_residual-in_err-extent.ensures.1

-- ---- Where a trace may be cut off

pub returns-in_err-extent-clause-uncut : goal.returns-in_err-extent-clause-uncut
returns-in_err-extent-clause-uncut g c = λ names few allowed.
    let sys = system_of c.args.table.now.system.now in
    let what = (selection_of c.args.inspection) in
    let starts = starts_of sys _ what _ c.in_ok-form.reading c.in_ok-walk.walk c.in_ok-walk.ensures c.in_ok-form.ensures.next c.in_ok-form.ensures.number in
    let line_is : c.in_ok-form.reading.line.items ≡ c.in_ok-walk.walk.trail.reading.line.items = sym (ap (λ (r : Reading). r.line.items) c.in_ok-walk.ensures.reading_is) in
    let q = err_from_is_err_and c.from_residual-in_err-extent.result c.from_residual-in_err-extent.ensures.1 in
    rw (q.1, q.2)
    (of_known (g.R.Read.remaining c.args.input.now) (λ n. IsUncut sys n.number) c.in_err-extent.field-0.0
    (λ text known.
    let begins = text_begins sys c.in_ok-form.form c.in_ok-form.reading.line.items None text (g.R.Read.remaining c.args.input.now) (g.R.Read.remaining c.first_reading.new.input) names known
    c.in_ok-form.ensures.read c.in_ok-form.ensures.first c.in_ok-form.ensures.form refl in
    c.in_err-extent.ensures.uncut what begins.0 text few names starts begins.1
    (subst (λ (u : List ℕ). BeginsText sys c.in_ok-form.form u None begins.0 text) line_is begins.2) allowed))

pub returns-in_err-form-clause-uncut : goal.returns-in_err-form-clause-uncut
returns-in_err-form-clause-uncut g c = λ _ _ _. none_passed _ _ _ c.from_residual.ensures.1 c.in_err-form.ensures.fault

pub returns-in_err-walk-clause-uncut : goal.returns-in_err-walk-clause-uncut
returns-in_err-walk-clause-uncut g c = λ _ _ _. none_passed _ _ _ c.from_residual-in_err-walk.ensures.1 tt

-- ---- What was written before a line is refused

pub returns-in_err-extent-clause-before : goal.returns-in_err-extent-clause-before
returns-in_err-extent-clause-before g c = λ names few.
    let sys = system_of c.args.table.now.system.now in
    let what = (selection_of c.args.inspection) in
    let starts = starts_of sys _ what _ c.in_ok-form.reading c.in_ok-walk.walk c.in_ok-walk.ensures c.in_ok-form.ensures.next c.in_ok-form.ensures.number in
    let line_is : c.in_ok-form.reading.line.items ≡ c.in_ok-walk.walk.trail.reading.line.items = sym (ap (λ (r : Reading). r.line.items) c.in_ok-walk.ensures.reading_is) in
    let q = err_from_is_err_and c.from_residual-in_err-extent.result c.from_residual-in_err-extent.ensures.1 in
    rw (q.1, q.2)
    (of_known (g.R.Read.remaining c.args.input.now) (λ n text. ShowsBefore sys what n.number text (g.W.Write.contents c.args.out.now) (g.W.Write.contents c.go_through.new.out)) c.in_err-extent.field-0.0
    (λ text known.
    let begins = text_begins sys c.in_ok-form.form c.in_ok-form.reading.line.items None text (g.R.Read.remaining c.args.input.now) (g.R.Read.remaining c.first_reading.new.input) names known
    c.in_ok-form.ensures.read c.in_ok-form.ensures.first c.in_ok-form.ensures.form refl in
    c.in_err-extent.ensures.before what begins.0 text few names starts begins.1
    (subst (λ (u : List ℕ). BeginsText sys c.in_ok-form.form u None begins.0 text) line_is begins.2)))

pub returns-in_err-form-clause-before : goal.returns-in_err-form-clause-before
returns-in_err-form-clause-before g c = λ _ _. none_passed _ _ _ c.from_residual.ensures.1 c.in_err-form.ensures.fault

pub returns-in_err-walk-clause-before : goal.returns-in_err-walk-clause-before
returns-in_err-walk-clause-before g c = λ _ _. none_passed _ _ _ c.from_residual-in_err-walk.ensures.1 tt
