use Rattle.fb_inspect.proofs.lemmas.Common.{◌≡◌, List, ℕ, None, refl, sym, ap, subst, ◌∙◌, Consumes, system_of, IsFirstLine, IsNext, IsWrongFor, BeginsText, Reading}
use Rattle.fb_inspect.specs.dump.Waving.{Begins}
use Rattle.fb_inspect.proofs.lemmas.dump.Ending.{front_none}
use Rattle.fb_inspect.proofs.lemmas.walk.UpToRefusal.{text_begins}
use Rattle.fb_inspect.proofs.lemmas.reactions.Placed.{err_any}
use Rattle.fb_inspect.proofs.lemmas.results.Refused.{none_passed}
use Rattle.fb_inspect.proofs.lemmas.results.Refusing.{err_known}
use Rattle.fb_inspect.proofs.lemmas.results.Joined.{ok_passed}
use Rattle.fb_wave.specs.CutOff.{IsUncut}
use Rattle.fb_inspect.specs.StateWaves.{WritesBefore}
use Rattle.fb_inspect.proofs.dump.states.write_with.Goals as goal

pub returns-in_err-form-clause-fault : goal.returns-in_err-form-clause-fault
returns-in_err-form-clause-fault g c =
    err_any c.from_residual.result _ (front_none (system_of c.args.table.now.system.now) c.args.terms.steps (g.R.Read.remaining c.args.input.now) (g.W.Write.contents c.args.out.now))

pub returns-in_err-wave-clause-fault : goal.returns-in_err-wave-clause-fault
returns-in_err-wave-clause-fault g c =
    err_any c.from_residual-in_err-wave.result _ (front_none (system_of c.args.table.now.system.now) c.args.terms.steps (g.R.Read.remaining c.args.input.now) (g.W.Write.contents c.args.out.now))

pub go_through-requires-clause-begins : goal.go_through-requires-clause-begins
go_through-requires-clause-begins g c =
    let begins = c.in_ok-wave.ensures in
    subst (λ (r : Reading). Begins (system_of c.args.table.now.system.now) r c.in_ok-wave.wave) (sym begins.reading_is) begins

pub go_through-requires-clause-next : goal.go_through-requires-clause-next
go_through-requires-clause-next g c =
    subst (λ (r : Reading). IsNext (system_of c.args.table.now.system.now) c.in_ok-form.form 0 r.line.items r.next) (sym c.in_ok-wave.ensures.reading_is) c.in_ok-form.ensures.next

pub go_through-requires-clause-first : goal.go_through-requires-clause-first
go_through-requires-clause-first g c = ap (λ (r : Reading). r.number) c.in_ok-wave.ensures.reading_is ∙ c.in_ok-form.ensures.number

pub returns-clause-whole : goal.returns-clause-whole
returns-clause-whole g c =
    let known = g.R.Read.remaining c.args.input.now in
    let line_is : c.in_ok-form.reading.line.items ≡ c.in_ok-wave.wave.walk.trail.reading.line.items = sym (ap (λ (r : Reading). r.line.items) c.in_ok-wave.ensures.reading_is) in
    c.go_through.ensures.whole known (subst (Consumes known (g.R.Read.remaining c.first_reading.new.input)) line_is c.in_ok-form.ensures.read)
    (subst (λ (l : List ℕ). IsFirstLine l known) line_is c.in_ok-form.ensures.first)

pub returns-clause-fault : goal.returns-clause-fault
returns-clause-fault g c =
    let known = g.R.Read.remaining c.args.input.now in
    let line_is : c.in_ok-form.reading.line.items ≡ c.in_ok-wave.wave.walk.trail.reading.line.items = sym (ap (λ (r : Reading). r.line.items) c.in_ok-wave.ensures.reading_is) in
    c.go_through.ensures.fault known (subst (Consumes known (g.R.Read.remaining c.first_reading.new.input)) line_is c.in_ok-form.ensures.read)
    (subst (λ (l : List ℕ). IsFirstLine l known) line_is c.in_ok-form.ensures.first)

pub returns-clause-refused : goal.returns-clause-refused
returns-clause-refused g c = λ names few.
    let sys = system_of c.args.table.now.system.now in
    let steps = c.args.terms.steps in
    let form = c.in_ok-form.form in
    let line_is : c.in_ok-form.reading.line.items ≡ c.in_ok-wave.wave.walk.trail.reading.line.items = sym (ap (λ (r : Reading). r.line.items) c.in_ok-wave.ensures.reading_is) in
    err_known c.go_through.result (g.R.Read.remaining c.args.input.now) (λ n. IsWrongFor sys steps n c.go_through.new.refused.current.text.items)
    (λ text known.
    let begins = text_begins sys form c.in_ok-form.reading.line.items None text (g.R.Read.remaining c.args.input.now) (g.R.Read.remaining c.first_reading.new.input) names known
    c.in_ok-form.ensures.read c.in_ok-form.ensures.first c.in_ok-form.ensures.form refl in
    c.go_through.ensures.refused begins.0 text few names begins.1 (subst (λ (u : List ℕ). BeginsText sys form u None begins.0 text) line_is begins.2))

pub returns-in_err-form-clause-whole : goal.returns-in_err-form-clause-whole
returns-in_err-form-clause-whole g c = ok_passed c.from_residual.result _ _ c.from_residual.ensures.1

pub returns-in_err-form-clause-refused : goal.returns-in_err-form-clause-refused
returns-in_err-form-clause-refused g c = λ _ _. none_passed _ _ _ c.from_residual.ensures.1 c.in_err-form.ensures.fault

pub returns-in_err-wave-clause-whole : goal.returns-in_err-wave-clause-whole
returns-in_err-wave-clause-whole g c = ok_passed c.from_residual-in_err-wave.result _ _ c.from_residual-in_err-wave.ensures.1

pub returns-in_err-wave-clause-refused : goal.returns-in_err-wave-clause-refused
returns-in_err-wave-clause-refused g c = λ _ _. none_passed _ _ _ c.from_residual-in_err-wave.ensures.1 tt

-- ---- Where a trace may be cut off

pub returns-clause-uncut : goal.returns-clause-uncut
returns-clause-uncut g c = λ names few allowed.
    let sys = system_of c.args.table.now.system.now in
    let form = c.in_ok-form.form in
    let line_is : c.in_ok-form.reading.line.items ≡ c.in_ok-wave.wave.walk.trail.reading.line.items = sym (ap (λ (r : Reading). r.line.items) c.in_ok-wave.ensures.reading_is) in
    err_known c.go_through.result (g.R.Read.remaining c.args.input.now) (λ n. IsUncut sys n.number)
    (λ text known.
    let begins = text_begins sys form c.in_ok-form.reading.line.items None text (g.R.Read.remaining c.args.input.now) (g.R.Read.remaining c.first_reading.new.input) names known
    c.in_ok-form.ensures.read c.in_ok-form.ensures.first c.in_ok-form.ensures.form refl in
    c.go_through.ensures.uncut begins.0 text few names begins.1 (subst (λ (u : List ℕ). BeginsText sys form u None begins.0 text) line_is begins.2) allowed)

pub returns-in_err-form-clause-uncut : goal.returns-in_err-form-clause-uncut
returns-in_err-form-clause-uncut g c = λ _ _ _. none_passed _ _ _ c.from_residual.ensures.1 c.in_err-form.ensures.fault

pub returns-in_err-wave-clause-uncut : goal.returns-in_err-wave-clause-uncut
returns-in_err-wave-clause-uncut g c = λ _ _ _. none_passed _ _ _ c.from_residual-in_err-wave.ensures.1 tt

-- ---- What was written before a line is refused

pub returns-clause-before : goal.returns-clause-before
returns-clause-before g c = λ names few.
    let sys = system_of c.args.table.now.system.now in
    let form = c.in_ok-form.form in
    let line_is : c.in_ok-form.reading.line.items ≡ c.in_ok-wave.wave.walk.trail.reading.line.items = sym (ap (λ (r : Reading). r.line.items) c.in_ok-wave.ensures.reading_is) in
    err_known c.go_through.result (g.R.Read.remaining c.args.input.now) (λ n text. WritesBefore sys n.number text (g.W.Write.contents c.args.out.now) (g.W.Write.contents c.go_through.new.out))
    (λ text known.
    let begins = text_begins sys form c.in_ok-form.reading.line.items None text (g.R.Read.remaining c.args.input.now) (g.R.Read.remaining c.first_reading.new.input) names known
    c.in_ok-form.ensures.read c.in_ok-form.ensures.first c.in_ok-form.ensures.form refl in
    c.go_through.ensures.before begins.0 text few names begins.1 (subst (λ (u : List ℕ). BeginsText sys form u None begins.0 text) line_is begins.2))

pub returns-in_err-form-clause-before : goal.returns-in_err-form-clause-before
returns-in_err-form-clause-before g c = λ _ _. none_passed _ _ _ c.from_residual.ensures.1 c.in_err-form.ensures.fault

pub returns-in_err-wave-clause-before : goal.returns-in_err-wave-clause-before
returns-in_err-wave-clause-before g c = λ _ _. none_passed _ _ _ c.from_residual-in_err-wave.ensures.1 tt
