use Rattle.fb_inspect.proofs.lemmas.Common.{ℕ, List, refl, subst, system_of, IsNext}
use Rattle.fb_wave.proofs.lemmas.Forming.{ShowsForm}
use Rattle.fb_inspect.proofs.insides.first_reading.Goals as goal

pub returns-clause-read : goal.returns-clause-read
returns-clause-read g c = c.in_ok-read_on.ensures.read

pub returns-clause-first : goal.returns-clause-first
returns-clause-first g c = c.in_ok-read_on.ensures.line

pub returns-clause-form : goal.returns-clause-form
returns-clause-form g c = subst (λ (u : List ℕ). ShowsForm c.form_of-form.result u) c.as_slice.ensures.value c.form_of-form.ensures.form

pub returns-clause-next : goal.returns-clause-next
returns-clause-next g c =
    subst (λ (t : List ℕ). IsNext (system_of c.args.table.now.system.now) c.form_of-form.result 0 t c.in_ok-next.next) c.as_slice-2.ensures.value c.in_ok-next.ensures

pub returns-clause-number : goal.returns-clause-number
returns-clause-number g c = refl
