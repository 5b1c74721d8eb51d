use Rattle.fb_inspect.proofs.lemmas.Common.{ℕ, List, subst, system_of, IsNext}
use Rattle.fb_inspect.proofs.walk.reading.Reading.advance.Goals as goal

pub returns-clause-next : goal.returns-clause-next
returns-clause-next g c =
    subst (λ (t : List ℕ). IsNext (system_of c.args.table.now.system.now) c.args.form c.args.tick t c.in_ok-self.field-0) c.as_slice-line.ensures.value c.in_ok-self.ensures
