use Rattle.fb_window.proofs.lemmas.Common.{◌≡◌, List, Option, ap, subst, sym, Inputs, Line, WindowDone, Does, JobModel}
use Rattle.fb_types.proofs.Common.{IfOk, IfSome, Result, Ok, Err}
use Rattle.std.specs.Result.{result_ok}
use Rattle.fb_trace.specs.Marks.{IsMarkedText}
use Rattle.fb_trace.specs.declared.marks.MarkedText.{MarkedText}
use Rattle.fb_window.specs.Texts.{IsTextOf}
use Rattle.fb_window.proofs.job.Job.run_with_text.Goals as goal
use Rattle.fb_window.proofs.job.Job.run_with_text.Goals.{in-Ran, in_default}

made : {E : Type 0} (P Q : MarkedText → Type 0) (r : Result MarkedText E) (o : Option MarkedText) → ((t : MarkedText) → P t → Q t) → IfOk r P → o ≡ result_ok r → IfSome o Q
made P Q (Ok t) o f h e = subst (λ (z : Option MarkedText). IfSome z Q) (sym e) (f t h)
made P Q (Err d) o f h e = subst (λ (z : Option MarkedText). IfSome z Q) (sym e) tt

pub returns-clause-does : goal.returns-clause-does
returns-clause-does c = subst (λ (j : JobModel). Does j c.run_over-done.result) c.self.view_is c.run_over-done.ensures

-- the text of all lines of the job, if there is one
pub returns-clause-text : goal.returns-clause-text
returns-clause-text c =
    let done : WindowDone = c.run_over-done.result in
    let form = c.args.form in
    let i : Inputs = c.self.inside.system in
    subst (λ (z : Inputs). IfSome c.match-done.text (IsTextOf z form done)) (ap (λ (j : JobModel). j.inputs) c.self.view_is)
    (elim c.match-done.branch [
      | in-Ran w ↦
          subst (λ (o : Option MarkedText). IfSome o (IsTextOf i form done)) (sym w.text-is)
          (made (IsMarkedText i form w.deref.result.now) (IsTextOf i form done) w.marked_text.result w.ok-text.result
          (λ t h. subst (λ (d : WindowDone). IsTextOf i form d t) (sym w.in-Ran.is) (subst (λ (xs : List Line). IsMarkedText i form xs t) w.deref.ensures.value h))
          w.marked_text.ensures w.ok-text.ensures.value)
      | in_default w ↦ subst (λ (o : Option MarkedText). IfSome o (IsTextOf i form done)) (sym w.text-is) tt
    ])
