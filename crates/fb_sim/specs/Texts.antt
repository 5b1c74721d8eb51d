-- The texts of the lines that jobs gave, and of those that have become final (this project's profile).
use Rattle.std.specs.Prelude.{◌≡◌, List, ◌++◌, map, IfSome, Option, Some, None}
use Rattle.std.specs.Global.{Vec}
use Rattle.std.specs.List.{AllZip}
use Rattle.fb_types.specs.Headline.{Inputs}
use Rattle.fb_types.specs.Machines.{Each}
use Rattle.fb_types.specs.declared.run.Form.{Form}
use Rattle.fb_types.specs.declared.run.Line.{Line}
use Rattle.fb_trace.specs.Marks.{IsMarkedText}
use Rattle.fb_trace.specs.declared.marks.MarkedText.{MarkedText}
use Rattle.fb_resource.specs.declared.resource.WindowDone.{WindowDone}
use Rattle.fb_window.specs.Jobs.{Does, JobModel}
use Rattle.fb_window.specs.Texts.{IsTextOf}
use Rattle.fb_sim.specs.declared.rounds.job_texts.FinalTexts.{FinalTexts}
use Rattle.fb_sim.specs.declared.rounds.workers.RoundDone.{RoundDone}
use Rattle.fb_sim.specs.declared.rounds.workers.JobDone.{JobDone}

-- If there is a text, it is that of the lines that a job gave.
abbrev pub HasText : Inputs → WindowDone → Option MarkedText → Type 0
HasText i d t = IfSome t (λ m. IsTextOf i m.form d m)

-- The job is done, and so is its text if there is one.
abbrev pub DoesWithText : JobModel → JobDone → Type 0
DoesWithText j d = Does j d.done × HasText j.inputs d.done d.text

-- All jobs are done, and so are their texts if there are any.
pub record AreDone (jobs : List JobModel) (r : RoundDone) : Type 0 where
  pub done : AllZip Does jobs r.dones.items
  pub texts : (i : Inputs) → Each (λ j. j.inputs ≡ i) jobs → IfSome r.texts (λ ts. AllZip (HasText i) r.dones.items ts.items)

-- If there is a text, it is that of these lines and of those that come after them, if any do.
abbrev pub IsTextFrom : Inputs → List Line → Option MarkedText → Type 0
IsTextFrom i xs t = IfSome t (λ m. (rest : List Line) × IsMarkedText i m.form (xs ++ rest) m)

-- So it is for each list.
abbrev pub AreTextsFrom : Inputs → (lists : List (Vec Line)) → List (Option MarkedText) → Type 0
AreTextsFrom i lists ts = AllZip (λ p t. IsTextFrom i p.items t) lists ts

-- Each list has its text.
abbrev pub AreTextsOf : Inputs → (lists : List (Vec Line)) → FinalTexts → Type 0
AreTextsOf i lists t = AllZip (IsMarkedText i t.form) (map (λ p. p.items) lists) t.all.items

-- These are texts of unwritten lines, in this form.
abbrev pub AreUnwrittenIn : (form : Form) → (unwritten : Option FinalTexts) → (texts : List MarkedText) → Type 0
AreUnwrittenIn form None ts = ⊥
AreUnwrittenIn form (Some t) ts = (t.form ≡ form) × (ts ≡ t.all.items)
