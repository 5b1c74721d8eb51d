-- The text of the lines that a job gave (this project's profile).
use Rattle.std.specs.Prelude.{◌≡◌, List, [], ◌++◌, All, Option, None}
use Rattle.std.specs.Global.{Vec}
use Rattle.fb_types.specs.Headline.{Inputs}
use Rattle.fb_types.specs.declared.run.Form.{Form}
use Rattle.fb_types.specs.declared.run.Line.{Line}
use Rattle.fb_trace.specs.Marks.{IsMarkedText}
use Rattle.fb_trace.specs.declared.marks.MarkedText.{MarkedText}
use Rattle.fb_resource.specs.declared.resource.Resource.{Resource}
use Rattle.fb_resource.specs.declared.resource.WindowDone.{WindowDone}
use Rattle.fb_resource.specs.declared.resource.WindowDone.TheVariants.{NoMemory, Ran}
use Rattle.fb_window.specs.declared.cores.AwayState.{AwayState}

-- It is the marked text of the lines that the job gave.
abbrev pub IsTextOf : Inputs → Form → WindowDone → MarkedText → Type 0
IsTextOf i form (Ran x lines sent stop) t = IsMarkedText i form lines.items t
IsTextOf i form NoMemory t = ⊥

-- These are the first of the lines that the job gave.
abbrev pub IsFrontOf : (front : Vec Line) → WindowDone → Type 0
IsFrontOf front (Ran x lines sent stop) = (rest : List Line) × (lines.items ≡ front.items ++ rest)
IsFrontOf front NoMemory = ⊥

-- These are the lines that the job gave.
abbrev pub HasLines : (list : Vec Line) → WindowDone → Type 0
HasLines list (Ran x lines sent stop) = list.items ≡ lines.items
HasLines list NoMemory = ⊥

-- No line is kept, and each resource has left.
pub record KeepsNothing (a : AwayState) : Type 0 where
  pub pending : All (λ p. p.items ≡ []) a.pending.items
  pub resting : All (λ (x : Option Resource). x ≡ None) a.resting.items
