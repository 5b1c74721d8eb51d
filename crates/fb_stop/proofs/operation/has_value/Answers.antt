use Rattle.fb_types.proofs.Common.{◌≡◌, ◌∙◌, Result, Ok, Err, sym, false≢true}
use Rattle.fb_types.specs.declared.value.Reason.{Reason}
use Rattle.fb_types.specs.declared.value.Value.{Value}
use Rattle.fb_stop.proofs.operation.has_value.Goals as goal

not_both : (v : Value) (r : Reason) → ◌≡◌ {A = Result Value Reason} (Ok v) (Err r) → ⊥
not_both v r e = cc

pub returns-in-Ok-clause-has : goal.returns-in-Ok-clause-has
returns-in-Ok-clause-has c = λ _. (c.in-Ok.field-0, sym c.eval.ensures ∙ c.in-Ok.is)

pub returns-in-Ok-clause-none : goal.returns-in-Ok-clause-none
returns-in-Ok-clause-none c = λ e. absurd (false≢true (sym e))

pub returns-in-Err-clause-has : goal.returns-in-Err-clause-has
returns-in-Err-clause-has c = λ e. absurd (false≢true e)

pub returns-in-Err-clause-none : goal.returns-in-Err-clause-none
returns-in-Err-clause-none c = λ _ has. not_both has.0 c.in-Err.field-0 (sym has.1 ∙ sym c.eval.ensures ∙ c.in-Err.is)
