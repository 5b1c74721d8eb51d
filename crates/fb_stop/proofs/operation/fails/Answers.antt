use Rattle.fb_types.proofs.Common.{◌≡◌, ◌∙◌, Result, Ok, Err, sym, ap, false≢true}
use Rattle.fb_types.specs.declared.value.Reason.{Reason}
use Rattle.fb_types.specs.declared.value.Value.{Value}
use denote.Enum.Bare.{same_false, same_true}
use Rattle.fb_types.specs.contracts.value.Reason.{the_type}
use Rattle.fb_stop.proofs.operation.fails.Goals as goal

not_both : (v : Value) (r : Reason) → ◌≡◌ {A = Result Value Reason} (Ok v) (Err r) → ⊥
not_both v r e = cc

one_reason : (q r : Reason) → ◌≡◌ {A = Result Value Reason} (Err q) (Err r) → q ≡ r
one_reason q r e = cc

pub returns-in-Ok-clause-without : goal.returns-in-Ok-clause-without
returns-in-Ok-clause-without c = λ e. absurd (false≢true e)

pub returns-in-Ok-clause-otherwise : goal.returns-in-Ok-clause-otherwise
returns-in-Ok-clause-otherwise c = λ _ without. not_both c.in-Ok.field-0 c.args.reason (sym c.in-Ok.is ∙ c.eval.ensures ∙ without)

pub returns-in-Err-clause-without : goal.returns-in-Err-clause-without
returns-in-Err-clause-without c = λ e.
    sym c.eval.ensures ∙ c.in-Err.is ∙ ap (λ (r : Reason). Err r) (same_true the_type tt c.in-Err.found c.args.reason (sym c.eq.ensures ∙ e))

pub returns-in-Err-clause-otherwise : goal.returns-in-Err-clause-otherwise
returns-in-Err-clause-otherwise c = λ e without.
    same_false the_type c.in-Err.found c.args.reason (sym c.eq.ensures ∙ e)
    (one_reason c.in-Err.found c.args.reason (sym c.in-Err.is ∙ c.eval.ensures ∙ without))
