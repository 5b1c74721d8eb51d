use Rattle.fb_types.proofs.Common.{◌∙◌, sym, ap}
use Rattle.fb_types.specs.declared.value.Reason.{Reason}
use denote.Enum.Bare.{same_false, same_true}
use Rattle.fb_types.specs.contracts.value.Reason.{the_type}
use Rattle.fb_stop.proofs.before.fault_of.Goals as goal

pub returns-then-eq-clause-found : goal.returns-then-eq-clause-found
returns-then-eq-clause-found c =
    let fault = c.args.fault in
    ap (λ (r : Reason). record fault { reason = r }) (same_true the_type tt fault.reason c.args.reason (sym c.eq.ensures ∙ c.if-eq.true))

pub returns-then-eq-clause-none : goal.returns-then-eq-clause-none
returns-then-eq-clause-none c = tt

pub returns-else-eq-clause-found : goal.returns-else-eq-clause-found
returns-else-eq-clause-found c = tt

pub returns-else-eq-clause-none : goal.returns-else-eq-clause-none
returns-else-eq-clause-none c = same_false the_type c.args.fault.reason c.args.reason (sym c.eq.ensures ∙ c.if-eq.false)
