use Rattle.std.proofs.Common.{◌≡◌, [], arith}
use Rattle.fb_event.proofs.lemmas.Emissions.{silent-Performs, step_emissions}
use Rattle.fb_event.proofs.reaction.expire.Goals as goal

pub returns-clause-emitted : goal.returns-clause-emitted
returns-clause-emitted c = grind (arith, step_emissions)

pub returns-clause-appended : goal.returns-clause-appended
returns-clause-appended c = grind (arith, step_emissions)

pub returns-in_err-emit_all-clause-silent : goal.returns-in_err-emit_all-clause-silent
returns-in_err-emit_all-clause-silent c none =
    let quiet : c.expiry-step.result.emits.now ≡ [] = silent-Performs _ _ _ c.expiry-step.result c.expiry-step.ensures (grind (arith, none)) in
    grind (arith, quiet)
