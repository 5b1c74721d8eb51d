use Rattle.std.proofs.Common.{◌≡◌, [], refl, arith}
use Rattle.fb_event.proofs.lemmas.Emissions.{silent-Performs, step_emissions}
use Rattle.fb_event.proofs.lemmas.Inputs.{inputs, silent_inputs}
use Rattle.fb_event.proofs.reaction.react.Goals as goal

pub returns-clause-memory : goal.returns-clause-memory
returns-clause-memory c = grind (arith, inputs, step_emissions)

pub returns-clause-timer : goal.returns-clause-timer
returns-clause-timer c = grind (arith, inputs, step_emissions)

pub returns-clause-emitted : goal.returns-clause-emitted
returns-clause-emitted c = grind (arith, inputs, step_emissions)

pub returns-clause-appended : goal.returns-clause-appended
returns-clause-appended c = grind (arith, inputs, step_emissions)

pub returns-in_err-emit_all-clause-silent : goal.returns-in_err-emit_all-clause-silent
returns-in_err-emit_all-clause-silent c none =
    let silent = silent_inputs c.args.state.now c.args.event c.args.tick c.args.inputs.now none in
    let quiet : c.reaction-step.result.emits.now ≡ [] =
    silent-Performs _ _ _ c.reaction-step.result c.reaction-step.ensures (grind (arith, silent)) in
    grind (arith, quiet)

pub returns-clause-only_memory : goal.returns-clause-only_memory
returns-clause-only_memory c = tt

pub returns-clause-silent : goal.returns-clause-silent
returns-clause-silent c = λ none. refl
