use Rattle.fb_wave.proofs.lemmas.Common.{◌≡◌, ◌<◌, ◌+◌, ◌^◌, length, get_or, refl, sym, subst, arith, system_of, Ports, size_of}
use Rattle.fb_wave.specs.declared.system_signals.Marks.{Marks}
use Rattle.fb_wave.proofs.lemmas.Marking.{emitted_within, marks_emitted, marks_taken, taken_within}
use Rattle.fb_wave.proofs.lemmas.Numbering.{signals_fit}
use Rattle.fb_wave.proofs.system_signals.marks_of.Goals as goal

pub overflow_add-outputs : goal.overflow_add-outputs
overflow_add-outputs c =
    let i = c.args.line.now.instance in
    let firsts = c.args.firsts.now in
    let fit : get_or firsts i 0 + size_of c.ports-ports.result.now < 2 ^ 64 =
    subst (λ (its : Ports). get_or firsts i 0 + size_of its < 2 ^ 64) (sym c.ports-ports.ensures) (signals_fit (system_of c.args.system.now) firsts i c.requires.line.instance c.requires.firsts)
    in
    omega (arith, fit)

pub overflow_add-variables : goal.overflow_add-variables
overflow_add-variables c =
    let i = c.args.line.now.instance in
    let firsts = c.args.firsts.now in
    let fit : get_or firsts i 0 + size_of c.ports-ports.result.now < 2 ^ 64 =
    subst (λ (its : Ports). get_or firsts i 0 + size_of its < 2 ^ 64) (sym c.ports-ports.ensures) (signals_fit (system_of c.args.system.now) firsts i c.requires.line.instance c.requires.firsts)
    in
    omega (arith, fit)

pub overflow_add-result : goal.overflow_add-result
overflow_add-result c =
    let i = c.args.line.now.instance in
    let firsts = c.args.firsts.now in
    let fit = signals_fit (system_of c.args.system.now) firsts i c.requires.line.instance c.requires.firsts in
    let event = taken_within (system_of c.args.system.now) c.args.line.now c.requires.line c.if-line.true in
    omega (arith, fit, event)

pub overflow_add-result-else-line : goal.overflow_add-result-else-line
overflow_add-result-else-line c =
    let i = c.args.line.now.instance in
    let firsts = c.args.firsts.now in
    let fit : get_or firsts i 0 + size_of c.ports-ports.result.now < 2 ^ 64 =
    subst (λ (its : Ports). get_or firsts i 0 + size_of its < 2 ^ 64) (sym c.ports-ports.ensures) (signals_fit (system_of c.args.system.now) firsts i c.requires.line.instance c.requires.firsts)
    in
    let event : c.args.line.now.event < length c.ports-ports.result.now.event_outputs =
    subst (λ (its : Ports). c.args.line.now.event < length its.event_outputs) (sym c.ports-ports.ensures) (emitted_within (system_of c.args.system.now) c.args.line.now c.requires.line c.if-line.false)
    in
    omega (arith, fit, event)

pub overflow_add-result-else-line-2 : goal.overflow_add-result-else-line-2
overflow_add-result-else-line-2 c =
    let i = c.args.line.now.instance in
    let firsts = c.args.firsts.now in
    let fit : get_or firsts i 0 + size_of c.ports-ports.result.now < 2 ^ 64 =
    subst (λ (its : Ports). get_or firsts i 0 + size_of its < 2 ^ 64) (sym c.ports-ports.ensures) (signals_fit (system_of c.args.system.now) firsts i c.requires.line.instance c.requires.firsts)
    in
    omega (arith, fit)

pub returns-then-line : goal.returns-then-line
returns-then-line c =
    let first = get_or c.args.firsts.now c.args.line.now.instance 0 in
    let m : Marks = record { event = first + c.args.line.now.event; first = first + c.len.result + c.len-2.result; indexes = c.inputs_with.result } in
    let variables : m.first ≡ first + length c.ports-ports.result.now.event_inputs + length c.ports-ports.result.now.event_outputs =
    omega (arith, c.len.ensures, c.len-2.ensures)
    in
    marks_taken (system_of c.args.system.now) c.args.line.now m c.args.firsts.now c.ports-ports.result.now c.requires.firsts c.requires.line c.if-line.true c.ports-ports.ensures refl variables
    c.inputs_with.ensures

pub returns-else-line : goal.returns-else-line
returns-else-line c =
    let its = c.ports-ports.result.now in
    let first = get_or c.args.firsts.now c.args.line.now.instance 0 in
    let m : Marks = record {
      event = first + c.len.result + c.args.line.now.event;
      first = first + c.len.result + c.len-2.result + c.len-else-line.result;
      indexes = c.outputs_with.result;
    } in
    let event : m.event ≡ first + length its.event_inputs + c.args.line.now.event = omega (arith, c.len.ensures) in
    let variables : m.first ≡ first + length its.event_inputs + length its.event_outputs + length its.inputs =
    omega (arith, c.len.ensures, c.len-2.ensures, c.len-else-line.ensures)
    in
    marks_emitted (system_of c.args.system.now) c.args.line.now m c.args.firsts.now its c.requires.firsts c.requires.line c.if-line.false c.ports-ports.ensures event variables
    c.outputs_with.ensures
