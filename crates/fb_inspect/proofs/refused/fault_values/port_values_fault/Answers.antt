use Rattle.fb_types.proofs.Common.{ap, sym, ◌∙◌, system_of, path_at, ports_at}
use Rattle.fb_types.specs.declared.library.Ports.{Ports}
use Rattle.fb_inspect.specs.refused.LineFaults.{variables}
use Rattle.fb_inspect.proofs.lemmas.words.BoundValues.{port_fault}
use Rattle.fb_inspect.proofs.lemmas.words.PortWords.{inputs_of, outputs_of}
use Rattle.fb_inspect.proofs.refused.fault_values.port_values_fault.Goals as goal

pub returns-then-port : goal.returns-then-port
returns-then-port c =
    let sys = system_of c.args.system.now in
    let p = c.args.port in
    port_fault sys p c.as_slice.result.now c.inputs_with-indexes.result.now c.args.text.now c.value_fault.result
    (c.as_slice.ensures ∙ ap (λ (its : Ports). its.inputs) c.ports-ports.ensures ∙ ap (variables (ports_at sys (path_at sys p.instance))) (sym c.if-port.true))
    (inputs_of sys p.instance p.event p.taken _ c.if-port.true c.inputs_with-indexes.ensures) c.value_fault.ensures

pub returns-else-port : goal.returns-else-port
returns-else-port c =
    let sys = system_of c.args.system.now in
    let p = c.args.port in
    port_fault sys p c.as_slice-else-port.result.now c.outputs_with-indexes.result.now c.args.text.now c.value_fault-else-port.result
    (c.as_slice-else-port.ensures ∙ ap (λ (its : Ports). its.outputs) c.ports-ports.ensures ∙ ap (variables (ports_at sys (path_at sys p.instance))) (sym c.if-port.false))
    (outputs_of sys p.instance p.event p.taken _ c.if-port.false c.outputs_with-indexes.ensures) c.value_fault-else-port.ensures
