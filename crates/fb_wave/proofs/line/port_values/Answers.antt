use Rattle.fb_types.proofs.Common.{List, ap, subst, ◌∙◌, system_of, path_at}
use Rattle.fb_types.specs.declared.library.Ports.{Ports}
use Rattle.fb_types.specs.declared.library.Variable.{Variable}
use Rattle.fb_wave.specs.Reading.{AreRead, AreUnread}
use Rattle.fb_wave.specs.Lines.{AreNoValuesOf, AreValuesOf}
use Rattle.fb_wave.proofs.lemmas.Gluing.{input_values, none_read, output_values, some_read}
use Rattle.fb_wave.proofs.lemmas.Known.{inputs_once, outputs_once}
use Rattle.fb_wave.proofs.lemmas.Unlined.{no_input_values, no_output_values}
use Rattle.fb_wave.proofs.line.port_values.Goals as goal

pub returns-then-port-clause-values : goal.returns-then-port-clause-values
returns-then-port-clause-values c =
    let sys = system_of c.args.system.now in
    let port = c.args.port in
    let text = c.args.text.now in
    let vs = c.as_slice.result.now in
    let ks = c.inputs_with-indexes.result.now in
    some_read (AreUnread vs ks text) (AreRead vs ks text) (AreValuesOf sys port text) c.values_of.result
    (λ values are.
    input_values sys port.instance port.event port.taken ks text values c.if-port.true c.inputs_with-indexes.ensures
    (subst (λ (us : List Variable). AreRead us ks text values) (c.as_slice.ensures ∙ ap (λ (its : Ports). its.inputs) c.ports-ports.ensures) are))
    c.values_of.ensures

pub returns-else-port-clause-values : goal.returns-else-port-clause-values
returns-else-port-clause-values c =
    let sys = system_of c.args.system.now in
    let port = c.args.port in
    let text = c.args.text.now in
    let vs = c.as_slice-else-port.result.now in
    let ks = c.outputs_with-indexes.result.now in
    some_read (AreUnread vs ks text) (AreRead vs ks text) (AreValuesOf sys port text) c.values_of-else-port.result
    (λ values are.
    output_values sys port.instance port.event port.taken ks text values c.if-port.false c.outputs_with-indexes.ensures
    (subst (λ (us : List Variable). AreRead us ks text values) (c.as_slice-else-port.ensures ∙ ap (λ (its : Ports). its.outputs) c.ports-ports.ensures) are))
    c.values_of-else-port.ensures

pub returns-then-port-clause-none : goal.returns-then-port-clause-none
returns-then-port-clause-none c accepted =
    let sys = system_of c.args.system.now in
    let port = c.args.port in
    let text = c.args.text.now in
    let vs = c.as_slice.result.now in
    let ks = c.inputs_with-indexes.result.now in
    none_read (AreUnread vs ks text) (AreRead vs ks text) (AreNoValuesOf sys port text) c.values_of.result
    (λ unread.
    no_input_values sys port.instance port.event port.taken ks text c.if-port.true (inputs_once c.args.system.now accepted (path_at sys port.instance)) c.inputs_with-indexes.ensures
    (subst (λ (us : List Variable). AreUnread us ks text) (c.as_slice.ensures ∙ ap (λ (its : Ports). its.inputs) c.ports-ports.ensures) unread))
    c.values_of.ensures

pub returns-else-port-clause-none : goal.returns-else-port-clause-none
returns-else-port-clause-none c accepted =
    let sys = system_of c.args.system.now in
    let port = c.args.port in
    let text = c.args.text.now in
    let vs = c.as_slice-else-port.result.now in
    let ks = c.outputs_with-indexes.result.now in
    none_read (AreUnread vs ks text) (AreRead vs ks text) (AreNoValuesOf sys port text) c.values_of-else-port.result
    (λ unread.
    no_output_values sys port.instance port.event port.taken ks text c.if-port.false (outputs_once c.args.system.now accepted (path_at sys port.instance)) c.outputs_with-indexes.ensures
    (subst (λ (us : List Variable). AreUnread us ks text) (c.as_slice-else-port.ensures ∙ ap (λ (its : Ports). its.outputs) c.ports-ports.ensures) unread))
    c.values_of-else-port.ensures
