use Rattle.std.proofs.Common.{◌++◌, ◌∙◌}
use Rattle.fb_check_names.specs.declared.ports.PortKind.TheVariants as kind
use Rattle.fb_lint.specs.Interfaces.{unjoined_events, unjoined_variables, unused_events}
use Rattle.fb_lint.proofs.lemmas.WarningLists.{four_found}
use Rattle.fb_lint.proofs.interfaces.push_unjoined_ports.Goals as goal

pub returns : goal.returns
returns c =
    let b = c.args.block in
    let ports = c.args.composite.now.ports in
    let net = c.args.composite.now.network in
    four_found c.push_unjoined-3.result c.args.all.now.items c.push_unused_events.new.all.items c.push_unjoined.new.all.items c.push_unjoined-2.new.all.items _
    (unused_events b net.event_connections net.data_connections ports.event_inputs) (unjoined_events b kind.EventOutput net.event_connections ports.event_outputs)
    (unjoined_variables b kind.Input net.data_connections ports.inputs) (unjoined_variables b kind.Output net.data_connections ports.outputs) _
    (c.in_ok-push_unused_events.ensures ∙ (λ i. c.args.all.now.items ++ unused_events b (c.as_slice-events.ensures i) (c.as_slice-data.ensures i) (c.as_slice-inputs.ensures i)))
    (c.in_ok-push_unjoined.ensures ∙ (λ i. c.push_unused_events.new.all.items ++ unjoined_events b kind.EventOutput (c.as_slice-events.ensures i) (c.as_slice-outputs.ensures i)))
    (c.in_ok-push_unjoined-2.ensures ∙ (λ i. c.push_unjoined.new.all.items ++ unjoined_variables b kind.Input (c.as_slice-data.ensures i) (c.as_slice-inputs-2.ensures i)))
    (λ i. unjoined_variables b kind.Output (c.as_slice-data.ensures i) (c.as_slice-outputs-2.ensures i))
    c.push_unjoined-3.ensures
