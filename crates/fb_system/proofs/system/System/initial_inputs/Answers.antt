use Rattle.fb_system.proofs.lemmas.values.InitialInputs.{inputs_seen}
use Rattle.fb_system.proofs.lemmas.inputs.TablesOfInputs.{accepted_seen, ok_seen, within_seen}
use Rattle.fb_system.proofs.system.System.initial_inputs.Goals as goal

pub declared-declared-requires : goal.declared-declared-requires
declared-declared-requires c = within_seen _ _ _ _ c.deref.ensures c.self.view_is c.requires

pub parameters-requires : goal.parameters-requires
parameters-requires c = within_seen _ _ _ _ c.deref.ensures c.self.view_is c.requires

pub input_values-requires-clause-indexes : goal.input_values-requires-clause-indexes
input_values-requires-clause-indexes c =
    (inputs_seen _ _ c.args.self.now c.args.instance _ _ _ _ c.deref.ensures c.self.view_is (accepted_seen _ _ c.self.invariant.tables c.self.view_is) c.declared-declared.ensures
    c.parameters.ensures c.ports.ensures c.as_slice.ensures).indexes

pub input_values-requires-clause-inputs : goal.input_values-requires-clause-inputs
input_values-requires-clause-inputs c =
    (inputs_seen _ _ c.args.self.now c.args.instance _ _ _ _ c.deref.ensures c.self.view_is (accepted_seen _ _ c.self.invariant.tables c.self.view_is) c.declared-declared.ensures
    c.parameters.ensures c.ports.ensures c.as_slice.ensures).inputs

pub input_values-requires-clause-parameters : goal.input_values-requires-clause-parameters
input_values-requires-clause-parameters c =
    (inputs_seen _ _ c.args.self.now c.args.instance _ _ _ _ c.deref.ensures c.self.view_is (accepted_seen _ _ c.self.invariant.tables c.self.view_is) c.declared-declared.ensures
    c.parameters.ensures c.ports.ensures c.as_slice.ensures).parameters

pub returns : goal.returns
returns c =
    let begun =
    inputs_seen _ _ c.args.self.now c.args.instance _ _ _ _ c.deref.ensures c.self.view_is (accepted_seen _ _ c.self.invariant.tables c.self.view_is) c.declared-declared.ensures
    c.parameters.ensures c.ports.ensures c.as_slice.ensures in
    ok_seen _ _ _ begun.begins c.input_values.ensures
