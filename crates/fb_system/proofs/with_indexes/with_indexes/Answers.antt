use Rattle.fb_system.proofs.lemmas.types.EventBlocks.{with_indexes_are}
use Rattle.fb_system.proofs.with_indexes.with_indexes.Goals as goal

pub indexes_of_lists-requires-clause-stand : goal.indexes_of_lists-requires-clause-stand
indexes_of_lists-requires-clause-stand c = rw c.as_slice-2.ensures (c.requires.first_input, c.requires.inputs)

pub indexes_of_lists-requires-clause-events : goal.indexes_of_lists-requires-clause-events
indexes_of_lists-requires-clause-events c = rw (c.as_slice.ensures, c.as_slice-2.ensures) c.requires.event_inputs

pub indexes_of_lists-requires-2-clause-stand : goal.indexes_of_lists-requires-2-clause-stand
indexes_of_lists-requires-2-clause-stand c = rw c.as_slice-4.ensures (c.requires.first_output, c.requires.outputs)

pub indexes_of_lists-requires-2-clause-events : goal.indexes_of_lists-requires-2-clause-events
indexes_of_lists-requires-2-clause-events c = rw (c.as_slice-3.ensures, c.as_slice-4.ensures) c.requires.event_outputs

pub returns : goal.returns
returns c =
    with_indexes_are c.args.ports.now (record { inputs = c.in_ok-inputs.inputs; outputs = c.in_ok-outputs.outputs }) (rw (c.as_slice.ensures, c.as_slice-2.ensures) at c.in_ok-inputs.ensures)
    (rw (c.as_slice-3.ensures, c.as_slice-4.ensures) at c.in_ok-outputs.ensures)
