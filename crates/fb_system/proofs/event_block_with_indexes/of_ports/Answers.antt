use Rattle.fb_system.proofs.lemmas.types.EventBlocks.{with_indexes_are}
use Rattle.fb_system.proofs.event_block_with_indexes.of_ports.Goals as goal

pub returns : goal.returns
returns c =
    with_indexes_are c.args.ports.now (record { inputs = c.in_ok-inputs.inputs; outputs = c.in_ok-outputs.outputs }) (rw (c.as_slice.ensures, c.as_slice-2.ensures) at c.in_ok-inputs.ensures)
    (rw (c.as_slice-3.ensures, c.as_slice-4.ensures) at c.in_ok-outputs.ensures)
