use Rattle.fb_ecc.proofs.lemmas.Acceptance.{names_once}
use Rattle.fb_ecc.proofs.numbers.Numbers.of.Goals as goal

pub indexes_once-requires : goal.indexes_once-requires
indexes_once-requires c = rw c.as_slice.ensures (names_once c.args.block.now c.requires).states

pub indexes_once-requires-2 : goal.indexes_once-requires-2
indexes_once-requires-2 c = rw c.as_slice-2.ensures (names_once c.args.block.now c.requires).algorithms

pub indexes_once-requires-3 : goal.indexes_once-requires-3
indexes_once-requires-3 c = rw c.as_slice-3.ensures (names_once c.args.block.now c.requires).event_inputs

pub indexes_once-requires-4 : goal.indexes_once-requires-4
indexes_once-requires-4 c = rw c.as_slice-4.ensures (names_once c.args.block.now c.requires).event_outputs

pub indexes_once-requires-5 : goal.indexes_once-requires-5
indexes_once-requires-5 c = rw c.as_slice-5.ensures (names_once c.args.block.now c.requires).inputs

pub indexes_once-requires-6 : goal.indexes_once-requires-6
indexes_once-requires-6 c = rw c.as_slice-6.ensures (names_once c.args.block.now c.requires).outputs
