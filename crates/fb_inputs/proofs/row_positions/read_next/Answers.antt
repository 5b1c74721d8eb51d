use Rattle.fb_inputs.proofs.lemmas.stimuli.RecordsReadOn.{none_after, one_read}
use Rattle.fb_inputs.proofs.row_positions.read_next.Goals as goal

pub next_row-requires : goal.next_row-requires
next_row-requires c = (c.requires.reader.left, c.requires.reader.here)

pub returns-in-Some-clause-reader : goal.returns-in-Some-clause-reader
returns-in-Some-clause-reader c =
    let next = rw c.in-Some.is at (rw c.in_ok-row.was at (c.next_row.ensures c.requires.reader.left c.requires.reader.here)) in
    one_read c.args.text.now c.args.reader.now _ c.in-Some.row c.requires.reader (rw c.keep.ensures.rows next) c.keep.ensures.read c.keep.ensures.last

pub returns-in-None-clause-one : goal.returns-in-None-clause-one
returns-in-None-clause-one c =
    none_after c.args.text.now c.args.reader.now c.requires.reader (rw c.in-None.is at (rw c.in_ok-row.was at (c.next_row.ensures c.requires.reader.left c.requires.reader.here)))
