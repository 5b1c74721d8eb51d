use Rattle.fb_types.proofs.Common.{arith, err_from_is_err_and}
use Rattle.fb_inputs.proofs.stimuli.locate_stimuli.Goals as goal

pub add_after_heading-read-requires : goal.add_after_heading-read-requires
add_after_heading-read-requires c = record { opened = (c.args.bytes.now, c.records_of-rows.ensures); none = c.new-found.ensures }

pub returns-in_err-read : goal.returns-in_err-read
returns-in_err-read c =
    let p = err_from_is_err_and c.from_residual.result c.from_residual.ensures.1 in
    rw (p.1, p.2) (rw c.in_err-read.was at (c.add_after_heading-read.ensures c.args.bytes.now (omega arith) c.records_of-rows.ensures))

pub returns : goal.returns
returns c = rw c.into_vec.ensures (rw c.in_ok-read.was at (c.add_after_heading-read.ensures c.args.bytes.now (omega arith) c.records_of-rows.ensures))
