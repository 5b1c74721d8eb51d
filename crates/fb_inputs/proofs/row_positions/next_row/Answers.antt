use Rattle.csv.specs.Records.{fields_of}
use Rattle.fb_inputs.proofs.lemmas.stimuli.Records.{at_end, at_more}
use Rattle.fb_inputs.proofs.row_positions.next_row.Goals as goal

pub returns-in_default : goal.returns-in_default
returns-in_default c = λ z here.
    let step = rw c.in_default.is at ((c.next.ensures.steps here.left here.trim).0 here.ready) in
    at_end c.args.rows.now c.next.new.self z here step

pub returns-in-Ok : goal.returns-in-Ok
returns-in-Ok c = λ z here.
    let step = rw c.in-Ok.is at (rw c.in-Some.is at ((c.next.ensures.steps here.left here.trim).0 here.ready)) in
    let flexible = rw c.in-Ok.is at (rw c.in-Some.is at (c.next.ensures.steps here.left here.trim).3) in
    at_more c.args.rows.now c.next.new.self z (fields_of c.in-Ok.row) here step.0 step.1 step.2 flexible
