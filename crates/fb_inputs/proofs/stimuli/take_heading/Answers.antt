use Rattle.csv.specs.Reading.{strip_bom}
use Rattle.fb_inputs.proofs.lemmas.stimuli.Records.{at_end, failed_reading}
use Rattle.fb_inputs.proofs.lemmas.stimuli.Rows.{start_read}
use Rattle.fb_inputs.proofs.lemmas.stimuli.NextRecords.{heading_found}
use Rattle.fb_inputs.proofs.stimuli.take_heading.Goals as goal

pub is_headed-requires : goal.is_headed-requires
is_headed-requires c =
    let (z, opened) = c.requires in
    let here = opened.0 in
    let step = rw c.in-Some.is at ((c.next.ensures.steps here.left here.trim).0 here.ready) in
    failed_reading c.args.rows.now z c.next.new.self.rdr _ c.in-Some.first here step

pub returns-in-Some : goal.returns-in-Some
returns-in-Some c = λ bytes opened.
    let here = opened.0 in
    let step = rw c.in-Some.is at ((c.next.ensures.steps here.left here.trim).0 here.ready) in
    heading_found bytes c.args.rows.now c.next.new.self c.in-Some.first c.is_headed.result opened step (rw c.in-Some.is at (c.next.ensures.steps here.left here.trim).3) c.is_headed.ensures

pub returns-in-None : goal.returns-in-None
returns-in-None c = λ bytes opened.
    let (here, start) = opened in
    let step = rw c.in-None.is at ((c.next.ensures.steps here.left here.trim).0 here.ready) in
    start_read bytes c.args.rows.now.rdr.state _ start (at_end c.args.rows.now c.next.new.self (strip_bom bytes) here step)
