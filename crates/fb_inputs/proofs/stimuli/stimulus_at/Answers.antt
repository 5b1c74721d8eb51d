use Rattle.csv.specs.Records.{fields_of}
use Rattle.fb_inputs.proofs.lemmas.stimuli.Rows.{refused_at_row}
use Rattle.fb_inputs.proofs.stimuli.stimulus_at.Goals as goal

pub returns-in-Err : goal.returns-in-Err
returns-in-Err c =
    refused_at_row c.args.before (fields_of c.args.row) c.in-Err.error c.at_row.result c.at_row.ensures (rw c.in-Err.is at c.stimulus_in-read.ensures)
