use Rattle.fb_inputs.proofs.lemmas.stimuli.RecordsReadOn.{ArePassed}
use Rattle.fb_inputs.proofs.row_positions.nth_row.Given as goal

abbrev pub invariant-loop : goal.invariant-loop
invariant-loop l = ArePassed l.fn.rows l.rows l.counter
