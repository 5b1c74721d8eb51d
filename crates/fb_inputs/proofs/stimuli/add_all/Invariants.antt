use Rattle.fb_inputs.proofs.lemmas.Common.{◌≡◌, length, Text, all_after, stimuli_from, IsAt, rows_from}
use Rattle.fb_inputs.proofs.stimuli.add_all.Given as goal

abbrev pub invariant-loop-read : goal.invariant-loop-read
invariant-loop-read l =
    (z : Text) × IsAt l.read-iterator z
    × ((y : Text) → IsAt l.fn.rows y → all_after l.fn.found (stimuli_from (length l.fn.found) (rows_from l.fn.rows.rdr.state y)) ≡ all_after l.found (stimuli_from (length l.found) (rows_from l.read-iterator.rdr.state z)))
