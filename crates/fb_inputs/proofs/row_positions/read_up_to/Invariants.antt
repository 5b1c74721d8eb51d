use Rattle.std.proofs.Common.{◌-◌, ◌≤◌}
use Rattle.fb_inputs.specs.Readers.{IsReaderOf}
use Rattle.fb_inputs.proofs.row_positions.read_up_to.Given as goal

abbrev pub invariant-loop-reader : goal.invariant-loop-reader
invariant-loop-reader l = record { reader : IsReaderOf l.text l.reader; before : l.reader.read ≤ l.count }

abbrev pub decreases-loop-reader : goal.decreases-loop-reader
decreases-loop-reader l = l.count - l.reader.read
