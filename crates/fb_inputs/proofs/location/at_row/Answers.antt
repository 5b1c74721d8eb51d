use Rattle.std.proofs.Common.{option_map, sym, ap}
use Rattle.fb_inputs.specs.StimuliLocations.{fault_of, row_at}
use Rattle.fb_inputs.specs.declared.location.RowError.{RowError}
use Rattle.fb_inputs.proofs.location.at_row.Goals as goal

pub returns-in-At : goal.returns-in-At
returns-in-At c = sym (ap (λ (e : RowError). option_map (row_at c.args.row) (fault_of e)) c.in-At.is)
