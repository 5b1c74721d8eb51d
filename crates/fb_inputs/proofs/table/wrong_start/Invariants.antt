use Rattle.fb_inputs.proofs.lemmas.Common.{◌≡◌, drop, None, out_of_order}
use Rattle.fb_inputs.proofs.table.wrong_start.Given as goal

abbrev pub invariant-loop-entry : goal.invariant-loop-entry
invariant-loop-entry l = out_of_order None 0 l.table ≡ out_of_order l.last l.entry (drop l.entry l.table)
