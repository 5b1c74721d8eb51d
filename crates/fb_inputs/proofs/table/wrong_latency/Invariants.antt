use Rattle.fb_inputs.proofs.lemmas.Common.{◌≡◌, drop, first_failing, has_latency}
use Rattle.fb_inputs.proofs.table.wrong_latency.Given as goal

abbrev pub invariant-loop-entry : goal.invariant-loop-entry
invariant-loop-entry l =
    first_failing has_latency 0 l.table ≡ first_failing has_latency l.entry (drop l.entry l.table)
