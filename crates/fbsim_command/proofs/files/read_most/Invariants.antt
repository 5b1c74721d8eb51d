use Rattle.fb_types.proofs.Common.{◌≤◌, vec_len, Consumes}
use Rattle.fbsim_command.proofs.files.read_most.Given as goal

abbrev pub invariant-loop : goal.invariant-loop
invariant-loop g l = (vec_len l.bytes ≤ l.most) × Consumes (g.R.Read.remaining l.initial.from) (g.R.Read.remaining l.from) l.bytes.items
