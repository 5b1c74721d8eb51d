use Rattle.std.proofs.Common.{◌≡◌, ◌≤◌, vec_len, vec_capacity}
use Rattle.fb_phase.proofs.shift.gather.Given as goal

-- one came back in each turn, and there is room for all
abbrev pub invariant-loop : goal.invariant-loop
invariant-loop g l = (vec_len l.home ≡ l.counter) × (l.fn.handed ≤ vec_capacity l.home)
