use Rattle.fb_types.proofs.Common.{◌≡◌, ◌+◌, ◌≤◌, ◌++◌, length, vec_len, vec_capacity, AllZip, into_iter_items, into_iter_len}
use Rattle.fb_window.specs.Jobs.{Does}
use Rattle.fb_sim.proofs.rounds.run_here.Given as goal

abbrev pub invariant-loop-job : goal.invariant-loop-job
invariant-loop-job g l = record {
  done : AllZip Does l.yielded l.dones.items;
  rest : l.yielded ++ into_iter_items l.job-iterator ≡ l.fn.jobs.items;
  len : into_iter_len l.job-iterator ≡ length (into_iter_items l.job-iterator);
  room : vec_len l.dones + into_iter_len l.job-iterator ≤ vec_capacity l.dones;
}
