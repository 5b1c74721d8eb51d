use Rattle.fb_window.proofs.lemmas.Common.{◌≡◌, ◌++◌, length, map, into_iter_items, into_iter_len, jobs_of, resting_of}
use Rattle.fb_window.proofs.cores.CoreState.leave_all.Given as goal

abbrev pub invariant-loop-resource : goal.invariant-loop-resource
invariant-loop-resource l = record {
  jobs : l.jobs.items ≡ jobs_of l.system l.steps l.bounds.all 0 l.yielded;
  resting : l.resting.items ≡ map resting_of l.yielded;
  rest : l.yielded ++ into_iter_items l.resource-iterator ≡ l.fn.resources.items;
  len : into_iter_len l.resource-iterator ≡ length (into_iter_items l.resource-iterator);
}
