use Rattle.std.proofs.Common.{vec_len}
use Rattle.fb_tests.proofs.tests.jobs.+run_jobs.Given as goal

abbrev pub decreases-run_jobs : goal.decreases-run_jobs
decreases-run_jobs g l = vec_len l.jobs
