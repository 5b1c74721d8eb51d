use Rattle.std.proofs.Common.{vec_len}
use Rattle.fb_tests.proofs.tests.jobs.+run_falling.Given as goal

abbrev pub decreases-run_falling : goal.decreases-run_falling
decreases-run_falling g l = vec_len l.jobs
