use Rattle.fb_window.proofs.lemmas.Common.{subst, Does, JobModel}
use Rattle.fb_window.proofs.job.Job.run_over.Goals as goal

pub returns : goal.returns
returns c = subst (λ (j : JobModel). Does j c.run_over.result) c.self.view_is c.run_over.ensures
