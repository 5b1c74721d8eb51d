use Rattle.fb_window.specs.Jobs.{Does}
use Rattle.fb_tests.proofs.lemmas.Zips.{joined}
use Rattle.fb_tests.proofs.tests.jobs.+run_jobs.Goals as goal

pub returns : goal.returns
returns g t c =
    joined Does c.pop.new.self.items c.args.jobs.items c.run_jobs-dones.result.items c.push-2.new.self.items c.in-Some.last c.run_with_text-done.result.0
    c.in-Some.ensures.items c.in-Ok-push.ensures.items c.run_jobs-dones.ensures c.run_with_text-done.ensures.does
