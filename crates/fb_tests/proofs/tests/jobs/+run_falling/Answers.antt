use Rattle.fb_window.specs.Jobs.{Does}
use Rattle.fb_tests.proofs.lemmas.Zips.{joined}
use Rattle.fb_tests.proofs.tests.jobs.+run_falling.Goals as goal

pub returns : goal.returns
returns g t c =
    joined Does c.pop.new.self.items c.args.jobs.items c.run_falling-dones.result.items c.push.new.self.items c.in-Some.last c.run-done.result
    c.in-Some.ensures.items c.in-Ok.ensures.items c.run_falling-dones.ensures c.run-done.ensures
