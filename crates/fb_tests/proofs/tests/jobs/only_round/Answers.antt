use Rattle.fb_types.proofs.Common.{ℕ, List, ap₂, subst, sym, ◌∙◌, AllZip}
use Rattle.fb_window.specs.Jobs.{Does, JobModel, jobs_of}
use Rattle.fb_window.specs.Leaving.{AreLegal}
use Rattle.fb_window.specs.Reached.{KeepHorizon}
use Rattle.fb_window.specs.Reaching.{OfEachCore}
use Rattle.fb_tests.proofs.tests.jobs.only_round.Goals as goal

pub jobs-requires-clause-system : goal.jobs-requires-clause-system
jobs-requires-clause-system g c = sym c.requires.system

pub jobs-requires-clause-clocks : goal.jobs-requires-clause-clocks
jobs-requires-clause-clocks g c =
    subst (λ (n : ℕ). KeepHorizon n c.args.core.resources.items) (sym c.bounds-bounds.ensures.horizon) c.requires.clocks

pub jobs-requires-clause-legal : goal.jobs-requires-clause-legal
jobs-requires-clause-legal g c =
    subst (λ (n : ℕ). OfEachCore c.args.core.system c.args.core.steps c.args.core.resources.items (λ d. AreLegal c.args.core.system c.args.core.steps n d c.bounds-bounds.result.all)) (sym c.bounds-bounds.ensures.horizon)
    c.bounds-bounds.ensures.legal

pub settle-requires-clause-system : goal.settle-requires-clause-system
settle-requires-clause-system g c = sym (c.in-Ok.ensures.kept.0 ∙ c.requires.system)

pub settle-requires-clause-done : goal.settle-requires-clause-done
settle-requires-clause-done g c =
    let k = c.in-Ok.ensures in
    let xs = c.args.core.resources.items in
    subst (λ (js : List JobModel). AllZip Does js c.run_in_order-dones.result.items)
    (k.jobs ∙ sym (k.away.jobs ∙ ap₂ (λ j l. jobs_of j l c.bounds-bounds.result.all 0 xs) k.kept.0 k.kept.1)) c.run_in_order-dones.ensures
