use Rattle.std.proofs.Common.{arith, rules}
use Rattle.fb_sim.proofs.lemmas.runs.ViewIs.{ahead_first}
use Rattle.fb_sim.proofs.simulation.Simulation.open.Goals as goal

pub invariant_of-result : goal.invariant_of-result
invariant_of-result c =
    let within = c.are_within.ensures.0 (search rules) in
    let declared = c.in_ok-system.ensures.system in
    record {
      some_steps = within.steps_least;
      few_steps = within.steps_most;
      some_workers = within.workers_least;
      few_workers = within.workers_most;
      early = omega arith;
      at = ahead_first c.in_ok-system.system (record { accepted = declared.accepted; limits = declared.read.limits }) c.args.steps c.in_ok-core.core (c.in_ok-core.ensures 0);
    }
