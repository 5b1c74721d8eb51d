use Rattle.std.proofs.Common.{[]}
use Rattle.fb_sim.proofs.lemmas.rounds.WindowIs.{series_keeps}
use Rattle.fb_tests.proofs.tests.jobs.expect_lines.Goals as goal

pub only_round-lines-requires-clause-system : goal.only_round-lines-requires-clause-system
only_round-lines-requires-clause-system g c = (c.opened-core.ensures c.args.run.now.horizon).of.inputs

pub only_round-lines-requires-clause-clocks : goal.only_round-lines-requires-clause-clocks
only_round-lines-requires-clause-clocks g c =
    let run = c.args.run.now in
    series_keeps c.system_of-system.result run.steps run.horizon c.opened-core.result [] (c.opened-core.ensures run.horizon)
    (record { accepted = c.facts.ensures.accepted; limits = c.facts.ensures.limits })
