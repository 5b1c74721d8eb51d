use Rattle.std.proofs.Common.{[], Some}
use Rattle.fb_sim.proofs.lemmas.rounds.WindowIs.{series_keeps}
use Rattle.fb_tests.proofs.lemmas.Coming.{goes_on}
use Rattle.fb_tests.proofs.tests.rounds.make_all.Goals as goal

pub loop-number-init : goal.loop-number-init
loop-number-init g c = ([], c.opened-core.ensures c.args.options.horizon)

pub loop-number-preserved : goal.loop-number-preserved
loop-number-preserved g c =
    let o = c.args.options in
    goes_on c.args.system.now o c.loop-number.core c.in-Ok-Going.next
    c.in-Ok-Going.field-0 (Some c.loop-number.out.got.items) (Some c.round.new.out.got.items) c.loop-number.invariant c.in-Ok-Going.field-0-is c.in-Ok-Going.ensures

pub round-requires-clause-system : goal.round-requires-clause-system
round-requires-clause-system g c κs w = c.loop-number.invariant.1.of.inputs

pub round-requires-clause-steps : goal.round-requires-clause-steps
round-requires-clause-steps g c κs w = c.loop-number.invariant.1.of.steps

pub round-requires-clause-clocks : goal.round-requires-clause-clocks
round-requires-clause-clocks g c κs w =
    let o = c.args.options in
    series_keeps c.args.system.now o.steps o.horizon c.loop-number.core c.loop-number.invariant.0 c.loop-number.invariant.1
    (record { accepted = c.facts.ensures.accepted; limits = c.facts.ensures.limits })
