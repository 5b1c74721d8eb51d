use Rattle.fb_types.proofs.Common.{◌∙◌, map, take, arith, common_steps}
use Rattle.fb_event.specs.Block.{state_of}
use Rattle.fb_event.specs.Emissions.{emission_at}
use Rattle.fb_event.proofs.lemmas.Emissions.{push-IsWellFormed}
use Rattle.fb_event.proofs.emission.emit_all.Goals as goal

pub loop-event-preserved : goal.loop-event-preserved
loop-event-preserved c = record {
  emitted = grind (arith, common_steps);
  well_formed = λ all. rw c.in_ok-emit.ensures.ok (push-IsWellFormed _ _ _ (c.loop-event.invariant.well_formed all) (c.requires.events _ _ c.loop-event-test.true));
}

pub returns-in_err-emit-clause-kept : goal.returns-in_err-emit-clause-kept
returns-in_err-emit-clause-kept c =
    (map (emission_at (state_of c.args.kind c.args.memory.now)) (take c.loop-event.event-index c.args.events.now), c.in_err-emit.ensures.err ∙ c.loop-event.invariant.emitted)

pub returns-clause-kept : goal.returns-clause-kept
returns-clause-kept c = (map (emission_at (state_of c.args.kind c.args.memory.now)) (take c.loop-event.event-index c.args.events.now), c.loop-event.invariant.emitted)
