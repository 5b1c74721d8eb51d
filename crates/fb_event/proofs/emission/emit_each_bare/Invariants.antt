use Rattle.std.proofs.Common.{◌≡◌, ◌++◌, All, map, take}
use Rattle.fb_event.specs.Block.{state_of}
use Rattle.fb_event.specs.Emissions.{emission_at}
use Rattle.fb_event.specs.Reactions.{IsWellFormed}
use Rattle.fb_event.proofs.emission.emit_each_bare.Given as goal

abbrev pub invariant-loop-event : goal.invariant-loop-event
invariant-loop-event l = record {
  emitted : l.emits ≡ l.initial.emits ++ map (emission_at (state_of l.kind l.memory)) (take l.event-index l.events);
  well_formed : All (IsWellFormed l.kind) l.initial.emits → All (IsWellFormed l.kind) l.emits;
}
