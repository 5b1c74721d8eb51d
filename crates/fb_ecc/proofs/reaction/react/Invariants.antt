use Rattle.fb_types.proofs.Common.{◌<◌, ◌≤◌, length, Option, All, IfSome, option_map, Position, event_at}
use Rattle.fb_types.specs.declared.value.Reason.{Reason}
use Rattle.fb_ecc.specs.Blocks.{BeginsWith}
use Rattle.fb_ecc.specs.Links.{Chain}
use Rattle.fb_ecc.specs.Indexes.{IsBlockOf, IsWellFormed, index}
use Rattle.fb_ecc.proofs.reaction.react.Given as goal

-- the chain that goes on from here goes on from the start; the event is present in the first link only
abbrev pub invariant-links : goal.invariant-links
invariant-links l = record {
  linked : (stop : Option Reason) (q : Position)
      → Chain l.block (option_map (event_at l.block.ports.event_inputs) l.present) (index l.block l.state.state l.state.frame l.meter.left l.emits) stop q
      → Chain l.block (option_map (event_at l.block.ports.event_inputs) l.initial.present) (index l.block l.initial.state.state l.initial.state.frame l.initial.meter.left l.initial.emits) stop q;
  within : IfSome l.present (λ event. event < length l.block.ports.event_inputs);
  block : IsBlockOf l.block l.state;
  fewer : l.meter.left ≤ l.initial.meter.left;
  begins : BeginsWith l.initial.emits l.emits;
  well_formed : All (IsWellFormed l.block) l.initial.emits → All (IsWellFormed l.block) l.emits;
}

abbrev pub decreases-links : goal.decreases-links
decreases-links l = l.meter.left
