use Rattle.fb_types.proofs.Common.{◌≡◌, ◌≤◌, take, None, Acts, actions_of}
use Rattle.fb_ecc.specs.Indexes.{IsBlockOf, index, state_at}
use Rattle.fb_stop.proofs.reaction.perform.Given as goal

abbrev pub invariant-loop-action : goal.invariant-loop-action
invariant-loop-action l = record {
  performed : Acts l.block (take l.action (actions_of l.block (state_at l.block l.initial.state.state))) l.initial.meter.left
      (index l.block l.initial.state.state l.initial.state.frame l.initial.meter.left l.initial.emits) None
      (index l.block l.state.state l.state.frame l.meter.left l.emits);
  state : l.state.state ≡ l.initial.state.state;
  block : IsBlockOf l.block l.state;
  fewer : l.meter.left ≤ l.initial.meter.left;
}
