use Rattle.fb_types.proofs.Common.{◌≡◌, ◌≤◌, drop, option_map, trial_of, event_at}
use Rattle.fb_st.specs.Frames.{values_of}
use Rattle.fb_ecc.specs.Steps.{clearing_exit, first_true}
use Rattle.fb_ecc.specs.Trials.{transitions_at}
use Rattle.fb_ecc.proofs.trial.first_exit.Given as goal

-- trying all from the start has the result of trying the rest from here
abbrev pub invariant-loop-exit : goal.invariant-loop-exit
invariant-loop-exit l = record {
  run : let event = option_map (event_at l.block.ports.event_inputs) l.present in
      trial_of (transitions_at l.block l.exits) event (values_of l.frame) l.initial.meter.left
      ≡ trial_of (transitions_at l.block (drop l.exit-index l.exits)) event (values_of l.frame) l.meter.left;
  first : let event = option_map (event_at l.block.ports.event_inputs) l.present in
      first_true (transitions_at l.block l.exits) event (values_of l.frame) ≡ first_true (transitions_at l.block (drop l.exit-index l.exits)) event (values_of l.frame);
  clearing : let event = option_map (event_at l.block.ports.event_inputs) l.present in
      clearing_exit l.block l.exits event (values_of l.frame) ≡ clearing_exit l.block (drop l.exit-index l.exits) event (values_of l.frame);
  fewer : l.meter.left ≤ l.initial.meter.left;
}
