use Rattle.fb_types.proofs.Common.{◌≡◌, ◌≤◌, length, take, vec_len, vec_capacity, AllZip}
use Rattle.fb_inputs.specs.NearSpans.{IsNearInStimuli, IsSearch}
use Rattle.fb_inputs.proofs.near_stimuli.all_nearest.Given as goal

abbrev pub invariant-loop-position : goal.invariant-loop-position
invariant-loop-position l = record {
  near : AllZip (IsNearInStimuli l.text) (take l.position-index l.positions) l.spans.items;
  search : IsSearch l.text l.search;
  len : vec_len l.spans ≡ l.position-index;
  room : length l.positions ≤ vec_capacity l.spans;
}
