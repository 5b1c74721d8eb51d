-- The ports of event blocks are few.
use Rattle.fb_types.proofs.Common.{◌<◌, ◌≤◌, ◌^◌, length, nat_lt, refl, arith, ltb-true, ports_of_event_block, IsNarrow, EventKind}
use Rattle.fb_types.proofs.lemmas.events.AllKinds.{of_each}

pub event_block_narrow : (k : EventKind) → IsNarrow (ports_of_event_block k)
event_block_narrow k = record {
  event_inputs = ltb-true _ _ (of_each (λ k. nat_lt (length (ports_of_event_block k).event_inputs) (2 ^ 32)) refl k);
  event_outputs = ltb-true _ _ (of_each (λ k. nat_lt (length (ports_of_event_block k).event_outputs) (2 ^ 32)) refl k);
  inputs = ltb-true _ _ (of_each (λ k. nat_lt (length (ports_of_event_block k).inputs) (2 ^ 32)) refl k);
  outputs = ltb-true _ _ (of_each (λ k. nat_lt (length (ports_of_event_block k).outputs) (2 ^ 32)) refl k);
}

-- an event block has one data input at most
pub one_input : (k : EventKind) → length (ports_of_event_block k).inputs ≤ 1
one_input k =
    let h : length (ports_of_event_block k).inputs < 2 = ltb-true _ _ (of_each (λ k. nat_lt (length (ports_of_event_block k).inputs) 2) refl k) in omega arith
