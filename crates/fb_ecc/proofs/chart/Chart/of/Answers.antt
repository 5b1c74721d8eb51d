use Rattle.fb_types.proofs.Common.{◌≡◌, ◌<◌, ◌+◌, ◌^◌, ℕ, List, length, ◌∙◌, ap, arith}
use Rattle.fb_types.specs.declared.library.EventPort.{EventPort}
use Rattle.fb_ecc.specs.Located.{slots_with_each}
use Rattle.fb_ecc.proofs.chart.Chart.of.Goals as goal

pub all_slots_with-requires : goal.all_slots_with-requires
all_slots_with-requires c = rw c.as_slice-inputs.ensures c.in_ok-numbers.ensures.event_inputs.once

pub all_slots_with-requires-2 : goal.all_slots_with-requires-2
all_slots_with-requires-2 c = rw c.as_slice-outputs.ensures c.in_ok-numbers.ensures.event_outputs.once

pub returns : goal.returns
returns c =
    let t = c.args.block.now in
    let inputs = c.in_ok-numbers.ensures.inputs in
    let outputs = c.in_ok-numbers.ensures.outputs in
    let first : ℕ = c.len-first_output.result in
    let few : length t.ports.inputs < 2 ^ 32 = c.count.ensures.few in
    let fewer : length t.ports.outputs < 2 ^ 32 = c.count-2.ensures.few in
    let is : first ≡ length t.ports.inputs = c.len-first_output.ensures in
    let few_inputs : 0 + length t.ports.inputs < 2 ^ 64 = omega (arith, few) in
    let few_outputs : first + length t.ports.outputs < 2 ^ 64 = omega (arith, is, few, fewer) in
    λ i. record {
      rows = c.in_ok-rows.ensures i;
      sampled = (c.in_ok-all_slots_with.ensures t.ports.inputs inputs few_inputs ∙ ap (λ (es : List EventPort). slots_with_each es t.ports.inputs 0) c.as_slice-inputs.ensures) i;
      shown = (c.in_ok-all_slots_with-2.ensures t.ports.outputs outputs few_outputs ∙ ap (λ (es : List EventPort). slots_with_each es t.ports.outputs first) c.as_slice-outputs.ensures
          ∙ ap (slots_with_each t.ports.event_outputs t.ports.outputs) is) i;
    }
