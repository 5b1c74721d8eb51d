use Rattle.std.proofs.Common.{refl}
use Rattle.fb_check_names.proofs.lemmas.numbers.Lookups.{is_index, of_event_inputs, of_event_outputs, of_inputs, of_outputs}
use Rattle.fb_check_names.proofs.ports.index_in.Goals as goal

pub returns-in-EventInput : goal.returns-in-EventInput
returns-in-EventInput c =
    rw c.in-EventInput.is
    (of_event_inputs _ _ _ _ _ _ (is_index _ _ _ _ _ c.requires c.index_of_name-index.ensures refl) c.len-in-EventInput.ensures c.within.ensures)

pub returns-in-EventOutput : goal.returns-in-EventOutput
returns-in-EventOutput c =
    rw c.in-EventOutput.is
    (of_event_outputs _ _ _ _ _ _ c.after-after_event_inputs.result _ (is_index _ _ _ _ _ c.requires c.index_of_name-index.ensures refl)
    c.len.ensures c.after-after_event_inputs.ensures c.len-in-EventOutput.ensures c.within-in-EventOutput.ensures)

pub returns-in-Input : goal.returns-in-Input
returns-in-Input c =
    rw c.in-Input.is
    (of_inputs _ _ _ _ _ _ _ c.after-after_event_inputs.result c.after-after_events.result _
    (is_index _ _ _ _ _ c.requires c.index_of_name-index.ensures refl)
    c.len.ensures c.after-after_event_inputs.ensures c.len-2.ensures c.after-after_events.ensures c.len-in-Input.ensures c.within-in-Input.ensures)

pub returns-in-Output : goal.returns-in-Output
returns-in-Output c =
    rw c.in-Output.is
    (of_outputs _ _ _ _ _ _ _ _ c.after-after_event_inputs.result c.after-after_events.result c.after-after_inputs.result _
    (is_index _ _ _ _ _ c.requires c.index_of_name-index.ensures refl)
    c.len.ensures c.after-after_event_inputs.ensures c.len-2.ensures c.after-after_events.ensures c.len-3.ensures c.after-after_inputs.ensures
    c.len-in-Output.ensures c.within-in-Output.ensures)
