use Rattle.fb_check.proofs.lemmas.Common.{List, map, subst, sym, ports_of, ArePortsOfKinds, kind_of, BlockType, Connection, AreInputs, AreTargets}
use Rattle.fb_check.proofs.lemmas.FilledByName.{event_inputs}
use Rattle.fb_check.proofs.stimuli.stimulus_rows.Goals as goal

pub rows_by-requires-clause-directory : goal.rows_by-requires-clause-directory
rows_by-requires-clause-directory c = record {
  event_blocks = event_inputs c.as_slice.result.now _ (subst ArePortsOfKinds (sym c.as_slice.ensures) c.in_ok-interfaces.ensures) c.in_ok-inputs_of_each.ensures;
  declared = subst (λ (ts : List BlockType). AreInputs (map (λ (t : BlockType). ports_of (kind_of t)) ts) c.in_ok-inputs_of_each-2.field-0) c.as_slice-2.ensures c.in_ok-inputs_of_each-2.ensures;
  targets = subst (λ (cs : List Connection). AreTargets cs c.in_ok-targets_of.field-0) c.as_slice-3.ensures c.in_ok-targets_of.ensures;
}
